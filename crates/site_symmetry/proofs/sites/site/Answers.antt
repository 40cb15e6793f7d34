use Rattle.std.proofs.Common.{◌≡◌, ◌++◌, ◌∷◌, [], ◌+◌, Some, Vec, Global, vec_len, vec_capacity, map, get_or, slice_get, sym, subst, arith, ◌∙◌, ap}
use Rattle.std.proofs.lemmas.Bool.{false≢true}
use Rattle.std.proofs.lemmas.List.{map-append}
use Rattle.std.proofs.lemmas.Option.{slice_get-get_or}
use Rattle.lattice_algebra.specs.Matrix.{column_of}
use Rattle.lattice_algebra.specs.Operator.{Operator, identity_operator}
use Rattle.exact_ops.specs.Numbers.{point_in}
use Rattle.exact_ops.specs.Elements.{map_in}
use Rattle.exact_ops.specs.declared.moves.Move.{Move}
use Rattle.site_symmetry.proofs.Shifts.{operator_of_member}
use Rattle.site_symmetry.proofs.FixingLists.{AreFixing, one_more, no_more, all_fixing}
use Rattle.site_symmetry.proofs.sites.site.Goals as goal
use Rattle.site_symmetry.proofs.sites.site.Goals.{in-Some, in_default-fixes}

pub loop-i-preserved : goal.loop-i-preserved
loop-i-preserved c =
    let g = c.args.group.now in
    let p = point_in c.args.point.now in
    let i = c.loop-i.i in
    let moves = c.loop-i.moves.items in
    let was = c.loop-i.invariant.listed in
    elim c.match-fixes.branch [
      | in-Some w ↦
          let m = w.in-Some.element in
          let h = w.in-Some.ensures in
          let e : map map_in c.match-fixes.moves.items ≡ map map_in moves ++ map_in m ∷ [] = ap (λ (v : Vec Move Global). map map_in v.items) w.moves-is ∙ ap (map map_in) w.push_reserved.ensures.items ∙ map-append map_in moves (m ∷ []) in
          record {
            listed = subst (AreFixing g p (i + 1)) (sym e)
                (one_more g p i (map map_in moves) m.op (map_in m) c.len.ensures.group c.args.point.now.in_range.positive was h.operator (operator_of_member g m.op i (column_of m.shift) c.len.ensures.group h.operator) h.value.fixes);
            within = omega (arith, ap (λ (v : Vec Move Global). vec_len v) w.moves-is, w.push_reserved.ensures.len, c.loop-i.invariant.within);
            room = omega (arith, ap (λ (v : Vec Move Global). vec_capacity v) w.moves-is, w.push_reserved.ensures.capacity, c.loop-i.invariant.room);
          }
      | in_default-fixes w ↦
          let f : Operator = get_or g i identity_operator in
          let q : slice_get g i ≡ Some f = slice_get-get_or g i identity_operator (omega arith) in
          record {
            listed = subst (λ (v : Vec Move Global). AreFixing g p (i + 1) (map map_in v.items)) (sym w.moves-is) (no_more g p i (map map_in moves) f was q (λ s. false≢true ((w.in_default-fixes.ensures.some f q).1 s)));
            within = omega (arith, ap (λ (v : Vec Move Global). vec_len v) w.moves-is, c.loop-i.invariant.within);
            room = omega (arith, ap (λ (v : Vec Move Global). vec_capacity v) w.moves-is, c.loop-i.invariant.room);
          }
    ]

pub returns : goal.returns
returns c = all_fixing c.args.group.now (point_in c.args.point.now) c.loop-i.i (map map_in c.loop-i.moves.items) (omega arith) c.loop-i.invariant.listed
