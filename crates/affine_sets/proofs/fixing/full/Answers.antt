use Rattle.std.proofs.Common.{◌≡◌, ◌++◌, ◌∷◌, [], ◌+◌, Some, Vec, Global, vec_len, vec_capacity, map, slice_get, sym, subst, arith, ◌∙◌, ap, length, length-append}
use Rattle.std.proofs.lemmas.Bool.{false≢true}
use Rattle.std.proofs.lemmas.List.{map-append, length-map}
use Rattle.lattice_algebra.specs.Matrix.{column_of}
use Rattle.exact_ops.specs.Elements.{map_in}
use Rattle.exact_ops.specs.declared.moves.Move.{Move}
use Rattle.affine_sets.specs.Conditions.{LeavesAlone}
use Rattle.site_symmetry.proofs.Shifts.{operator_of_member}
use Rattle.affine_sets.proofs.Picked.{ArePicked, none_picked, one_picked, no_picked}
use Rattle.affine_sets.proofs.LeftAlone.{near_average, full_sub, full_is, full_elements, one_alone}
use Rattle.affine_sets.proofs.fixing.full.Goals as goal
use Rattle.affine_sets.proofs.fixing.full.Goals.{in-Some, in_default-fixes_image}

pub loop-i-init : goal.loop-i-init
loop-i-init c = record {
  listed = subst (λ v. ArePicked c.args.g.now (LeavesAlone c.args.s.now) 0 (map map_in v)) (sym c.in-Ok.ensures.items) (none_picked c.args.g.now (LeavesAlone c.args.s.now));
  short = omega (arith, ap length c.in-Ok.ensures.items);
  within = omega (arith, c.in-Ok.ensures.len);
  room = omega (arith, c.in-Ok.ensures.capacity, c.from.ensures, c.len.ensures.value);
}

pub fixes_image-requires : goal.fixes_image-requires
fixes_image-requires c = near_average c.args.g.now c.len.ensures.group c.args.s.now c.requires

pub loop-i-preserved : goal.loop-i-preserved
loop-i-preserved c =
    let g = c.args.g.now in
    let a = c.args.s.now in
    let i = c.loop-i.i in
    let moves = c.loop-i.moves.items in
    let was = c.loop-i.invariant.listed in
    elim c.match-fixes_image.branch [
      | in-Some w ↦
          let m = w.in-Some.element in
          let h = w.in-Some.ensures in
          let items : c.match-fixes_image.moves.items ≡ moves ++ m ∷ [] = ap (λ (v : Vec Move Global). v.items) w.moves-is ∙ w.push_reserved.ensures.items in
          let e : map map_in c.match-fixes_image.moves.items ≡ map map_in moves ++ map_in m ∷ [] = ap (map map_in) items ∙ map-append map_in moves (m ∷ []) in
          let at : slice_get g i ≡ Some m.op = c.op.ensures.value ∙ ap Some h.operator in
          let place = at ∙ ap Some (sym (operator_of_member g m.op i (column_of m.shift) c.len.ensures.group at)) in
          record {
            listed = subst (ArePicked g (LeavesAlone a) (i + 1)) (sym e)
                (one_picked g (LeavesAlone a) i (map map_in moves) (map_in m) c.len.ensures.group was place h.value (λ t q p. one_alone g c.len.ensures.group a c.requires (map_in m) t (sym q) h.value p));
            short = omega (arith, ap length items, length-append moves (m ∷ []), c.loop-i.invariant.short);
            within = omega (arith, ap (λ (v : Vec Move Global). vec_len v) w.moves-is, w.push_reserved.ensures.len, c.loop-i.invariant.within);
            room = omega (arith, ap (λ (v : Vec Move Global). vec_capacity v) w.moves-is, w.push_reserved.ensures.capacity, c.loop-i.invariant.room);
          }
      | in_default-fixes_image w ↦ record {
        listed = subst (λ (v : Vec Move Global). ArePicked g (LeavesAlone a) (i + 1) (map map_in v.items)) (sym w.moves-is)
            (no_picked g (LeavesAlone a) i (map map_in moves) c.op.result was c.op.ensures.value (λ t q p. false≢true (w.in_default-fixes_image.ensures.some t q p)));
        short = omega (arith, ap (λ (v : Vec Move Global). length v.items) w.moves-is, c.loop-i.invariant.short);
        within = omega (arith, ap (λ (v : Vec Move Global). vec_len v) w.moves-is, c.loop-i.invariant.within);
        room = omega (arith, ap (λ (v : Vec Move Global). vec_capacity v) w.moves-is, c.loop-i.invariant.room);
      }
    ]

pub invariant_of-result : goal.invariant_of-result
invariant_of-result c =
    full_sub c.args.g.now c.len.ensures.group c.args.s.now c.requires c.loop-i.i (map map_in c.loop-i.moves.items) (omega arith) c.loop-i.invariant.listed
    (omega (arith, length-map c.loop-i.moves.items map_in, c.loop-i.invariant.short, c.loop-i.auto.i-end, c.len-i-end.ensures.value, c.len.ensures.group.within))

pub returns-clause-full : goal.returns-clause-full
returns-clause-full c = full_is c.args.g.now c.len.ensures.group c.args.s.now c.requires c.loop-i.i (map map_in c.loop-i.moves.items) (omega arith) c.loop-i.invariant.listed

pub returns-clause-elements : goal.returns-clause-elements
returns-clause-elements c = full_elements c.args.g.now c.args.s.now (map map_in c.loop-i.moves.items) (full_is c.args.g.now c.len.ensures.group c.args.s.now c.requires c.loop-i.i (map map_in c.loop-i.moves.items) (omega arith) c.loop-i.invariant.listed)
