use Rattle.std.proofs.Common.{◌≡◌, ◌+◌, Some, None, Vec, Global, vec_len, vec_capacity, map, slice_index_or, sym, subst, arith, ◌∙◌, ap, length}
use Rattle.lattice_algebra.specs.Matrix.{Column}
use Rattle.lattice_algebra.specs.Operator.{AreWithin}
use Rattle.exact_ops.specs.declared.TheConstants.{MAX_SHIFT}
use Rattle.group_closure.proofs.Places.{some_at}
use Rattle.exact_ops.specs.Elements.{map_in}
use Rattle.exact_ops.specs.declared.moves.Move.{Move}
use Rattle.affine_sets.specs.Growth.{HoldsMap}
use Rattle.affine_sets.proofs.Picked.{ArePicked, none_picked}
use Rattle.affine_sets.proofs.Placing.{passed_offset}
use Rattle.affine_sets.proofs.HeldLists.{one_listed, none_held, all_listed}
use Rattle.affine_sets.proofs.growth.list_held.Goals as goal
use Rattle.affine_sets.proofs.growth.list_held.Goals.{in-Some, in_default}

pub loop-i-init : goal.loop-i-init
loop-i-init c = record {
  listed = subst (λ v. ArePicked c.args.g.now (HoldsMap c.args.g.now c.args.held.now) 0 (map map_in v)) (sym c.requires.empty) (none_picked c.args.g.now (HoldsMap c.args.g.now c.args.held.now));
  within = omega (arith, c.args.moves.now.ok.0, ap length c.requires.empty);
  room = c.requires.room;
}

pub overflow_cast-i : goal.overflow_cast-i
overflow_cast-i c = omega (arith, c.loop-i-test.true, c.len-i-end.ensures.value, c.len-i-end.ensures.group.within)

pub op-requires : goal.op-requires
op-requires c = omega (arith, c.loop-i-test.true, c.len-i-end.ensures.value)

pub invariant_of-push_reserved : goal.invariant_of-push_reserved
invariant_of-push_reserved c =
    let k = c.in-Some.shift in
    let small = c.requires.small c.loop-i.i k (sym c.shift_at.ensures ∙ c.in-Some.is) in
    record { in_range = subst (λ (v : Column). AreWithin MAX_SHIFT v.x v.y v.z) (sym (passed_offset k small)) small }

pub push_reserved-requires : goal.push_reserved-requires
push_reserved-requires c = omega (arith, c.loop-i.invariant.within, c.loop-i.invariant.room, c.loop-i-test.true, c.len-i-end.ensures.value)

pub loop-i-preserved : goal.loop-i-preserved
loop-i-preserved c =
    let g = c.args.g.now in
    let i = c.loop-i.i in
    let was = c.loop-i.invariant in
    elim c.match-shift_at.branch [
      | in-Some w ↦
          let k = w.in-Some.shift in
          let at : slice_index_or c.args.held.now i None ≡ Some k = sym c.shift_at.ensures ∙ w.in-Some.is in
          let items = ap (λ (v : Vec Move Global). v.items) w.moves-is ∙ w.push_reserved.ensures.items in
          record {
            listed = one_listed g c.len-i-end.ensures.group c.args.held.now i k c.loop-i.moves.items c.match-shift_at.moves.items _ items w.op.ensures.value (passed_offset k (c.requires.small i k at)) (omega (arith, c.loop-i-test.true, c.len-i-end.ensures.value)) was.listed at;
            within = omega (arith, ap (λ (v : Vec Move Global). vec_len v) w.moves-is, w.push_reserved.ensures.len, was.within);
            room = omega (arith, ap (λ (v : Vec Move Global). vec_capacity v) w.moves-is, w.push_reserved.ensures.capacity, was.room);
          }
      | in_default w ↦
          let f = some_at g i (omega (arith, c.loop-i-test.true, c.len-i-end.ensures.value)) in
          record {
            listed = subst (λ (v : Vec Move Global). ArePicked g (HoldsMap g c.args.held.now) (i + 1) (map map_in v.items)) (sym w.moves-is)
                (none_held g c.len-i-end.ensures.group c.args.held.now i f.0 (map map_in c.loop-i.moves.items) was.listed f.1 (sym c.shift_at.ensures ∙ w.in_default.is));
            within = omega (arith, ap (λ (v : Vec Move Global). vec_len v) w.moves-is, was.within);
            room = omega (arith, ap (λ (v : Vec Move Global). vec_capacity v) w.moves-is, was.room);
          }
    ]

pub returns-clause-listed : goal.returns-clause-listed
returns-clause-listed c = all_listed c.args.g.now c.len-i-end.ensures.group c.args.held.now c.loop-i.i (map map_in c.loop-i.moves.items) (omega (arith, c.loop-i-test.false, c.len-i-end.ensures.value)) c.loop-i.invariant.listed

pub returns-clause-short : goal.returns-clause-short
returns-clause-short c = omega (arith, c.loop-i.moves.ok.0, c.loop-i.invariant.within, c.loop-i.auto.i-end, c.len-i-end.ensures.value)
