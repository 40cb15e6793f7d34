use Rattle.std.proofs.Common.{arith}
use Rattle.std.proofs.lemmas.Int.{ints}
use Rattle.triplet_text.proofs.Rows.{operator_is, entry_is, parts_within, part_is}
use Rattle.triplet_text.proofs.triplet.with_rows.Goals as goal

pub returns : goal.returns
returns c =
    let a = c.requires.a in
    let b = c.requires.b in
    let d = c.requires.c in
    operator_is c.args.a.now c.args.b.now c.args.c.now _ _ _ _ _ _ _ _ _ _ _ _
    (entry_is _ a.x) (entry_is _ a.y) (entry_is _ a.z) (entry_is _ b.x) (entry_is _ b.y) (entry_is _ b.z) (entry_is _ d.x) (entry_is _ d.y) (entry_is _ d.z)
    (part_is _ _ c.in_cell.ensures.part (parts_within _ a.parts) c.in_cell.ensures.value)
    (part_is _ _ c.in_cell-2.ensures.part (parts_within _ b.parts) c.in_cell-2.ensures.value)
    (part_is _ _ c.in_cell-3.ensures.part (parts_within _ d.parts) c.in_cell-3.ensures.value)

pub invariant_of-result : goal.invariant_of-result
invariant_of-result c = record { in_range = record { within = omega (arith, ints); in_cell = omega (arith, ints) } }
