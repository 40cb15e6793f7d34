use Rattle.std.proofs.Common.{◌≡◌, ◌+◌, ◌≤◌, length, take, arith, ap, ◌∙◌}
use Rattle.sg_io.proofs.Told.{filled_within, front_of_grown, piece_behind}
use Rattle.sg_io.proofs.source.add_piece.Goals as goal

pub returns-clause-bytes : goal.returns-clause-bytes
returns-clause-bytes g c =
    let before = c.len-before.result in
    let count = c.in_ok-count.count in
    let lent = c.deref_mut.result.now in
    let old = c.args.all.now.items in
    let buf = c.fill.new.buf in
    let size : length old ≡ before = omega (arith, c.len-before.ensures) in
    let ok = c.resize.ensures.succeeds (rw c.len-before.ensures c.requires) in
    let grown = rw ok at c.resize.ensures.items in
    let front : take before lent ≡ old = ap (take before) (c.deref_mut.ensures.value ∙ grown) ∙ front_of_grown before c.args.wanted old _ size in
    let some = c.in_ok-count.ensures.bound.0 in
    let long : length lent ≡ before + c.args.wanted = c.deref_mut.ensures.len ∙ rw ok at c.resize.ensures.len in
    let within : before + count ≤ length lent = filled_within before count lent buf (omega (arith, long)) c.fill.auto.buf some in (
      take count buf,
      c.truncate.ensures.items ∙ piece_behind before count _ old lent buf _ _ size front some (omega (arith, within, c.deref_mut.ensures.len)),
      c.in_ok-count.ensures.bytes,
    )
