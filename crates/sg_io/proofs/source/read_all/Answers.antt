use Rattle.std.proofs.Common.{◌+◌, ◌++◌, ◌<◌, length, length-append, arith}
use Rattle.std.proofs.KnownBytes.{Consumes-trans}
use Rattle.sg_io.proofs.source.read_all.Goals as goal

pub returns-in_default-add_piece-clause-too_long : goal.returns-in_default-add_piece-clause-too_long
returns-in_default-add_piece-clause-too_long g c =
    let all = c.loop-all.all.items in
    let more = c.in_default-add_piece.ensures.taken in
    let few : length (all ++ more.0) < c.args.limit + 1 = omega (arith, length-append all more.0, more.2) in
    (all ++ more.0, Consumes-trans _ _ _ all more.0 c.loop-all.invariant.taken more.1, (omega arith, ((λ e. absurd cc), (λ e. absurd (omega arith)))))
