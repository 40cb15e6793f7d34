use Rattle.std.proofs.Common.{ap}
use Rattle.std.proofs.KnownBytes.{Keeps-refl}
use Rattle.sg_io.specs.Writer.{Writer}
use Rattle.sg_io.proofs.Told.{front_kept, front_put}
use Rattle.sg_io.proofs.std_streams.StdSinkSink.write.Goals as goal
use Rattle.sg_io.proofs.std_streams.StdSinkSink.write.Goals.{in-Ok+else-count-gt0, else-count-gt0-via-then-count-gt0+else-is_ok, else-count-gt0-via-else-count-gt0, in_default}

pub returns-clause-lost : goal.returns-clause-lost
returns-clause-lost g c =
    let before = ap (λ (v : Writer). v.contents) c.self.view_is in
    elim c.match-write.branch [
      | in-Ok+else-count-gt0 w ↦ elim w.else-count-gt0.branch [
        | else-count-gt0-via-then-count-gt0+else-is_ok v ↦
            rw (← before, w.self-inside-is, v.self-inside-is) (front_put _ _ _ w.in-Ok.count c.args.piece.now w.in-Ok.ensures.bytes v.flush.ensures.bytes)
        | else-count-gt0-via-else-count-gt0 v ↦
            rw (← before, w.self-inside-is, v.self-inside-is) (front_put _ _ _ w.in-Ok.count c.args.piece.now w.in-Ok.ensures.bytes (Keeps-refl _))
      ]
      | in_default w ↦ rw (← before, w.self-inside-is) (front_kept _ _ c.args.piece.now w.in_default.ensures.bytes)
    ]
