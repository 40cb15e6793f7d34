use Rattle.std.proofs.Common.{◌≡◌, ◌≤◌, ◌-◌, vec_len, vec_capacity}
use Rattle.std.specs.Io.KnownBytes.{Consumes}
use Rattle.sg_io.proofs.source.read_all.Given as goal

abbrev pub invariant-loop-all : goal.invariant-loop-all
invariant-loop-all g l = record {
  taken : Consumes (g.S.Source.seen.left l.fn.src) (g.S.Source.seen.left l.src) l.all.items;
  unfailed : g.S.Source.seen.faults l.src ≡ g.S.Source.seen.faults l.fn.src;
  within : vec_len l.all ≤ l.room;
  room : l.room ≤ vec_capacity l.all;
}

abbrev pub decreases-loop-all : goal.decreases-loop-all
decreases-loop-all g l = l.room - vec_len l.all
