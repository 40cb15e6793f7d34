use Rattle.std.proofs.Common.{◌≡◌, ◌≤◌, length, vec_len, vec_capacity}
use Rattle.atom_expand.proofs.Placing.{ArePlaced}
use Rattle.atom_expand.proofs.expansion.expand.Given as goal

abbrev pub invariant-loop-k : goal.invariant-loop-k
invariant-loop-k l = record {
  len : vec_len l.entries ≡ l.k;
  capacity : length l.atoms ≤ vec_capacity l.entries;
  placed : ArePlaced l.group l.atoms l.k l.entries.items;
}
