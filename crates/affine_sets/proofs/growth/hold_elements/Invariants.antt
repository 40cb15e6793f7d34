use Rattle.std.proofs.Common.{◌≡◌, ◌<◌, ◌≤◌, All, map, take, length, vec_len, vec_capacity}
use Rattle.exact_ops.specs.Elements.{map_in}
use Rattle.affine_sets.specs.declared.growth.Placed.{Placed}
use Rattle.affine_sets.specs.Growth.{placed_map, AreHeld}
use Rattle.affine_sets.proofs.growth.hold_elements.Given as goal

abbrev pub invariant-loop-element : goal.invariant-loop-element
invariant-loop-element l = record {
  maps : map (placed_map l.g) l.old.items ≡ map map_in (take l.element-index l.element-items);
  within : All (λ (x : Placed). x.place < length l.g) l.old.items;
  held : AreHeld l.old.items l.held;
  short : vec_len l.old ≤ l.element-index;
  room : length l.element-items ≤ vec_capacity l.old;
}
