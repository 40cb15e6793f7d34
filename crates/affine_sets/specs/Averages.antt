-- Averages and keys as they are kept.
use Rattle.std.specs.Prelude.{◌≡◌, ◌≤◌, ◌+◌, ◌*◌, ℕ, pos, ◌*ℤ◌}
use Rattle.std.specs.Int.{int_div_euclid}
use Rattle.lattice_algebra.specs.Matrix.{Column}
use Rattle.lattice_algebra.specs.Operator.{AreWithin, AreParts, HasEntriesWithin}
use Rattle.exact_ops.specs.declared.TheConstants.{UNIT, MAX_SHIFT}
use Rattle.affine_sets.specs.declared.TheConstants.{MAX_TRANSLATION}
use Rattle.group_closure.specs.declared.TheConstants.{MAX_OPERATORS}
use Rattle.space_groups.specs.Averages.{Block, block_times, block_scaled}
use Rattle.space_groups.specs.Keys.{Key}

-- an idempotent map over some number of members, with its sizes
pub record IsSpecialBlock (a : Block) : Type 0 where
  pub over : ℕ
  pub number : a.n ≡ pos over
  pub some : 1 ≤ over
  pub within : over ≤ MAX_OPERATORS
  pub matrix : HasEntriesWithin (2 * over) a.m
  pub translation : AreWithin MAX_TRANSLATION a.t.x a.t.y a.t.z
  pub idempotent : block_times a a ≡ block_scaled a.n a

-- the sum of some elements, over how many they are, with its sizes
pub record IsSum (a : Block) : Type 0 where
  pub count : ℕ
  pub number : a.n ≡ pos count
  pub within : count ≤ MAX_OPERATORS
  pub matrix : HasEntriesWithin (2 * count) a.m
  pub translation : AreWithin (count * (UNIT * (MAX_SHIFT + 1))) a.t.x a.t.y a.t.z

-- the translation of a in cells, each number rounded down
abbrev pub whole_part : Block → Column
whole_part a = record { x = int_div_euclid a.t.x (pos UNIT *ℤ a.n); y = int_div_euclid a.t.y (pos UNIT *ℤ a.n); z = int_div_euclid a.t.z (pos UNIT *ℤ a.n) }

-- a key, and the number of members over which its numbers stand
pub record KeyOver : Type 0 where
  pub key : Key
  pub over : ℕ

-- its translation lies in the cell
pub record IsKeyInCell (k : KeyOver) : Type 0 where
  pub some : 1 ≤ k.over
  pub within : k.over ≤ MAX_OPERATORS
  pub matrix : HasEntriesWithin (2 * k.over) k.key.m
  pub in_cell : AreParts (UNIT * k.over) k.key.t

-- the key over so many members
abbrev pub key_over : ℕ → Key → KeyOver
key_over n p = record { key = p; over = n }
