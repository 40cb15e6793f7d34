-- What a term or a sum says: how often each coordinate occurs, and the parts of a cell.
use Rattle.std.specs.Prelude.{◌==◌, if◌then◌else◌, ℕ, ℤ, pos, neg_ℤ, ◌+ℤ◌, ◌≤ℤ◌, ◌*◌, ◌^◌, Option, Some, None}
use Rattle.triplet_text.specs.declared.component.Component.{Component}
use Rattle.triplet_text.specs.Bytes.{minus_sign, is_x, is_y, is_z}

abbrev pub no_terms : Component
no_terms = record { x = pos 0; y = pos 0; z = pos 0; parts = pos 0 }

abbrev pub plus : Component → Component → Component
plus a b = record { x = a.x +ℤ b.x; y = a.y +ℤ b.y; z = a.z +ℤ b.z; parts = a.parts +ℤ b.parts }

-- behind a minus sign each number is negated
abbrev pub behind : ℕ → Component → Component
behind sign a = if sign == minus_sign then record { x = neg_ℤ a.x; y = neg_ℤ a.y; z = neg_ℤ a.z; parts = neg_ℤ a.parts } else a

-- n times the coordinate of this letter
abbrev pub times_letter : ℕ → ℕ → Option Component
times_letter n letter =
    if is_x letter then Some (record { x = pos n; y = pos 0; z = pos 0; parts = pos 0 }) else
    if is_y letter then Some (record { x = pos 0; y = pos n; z = pos 0; parts = pos 0 }) else
    if is_z letter then Some (record { x = pos 0; y = pos 0; z = pos n; parts = pos 0 }) else None

abbrev pub of_parts : ℕ → Component
of_parts n = record { x = pos 0; y = pos 0; z = pos 0; parts = pos n }

-- a is within n, on both sides of 0
abbrev pub Within : ℕ → ℤ → Type 0
Within n a = (neg_ℤ (pos n) ≤ℤ a) × (a ≤ℤ pos n)

-- n terms can add up to this
pub record IsSumOf (n : ℕ) (a : Component) : Type 0 where
  pub x : Within (9 * n) a.x
  pub y : Within (9 * n) a.y
  pub z : Within (9 * n) a.z
  pub parts : Within (10 ^ 14 * n) a.parts
