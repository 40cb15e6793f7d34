-- What single steps of a walk through a grid compute. Nothing outside of this crate cites them.
use Rattle.std.specs.Prelude.{◌≡◌, ◌<◌, ◌*◌, ◌/◌, ◌⊎◌, ◌&&◌, ℕ, ℤ, pos, ◌+ℤ◌, ◌*ℤ◌, unsigned_abs, Bool, eqb, List, take, count_by, slice_index, slice_index_or}
use Rattle.std.specs.Int.{int_rem_euclid}
use Rattle.std.specs.Int.RustNames.{int_div}
use Rattle.std.specs.List.{Contains}
use Rattle.lattice_algebra.specs.Matrix.{Matrix, Column}
use Rattle.lattice_algebra.specs.Operator.{Operator}
use Rattle.exact_ops.specs.declared.TheConstants.{UNIT}
use Rattle.grid_tags.specs.declared.ratios.Ratios.{Ratios}
use Rattle.grid_tags.specs.Grids.{Grid, Triple, IsInGrid, place_of}

-- ---- whether a grid is kept

-- w n is a multiple of m
abbrev pub IsWhole : ℤ → ℕ → ℕ → Type 0
IsWhole w n m = (p : ℤ) × (w *ℤ pos n ≡ p *ℤ pos m)

-- along an axis with n points, beside axes with m and l, every image has a whole multiple of 1/n
pub record IsAxisKept (u v t : ℤ) (n m l : ℕ) : Type 0 where
  pub second : IsWhole u n m
  pub third : IsWhole v n l
  pub shift : IsWhole t n UNIT

pub record AreAxesKept (s : Grid) (f : Operator) : Type 0 where
  pub x : IsAxisKept f.w.xy f.w.xz f.t.x s.a s.b s.c
  pub y : IsAxisKept f.w.yx f.w.yz f.t.y s.b s.a s.c
  pub z : IsAxisKept f.w.zx f.w.zy f.t.z s.c s.a s.b

-- ---- images

-- twice n by m, rounded down: w n / m is half of w times this, where w n / m is whole and w at most 2 in size
abbrev pub ratio : ℕ → ℕ → ℕ
ratio n m = 2 * n / m

abbrev pub ratios_of : Grid → Ratios
ratios_of s = record {
  ab = ratio s.a s.b;
  ac = ratio s.a s.c;
  ba = ratio s.b s.a;
  bc = ratio s.b s.c;
  ca = ratio s.c s.a;
  cb = ratio s.c s.b;
}

-- half of 2 w i + u second j + v third k, modulo n
abbrev pub turned_coordinate : ℤ → ℤ → ℤ → ℕ → ℕ → ℕ → ℕ → ℕ → ℕ → ℕ
turned_coordinate w u v n second third i j k =
    unsigned_abs (int_rem_euclid (int_div (w *ℤ pos (2 * i) +ℤ u *ℤ pos (second * j) +ℤ v *ℤ pos (third * k)) (pos 2)) (pos n))

-- i + t n / UNIT modulo n
abbrev pub moved_coordinate : ℕ → ℤ → ℕ → ℕ
moved_coordinate i t n = unsigned_abs (int_rem_euclid (pos i +ℤ int_div (t *ℤ pos n) (pos UNIT)) (pos n))

-- what a rotation part makes of a grid point, brought into the cell
unfoldable pub turned : Grid → Matrix → Triple → Triple
turned s w p = record {
  i = turned_coordinate w.xx w.xy w.xz s.a (ratio s.a s.b) (ratio s.a s.c) p.i p.j p.k;
  j = turned_coordinate w.yy w.yx w.yz s.b (ratio s.b s.a) (ratio s.b s.c) p.j p.i p.k;
  k = turned_coordinate w.zz w.zx w.zy s.c (ratio s.c s.a) (ratio s.c s.b) p.k p.i p.j;
}

-- what a translation part makes of one, brought into the cell
unfoldable pub moved : Grid → Triple → Column → Triple
moved s p t = record { i = moved_coordinate p.i t.x s.a; j = moved_coordinate p.j t.y s.b; k = moved_coordinate p.k t.z s.c }

-- the grid point of the cell to which the operator takes p, where it keeps the grid
abbrev pub act : Grid → Operator → Triple → Triple
act s f p = moved s (turned s f.w p) f.t

-- ---- the members that were asked

abbrev pub triple_eq : Triple → Triple → Bool
triple_eq p q = eqb p.i q.i && (eqb p.j q.j && eqb p.k q.k)

-- how many of the first i members take p to itself
abbrev pub fixing_count : List Operator → Grid → Triple → ℕ → ℕ
fixing_count members s p i = count_by (λ (f : Operator). triple_eq (act s f p) p) (take i members)

-- one of these operators takes p to q
abbrev pub IsReached : List Operator → Grid → Triple → Triple → Type 0
IsReached members s p q = (f : Operator) × Contains members f × (act s f p ≡ q)

-- q has this tag
abbrev pub HasTag : {T : Type 0} → Grid → List T → Triple → T → Type 0
HasTag {T} s tags q tag = (d : T) → slice_index_or tags (place_of s q) d ≡ tag

-- q has the tag that it had
abbrev pub KeepsTag : {T : Type 0} → Grid → List T → List T → Triple → Type 0
KeepsTag {T} s old new q = (d : T) → slice_index_or new (place_of s q) d ≡ slice_index_or old (place_of s q) d

-- the points that the first i members make of p have this tag, and each other point has the one that it had
abbrev pub AreTagged : {T : Type 0} → List Operator → Grid → Triple → T → List T → List T → ℕ → Type 0
AreTagged members s p tag old new i = (q : Triple) → IsInGrid s q
    → (IsReached (take i members) s p q × HasTag s new q tag) ⊎ ((¬ IsReached (take i members) s p q) × KeepsTag s old new q)

-- ---- first points

-- the first i numbers are those from 0 on
abbrev pub AreOwnPlaces : List ℕ → ℕ → Type 0
AreOwnPlaces places i = (k : ℕ) → k < i → slice_index places k ≡ k
