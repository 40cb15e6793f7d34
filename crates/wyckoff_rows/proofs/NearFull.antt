-- The full group of an average that is that of a group near the origin has small shifts.
use Rattle.std.proofs.Common.{◌≡◌, ◌<◌, ◌≤◌, ◌+◌, ◌*◌, ℕ, ℤ, pos, ◌+ℤ◌, ◌*ℤ◌, unsigned_abs, List, [], ◌∷◌, length, get_or, Contains, ap, sym, ◌∙◌, arith, mul-le-mul, le_refl}
use Rattle.std.proofs.lemmas.Int.{ints, unsigned_abs-mul}
use Rattle.std.proofs.lemmas.List.Elements.{All-contains, Contains-get_or}
use native.Mathlib.Nat.{le_of_mul-le-mul_left}
use Rattle.lattice_algebra.specs.Matrix.{Column, coordinates, ◌+ᶜ◌, times, origin}
use Rattle.lattice_algebra.specs.Operator.{Operator, AreWithin, IsPart, modulo}
use Rattle.lattice_algebra.specs.Map.{Map, IsShift}
use Rattle.lattice_algebra.proofs.Numbers.{abs_add}
use Rattle.lattice_algebra.proofs.Remainders.{whole_part, modulo_parts}
use Rattle.lattice_algebra.proofs.MatrixRing.{column_at, ◌+ˢᶜ◌, sym_origin, column_ring}
use Rattle.finite_groups.proofs.Members as lists
use Rattle.exact_ops.specs.declared.TheConstants.{UNIT}
use Rattle.exact_ops.proofs.Narrow.{some_parts}
use Rattle.group_closure.specs.GroupList.{IsGroup}
use Rattle.group_closure.specs.declared.TheConstants.{MAX_OPERATORS}
use Rattle.site_symmetry.proofs.SpaceOfGroup.{space_of}
use Rattle.space_groups.specs.Space.{ScaledPoint}
use Rattle.space_groups.specs.Averages.{Block, block_of, block_plus, block_times, block_scaled, sum_of, IsMean, IsInImage}
use Rattle.space_groups.specs.Search.{IsFull}
use Rattle.space_groups.proofs.Elements.{SpaceGroup}
use Rattle.space_groups.proofs.Blocks.{translation_part}
use Rattle.space_groups.proofs.Means.{Averaged, number, idempotent_itself}
use Rattle.space_groups.proofs.Rows.{some_members}
use Rattle.affine_sets.specs.declared.TheConstants.{MAX_GROWN_SHIFT, MAX_NEAR_SHIFT}
use Rattle.affine_sets.specs.Subs.{AreElements, AreShiftsWithin}
use Rattle.affine_sets.proofs.Groups.{narrow_element}
use Rattle.affine_sets.proofs.CellAverages.{fixing_shift_small}
use Rattle.wyckoff_rows.specs.Steps.{IsAverageNearOrigin}
use Rattle.wyckoff_rows.proofs.Standing.{closed_of_sub}

-- a translation with small shifts
small_translation : (e : Map) (k : Column) → IsShift UNIT e k → AreWithin MAX_NEAR_SHIFT k.x k.y k.z → AreWithin (UNIT * 51) e.s.x e.s.y e.s.z
unfolding ◌+ᶜ◌ times
small_translation e k s w =
    let p = modulo_parts UNIT some_parts e.s in
    record {
      first = part (modulo UNIT e.s).x k.x e.s.x (ap (λ (c : Column). c.x) s) p.x w.first;
      second = part (modulo UNIT e.s).y k.y e.s.y (ap (λ (c : Column). c.y) s) p.y w.second;
      third = part (modulo UNIT e.s).z k.z e.s.z (ap (λ (c : Column). c.z) s) p.z w.third;
    }
  where
    part : (r k s : ℤ) → s ≡ r +ℤ pos UNIT *ℤ k → IsPart UNIT r → unsigned_abs k ≤ MAX_NEAR_SHIFT → unsigned_abs s ≤ UNIT * 51
    part r k s e p h = omega (arith, ints)

sum_within : (size : ℕ) (list : List Map) → ((e : Map) → Contains list e → AreWithin size e.s.x e.s.y e.s.z) → AreWithin (length list * size) (sum_of list).t.x (sum_of list).t.y (sum_of list).t.z
unfolding block_plus block_of ◌+ᶜ◌
sum_within size [] h = record { first = omega (arith, ints); second = omega (arith, ints); third = omega (arith, ints) }
sum_within size (e ∷ list) h =
    let a = h e (lists.Contains-here e list) in
    let b = sum_within size list (λ f c. h f (lists.Contains-later f e list c)) in
    record { first = both e.s.x (sum_of list).t.x a.first b.first; second = both e.s.y (sum_of list).t.y a.second b.second; third = both e.s.z (sum_of list).t.z a.third b.third }
  where
    both : (x y : ℤ) → unsigned_abs x ≤ size → unsigned_abs y ≤ length list * size → unsigned_abs (x +ℤ y) ≤ length (e ∷ list) * size
    both x y p q = omega (arith, abs_add x y, p, q)

-- the average's translation
mean_within : (size n : ℕ) (list : List Map) (a : Block) → 0 < length list → IsMean n list a → AreWithin (length list * size) (sum_of list).t.x (sum_of list).t.y (sum_of list).t.z → AreWithin (n * size) a.t.x a.t.y a.t.z
unfolding block_scaled times
mean_within size n list a some m w = record {
  first = row a.t.x (sum_of list).t.x (ap (λ (b : Block). b.t.x) m) w.first;
  second = row a.t.y (sum_of list).t.y (ap (λ (b : Block). b.t.y) m) w.second;
  third = row a.t.z (sum_of list).t.z (ap (λ (b : Block). b.t.z) m) w.third;
}
  where
    row : (t s : ℤ) → pos (length list) *ℤ t ≡ pos n *ℤ s → unsigned_abs s ≤ length list * size → unsigned_abs t ≤ n * size
    row t s e h =
        let f : length list * unsigned_abs t ≡ n * unsigned_abs s = sym (unsigned_abs-mul (pos (length list)) t) ∙ ap unsigned_abs e ∙ unsigned_abs-mul (pos n) s in
        let g : n * unsigned_abs s ≤ n * (length list * size) = mul-le-mul (le_refl n) h in
        let l : length list * unsigned_abs t ≤ length list * (n * size) = omega (arith, f, g) in
        le_of_mul-le-mul_left l some

origin_plus : (c : Column) → origin +ᶜ c ≡ c
unfolding ◌+ᶜ◌
origin_plus c = column_ring (coordinates c) (sym_origin +ˢᶜ column_at 0) (column_at 0) tt

-- a fixed translation lies in the image
abbrev point_at : (n : ℕ) → 0 < n → Block → ScaledPoint
point_at n some a = record { n = a.t; d = n; some = some }

in_image : (n : ℕ) (some : 0 < n) (a : Block) → a.n ≡ pos n → block_times a a ≡ block_scaled a.n a → IsInImage a (point_at n some a)
in_image n some a e i = ap (λ c. c +ᶜ times (pos n) a.t) (translation_part a i) ∙ origin_plus (times (pos n) a.t) ∙ ap (λ k. times k a.t) (sym e)

-- the average of a group near the origin has a small translation
pub near_translation : (members : List Operator) → IsGroup members → (a : Block) → IsAverageNearOrigin members a → AreWithin (length members * (UNIT * 51)) a.t.x a.t.y a.t.z
near_translation members group a near =
    let each : (e : Map) → Contains near.group e → AreWithin (UNIT * 51) e.s.x e.s.y e.s.z = λ e c. let q = whole_part UNIT some_parts e.s in small_translation e q.0 q.1 (All-contains (λ (f : Map). (j : Column) → IsShift UNIT f j → AreWithin MAX_NEAR_SHIFT j.x j.y j.z) near.group e near.shifts c q.0 q.1) in
    mean_within (UNIT * 51) (length members) near.group a (omega (arith, near.is_group.identity.1)) near.mean (sum_within (UNIT * 51) near.group each)

pub full_within : (members : List Operator) → IsGroup members → (a : Block) (set : List Map) → IsAverageNearOrigin members a → IsFull UNIT members a set → AreElements members set → AreShiftsWithin MAX_GROWN_SHIFT set
full_within members group a set near full elements i d l k s =
    let L : SpaceGroup = space_of members group in
    let v : Averaged L (length members) = record { some = some_members L; list = near.group; closed = closed_of_sub members group near.group near.is_group; average = a; is_mean = near.mean } in
    let e : Map = get_or set i d in
    let c = (full.exactly e).0 (Contains-get_or set i d l) in
    fixing_shift_small e a.t k (length members) (some_members L) (narrow_element members group e c.0) (near_translation members group a near) (c.1 (point_at (length members) (some_members L) a) (in_image (length members) (some_members L) a (number v) (idempotent_itself v))) s

-- whatever the number of members
pub near_limit : (members : List Operator) → IsGroup members → (a : Block) → IsAverageNearOrigin members a → AreWithin (MAX_OPERATORS * (UNIT * (MAX_NEAR_SHIFT + 1))) a.t.x a.t.y a.t.z
near_limit members group a near =
    let t = near_translation members group a near in
    let l : length members * (UNIT * 51) ≤ MAX_OPERATORS * (UNIT * 51) = mul-le-mul group.within (le_refl (UNIT * 51)) in
    record { first = omega (arith, l, t.first); second = omega (arith, l, t.second); third = omega (arith, l, t.third) }
