-- Counting the points that fit each row, one point after the other.
use Rattle.std.proofs.Common.{◌≡◌, ◌+◌, ◌<◌, ◌≤◌, ℕ, suc, List, length, get_or, set, replicate, sym, ap, subst, ◌∙◌, arith, ⊎_elim, add-one}
use Rattle.std.proofs.lemmas.Bool.{cases_eq}
use Rattle.std.proofs.lemmas.Int.{ints}
use Rattle.std.proofs.lemmas.List.{get_or_default, get_or-set_same, get_or-set_other, length-set, length-replicate, get_or-replicate}
use Rattle.lattice_algebra.specs.Matrix.{identity, origin}
use Rattle.lattice_algebra.specs.Operator.{Operator}
use Rattle.lattice_algebra.specs.Point.{Point, IsPoint, ◌≈◌, image}
use Rattle.lattice_algebra.proofs.Points.{≈_sym, ≈_trans, image-same, IsPoint-image}
use Rattle.exact_ops.specs.declared.TheConstants.{UNIT}
use Rattle.exact_ops.proofs.Narrow.{some_parts}
use Rattle.space_groups.specs.Space.{IsInOrbit}
use Rattle.space_groups.specs.Rows.{Row, IsAt, Fits}
use Rattle.samples.specs.Points.{made_point, state_before, point_from, after_point}
use Rattle.samples.specs.Counts.{IsCount, none, one_more, no_more, AreCounts}

-- ---- one point, however it is written, fits the same rows

orbit_along : (members : List Operator) (x y r : Point) → IsPoint x → x ≈ y → IsInOrbit UNIT members x r → IsInOrbit UNIT members y r
orbit_along members x y r p e o = record {
  by = o.by;
  element = o.element;
  is_image = ≈_trans (image UNIT o.by y) (image UNIT o.by x) r (IsPoint-image UNIT some_parts o.by x p) (image-same UNIT o.by y x (≈_sym x y e)) o.is_image;
  in_cell = o.in_cell;
}

fits_along : (members : List Operator) (row : Row) (x y : Point) → IsPoint x → IsPoint y → x ≈ y → Fits UNIT members row x → Fits UNIT members row y
fits_along members row x y p q e f = record {
  by = f.by;
  element = f.element;
  lies = record {
    at = f.lies.at;
    is_point = f.lies.is_point;
    whole = f.lies.whole;
    equal = ≈_trans (image UNIT f.by y) (image UNIT f.by x) _ (IsPoint-image UNIT some_parts f.by x p) (image-same UNIT f.by y x (≈_sym x y e)) f.lies.equal;
  };
  orbit = f.orbit;
  is_orbit = record {
    in_orbit = λ r c. let h = f.is_orbit.in_orbit r c in (h.0, orbit_along members x y r p e h.1);
    has_each = λ r d o. f.is_orbit.has_each r d (orbit_along members y x r q (≈_sym x y e) o);
    once = f.is_orbit.once;
  };
  as_many = f.as_many;
}

-- ---- counts

pub count_few : (P : ℕ → Type 0) (n c : ℕ) → IsCount P n c → c ≤ n
count_few P n c none = omega arith
count_few P n c (one_more {n = m} {c = d} h p) = omega (arith, count_few P m d h)
count_few P n c (no_more {n = m} {c = d} h p) = omega (arith, count_few P m d h)

-- no point is made yet
pub none_counted : (members : List Operator) (rows : List Row) (seed : ℕ) (counts : List ℕ) → counts ≡ replicate (length rows) 0 → AreCounts members rows seed 0 counts
none_counted members rows seed counts e = record {
  all = ap length e ∙ length-replicate (length rows) 0;
  each = λ k row at. subst (λ c. IsCount (λ i. Fits UNIT members row (made_point seed i)) 0 c) (sym (ap (λ (l : List ℕ). get_or l k 0) e ∙ get_or-replicate (length rows) k 0 0 at.within)) none;
}

-- what is known of the place that was found for a point
abbrev pub IsOnlyFit : List Operator → List Row → Point → ℕ → Type 0
IsOnlyFit members rows x found = (k : ℕ) (row : Row) → IsAt rows k row → (k ≡ found → Fits UNIT members row x) × (Fits UNIT members row x → k ≡ found)

-- the count of one row more, at the place that was found
pub one_counted : (members : List Operator) (rows : List Row) (seed n : ℕ) (counts : List ℕ) (x : Point) (found : ℕ) → AreCounts members rows seed n counts → IsPoint x → x ≈ made_point seed n → IsOnlyFit members rows x found → found < length rows
    → AreCounts members rows seed (suc n) (set counts found (get_or counts found 0 + 1))
one_counted members rows seed n counts x found h p e fits within =
    let y = made_point seed n in
    let q : IsPoint y = twelve in
    let room : found < length counts = omega (arith, within, h.all) in
    record {
      all = length-set counts found (get_or counts found 0 + 1) ∙ h.all;
      each = λ k row at. ⊎_elim
          (λ s. subst (λ c. IsCount (λ i. Fits UNIT members row (made_point seed i)) (suc n) c) (sym (ap (λ (j : ℕ). get_or (set counts found (get_or counts found 0 + 1)) j 0) s ∙ get_or-set_same counts found (get_or counts found 0 + 1) 0 room ∙ add-one (get_or counts found 0) ∙ ap (λ (j : ℕ). suc (get_or counts j 0)) (sym s)))
          (one_more (h.each k row at) (fits_along members row x y p q e ((fits k row at).0 s))))
          (λ o. subst (λ c. IsCount (λ i. Fits UNIT members row (made_point seed i)) (suc n) c) (sym (get_or-set_other counts found k (get_or counts found 0 + 1) 0 o))
          (no_more (h.each k row at) (λ f. o ((fits k row at).1 (fits_along members row y x q p (≈_sym x y e) f)))))
          (cases_eq k found);
    }
  where
    twelve : IsPoint (made_point seed n)
    twelve = omega (arith, ints)

-- the count before is at most the number of points
pub room_for_one : (members : List Operator) (rows : List Row) (seed n : ℕ) (counts : List ℕ) (k : ℕ) (row : Row) → AreCounts members rows seed n counts → IsAt rows k row → get_or counts k 0 ≤ n
room_for_one members rows seed n counts k row h at = count_few (λ i. Fits UNIT members row (made_point seed i)) n (get_or counts k 0) (h.each k row at)

-- ---- as the code has it

abbrev pub no_row : Row
no_row = record { mult = 0; key = record { m = identity; t = origin } }

-- a count that was read
read_at : (counts : List ℕ) (k v : ℕ) → k < length counts → v ≡ get_or counts k v → v ≡ get_or counts k 0
read_at counts k v l e = e ∙ get_or_default counts k v 0 l

pub counted_room : (members : List Operator) (rows : List Row) (seed n : ℕ) (counts : List ℕ) (k v : ℕ) → AreCounts members rows seed n counts → k < length rows → v ≡ get_or counts k v → v ≤ n
counted_room members rows seed n counts k v h l e =
    let e0 = read_at counts k v (omega (arith, l, h.all)) e in
    let few = room_for_one members rows seed n counts k (get_or rows k no_row) h (record { within = l; is = λ d. get_or_default rows k d no_row l }) in
    omega (arith, e0, few)

pub counts_go_on : (members : List Operator) (rows : List Row) (seed n : ℕ) (counts : List ℕ) (x : Point) (state found v : ℕ) → AreCounts members rows seed n counts → IsPoint x → x ≈ point_from state → state ≡ state_before seed n → IsOnlyFit members rows x found → found < length rows
    → v ≡ get_or counts found v → AreCounts members rows seed (n + 1) (set counts found (v + 1))
counts_go_on members rows seed n counts x state found v h p near s fits l e =
    let e0 = read_at counts found v (omega (arith, l, h.all)) e in
    let now = one_counted members rows seed n counts x found h p (subst (λ t. x ≈ point_from t) s near) fits l in
    subst (λ m. AreCounts members rows seed m (set counts found (v + 1))) (sym (add-one n)) (subst (λ w. AreCounts members rows seed (suc n) (set counts found (w + 1))) (sym e0) now)

pub state_goes_on : (seed n old new : ℕ) → old ≡ state_before seed n → new ≡ after_point old → new ≡ state_before seed (n + 1)
state_goes_on seed n old new s e = e ∙ ap after_point s ∙ sym (ap (state_before seed) (add-one n))
