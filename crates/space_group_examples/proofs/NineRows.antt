-- A worked example: the group of -x,-y,-z has the table of nine rows that International Tables A gives for P-1.
use Rattle.std.proofs.Common.{◌≡◌, [], ◌∷◌, ◌++◌, zero, suc, ◌≤◌, ◌⊎◌, inl, inr, ⊎_elim, List, length, map, get_or, ℤ, pos, neg_ℤ, negsuc, ◌+ℤ◌, ◌*ℤ◌, ◌≤ℤ◌, ◌<ℤ◌, Contains, All, AllPairs, ap, sym, ◌∙◌, refl, subst, arith, unsigned_abs}
use Rattle.std.specs.Int.{int_rem_euclid}
use Rattle.std.proofs.lemmas.Int.{ints}
use Rattle.std.proofs.lemmas.List.Kept.{AllPairs-cons}
use Rattle.std.proofs.lemmas.Map.Made.{AllPairs-from_IsDistinct}
use Rattle.std.proofs.lemmas.List.Elements.{Contains-get_or}
use Rattle.lattice_algebra.specs.Matrix.{Matrix, Column, scaled, identity, origin, no_matrix, ◌·◌, ◌+ᶜ◌, ◌+ᵐ◌, times, entries, coordinates}
use Rattle.lattice_algebra.specs.Operator.{Operator, modulo, identity_operator, HasEntriesWithin, AreWithin}
use Rattle.lattice_algebra.specs.Map.{Map, operator_of}
use Rattle.lattice_algebra.proofs.Ring.{con}
use Rattle.lattice_algebra.proofs.MatrixRing.{matrix_at, column_at, ◌·ˢ◌, ◌+ˢ◌, ◌+ˢᶜ◌, sym_scaled, sym_times, sym_nothing, column_ring, matrix_ring}
use Rattle.lattice_algebra.proofs.Remainders.{modulo_same, rem_is}
use Rattle.lattice_algebra.proofs.Maps.{shift_of}
use Rattle.lattice_algebra.proofs.Operators.{operators}
use Rattle.lattice_algebra.proofs.Examples.{column, minus, inversion, inverting, both, in_both, closed_list, some_parts}
use Rattle.finite_groups.proofs.Members as lists
use Rattle.space_groups.specs.Space.{IsMembers, ScaledPoint, moved}
use Rattle.space_groups.specs.Averages.{block_of, block_scaled}
use Rattle.space_groups.specs.Keys.{key_of, IsBelow, IsKey}
use Rattle.space_groups.specs.Intervals.{differences}
use Rattle.space_groups.proofs.Grown.{full_length, grown_along}
use Rattle.space_groups.specs.Rows.{Row, IsRowBefore, IsTable, IsRowList}
use Rattle.space_groups.specs.Search.{FixAll, Kept, IsKept, HasKeptKey, IsDone, IsSearch, row_of}
use Rattle.space_groups.proofs.ScaledPoints.{moved-identity}
use Rattle.space_groups.proofs.Ordered.{row_on, one_row_list}
use Rattle.space_groups.proofs.Theorem.{row_list_of_search}
use Rattle.row_lists.proofs.Theorem.{table_of_row_list}
use Rattle.space_group_examples.proofs.Inversion.{o, L, inverted, pair, middle, no_shift, in_pair, other_in, pair_sub, pair_mean, key, pair_key, pair_full, alone, in_alone, whole_space, alone_sub, alone_mean, alone_key, alone_full}

-- ---- what the search keeps

abbrev trivial : Kept
trivial = record { set = alone; average = whole_space; key = key_of 24 2 whole_space; mult = 2 }

abbrev at_half : Column → Kept
at_half c = record { set = pair c; average = middle c; key = key c; mult = 1 }

-- twice the points 0,0,0 to 1/2,1/2,1/2
abbrev corners : List Column
corners =
    let i = pos 1 in
    column o o o ∷ column o o i ∷ column o i o ∷ column o i i ∷ column i o o ∷ column i o i ∷ column i i o ∷ column i i i ∷ []

abbrev kept : List Kept
kept = trivial ∷ map at_half corners

trivial_kept : IsKept 24 both trivial
trivial_kept = record { sub = alone_sub; mean = alone_mean; key = alone_key; mult = λ list f. omega (arith, full_length L whole_space list alone f alone_full) }

half_kept : (c : Column) → IsKept 24 both (at_half c)
half_kept c = record { sub = pair_sub c; mean = pair_mean c; key = pair_key c; mult = λ list f. omega (arith, full_length L (middle c) list (pair c) f (pair_full c)) }

-- what holds of the set of the identity, and of those at the corners, holds of all
of_all : (P : Kept → Type 0) → P trivial → ((c : Column) → Contains corners c → P (at_half c)) → All P kept
of_all P p h = λ k d l. by (get_or kept k d) (Contains-get_or kept k d l)
  where
    by : (s : Kept) → Contains kept s → P s
    by s c = ⊎_elim
        (λ e. subst P e p)
        (λ d. let r = lists.Contains-from_map at_half s corners d in subst P r.2 (h r.0 r.1))
        (lists.Contains-cases s trivial (map at_half corners) c)

all_kept : All (IsKept 24 both) kept
all_kept = of_all (IsKept 24 both) trivial_kept (λ c i. half_kept c)

-- ---- nothing is left to grow

-- each element of f that fixes some point with k generates with k what has a kept key
abbrev IsSettled : Kept → Operator → Type 0
IsSettled k f = (e : Map) (y : ScaledPoint) → operator_of 24 e ≡ f → FixAll k.set y → moved e y ≡ y → HasKeptKey 24 both kept k e

done_from_settled : (k : Kept) → ((f : Operator) → Contains both f → IsSettled k f) → IsDone 24 both kept k
done_from_settled k settled e m y h fix = settled (operator_of 24 e) m e y refl h fix

-- one that turns no direction of the image
settled_along : (k : Kept) → IsKept 24 both k → (f : Operator) → Contains kept k → differences f.w k.average.m ≡ no_matrix → IsSettled k f
unfolding operator_of
settled_along k is_kept f c none e y is h fix = (k, c, grown_along L k e y is_kept (subst (λ w. differences w k.average.m ≡ no_matrix) (ap (λ (v : Operator). v.w) (sym is)) none) h fix)

IsBit : ℤ → Type 0
IsBit a = (a ≡ o) ⊎ (a ≡ pos 1)

-- a whole number is twice another, or one more
halved : (x : ℤ) → (r : ℤ) × (k : ℤ) × IsBit r × (x ≡ r +ℤ pos 2 *ℤ k)
unfolding IsBit
halved x = let r = rem_is 2 (omega arith) x in (int_rem_euclid x (pos 2), neg_ℤ r.0, bit (int_rem_euclid x (pos 2)) r.2.0 r.2.1, back x (int_rem_euclid x (pos 2)) r.0 r.1)
  where
    bit : (a : ℤ) → o ≤ℤ a → a <ℤ pos 2 → (a ≡ o) ⊎ (a ≡ pos 1)
    bit (pos zero) p q = inl refl
    bit (pos (suc zero)) p q = inr refl
    bit (pos (suc (suc n))) p q = absurd (omega (arith, ints))
    bit (negsuc n) p q = absurd (omega (arith, ints))

    back : (x r k : ℤ) → r ≡ x +ℤ pos 2 *ℤ k → x ≡ r +ℤ pos 2 *ℤ neg_ℤ k
    back x r k e = omega (arith, ints)

in_corners : (a b c : ℤ) → IsBit a → IsBit b → IsBit c → Contains corners (column a b c)
unfolding IsBit
in_corners a b c p q r = at p q r
  where
    here : (x y z : ℤ) → Contains corners (column x y z) → a ≡ x → b ≡ y → c ≡ z → Contains corners (column a b c)
    here x y z h i j k = subst (Contains corners) (λ t. column (sym i t) (sym j t) (sym k t)) h

    at : (a ≡ o) ⊎ (a ≡ pos 1) → (b ≡ o) ⊎ (b ≡ pos 1) → (c ≡ o) ⊎ (c ≡ pos 1) → Contains corners (column a b c)
    at (inl i) (inl j) (inl k) = here o o o (0, omega arith, refl) i j k
    at (inl i) (inl j) (inr k) = here o o (pos 1) (1, omega arith, refl) i j k
    at (inl i) (inr j) (inl k) = here o (pos 1) o (2, omega arith, refl) i j k
    at (inl i) (inr j) (inr k) = here o (pos 1) (pos 1) (3, omega arith, refl) i j k
    at (inr i) (inl j) (inl k) = here (pos 1) o o (4, omega arith, refl) i j k
    at (inr i) (inl j) (inr k) = here (pos 1) o (pos 1) (5, omega arith, refl) i j k
    at (inr i) (inr j) (inl k) = here (pos 1) (pos 1) o (6, omega arith, refl) i j k
    at (inr i) (inr j) (inr k) = here (pos 1) (pos 1) (pos 1) (7, omega arith, refl) i j k

corner_column : (c r k : Column) → c ≡ r +ᶜ times (pos 2) k → times (pos 24) c ≡ times (pos 24) r +ᶜ times (pos 48) k
unfolding ◌+ᶜ◌ times
corner_column c r k e =
    ap (λ v. record { x = pos 24 *ℤ v.x; y = pos 24 *ℤ v.y; z = pos 24 *ℤ v.z }) e
    ∙ (let T = sym_times (con (pos 24)) in column_ring (coordinates r ++ coordinates k) (T (column_at 0 +ˢᶜ sym_times (con (pos 2)) (column_at 3))) (T (column_at 0) +ˢᶜ sym_times (con (pos 48)) (column_at 3)) tt)

-- each inversion has the key of one at a corner
corner_of : (c : Column) → (r : Column) × Contains corners r × (key c ≡ key r)
unfolding key_of ◌+ᶜ◌ times
corner_of c =
    let x = halved c.x in
    let y = halved c.y in
    let z = halved c.z in
    let r = column x.0 y.0 z.0 in
    let k = column x.1 y.1 z.1 in
    (r, in_corners x.0 y.0 z.0 x.2 y.2 z.2, λ i. record { m = no_matrix; t = modulo_same 48 (omega arith) (times (pos 24) c) (times (pos 24) r) k (corner_column c r k (λ i. record { x = x.3 i; y = y.3 i; z = z.3 i })) i })

half_in : (c : Column) → Contains corners c → Contains kept (at_half c)
half_in c h = lists.Contains-later (at_half c) trivial (map at_half corners) (lists.Contains-map at_half c corners h)

-- with the inversion at c / 2 the identity generates the group of that inversion
trivial_settled : IsSettled trivial inverting
trivial_settled e y is h f =
    let s = shift_of 24 some_parts inverting e is in
    let c : Column = s.0 in
    let at : e ≡ inverted c = s.1 ∙ ap (λ t. record { w = inversion; s = t }) (no_shift c) in
    let k = corner_of c in (
      at_half k.0,
      half_in k.0 k.1,
      record {
        list = pair c;
        sub = pair_sub c;
        fixes = λ z. (
          (λ g. ((λ d p. subst (λ v. moved v z ≡ z) (in_alone d p) (moved-identity z)), subst (λ v. moved v z ≡ z) (sym at) (g (inverted c) (other_in c)))),
          (λ g d p. ⊎_elim (λ q. subst (λ v. moved v z ≡ z) q (moved-identity z)) (λ q. subst (λ v. moved v z ≡ z) (at ∙ q) g.1) (in_pair c d p)),
        );
        average = middle c;
        mean = pair_mean c;
        key = subst (IsKey 24 both 2 (middle c)) k.2 (pair_key c);
      },
    )

identity_turns_nothing : differences identity whole_space.m ≡ no_matrix
unfolding differences ◌·◌ ◌+ᵐ◌ scaled block_scaled block_of
identity_turns_nothing = refl

trivial_done : IsDone 24 both kept trivial
trivial_done = done_from_settled trivial (λ f m. ⊎_elim
    (λ p. subst (IsSettled trivial) p (settled_along trivial trivial_kept identity_operator (lists.Contains-here trivial (map at_half corners)) identity_turns_nothing))
    (λ p. subst (IsSettled trivial) p trivial_settled)
    (in_both f m))

-- a point has no directions
no_difference : (w : Matrix) → differences w no_matrix ≡ no_matrix
unfolding differences ◌·◌ ◌+ᵐ◌ scaled
no_difference w = matrix_ring (entries w) (sym_nothing +ˢ sym_scaled (con minus) (matrix_at 0 ·ˢ sym_nothing)) sym_nothing tt

half_done : (c : Column) → Contains corners c → IsDone 24 both kept (at_half c)
half_done c i = done_from_settled (at_half c) (λ f m. settled_along (at_half c) (half_kept c) f (half_in c i) (no_difference f.w))

all_done : All (IsDone 24 both kept) kept
all_done = of_all (IsDone 24 both kept) trivial_done half_done

-- ---- the rows

-- each comes before the next
Chain : {X : Type 0} → (X → X → Type 0) → List X → Type 0
Chain R [] = Unit {0}
Chain R (x ∷ []) = Unit {0}
Chain R (x ∷ y ∷ xs) = R x y × Chain R (y ∷ xs)

in_order : {X : Type 0} (R : X → X → Type 0) → ((a b c : X) → R a b → R b c → R a c) → (xs : List X) → Chain R xs → AllPairs R xs
unfolding Chain
in_order R t [] c = λ i j d l m. absurd (omega arith)
in_order R t (x ∷ []) c = λ i j d l m. absurd (omega arith)
in_order R t (x ∷ y ∷ xs) c = let h = in_order R t (y ∷ xs) c.1 in AllPairs-cons R x (y ∷ xs) (first h) h
  where
    first : AllPairs R (y ∷ xs) → All (R x) (y ∷ xs)
    first h zero d l = c.0
    first h (suc k) d l = t x y (get_or (y ∷ xs) (suc k) d) c.0 (h 0 (suc k) d (omega arith) l)

-- multiplicity 1 and the point n / 48
abbrev pub special : ℤ → ℤ → ℤ → Row
special x y z = record { mult = 1; key = record { m = no_matrix; t = column x y z } }

abbrev specials : List Row
specials =
    let h = pos 24 in
    special o o o ∷ special o o h ∷ special o h o ∷ special o h h ∷ special h o o ∷ special h o h ∷ special h h o ∷ special h h h ∷ []

-- x,y,z with two points, and the eight inversion centres with one each
abbrev nine : List Row
nine = record { mult = 2; key = record { m = scaled (pos 2) identity; t = origin } } ∷ specials

rows_are_nine : map row_of kept ≡ nine
unfolding key_of block_scaled block_of modulo times
rows_are_nine = refl

specials_chain : Chain IsRowBefore specials
unfolding Chain
specials_chain =
    let less : (xs ys : List ℤ) → IsBelow (o ∷ xs) (pos 24 ∷ ys) = λ xs ys. inl (let l : o <ℤ pos 24 = omega (arith, ints) in l) in
    let by : (a b : Column) → IsBelow (coordinates a) (coordinates b) → IsRowBefore (special a.x a.y a.z) (special b.x b.y b.z) = λ a b l. inr (refl, inr (refl, l)) in
    let h = pos 24 in
    let along_z : (x y : ℤ) → IsRowBefore (special x y o) (special x y h) = λ x y. by (column x y o) (column x y h) (inr (refl, inr (refl, less [] []))) in
    let along_y : (x : ℤ) → IsRowBefore (special x o h) (special x h o) = λ x. by (column x o h) (column x h o) (inr (refl, less (h ∷ []) (o ∷ []))) in
    let along_x : IsRowBefore (special o h h) (special h o o) = by (column o h h) (column h o o) (less (h ∷ h ∷ []) (o ∷ o ∷ [])) in
    (along_z o o, (along_y o, (along_z o h, (along_x, (along_z h o, (along_y h, (along_z h h, tt)))))))

nine_in_order : AllPairs IsRowBefore nine
unfolding Chain
nine_in_order = in_order IsRowBefore row_on nine (inl (omega arith), specials_chain)

the_search : IsSearch 24 both kept (map row_of kept)
the_search = record {
  all = all_kept;
  trivial = (trivial, lists.Contains-here trivial (map at_half corners), refl);
  done = all_done;
  rows_are = λ row. (lists.Contains-from_map row_of row kept, λ r. subst (Contains (map row_of kept)) r.2 (lists.Contains-map row_of r.0 kept r.1));
  ordered = subst (AllPairs IsRowBefore) (sym rows_are_nine) nine_in_order;
}

narrow : (f : Operator) → Contains both f → HasEntriesWithin 2 f.w
narrow f c = ⊎_elim (λ e. subst (λ v. HasEntriesWithin 2 v.w) e one) (λ e. subst (λ v. HasEntriesWithin 2 v.w) e other) (in_both f c)
  where
    row : (a b c : ℤ) → unsigned_abs a ≤ 1 → unsigned_abs b ≤ 1 → unsigned_abs c ≤ 1 → AreWithin 2 a b c
    row a b c p q r = record { first = omega arith; second = omega arith; third = omega arith }

    one : HasEntriesWithin 2 identity
    one = record { x = row (pos 1) o o (omega arith) (omega arith) (omega arith); y = row o (pos 1) o (omega arith) (omega arith) (omega arith); z = row o o (pos 1) (omega arith) (omega arith) (omega arith) }

    other : HasEntriesWithin 2 inversion
    other = record { x = row minus o o (omega arith) (omega arith) (omega arith); y = row o minus o (omega arith) (omega arith) (omega arith); z = row o o minus (omega arith) (omega arith) (omega arith) }

members : IsMembers 24 both
members = record {
  operators = closed_list.valid;
  once = AllPairs-from_IsDistinct (operators 24 some_parts).same both closed_list.distinct;
  identity = closed_list.has_one;
  products = closed_list.closed;
  narrow = narrow;
}

-- the nine rows are the one row list
pub nine_are_row_list : IsRowList 24 both nine
nine_are_row_list = subst (IsRowList 24 both) rows_are_nine (row_list_of_search 24 some_parts both members kept (map row_of kept) the_search)

-- so they are the Wyckoff table
pub nine_are_table : IsTable 24 both nine
nine_are_table = table_of_row_list 24 some_parts both members nine nine_are_row_list

-- eight rows are none: the general positions are missing
not_eight : IsRowList 24 both specials → ⊥
not_eight h = apart (ap length (one_row_list 24 both nine specials nine_are_row_list h))
  where
    apart : length nine ≡ length specials → ⊥
    apart e = omega arith
