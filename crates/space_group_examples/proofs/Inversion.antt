-- The group of -x,-y,-z: the finite groups of its elements that fix a point, with their averages and their keys.
use Rattle.std.proofs.Common.{◌≡◌, ◌≢◌, ◌∷◌, ◌++◌, [], ◌⊎◌, inl, inr, ⊎_elim, List, ℤ, pos, Contains, ap, ap₂, sym, ◌∙◌, refl, subst, arith}
use Rattle.std.proofs.lemmas.Int.{ints}
use Rattle.std.proofs.lemmas.List.Kept.{AllPairs-cons}
use Rattle.std.proofs.lemmas.List.Elements.{All-from_recursion, All-contains}
use Rattle.lattice_algebra.specs.Matrix.{Matrix, Column, scaled, identity, origin, no_matrix, ◌·◌, ◌·ᶜ◌, ◌+ᶜ◌, ◌+ᵐ◌, neg_column, times, entries, coordinates}
use Rattle.lattice_algebra.specs.Operator.{modulo, identity_operator}
use Rattle.lattice_algebra.specs.Map.{Map, ◌∘◌, identity_map, undo, operator_of}
use Rattle.lattice_algebra.proofs.Ring.{con}
use Rattle.lattice_algebra.proofs.MatrixRing.{SymMatrix, matrix_at, column_at, ◌·ˢ◌, ◌·ˢᶜ◌, ◌+ˢᶜ◌, sym_times, sym_neg, sym_identity, sym_nothing, sym_origin, column_ring, matrix_ring}
use Rattle.lattice_algebra.proofs.Remainders.{modulo_same, rem_of_times}
use Rattle.lattice_algebra.proofs.Maps.{map_path, shift_of, identity-∘, ∘-identity}
use Rattle.lattice_algebra.proofs.Examples.{column, minus, inversion, inverting, both, in_both, closed_list, some_parts}
use Rattle.finite_groups.proofs.Members as lists
use Rattle.space_groups.specs.Space.{IsElement, ScaledPoint, moved}
use Rattle.space_groups.specs.Averages.{Block, block_of, block_plus, block_times, block_scaled, IsMean, IsInImage}
use Rattle.space_groups.specs.Keys.{Key, carried, key_of, ComesBefore, IsKey}
use Rattle.space_groups.specs.Search.{IsSub, IsFull}
use Rattle.space_groups.proofs.ScaledPoints.{moved-identity}
use Rattle.space_groups.proofs.Elements.{SpaceGroup, space}
use Rattle.space_groups.proofs.Blocks.{block_path, times_identity, block_of-∘}
use Rattle.space_groups.proofs.CarriedLists.{carried_scaled}
use Rattle.space_groups.proofs.Means as means
use Rattle.space_groups.proofs.Means.{Averaged}
use Rattle.space_groups.proofs.Growing.{closed_sub}
use Rattle.space_groups.proofs.Divided.{one_rotation}
use Rattle.space_groups.proofs.Carried.{carried-identity}
use Rattle.space_groups.proofs.Ordered.{not_before_itself}

abbrev pub o : ℤ
o = pos 0

abbrev pub L : SpaceGroup
L = record { unit = 24; some = some_parts; members = both; closed = closed_list }

-- the inversion with the whole shift c: it fixes c / 2
abbrev pub inverted : Column → Map
inverted c = record { w = inversion; s = times (pos 24) c }

abbrev pub pair : Column → List Map
pair c = identity_map ∷ inverted c ∷ []

abbrev pub middle : Column → Block
middle c = record { m = no_matrix; t = times (pos 24) c; n = pos 2 }

-- ---- elements

remainders : (c : Column) → modulo 24 (times (pos 24) c) ≡ origin
unfolding modulo times
remainders c = λ i. record { x = rem_of_times 24 some_parts c.x i; y = rem_of_times 24 some_parts c.y i; z = rem_of_times 24 some_parts c.z i }

pub inverted_operator : (c : Column) → operator_of 24 (inverted c) ≡ inverting
unfolding operator_of
inverted_operator c = λ i. record { w = inversion; t = remainders c i }

pub inverted_in : (c : Column) → IsElement 24 both (inverted c)
inverted_in c = (1, omega arith, sym (inverted_operator c))

pub no_shift : (c : Column) → origin +ᶜ times (pos 24) c ≡ times (pos 24) c
unfolding ◌+ᶜ◌ times
no_shift c = column_ring (coordinates c) (sym_origin +ˢᶜ sym_times (con (pos 24)) (column_at 0)) (sym_times (con (pos 24)) (column_at 0)) tt

-- an element is a translation by whole cells, or an inversion
pub which : (e : Map) → IsElement 24 both e → ((c : Column) × (e ≡ record { w = identity; s = times (pos 24) c })) ⊎ ((c : Column) × (e ≡ inverted c))
which e m = ⊎_elim
    (λ p. let k = shift_of 24 some_parts identity_operator e (sym p) in inl (k.0, k.1 ∙ ap (λ s. record { w = identity; s = s }) (no_shift k.0)))
    (λ p. let k = shift_of 24 some_parts inverting e (sym p) in inr (k.0, k.1 ∙ ap (λ s. record { w = inversion; s = s }) (no_shift k.0)))
    (in_both (operator_of 24 e) m)

pub in_pair : (c : Column) (e : Map) → Contains (pair c) e → (identity_map ≡ e) ⊎ (inverted c ≡ e)
in_pair c e h = ⊎_elim (λ p. inl p) (λ d. ⊎_elim (λ p. inr p) (λ n. lists.not_in_nil e n) (lists.Contains-cases e (inverted c) [] d)) (lists.Contains-cases e identity_map (inverted c ∷ []) h)

pub one_in : (c : Column) → Contains (pair c) identity_map
one_in c = (0, omega arith, refl)

pub other_in : (c : Column) → Contains (pair c) (inverted c)
other_in c = (1, omega arith, refl)

-- ---- the group of an inversion and the identity

abbrev pub sym_inversion : SymMatrix
sym_inversion = let n = con minus in let z = con o in record { xx = n; xy = z; xz = z; yx = z; yy = n; yz = z; zx = z; zy = z; zz = n }

twice_column : (c : Column) → inversion ·ᶜ times (pos 24) c +ᶜ times (pos 24) c ≡ origin
unfolding ◌·ᶜ◌ ◌+ᶜ◌ times
twice_column c = let S = sym_times (con (pos 24)) (column_at 0) in column_ring (coordinates c) (sym_inversion ·ˢᶜ S +ˢᶜ S) sym_origin tt

twice : (c : Column) → inverted c ∘ inverted c ≡ identity_map
unfolding ◌∘◌ ◌·◌
twice c = map_path _ _ refl (twice_column c)

pair_apart : (c : Column) → identity_map ≢ inverted c
pair_apart c e = let x : pos 1 ≡ minus = ap (λ (g : Map). g.w.xx) e in omega (arith, ints)

pair_products : (c : Column) (e f : Map) → Contains (pair c) e → Contains (pair c) f → Contains (pair c) (e ∘ f)
pair_products c e f p q = ⊎_elim
    (λ a. subst (λ v. Contains (pair c) (v ∘ f)) a (subst (Contains (pair c)) (sym (identity-∘ f)) q))
    (λ a. ⊎_elim
    (λ b. subst (λ v. Contains (pair c) (e ∘ v)) b (subst (Contains (pair c)) (sym (∘-identity e)) p))
    (λ b. subst (Contains (pair c)) (sym (twice c) ∙ ap₂ (λ x y. x ∘ y) a b) (one_in c))
    (in_pair c f q))
    (in_pair c e p)

pub pair_sub : (c : Column) → IsSub 24 both (pair c)
pair_sub c = record {
  elements = All-from_recursion (IsElement 24 both) (pair c) ((space L).one_in, (inverted_in c, tt));
  once = AllPairs-cons (λ e f. e ≢ f) identity_map (inverted c ∷ []) (All-from_recursion (λ f. identity_map ≢ f) (inverted c ∷ []) (pair_apart c, tt)) (λ i j d l m. absurd (omega arith));
  identity = one_in c;
  products = pair_products c;
}

mean_column : (c : Column) → times (pos 2) (times (pos 24) c) ≡ times (pos 2) (origin +ᶜ (times (pos 24) c +ᶜ origin))
unfolding ◌+ᶜ◌ times
mean_column c = let S = sym_times (con (pos 24)) (column_at 0) in column_ring (coordinates c) (sym_times (con (pos 2)) S) (sym_times (con (pos 2)) (sym_origin +ˢᶜ (S +ˢᶜ sym_origin))) tt

pub pair_mean : (c : Column) → IsMean 2 (pair c) (middle c)
unfolding block_scaled block_plus block_of scaled ◌+ᵐ◌
pair_mean c = block_path _ _ refl (mean_column c) refl

abbrev averaged : (c : Column) → Averaged L 2
averaged c = record { some = omega arith; list = pair c; closed = closed_sub L (pair c) (pair_sub c); average = middle c; is_mean = pair_mean c }

-- ---- its key

no_matrix_left : (w v : Matrix) → (w · no_matrix) · v ≡ no_matrix
unfolding ◌·◌
no_matrix_left w v = matrix_ring (entries w ++ entries v) ((matrix_at 0 ·ˢ sym_nothing) ·ˢ matrix_at 9) sym_nothing tt

carried_column : (w : Matrix) (u s t : Column) → (w · no_matrix) ·ᶜ u +ᶜ times (pos 1) (w ·ᶜ t +ᶜ times (pos 2) s) ≡ w ·ᶜ t +ᶜ times (pos 2) s
unfolding ◌·◌ ◌·ᶜ◌ ◌+ᶜ◌ times
carried_column w u s t =
    let W = matrix_at 0 in
    let R = W ·ˢᶜ column_at 15 +ˢᶜ sym_times (con (pos 2)) (column_at 12) in
    column_ring (entries w ++ (coordinates u ++ (coordinates s ++ coordinates t))) ((W ·ˢ sym_nothing) ·ˢᶜ column_at 9 +ˢᶜ sym_times (con (pos 1)) R) R tt

shift_column : (c k : Column) → identity ·ᶜ times (pos 24) c +ᶜ times (pos 2) (times (pos 24) k) ≡ times (pos 24) c +ᶜ times (pos 48) k
unfolding ◌·ᶜ◌ ◌+ᶜ◌ times
shift_column c k =
    let T = sym_times (con (pos 24)) in
    column_ring (coordinates c ++ coordinates k) (sym_identity ·ˢᶜ T (column_at 0) +ˢᶜ sym_times (con (pos 2)) (T (column_at 3))) (T (column_at 0) +ˢᶜ sym_times (con (pos 48)) (column_at 3)) tt

invert_column : (c k : Column) → inversion ·ᶜ times (pos 24) c +ᶜ times (pos 2) (times (pos 24) k) ≡ times (pos 24) c +ᶜ times (pos 48) (k +ᶜ neg_column c)
unfolding ◌·ᶜ◌ ◌+ᶜ◌ times neg_column
invert_column c k =
    let T = sym_times (con (pos 24)) in
    column_ring (coordinates c ++ coordinates k) (sym_inversion ·ˢᶜ T (column_at 0) +ˢᶜ sym_times (con (pos 2)) (T (column_at 3))) (T (column_at 0) +ˢᶜ sym_times (con (pos 48)) (column_at 3 +ˢᶜ sym_neg (column_at 0))) tt

abbrev pub key : Column → Key
key c = key_of 24 2 (middle c)

key_stays : (c : Column) (g : Map) → IsElement 24 both g → key_of 24 2 (carried g (middle c)) ≡ key c
unfolding key_of carried block_times block_of
key_stays c g m = λ i. record { m = no_matrix_left g.w (undo g).w i; t = by i }
  where
    same : (w : Matrix) (s j : Column) → w ·ᶜ times (pos 24) c +ᶜ times (pos 2) s ≡ times (pos 24) c +ᶜ times (pos 48) j → (u : Column) → modulo 48 ((w · no_matrix) ·ᶜ u +ᶜ times (pos 1) (w ·ᶜ times (pos 24) c +ᶜ times (pos 2) s)) ≡ modulo 48 (times (pos 24) c)
    same w s j e u = ap (modulo 48) (carried_column w u s (times (pos 24) c)) ∙ modulo_same 48 (omega arith) _ _ j e

    Same : Map → Type 0
    Same h = modulo 48 ((h.w · no_matrix) ·ᶜ (undo g).s +ᶜ times (pos 1) (h.w ·ᶜ times (pos 24) c +ᶜ times (pos 2) h.s)) ≡ modulo 48 (times (pos 24) c)

    by : Same g
    by = ⊎_elim
        (λ r. subst Same (sym r.1) (same identity (times (pos 24) r.0) r.0 (shift_column c r.0) (undo g).s))
        (λ r. subst Same (sym r.1) (same inversion (times (pos 24) r.0) (r.0 +ᶜ neg_column c) (invert_column c r.0) (undo g).s))
        (which g m)

pub pair_key : (c : Column) → IsKey 24 both 2 (middle c) (key c)
pair_key c = record {
  by = identity_map;
  element = (space L).one_in;
  gives = ap (key_of 24 2) (carried-identity (middle c));
  first = λ g m l. not_before_itself (key c) (subst (λ k. ComesBefore k (key c)) (key_stays c g m) l);
}

-- ---- what fixes its point

-- an element that fixes a point of the inversion is the identity or the inversion
by_fixed : (c : Column) (y : ScaledPoint) → moved (inverted c) y ≡ y → (e : Map) → IsElement 24 both e → moved e y ≡ y → Contains (pair c) e
by_fixed c y h e m f = ⊎_elim
    (λ r. subst (Contains (pair c)) (one_rotation identity_map e y (moved-identity y) f (ap (λ (g : Map). g.w) (sym r.1))) (one_in c))
    (λ r. subst (Contains (pair c)) (one_rotation (inverted c) e y h f (ap (λ (g : Map). g.w) (sym r.1))) (other_in c))
    (which e m)

-- c / 2
abbrev centre : Column → ScaledPoint
centre c = record { n = times (pos 12) c; d = 1; some = omega arith }

centre_column : (c : Column) → no_matrix ·ᶜ times (pos 12) c +ᶜ times (pos 1) (times (pos 24) c) ≡ times (pos 2) (times (pos 12) c)
unfolding ◌·ᶜ◌ ◌+ᶜ◌ times
centre_column c =
    let S = sym_times (con (pos 12)) (column_at 0) in
    column_ring (coordinates c) (sym_nothing ·ˢᶜ S +ˢᶜ sym_times (con (pos 1)) (sym_times (con (pos 24)) (column_at 0))) (sym_times (con (pos 2)) S) tt

pub pair_full : (c : Column) → IsFull 24 both (middle c) (pair c)
pair_full c = record {
  exactly = λ e. (
    (λ p. (All-contains (IsElement 24 both) (pair c) e (pair_sub c).elements p, λ y i. means.image_fixed (averaged c) y i e p)),
    (λ p. by_fixed c (centre c) (means.image_fixed (averaged c) (centre c) (centre_column c) (inverted c) (other_in c)) e p.0 (p.1 (centre c) (centre_column c))),
  );
  once = (pair_sub c).once;
}

-- ---- the group of the identity

abbrev pub alone : List Map
alone = identity_map ∷ []

pub in_alone : (e : Map) → Contains alone e → identity_map ≡ e
in_alone e c = ⊎_elim (λ p. p) (λ n. lists.not_in_nil e n) (lists.Contains-cases e identity_map [] c)

abbrev pub whole_space : Block
whole_space = block_scaled (pos 2) (block_of identity_map)

pub alone_sub : IsSub 24 both alone
alone_sub = record {
  elements = All-from_recursion (IsElement 24 both) alone ((space L).one_in, tt);
  once = λ i j d l m. absurd (omega arith);
  identity = (0, omega arith, refl);
  products = λ e f p q. subst (Contains alone) (sym (identity-∘ identity_map) ∙ ap₂ (λ x y. x ∘ y) (in_alone e p) (in_alone f q)) (0, omega arith, refl);
}

pub alone_mean : IsMean 2 alone whole_space
unfolding block_scaled block_plus block_of scaled times ◌+ᵐ◌ ◌+ᶜ◌
alone_mean = refl

whole_stays : (g : Map) → IsElement 24 both g → carried g whole_space ≡ whole_space
unfolding carried
whole_stays g m = carried_scaled g (pos 2) (block_of identity_map) ∙ ap (block_scaled (pos 2)) (ap (λ b. block_times b (block_of (undo g))) (times_identity (block_of g)) ∙ sym (block_of-∘ g (undo g)) ∙ ap block_of ((space L).inv_right g m))

pub alone_key : IsKey 24 both 2 whole_space (key_of 24 2 whole_space)
alone_key = record {
  by = identity_map;
  element = (space L).one_in;
  gives = ap (key_of 24 2) (carried-identity whole_space);
  first = λ g m l. not_before_itself (key_of 24 2 whole_space) (subst (λ b. ComesBefore (key_of 24 2 b) (key_of 24 2 whole_space)) (whole_stays g m) l);
}

in_whole : (y : ScaledPoint) → IsInImage whole_space y
in_whole y = means.fixed_image {L = L} (record { some = omega arith; list = alone; closed = closed_sub L alone alone_sub; average = whole_space; is_mean = alone_mean }) y (λ e c. subst (λ v. moved v y ≡ y) (in_alone e c) (moved-identity y))

-- no inversion at a whole or half point fixes 1/24,0,0
twenty_fourth : ScaledPoint
twenty_fourth = record { n = column (pos 1) o o; d = 1; some = omega arith }

not_twenty_fourth : (c : Column) → moved (inverted c) twenty_fourth ≡ twenty_fourth → ⊥
unfolding moved twenty_fourth times ◌·ᶜ◌ ◌+ᶜ◌
not_twenty_fourth c e = let x = ap (λ (v : ScaledPoint). v.n.x) e in omega (arith, ints)

pub alone_full : IsFull 24 both whole_space alone
alone_full = record {
  exactly = λ e. (
    (λ p. (subst (IsElement 24 both) (in_alone e p) ((space L).one_in), λ y i. subst (λ v. moved v y ≡ y) (in_alone e p) (moved-identity y))),
    (λ p.
        let f = p.1 twenty_fourth (in_whole twenty_fourth) in
        ⊎_elim
        (λ r. subst (Contains alone) (one_rotation identity_map e twenty_fourth (moved-identity twenty_fourth) f (ap (λ (g : Map). g.w) (sym r.1))) (0, omega arith, refl))
        (λ r. absurd (not_twenty_fourth r.0 (subst (λ v. moved v twenty_fourth ≡ twenty_fourth) r.1 f)))
        (which e p.0)),
  );
  once = alone_sub.once;
}
