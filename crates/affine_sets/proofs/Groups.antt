-- Finite groups of elements, as they are kept: lists of maps in order.
use Rattle.std.proofs.Common.{◌≡◌, ◌++◌, [], ◌∷◌, ◌≤◌, ◌+◌, ◌<◌, ◌↔◌, ℕ, ℤ, pos, ◌+ℤ◌, ◌*ℤ◌, ◌<ℤ◌, unsigned_abs, le_trans, List, length, map, take, get_or, Contains, ⊎_elim, ap, ap₂, sym, refl, subst, ◌∙◌, arith}
use Rattle.std.proofs.lemmas.Int.{ints}
use Rattle.std.proofs.lemmas.Option.{slice_get_within, get_or_from_slice_get}
use Rattle.std.proofs.lemmas.List.{map-append, length-map, length-take-le, take_more, take_all}
use Rattle.std.proofs.lemmas.List.Elements.{All-cons, All-nil, All-contains}
use Rattle.lattice_algebra.specs.Operator.{Operator, AreWithin, HasEntriesWithin, identity_operator, modulo}
use Rattle.lattice_algebra.specs.Matrix.{Column, origin, ◌+ᶜ◌, times}
use Rattle.std.specs.List.Sorted.{IsStrictlySortedBy}
use Rattle.finite_groups.proofs.Members as lists
use Rattle.lattice_algebra.proofs.Maps.{identity-∘}
use Rattle.exact_ops.specs.Moves.{map_with}
use Rattle.space_groups.proofs.Elements.{space}
use Rattle.space_groups.proofs.ScaledPoints.{moved-identity}
use Rattle.lattice_algebra.specs.Map.{Map, ◌∘◌, identity_map, operator_of, IsShift}
use Rattle.exact_ops.specs.declared.TheConstants.{UNIT}
use Rattle.exact_ops.specs.declared.moves.Move.{Move}
use Rattle.exact_ops.specs.Elements.{map_in}
use Rattle.exact_ops.specs.Narrow.{IsNarrow}
use Rattle.group_closure.specs.declared.TheConstants.{MAX_OPERATORS}
use Rattle.group_closure.specs.GroupList.{IsGroup}
use Rattle.space_groups.specs.Space.{IsElement, ScaledPoint, moved}
use Rattle.space_groups.specs.Averages.{Block, block_of, block_plus, block_scaled, sum_of, IsMean, IsInImage}
use Rattle.space_groups.specs.Search.{IsSub, FixAll}
use Rattle.space_groups.proofs.Means as means
use Rattle.space_groups.proofs.Means.{Averaged}
use Rattle.space_groups.proofs.Growing.{closed_sub}
use Rattle.space_groups.proofs.Rows.{some_members}
use Rattle.site_symmetry.proofs.SpaceOfGroup.{space_of}
use Rattle.affine_sets.specs.Subs.{IsSubList, AreElements, AreShiftsWithin}
use Rattle.affine_sets.proofs.Sums.{sum_push, number_of_sum}

-- an element has a narrow matrix
pub narrow_element : (members : List Operator) → IsGroup members → (e : Map) → IsElement UNIT members e → HasEntriesWithin 2 e.w
unfolding operator_of
narrow_element members group e m = (All-contains IsNarrow members (operator_of UNIT e) group.narrow m).within_two

pub sub_of_list : (members : List Operator) (list : List Map) → IsSubList list → AreElements members list → IsSub UNIT members list
sub_of_list members list s v = record {
  elements = v;
  once = λ i j d l m e. s.apart i j d l m (ap (λ (g : Map). g.w) e);
  identity = (0, slice_get_within list 0 identity_map s.first, get_or_from_slice_get list 0 identity_map identity_map s.first);
  products = s.products;
}

abbrev pub averaged_list : (members : List Operator) (g : IsGroup members) (list : List Map) → IsSub UNIT members list → (a : Block) → IsMean (length members) list a → Averaged (space_of members g) (length members)
averaged_list members g list s a m = record { some = some_members (space_of members g); list = list; closed = closed_sub (space_of members g) list s; average = a; is_mean = m }

pub mean_image : (members : List Operator) (g : IsGroup members) (list : List Map) → IsSub UNIT members list → (a : Block) → IsMean (length members) list a → (z : ScaledPoint) → IsInImage a z ↔ FixAll list z
mean_image members g list s a m z = let v = averaged_list members g list s a m in ((λ i e c. means.image_fixed v z i e c), (λ f. means.fixed_image v z f))

-- ---- the loop over the elements

pub sum_next : (items : List Move) (i : ℕ) (e d : Move) (a b : Block) → i < length items → e ≡ get_or items i d → a ≡ sum_of (map map_in (take i items)) → b ≡ block_plus a (block_of (map_in e)) → b ≡ sum_of (map map_in (take (i + 1) items))
sum_next items i e d a b l q h k =
    k ∙ ap₂ (λ x y. block_plus x (block_of (map_in y))) h q ∙ sym (sum_push (map map_in (take i items)) (map_in (get_or items i d)))
    ∙ ap sum_of (sym (map-append map_in (take i items) (get_or items i d ∷ [])) ∙ ap (map map_in) (sym (take_more items i d l)))

pub sum_small : (items : List Move) (list : List Map) (i : ℕ) (a : Block) → map map_in items ≡ list → length list ≤ MAX_OPERATORS → i < length items → a ≡ sum_of (map map_in (take i items)) → a.n <ℤ pos MAX_OPERATORS
sum_small items list i a e w l h =
    let long : length items ≡ length list = sym (length-map items map_in) ∙ ap length e in
    let n : a.n ≡ pos i = ap (λ (b : Block). b.n) h ∙ number_of_sum (map map_in (take i items)) ∙ ap pos (length-map (take i items) map_in ∙ length-take-le i items (omega (arith, l))) in
    omega (arith, ints, n, long)

pub mean_from_sum : (n : ℕ) (list : List Map) (a b : Block) → a ≡ sum_of list → block_scaled a.n b ≡ block_scaled (pos n) a → IsMean n list b
mean_from_sum n list a b e v =
    ap (λ k. block_scaled k b) (sym (number_of_sum list) ∙ ap (λ (x : Block). x.n) (sym e)) ∙ v ∙ ap (block_scaled (pos n)) e

pub whole_sum : (items inside : List Move) (list : List Map) (i : ℕ) (a : Block) → items ≡ inside → map map_in inside ≡ list → length items ≤ i → a ≡ sum_of (map map_in (take i items)) → a ≡ sum_of list
whole_sum items inside list i a e f l h = h ∙ ap (λ v. sum_of (map map_in v)) (take_all i items l ∙ e) ∙ ap sum_of f

-- ---- the identity alone

trivial_member : (e : Map) → Contains (identity_map ∷ []) e → identity_map ≡ e
trivial_member e c = ⊎_elim (λ p. p) (λ d. lists.not_in_nil e d) (lists.Contains-cases e identity_map [] c)

pub trivial_list : IsSubList (identity_map ∷ [])
unfolding IsStrictlySortedBy
trivial_list = record {
  first = refl;
  sorted = tt;
  apart = λ i j d l m. absurd (omega (arith, l, m));
  products = λ e f p q. subst (Contains (identity_map ∷ [])) (sym (identity-∘ identity_map) ∙ ap₂ (λ x y. x ∘ y) (trivial_member e p) (trivial_member f q)) (lists.Contains-here identity_map []);
  common = (record { n = origin; d = 1; some = omega arith }, λ e c. subst (λ x. moved x (record { n = origin; d = 1; some = omega arith }) ≡ record { n = origin; d = 1; some = omega arith }) (trivial_member e c) (moved-identity (record { n = origin; d = 1; some = omega arith })));
  within = omega arith;
}

pub trivial_elements : (members : List Operator) → IsGroup members → AreElements members (identity_map ∷ [])
trivial_elements members g = All-cons (IsElement UNIT members) identity_map [] ((space (space_of members g)).one_in) (All-nil (IsElement UNIT members))

no_cells : (k : ℤ) → pos 0 ≡ pos 0 +ℤ pos UNIT *ℤ k → unsigned_abs k ≤ 0
no_cells k e = omega (arith, ints)

no_shift_of_identity : (k : Column) → IsShift UNIT identity_map k → AreWithin 0 k.x k.y k.z
unfolding ◌+ᶜ◌ times modulo
no_shift_of_identity k h = record { first = no_cells k.x (ap (λ (c : Column). c.x) h); second = no_cells k.y (ap (λ (c : Column). c.y) h); third = no_cells k.z (ap (λ (c : Column). c.z) h) }

pub trivial_shifts : AreShiftsWithin 0 (identity_map ∷ [])
trivial_shifts = All-cons (λ (e : Map). (k : Column) → IsShift UNIT e k → AreWithin 0 k.x k.y k.z) identity_map [] no_shift_of_identity (All-nil _)

-- shifts that are within a size are within a greater one
pub shifts_wider : (a b : ℕ) (list : List Map) → a ≤ b → AreShiftsWithin a list → AreShiftsWithin b list
shifts_wider a b list l h j d m k s = let w = h j d m k s in record { first = le_trans w.first l; second = le_trans w.second l; third = le_trans w.third l }

no_shift : map_with identity_operator (pos 0 ∷ pos 0 ∷ pos 0 ∷ []) ≡ identity_map
unfolding ◌+ᶜ◌ times
no_shift = refl

pub identity_move : (op : Operator) → op ≡ identity_operator → map_with op (pos 0 ∷ pos 0 ∷ pos 0 ∷ []) ≡ identity_map
identity_move op e = ap (λ f. map_with f (pos 0 ∷ pos 0 ∷ pos 0 ∷ [])) e ∙ no_shift

pub trivial_items : (items old : List Move) (m : Move) → items ≡ old ++ m ∷ [] → old ≡ [] → map_in m ≡ identity_map → map map_in items ≡ identity_map ∷ []
trivial_items items old m e o i = ap (map map_in) (e ∙ ap (λ l. l ++ m ∷ []) o) ∙ ap (λ x. x ∷ []) i
