-- How one of the firsts leads to other blocks: by what comes after it, all of it products of the given maps.
use Rattle.std.proofs.Common.{◌≡◌, ◌<◌, ◌≤◌, ◌+◌, ◌*◌, ◌⊎◌, ℕ, List, Option, Some, length, map, get_or, slice_get, Contains, ⊎_elim, ap, sym, refl, ◌∙◌, subst, arith}
use Rattle.std.proofs.lemmas.Bool.{cases_lt}
use Rattle.std.proofs.lemmas.Option.{get_or_from_slice_get}
use Rattle.std.proofs.lemmas.List.Elements.{All-contains}
use Rattle.finite_groups.proofs.Members as lists
use Rattle.lattice_algebra.specs.Operator.{Operator, AreWithin}
use Rattle.lattice_algebra.specs.Map.{Map, ◌∘◌}
use Rattle.exact_ops.specs.declared.TheConstants.{MAX_SHIFT}
use Rattle.affine_sets.specs.declared.TheConstants.{MAX_GROWN_SHIFT}
use Rattle.affine_sets.specs.declared.growth.Placed.{Placed}
use Rattle.affine_sets.specs.declared.numbers.Offset.{Offset}
use Rattle.affine_sets.specs.Growth.{placed_map, Holds, HoldsMap, IsInBlock, IsGrowing, Extends, IsProduct, given_maps, AreProducts, IsTorn}
use Rattle.affine_sets.proofs.KeySizes.{row_wider}
use Rattle.affine_sets.proofs.Products.{given_product, product_after, new_given, old_given}
use Rattle.affine_sets.proofs.Putting.{AreTorn, contained_at, place_in}

-- the block of x, which is a first after a given map
block_products : (members : List Operator) (old : List Placed) (e r x : Placed) (b y : Map) → IsProduct (given_maps members old e) (placed_map members r) → Contains (given_maps members old e) b → placed_map members x ≡ placed_map members r ∘ b → IsInBlock members old x y → IsProduct (given_maps members old e) y
block_products members old e r x b y p c value i =
    let given = given_maps members old e in
    let H = placed_map members i.0 in
    subst (IsProduct given) (ap (λ v. H ∘ v) (sym value) ∙ i.2)
    (product_after given H (placed_map members r ∘ b) (given_product given H (old_given members old e i.0 i.1)) (product_after given (placed_map members r) b p (given_product given b c)))

first_holds : (members : List Operator) (old firsts : List Placed) (held : List (Option Offset)) (r : Placed) → IsGrowing members old held firsts → Contains firsts r → Holds held r.place r.shift
first_holds members old firsts held r g c = All-contains (λ (v : Placed). Holds held v.place v.shift) firsts r g.firsts_held c

pub first_small : (members : List Operator) (old firsts : List Placed) (held : List (Option Offset)) (r : Placed) → IsGrowing members old held firsts → Contains firsts r → (r.place < length members) × AreWithin MAX_SHIFT r.shift.x r.shift.y r.shift.z
first_small members old firsts held r g c = g.small r.place r.shift (first_holds members old firsts held r g c)

first_held : (members : List Operator) (old firsts : List Placed) (held : List (Option Offset)) (r : Placed) → IsGrowing members old held firsts → Contains firsts r → HoldsMap members held (placed_map members r)
first_held members old firsts held r g c = (r, (first_small members old firsts held r g c).0, first_holds members old firsts held r g c, refl)

-- ---- what a block that was put adds

pub record HasPut (members : List Operator) (old firsts more : List Placed) (held new : List (Option Offset)) (x : Placed) : Type 0 where
  pub growing : IsGrowing members old new more
  pub extends : Extends firsts more
  pub keeps : (y : Map) → HoldsMap members held y → HoldsMap members new y
  pub has : HoldsMap members new (placed_map members x)
  pub adds : (y : Map) → HoldsMap members new y → HoldsMap members held y ⊎ IsInBlock members old x y

products_stay : (members : List Operator) (old firsts more : List Placed) (held new : List (Option Offset)) (e r x : Placed) (b : Map) → HasPut members old firsts more held new x → AreProducts members (given_maps members old e) held → IsProduct (given_maps members old e) (placed_map members r) → Contains (given_maps members old e) b
    → placed_map members x ≡ placed_map members r ∘ b → AreProducts members (given_maps members old e) new
products_stay members old firsts more held new e r x b put was p c value y h =
    ⊎_elim (λ i. was y i) (λ i. block_products members old e r x b y p c value i) (put.adds y h)

-- the blocks of r after the new element and after the first i of the old ones are put
pub record IsLeading (members : List Operator) (old begun firsts : List Placed) (before held : List (Option Offset)) (e r : Placed) (i : ℕ) : Type 0 where
  pub growing : IsGrowing members old held firsts
  pub products : AreProducts members (given_maps members old e) held
  pub extends : Extends begun firsts
  pub keeps : (y : Map) → HoldsMap members before y → HoldsMap members held y
  pub by_new : HoldsMap members held (placed_map members r ∘ placed_map members e)
  pub by_old : (j : ℕ) (h : Placed) → j < i → slice_get old j ≡ Some h → HoldsMap members held (placed_map members r ∘ placed_map members h)

pub leading_none : (members : List Operator) (old firsts more : List Placed) (held new : List (Option Offset)) (e r x : Placed) → IsGrowing members old held firsts → AreProducts members (given_maps members old e) held → Contains firsts r → placed_map members x ≡ placed_map members r ∘ placed_map members e
    → HasPut members old firsts more held new x → IsLeading members old firsts more held new e r 0
leading_none members old firsts more held new e r x g was c value put = record {
  growing = put.growing;
  products = products_stay members old firsts more held new e r x (placed_map members e) put was (was _ (first_held members old firsts held r g c)) (new_given members old e) value;
  extends = put.extends;
  keeps = put.keeps;
  by_new = subst (HoldsMap members new) value put.has;
  by_old = λ j h l s. absurd (omega (arith, l));
}

pub leading_more : (members : List Operator) (old begun firsts more : List Placed) (before held new : List (Option Offset)) (e r x h : Placed) (i : ℕ) → IsLeading members old begun firsts before held e r i → Contains firsts r → slice_get old i ≡ Some h → placed_map members x ≡ placed_map members r ∘ placed_map members h
    → HasPut members old firsts more held new x → IsLeading members old begun more before new e r (i + 1)
leading_more members old begun firsts more before held new e r x h i was c at value put = record {
  growing = put.growing;
  products = products_stay members old firsts more held new e r x (placed_map members h) put was.products (was.products _ (first_held members old firsts held r was.growing c)) (old_given members old e h (contained_at old i h at)) value;
  extends = λ j f s. put.extends j f (was.extends j f s);
  keeps = λ y k. put.keeps y (was.keeps y k);
  by_new = put.keeps _ was.by_new;
  by_old = λ j f l s. ⊎_elim
      (λ b. put.keeps _ (was.by_old j f b s))
      (λ b.
      let last : j ≡ i = omega (arith, l, b) in
      let same : h ≡ f = sym (get_or_from_slice_get old i h h at) ∙ ap (λ v. get_or old v h) (sym last) ∙ get_or_from_slice_get old j f h s in
      subst (HoldsMap members new) (value ∙ ap (λ (v : Placed). placed_map members r ∘ placed_map members v) same) put.has)
      (cases_lt j i);
}

-- r after each given map is held
pub led_by_all : (members : List Operator) (old begun firsts : List Placed) (before held : List (Option Offset)) (e r : Placed) (i : ℕ) → IsLeading members old begun firsts before held e r i → length old ≤ i → (b : Map) → Contains (given_maps members old e) b → HoldsMap members held (placed_map members r ∘ b)
led_by_all members old begun firsts before held e r i p l b c =
    ⊎_elim
    (λ q. subst (λ v. HoldsMap members held (placed_map members r ∘ v)) q p.by_new)
    (λ q.
    let h = lists.Contains-from_map (placed_map members) b old q in
    let a = place_in old h.0 h.1 in
    subst (λ v. HoldsMap members held (placed_map members r ∘ v)) h.2 (p.by_old a.0 h.0 (omega (arith, l, a.1)) a.2))
    (lists.Contains-cases b (placed_map members e) (map (placed_map members) old) c)

-- two that stand apart are products
pub torn_products : (members : List Operator) (old firsts : List Placed) (held : List (Option Offset)) (e r x : Placed) (b : Map) → IsGrowing members old held firsts → AreProducts members (given_maps members old e) held → Contains firsts r → Contains (given_maps members old e) b → placed_map members x ≡ placed_map members r ∘ b
    → AreTorn members old held x → IsTorn (given_maps members old e)
torn_products members old firsts held e r x b g was c d value t =
    let block = λ (y : Map) (i : IsInBlock members old x y). block_products members old e r x b y (was _ (first_held members old firsts held r g c)) d value i in
    record {
      one = t.0;
      other = t.1;
      is_product = ⊎_elim (λ h. was t.0 h) (λ i. block t.0 i) t.2;
      is_product_too = block t.1 t.3;
      rotation = t.4;
      differ = t.5;
    }

-- ---- sizes

pub next_size : (j n : ℕ) (x : Placed) → j < n → AreWithin ((j + 1) * 7000000 + 6 * MAX_GROWN_SHIFT + 8) x.shift.x x.shift.y x.shift.z → AreWithin ((n + 1) * 7000000) x.shift.x x.shift.y x.shift.z
next_size j n x l s = row_wider ((j + 1) * 7000000 + 6 * MAX_GROWN_SHIFT + 8) ((n + 1) * 7000000) _ _ _ (omega (arith, l)) s
