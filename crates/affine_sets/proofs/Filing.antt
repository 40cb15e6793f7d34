-- The elements that are held, as they are filed by the places of their operators.
use Rattle.std.proofs.Common.{◌≡◌, ◌≢◌, ◌++◌, ◌∷◌, [], ◌+◌, ◌-◌, ◌<◌, ℕ, List, Option, None, Some, length, map, set, replicate, get_or, slice_get, Contains, inl, inr, ⊎_elim, ap, sym, subst, ◌∙◌, arith, length-append}
use Rattle.std.proofs.lemmas.Bool.{cases_lt, cases_eq}
use Rattle.std.proofs.lemmas.Option.{none-some, same_Some, slice_get_within, slice_get-get_or}
use Rattle.std.proofs.lemmas.List.{length-map, map-append, get_or-map, get_or_past, get_or-append-add, get_or_append_left, get_or-set_same, get_or-set_other, get_or-replicate, length-replicate}
use Rattle.std.proofs.lemmas.Option.{get_or_from_slice_get}
use Rattle.std.proofs.Math.Seq.{get_or-append_seam}
use Rattle.affine_sets.specs.declared.growth.Placed.{Placed}
use Rattle.affine_sets.specs.declared.numbers.Offset.{Offset}
use Rattle.affine_sets.specs.Filing.{none_and_shifts, filed_shifts, AreFiled}
use Rattle.affine_sets.specs.Growth.{Holds, Puts}
use Rattle.affine_sets.proofs.PlacedMaps.{room_for_one}
use Rattle.affine_sets.proofs.Putting.{place_in, pushed_cases}

-- what stands at a place
pub filed_at : (list : List Placed) (places : List ℕ) (p : ℕ) → get_or (filed_shifts list places) p None ≡ get_or (none_and_shifts list) (get_or places p 0) None
filed_at list places p =
    let at : ℕ → Option Offset = λ n. get_or (none_and_shifts list) n None in
    ⊎_elim
    (λ l. get_or-map at places p 0 None l)
    (λ l. get_or_past (filed_shifts list places) p None (omega (arith, l, length-map places at)) ∙ ap at (sym (get_or_past places p 0 l)))
    (cases_lt p (length places))

pub shift_of : (list : List Placed) (i n : ℕ) (x : Placed) → n ≡ 1 + i → slice_get list i ≡ Some x → get_or (none_and_shifts list) n None ≡ Some x.shift
shift_of list i n x is e =
    let shift : Placed → Option Offset = λ x. Some x.shift in
    let none : List (Option Offset) = None ∷ [] in
    ap (λ m. get_or (none_and_shifts list) m None) is ∙ get_or-append-add none (map shift list) i None ∙ get_or-map shift list i x None (slice_get_within list i x e) ∙ ap shift (get_or_from_slice_get list i x x e)

-- what is read there
pub read_at : (list : List Placed) (places : List ℕ) → AreFiled list places → (p i n : ℕ) (x : Placed) → n ≡ get_or places p 0 → n ≢ 0 → i ≡ n - 1 → x ≡ get_or list i x → Some x.shift ≡ get_or (filed_shifts list places) p None
read_at list places f p i n x is some last e =
    let after : n ≡ 1 + i = omega (arith, some, last) in
    sym (filed_at list places p ∙ shift_of list i (get_or places p 0) x (sym is ∙ after) (slice_get-get_or list i x (omega (arith, f.within p, is, after)) ∙ ap Some (sym e)))

-- ---- none

pub none_filed : (n : ℕ) → AreFiled [] (replicate n 0)
none_filed n = record {
  within = λ p. ⊎_elim
      (λ l. omega (arith, get_or-replicate {A = ℕ} n p 0 0 l))
      (λ l. omega (arith, get_or_past {X = ℕ} (replicate n 0) p 0 (omega (arith, l, length-replicate {A = ℕ} n 0))))
      (cases_lt p n);
  filed = λ i x e. absurd (omega (arith, slice_get_within [] i x e));
}

pub none_held : (n p : ℕ) (k : Offset) → Holds (filed_shifts [] (replicate n 0)) p k → ⊥
none_held n p k h =
    let zero : get_or (replicate n 0) p 0 ≡ 0 = omega (arith, (none_filed n).within p) in
    none-some k (sym (filed_at [] (replicate n 0) p ∙ ap (λ m. get_or (none_and_shifts []) m None) zero) ∙ h)

-- ---- one more

module _ (list : List Placed) (places : List ℕ) (f : AreFiled list places) (x : Placed) (inside : x.place < length places) (fresh : get_or (filed_shifts list places) x.place None ≡ None) where
  open f use {within, filed}

  -- nothing is filed at the place of x
  free : get_or places x.place 0 ≡ 0
  free =
      let n = get_or places x.place 0 in
      ⊎_elim
      (λ l.
      let i = n - 1 in
      let here = shift_of list i n (get_or list i x) (omega (arith, l)) (slice_get-get_or list i x (omega (arith, l, within x.place))) in
      absurd (none-some (get_or list i x).shift (sym fresh ∙ filed_at list places x.place ∙ here)))
      (λ l. omega (arith, l))
      (cases_lt 0 n)

  elsewhere : (y : Placed) → Contains list y → y.place ≢ x.place
  elsewhere y c e =
      let a = place_in list y c in
      let none : get_or places y.place 0 ≡ 0 = ap (λ p. get_or places p 0) e ∙ free in
      omega (arith, none, filed a.0 y a.2)

  pub room_for : length list < length places
  room_for = room_for_one (length places) list x
      (λ i d l.
      let y = get_or list i d in
      let at = filed i y (slice_get-get_or list i d l) in
      ⊎_elim (λ m. m) (λ m. absurd (omega (arith, at, get_or_past places y.place 0 m))) (cases_lt y.place (length places)))
      (λ i j d l m same.
      let one = filed i (get_or list i d) (slice_get-get_or list i d (omega (arith, l, m))) in
      let other = filed j (get_or list j d) (slice_get-get_or list j d m) in
      omega (arith, l, one, other, ap (λ p. get_or places p 0) same))
      inside elsewhere

  filed_one : AreFiled (list ++ x ∷ []) (set places x.place (length list + 1))
  filed_one = record {
    within = λ p. elim (cases_eq p x.place) [
      | inl s ↦ omega (arith, ap (λ q. get_or (set places x.place (length list + 1)) q 0) s, get_or-set_same places x.place (length list + 1) 0 inside, length-append list (x ∷ []))
      | inr s ↦ omega (arith, get_or-set_other places x.place p (length list + 1) 0 s, within p, length-append list (x ∷ []))
    ];
    filed = λ i y e. ⊎_elim
        (λ a. get_or-set_other places x.place y.place (length list + 1) 0 (elsewhere y (i, slice_get_within list i y a, get_or_from_slice_get list i y y a)) ∙ filed i y a)
        (λ a. ap (λ (z : Placed). get_or (set places x.place (length list + 1)) z.place 0) (sym a.1) ∙ get_or-set_same places x.place (length list + 1) 0 inside ∙ omega (arith, a.0))
        (pushed_cases list x i y e);
  }

  abbrev new_view : List (Option Offset)
  new_view = filed_shifts (list ++ x ∷ []) (set places x.place (length list + 1))

  at_same : get_or new_view x.place None ≡ Some x.shift
  at_same = filed_at (list ++ x ∷ []) (set places x.place (length list + 1)) x.place
      ∙ shift_of (list ++ x ∷ []) (length list) (get_or (set places x.place (length list + 1)) x.place 0) x (omega (arith, get_or-set_same places x.place (length list + 1) 0 inside))
      (slice_get-get_or (list ++ x ∷ []) (length list) x (omega (arith, length-append list (x ∷ []))) ∙ ap Some (get_or-append_seam list x [] x))

  at_other : (p : ℕ) → p ≢ x.place → get_or new_view p None ≡ get_or (filed_shifts list places) p None
  at_other p s =
      let n = get_or places p 0 in
      let shift : Placed → Option Offset = λ x. Some x.shift in
      let none : Option Offset = None in
      filed_at (list ++ x ∷ []) (set places x.place (length list + 1)) p
      ∙ ap (λ m. get_or (none_and_shifts (list ++ x ∷ [])) m None) (get_or-set_other places x.place p (length list + 1) 0 s)
      ∙ ap (λ v. get_or (none ∷ v) n None) (map-append shift list (x ∷ []))
      ∙ get_or_append_left (none_and_shifts list) (Some x.shift ∷ []) None n (omega (arith, within p, length-map list shift))
      ∙ sym (filed_at list places p)

  puts_one : Puts (filed_shifts list places) new_view x
  puts_one p k = (
    (λ h. elim (cases_eq p x.place) [
      | inl s ↦ inr (s, same_Some k x.shift (sym h ∙ ap (λ q. get_or new_view q None) s ∙ at_same))
      | inr s ↦ inl (sym (at_other p s) ∙ h)
    ]),
    (λ h. ⊎_elim
        (λ o. at_other p (λ s. none-some k (sym fresh ∙ ap (λ q. get_or (filed_shifts list places) q None) (sym s) ∙ o)) ∙ o)
        (λ e. ap (λ q. get_or new_view q None) e.0 ∙ at_same ∙ ap Some (sym e.1))
        h),
  )

  -- as the code writes it
  module _ (more : List Placed) (at n : ℕ) (add : more ≡ list ++ x ∷ []) (place : at ≡ x.place) (count : n ≡ length list + 1) where
    pub filed_more : AreFiled more (set places at n)
    filed_more = rw (add, place, count) filed_one

    pub puts_more : Puts (filed_shifts list places) (filed_shifts more (set places at n)) x
    puts_more =
        let same : filed_shifts more (set places at n) ≡ new_view = λ i. filed_shifts (add i) (set places (place i) (count i)) in
        subst (λ v. Puts (filed_shifts list places) v x) (sym same) puts_one
