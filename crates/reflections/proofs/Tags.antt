-- What setting tags does to the rows of a box.
use Rattle.std.proofs.Common.{◌≡◌, ℕ, ◌≤◌, ◌↔◌, ◌⊎◌, Bool, true, List, length, set, take, slice_get, Some, inl, inr, ⊎_elim, sym, ◌∙◌, subst, arith, Contains, negsuc}
use Rattle.std.proofs.lemmas.List.{length-set, take_all}
use Rattle.finite_groups.proofs.Members as lists
use Rattle.lattice_algebra.specs.Matrix.{Matrix, identity, scaled}
use Rattle.lattice_algebra.specs.Operator.{Operator}
use Rattle.group_closure.specs.GroupList.{IsGroup}
use Rattle.group_closure.proofs.Places.{contains_at}
use Rattle.phase_rules.specs.declared.pairs.Pairs.{Pairs}
use Rattle.phase_rules.specs.declared.pairs.Pairs.TheVariants.{Friedel, Apart}
use Rattle.phase_rules.specs.Rows.{Row, ◌·ʳ◌, neg_row}
use Rattle.phase_rules.specs.Equivalent.{IsSameReflection, AreEquivalent}
use Rattle.phase_rules.specs.Halves.{HaveOpposites}
use Rattle.group_closure.proofs.Places.{EndsRun, same_matrix}
use Rattle.phase_rules.proofs.Opposites.{earlier_or_later}
use Rattle.phase_rules.proofs.BothPairs.{by_either, by_front}
use Rattle.tag_walks.proofs.Walks as walks
use Rattle.reflections.specs.Boxes.{Box, IsInBox, place_of, places}
use Rattle.reflections.specs.Walks.{IsTagged}
use Rattle.reflections.proofs.Boxes.{place_within, same_row, opposite_in, opposite_back}

module _ (box : Box) where
  -- one tag more
  pub set_one : (tags : List Bool) (at : ℕ) (r h : Row) → length tags ≡ places box → IsInBox box r → at ≡ place_of box r → IsInBox box h → IsTagged box (set tags at true) h ↔ (IsTagged box tags h ⊎ (h ≡ r))
  set_one tags at r h n i e j = walks.set_one (IsInBox box) (place_of box) (same_row box) tags at r h (omega (arith, n, place_within box r i)) i e j

  -- a row and its opposite
  pub set_both : (tags : List Bool) (at back : ℕ) (r : Row) → length tags ≡ places box → IsInBox box r → at ≡ place_of box r → back ≡ place_of box (neg_row r)
      → (h : Row) → IsInBox box h → IsTagged box (set (set tags at true) back true) h ↔ (IsTagged box tags h ⊎ IsSameReflection Friedel r h)
  set_both tags at back r n i e f h j =
      let a = set_one tags at r h n i e j in
      let b = set_one (set tags at true) back (neg_row r) h (length-set tags at true ∙ n) (opposite_in box r i) f j in (
        (λ t. ⊎_elim (λ u. ⊎_elim (λ v. inl v) (λ q. inr (inl q)) (a.0 u)) (λ q. inr (inr q)) (b.0 t)),
        (λ s. ⊎_elim (λ t. b.1 (inl (a.1 (inl t)))) (λ q. ⊎_elim (λ p. b.1 (inl (a.1 (inr p)))) (λ p. b.1 (inr p)) q) s),
      )

  -- a row outside the box tags nothing
  pub set_none : (pairs : Pairs) (r : Row) (Tagged : Type 0) → (IsInBox box r → ⊥) → (h : Row) → IsInBox box h → Tagged ↔ (Tagged ⊎ IsSameReflection pairs r h)
  set_none pairs r Tagged n h j = ((λ t. inl t), (λ s. ⊎_elim (λ t. t) (λ q. absurd (n (by pairs q))) s))
    where
      by : (p : Pairs) → IsSameReflection p r h → IsInBox box r
      by Apart q = subst (IsInBox box) q j
      by Friedel (inl q) = subst (IsInBox box) q j
      by Friedel (inr q) = opposite_back box r (subst (IsInBox box) q j)

-- ---- the tags of a class, member by member

-- of the rows of the box these are tagged: those that were, those that the first i members make of h; and only rows that were, or
-- that are equivalent to h
pub record AreReached (pairs : Pairs) (members : List Operator) (box : Box) (old new : List Bool) (h : Row) (i : ℕ) : Type 0 where
  pub sound : (g : Row) → IsInBox box g → IsTagged box new g → IsTagged box old g ⊎ AreEquivalent pairs members h g
  pub kept : (g : Row) → IsInBox box g → IsTagged box old g → IsTagged box new g
  pub reached : (g : Row) → IsInBox box g → AreEquivalent pairs (take i members) h g → IsTagged box new g

-- what tagging with one matrix gives
abbrev pub AreTagged : Pairs → Box → List Bool → List Bool → Row → Matrix → Type 0
AreTagged pairs box old new h w = (g : Row) → IsInBox box g → IsTagged box new g ↔ (IsTagged box old g ⊎ IsSameReflection pairs (h ·ʳ w) g)

module _ (pairs : Pairs) (members : List Operator) (box : Box) (old : List Bool) (h : Row) where
  pub reached_none : AreReached pairs members box old old h 0
  reached_none = record {
    sound = λ g j s. inl s;
    kept = λ g j s. s;
    reached = λ g j a. lists.not_in_nil a.by a.member;
  }

  pub reached_more : (tags new : List Bool) (i end : ℕ) (f : Operator) → slice_get members i ≡ Some f → EndsRun members i end → AreReached pairs members box old tags h i → AreTagged pairs box tags new h f.w → AreReached pairs members box old new h end
  reached_more tags new i end f e ends r t = record {
    sound = λ g j s. ⊎_elim (λ a. r.sound g j a) (λ a. inr (record { by = f; member = contains_at members f i e; same = a })) ((t g j).0 s);
    kept = λ g j s. (t g j).1 (inl (r.kept g j s));
    reached = λ g j a.
        ⊎_elim
        (λ b. (t g j).1 (inl (r.reached g j (record { by = a.by; member = b; same = a.same }))))
        (λ b.
        let same : a.by.w ≡ f.w = same_matrix members i end b.0 f a.by ends e b.3 b.1 b.2 in
        (t g j).1 (inr (subst (λ m. IsSameReflection pairs (h ·ʳ m) g) same a.same)))
        (earlier_or_later members i end a.by a.member);
  }

  pub reached_all : (new : List Bool) (i : ℕ) → length members ≤ i → AreReached pairs members box old new h i → (g : Row) → IsInBox box g → IsTagged box new g ↔ (IsTagged box old g ⊎ AreEquivalent pairs members h g)
  reached_all new i l r g j = (
    r.sound g j,
    (λ s. ⊎_elim (r.kept g j) (λ a. r.reached g j (subst (λ xs. AreEquivalent pairs xs h g) (sym (take_all i members l)) a)) s),
  )

-- with the first i members, where each later one has the opposite matrix of one of these, and j has the matrix -1
module _ (members : List Operator) (box : Box) (old : List Bool) (h : Row) (group : IsGroup members) (j : Operator) (member : Contains members j) (inverts : j.w ≡ scaled (negsuc 0) identity) where
  pub reached_by_half : (pairs : Pairs) (new : List Bool) (i : ℕ) → HaveOpposites members i → AreReached Friedel members box old new h i → (g : Row) → IsInBox box g → IsTagged box new g ↔ (IsTagged box old g ⊎ AreEquivalent pairs members h g)
  reached_by_half pairs new i opposites r g k = (
    (λ s. ⊎_elim (λ a. inl a) (λ a. inr (by_either members h group j member inverts pairs g a)) (r.sound g k s)),
    (λ s.
        ⊎_elim
        (r.kept g k)
        (λ a. r.reached g k (by_front members h group j member inverts pairs i g opposites a))
        s),
  )
