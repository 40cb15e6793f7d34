-- Operators that are filed by buckets.
use Rattle.std.proofs.Common.{◌≡◌, ◌≢◌, ◌⊎◌, ℕ, zero, suc, Contains, ◌+◌, ◌-◌, ◌<◌, ◌≤◌, Some, List, [], ◌∷◌, ◌++◌, length, get_or, set, refl, sym, ap, ◌∙◌, subst, arith, inl, inr, ⊎_elim, length-append, slice_get, get_or-set_same, get_or-set_other}
use Rattle.std.proofs.Math.ListN.{length-set, replicate, length-replicate}
use Rattle.std.proofs.lemmas.Bool.{cases_lt}
use Rattle.std.proofs.lemmas.Option.{slice_get_within}
use Rattle.lattice_algebra.specs.Operator.{Operator}
use Rattle.group_closure.specs.declared.TheConstants.{MAX_OPERATORS}
use Rattle.group_closure.specs.Buckets.{bucket_of, AreFiled}
use Rattle.group_closure.proofs.Origins.{one_there, get_before, get_last}
use Rattle.group_closure.proofs.Tables.{place_of}

same_or_not : (a b : ℕ) → (a ≡ b) ⊎ (a ≢ b)
same_or_not a b = ⊎_elim (λ l. inr (λ e. omega arith)) (λ l. ⊎_elim (λ m. inr (λ e. omega arith)) (λ m. inl (omega arith)) (cases_lt b a)) (cases_lt a b)

-- an operator of a list with one more is an old one or the last
old_or_last : (members : List Operator) (f g : Operator) (k : ℕ) → slice_get (members ++ f ∷ []) k ≡ Some g → (slice_get members k ≡ Some g) ⊎ ((k ≡ length members) × (f ≡ g))
old_or_last members f g k e =
    ⊎_elim
    (λ l. inl (get_before members (f ∷ []) k g l e))
    (λ l.
    let n : length members ≡ k = omega (arith, l, slice_get_within (members ++ f ∷ []) k g e, length-append members (f ∷ [])) in
    inr (sym n, one_there (members ++ f ∷ []) k f g (subst (λ j. slice_get (members ++ f ∷ []) j ≡ Some f) n (get_last members f)) e))
    (cases_lt k (length members))

module _ (members : List Operator) (heads before : List ℕ) (f : Operator) (w : AreFiled members heads before) (room : length members ≤ MAX_OPERATORS) (few : bucket_of f < 256) where
  abbrev n : ℕ
  n = length members

  abbrev b : ℕ
  b = bucket_of f

  abbrev heads_after : List ℕ
  heads_after = set heads (bucket_of f) (length members + 1)

  abbrev before_after : List ℕ
  before_after = set before (length members) (get_or heads (bucket_of f) 0)

  head_at : get_or heads_after b 0 ≡ n + 1
  head_at = get_or-set_same heads b (n + 1) 0 (omega (arith, w.size_heads))

  head_other : (c : ℕ) → c ≢ b → get_or heads_after c 0 ≡ get_or heads c 0
  head_other c m = get_or-set_other heads b c (n + 1) 0 m

  before_at : get_or before_after n 0 ≡ get_or heads b 0
  before_at = get_or-set_same before n (get_or heads b 0) 0 (omega (arith, w.size_before))

  before_other : (j : ℕ) → j ≢ n → get_or before_after j 0 ≡ get_or before j 0
  before_other j m = get_or-set_other before n j (get_or heads b 0) 0 m

  within_after : (c : ℕ) → get_or heads_after c 0 ≤ length (members ++ f ∷ [])
  within_after c =
      ⊎_elim
      (λ e. omega (arith, ap (λ j. get_or heads_after j 0) e ∙ head_at, length-append members (f ∷ [])))
      (λ m. omega (arith, head_other c m, w.within c, length-append members (f ∷ [])))
      (same_or_not c b)

  last_after : (k : ℕ) (g : Operator) → slice_get (members ++ f ∷ []) k ≡ Some g → k < get_or heads_after (bucket_of g) 0
  last_after k g e =
      ⊎_elim
      (λ old.
      ⊎_elim
      (λ s. omega (arith, ap (λ j. get_or heads_after j 0) s ∙ head_at, slice_get_within members k g old))
      (λ m. omega (arith, head_other (bucket_of g) m, w.last k g old))
      (same_or_not (bucket_of g) b))
      (λ last. omega (arith, ap (λ h. get_or heads_after (bucket_of h) 0) (sym last.1) ∙ head_at, last.0))
      (old_or_last members f g k e)

  last_in_after : (c : ℕ) (g : Operator) → 0 < get_or heads_after c 0 → slice_get (members ++ f ∷ []) (get_or heads_after c 0 - 1) ≡ Some g → bucket_of g ≡ c
  last_in_after c g p e =
      ⊎_elim
      (λ s.
      let i : get_or heads_after c 0 - 1 ≡ n = omega (arith, ap (λ j. get_or heads_after j 0) s ∙ head_at) in
      ap bucket_of (one_there (members ++ f ∷ []) n g f (ap (λ j. slice_get (members ++ f ∷ []) j) (sym i) ∙ e) (get_last members f)) ∙ sym s)
      (λ m.
      let i : get_or heads_after c 0 ≡ get_or heads c 0 = head_other c m in
      let q : 0 < get_or heads c 0 = omega (arith, p, i) in
      w.last_in c g q (get_before members (f ∷ []) (get_or heads c 0 - 1) g (omega (arith, q, w.within c)) (subst (λ j. slice_get (members ++ f ∷ []) (j - 1) ≡ Some g) i e)))
      (same_or_not c b)

  falls_after : (j : ℕ) → j < length (members ++ f ∷ []) → get_or before_after j 0 ≤ j
  falls_after j l =
      ⊎_elim
      (λ s. omega (arith, ap (λ i. get_or before_after i 0) s ∙ before_at, w.within b, s))
      (λ m. omega (arith, before_other j m, w.falls j (omega (arith, l, length-append members (f ∷ []), m))))
      (same_or_not j n)

  next_after : (j k : ℕ) (g h : Operator) → k < j → slice_get (members ++ f ∷ []) j ≡ Some g → slice_get (members ++ f ∷ []) k ≡ Some h → bucket_of h ≡ bucket_of g → k < get_or before_after j 0
  next_after j k g h l p q s =
      ⊎_elim
      (λ old.
      let m = slice_get_within members j g old in
      omega (arith, before_other j (λ e. omega (arith, m, e)), w.next j k g h l old (get_before members (f ∷ []) k h (omega (arith, l, m)) q) s))
      (λ last.
      let there = get_before members (f ∷ []) k h (omega (arith, l, last.0)) q in
      omega (arith, ap (λ i. get_or before_after i 0) last.0 ∙ before_at, ap (λ i. get_or heads i 0) (s ∙ ap bucket_of (sym last.1)), w.last k h there))
      (old_or_last members f g j p)

  next_in_after : (j : ℕ) (g h : Operator) → slice_get (members ++ f ∷ []) j ≡ Some g → 0 < get_or before_after j 0 → slice_get (members ++ f ∷ []) (get_or before_after j 0 - 1) ≡ Some h → bucket_of h ≡ bucket_of g
  next_in_after j g h p q e =
      ⊎_elim
      (λ old.
      let m = slice_get_within members j g old in
      let i : get_or before_after j 0 ≡ get_or before j 0 = before_other j (λ s. omega (arith, m, s)) in
      w.next_in j g h old (omega (arith, q, i)) (get_before members (f ∷ []) (get_or before j 0 - 1) h (omega (arith, q, i, w.falls j m, m)) (subst (λ v. slice_get (members ++ f ∷ []) (v - 1) ≡ Some h) i e)))
      (λ last.
      let i : get_or before_after j 0 ≡ get_or heads b 0 = ap (λ v. get_or before_after v 0) last.0 ∙ before_at in
      let r : 0 < get_or heads b 0 = omega (arith, q, i) in
      w.last_in b h r (get_before members (f ∷ []) (get_or heads b 0 - 1) h (omega (arith, r, w.within b)) (subst (λ v. slice_get (members ++ f ∷ []) (v - 1) ≡ Some h) i e)) ∙ ap bucket_of last.1)
      (old_or_last members f g j p)

  pub filed_more : AreFiled (members ++ f ∷ []) heads_after before_after
  filed_more = record {
    size_heads = length-set _ _ _ ∙ w.size_heads;
    size_before = length-set _ _ _ ∙ w.size_before;
    within = within_after;
    last = last_after;
    last_in = last_in_after;
    falls = falls_after;
    next = next_after;
    next_in = next_in_after;
  }

-- ---- the search

-- f stands nowhere but before the candidate, or at it
pub record IsCandidate (members : List Operator) (f : Operator) (c : ℕ) : Type 0 where
  pub within : c ≤ length members
  pub in_bucket : (g : Operator) → 0 < c → slice_get members (c - 1) ≡ Some g → bucket_of g ≡ bucket_of f
  pub all : (k : ℕ) → slice_get members k ≡ Some f → k < c

module _ (members : List Operator) (heads before : List ℕ) (f : Operator) (w : AreFiled members heads before) where
  pub candidate_next : (c : ℕ) (m : Operator) → IsCandidate members f c → 0 < c → slice_get members (c - 1) ≡ Some m → m ≢ f → IsCandidate members f (get_or before (c - 1) 0)
  candidate_next c m i p at n =
      let l = slice_get_within members (c - 1) m at in
      record {
        within = omega (arith, w.falls (c - 1) l, l);
        in_bucket = λ g q e. w.next_in (c - 1) m g at q e ∙ i.in_bucket m p at;
        all = λ k e.
            ⊎_elim
            (λ h. w.next (c - 1) k m f h at e (sym (i.in_bucket m p at)))
            (λ h. let s : k ≡ c - 1 = omega (arith, h, i.all k e) in absurd (n (one_there members (c - 1) m f at (ap (λ j. slice_get members j) (sym s) ∙ e))))
            (cases_lt k (c - 1));
      }

pub nowhere : (members : List Operator) (f : Operator) (c : ℕ) → IsCandidate members f c → c ≤ 0 → Contains members f → ⊥
nowhere members f c i l m = let p = place_of members f m in omega (arith, i.all p.0 p.1)

-- ---- no places

all_one : (k i z : ℕ) → get_or (replicate k z) i z ≡ z
all_one zero i z = refl
all_one (suc k) zero z = refl
all_one (suc k) (suc i) z = all_one k i z

pub filed_none : AreFiled [] (replicate 256 0) (replicate 256 0)
filed_none = record {
  size_heads = length-replicate {A = ℕ} 256 0;
  size_before = length-replicate {A = ℕ} 256 0;
  within = λ b. omega (arith, all_one 256 b 0);
  last = λ k f e. cc;
  last_in = λ b f p e. cc;
  falls = λ j l. absurd (omega arith);
  next = λ j k f g l e q s. cc;
  next_in = λ j f g e p q. cc;
}
