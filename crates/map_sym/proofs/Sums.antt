-- Gathering sums and spreading them, step by step.
use Rattle.std.proofs.Common.{◌≡◌, ◌≢◌, ℕ, zero, suc, ◌+◌, ◌*◌, ◌^◌, ◌<◌, ◌≤◌, ℤ, pos, ◌+ℤ◌, unsigned_abs, w32, w64, FitsSigned, false, cond, eqb, List, [], ◌∷◌, length, get_or, set, ⊎_elim, ap, ap₂, sym, ◌∙◌, subst, refl, arith}
use Rattle.std.proofs.lemmas.Bool.{cases_eq, cases_lt, cases_Bool}
use Rattle.std.proofs.lemmas.Bool.Decides.{Decides-eqb}
use Rattle.std.proofs.lemmas.Int.{ints, to_z-of_z}
use Rattle.std.proofs.lemmas.List.{get_or-set_same, get_or-set_other}
use Rattle.std.proofs.Math.ListN.{length-set}
use Rattle.lattice_algebra.proofs.Machine.{back}
use Rattle.lattice_algebra.proofs.Numbers.{abs_add}
use Rattle.grid_tags.specs.declared.TheConstants.{MAX_POINTS}
use Rattle.map_sym.specs.SummedMaps.{sum_over}
use Rattle.map_sym.specs.Steps.{sum_below, gathered_at, AreGathered, AreSpread, IsItsOwn}

pub below_more : (f : ℕ → ℤ) (n : ℕ) → sum_below f (n + 1) ≡ sum_below f n +ℤ f n
below_more f n = let e : n + 1 ≡ suc n = omega arith in ap (sum_below f) e

-- ---- one value more

-- a sum of n values is at most so great
abbrev pub most : ℕ → ℕ
most n = n * 2 ^ 31

value_small : (v : ℤ) → FitsSigned w32 v → unsigned_abs v ≤ 2 ^ 31
value_small v f = omega (arith, ints, f)

module _ (n : ℕ) (s v r : ℤ) (few : n < MAX_POINTS) (small : unsigned_abs s ≤ most n) (fits : FitsSigned w32 v) (read : r ≡ back w32 v) where
  pub added_small : unsigned_abs (s +ℤ v) ≤ most (n + 1)
  added_small = let a = abs_add s v in let b = value_small v fits in omega (arith, a, b, small)

  s_fits : FitsSigned w64 s
  s_fits = omega (arith, ints, small, few)

  v_fits : FitsSigned w64 v
  v_fits = let b = value_small v fits in omega (arith, ints, b)

  r_back : back w64 r ≡ v
  r_back = ap (back w64) (read ∙ to_z-of_z w32 v fits) ∙ to_z-of_z w64 v v_fits

  sum_fits : FitsSigned w64 (s +ℤ v)
  sum_fits = let b = added_small in omega (arith, ints, b, few)

  -- what the machine adds, to a number that it read and to one that it holds
  pub added : back w64 (back w64 s +ℤ back w64 r) ≡ s +ℤ v
  added = ap (back w64) (ap₂ ◌+ℤ◌ (to_z-of_z w64 s s_fits) r_back) ∙ to_z-of_z w64 (s +ℤ v) sum_fits

  pub added_on : back w64 (s +ℤ back w64 r) ≡ s +ℤ v
  added_on = ap (λ z. back w64 (s +ℤ z)) r_back ∙ to_z-of_z w64 (s +ℤ v) sum_fits

module _ (firsts : List ℕ) (values sums : List ℤ) (n : ℕ) (x : ℤ) where
  abbrev first : ℕ
  first = get_or firsts n 0

  -- the sum at its first place grows by the value, and no other
  pub gathered_more : AreGathered firsts values sums n → first < length sums → x ≡ get_or sums first (pos 0) +ℤ get_or values n (pos 0) → AreGathered firsts values (set sums first x) (n + 1)
  gathered_more was within is k l =
      let old : get_or sums k (pos 0) ≡ gathered_at firsts values k n = was k (omega (arith, l, length-set sums first x)) in
      ⊎_elim
      (λ e.
      let yes : cond (eqb first k) (get_or values n (pos 0)) (pos 0) ≡ get_or values n (pos 0) = ap (λ b. cond b (get_or values n (pos 0)) (pos 0)) ((Decides-eqb first k).1 (sym e)) in
      ap (λ j. get_or (set sums first x) j (pos 0)) e ∙ get_or-set_same sums first x (pos 0) within ∙ is
      ∙ ap₂ ◌+ℤ◌ (ap (λ j. get_or sums j (pos 0)) (sym e) ∙ old) (sym yes) ∙ sym (below_more _ n))
      (λ e.
      let no : cond (eqb first k) (get_or values n (pos 0)) (pos 0) ≡ pos 0 = ap (λ b. cond b (get_or values n (pos 0)) (pos 0)) (not_equal first k (λ q. e (sym q))) in
      get_or-set_other sums first k x (pos 0) e ∙ old ∙ sym (add_none _) ∙ ap (λ z. gathered_at firsts values k n +ℤ z) (sym no) ∙ sym (below_more _ n))
      (cases_eq k first)
    where
      not_equal : (a b : ℕ) → a ≢ b → eqb a b ≡ false
      not_equal a b h = ⊎_elim (λ t. absurd (h ((Decides-eqb a b).0 t))) (λ t. t) (cases_Bool (eqb a b))

      add_none : (z : ℤ) → z +ℤ pos 0 ≡ z
      add_none z = omega (arith, ints)

  pub small_more : ((k : ℕ) → unsigned_abs (get_or sums k (pos 0)) ≤ most n) → first < length sums → unsigned_abs x ≤ most (n + 1) → (k : ℕ) → unsigned_abs (get_or (set sums first x) k (pos 0)) ≤ most (n + 1)
  small_more was within small k = ⊎_elim
      (λ e. subst (λ z. unsigned_abs z ≤ most (n + 1)) (sym (ap (λ j. get_or (set sums first x) j (pos 0)) e ∙ get_or-set_same sums first x (pos 0) within)) small)
      (λ e. subst (λ z. unsigned_abs z ≤ most (n + 1)) (sym (get_or-set_other sums first k x (pos 0) e)) (let w = was k in omega (arith, w)))
      (cases_eq k first)

-- ---- all values

-- the first number taken out
below_first : (f : ℕ → ℤ) (n : ℕ) → sum_below f (suc n) ≡ f 0 +ℤ sum_below (λ k. f (suc k)) n
below_first f zero = omega (arith, ints)
below_first f (suc n) = ap (λ z. z +ℤ f (suc n)) (below_first f n) ∙ sym (regroup (f 0) (sum_below (λ k. f (suc k)) n) (f (suc n)))
  where
    regroup : (a b c : ℤ) → a +ℤ (b +ℤ c) ≡ (a +ℤ b) +ℤ c
    regroup a b c = omega (arith, ints)

pub below_all : (values : List ℤ) → sum_below (λ k. get_or values k (pos 0)) (length values) ≡ sum_over (λ (v : ℤ). v) values
below_all [] = refl
below_all (v ∷ values) = below_first (λ k. get_or (v ∷ values) k (pos 0)) (length values) ∙ ap (λ z. v +ℤ z) (below_all values)

-- ---- spreading

module _ (firsts : List ℕ) (old sums : List ℤ) (n : ℕ) (x : ℤ) where
  -- the sum at a first place is what it was
  read_first : IsItsOwn firsts → n < length firsts → AreSpread firsts old sums n → ((k : ℕ) → n ≤ k → get_or sums k (pos 0) ≡ get_or old k (pos 0)) → get_or sums (get_or firsts n 0) (pos 0) ≡ get_or old (get_or firsts n 0) (pos 0)
  read_first own inside spread kept = ⊎_elim
      (λ l. spread (get_or firsts n 0) l ∙ ap (λ k. get_or old k (pos 0)) (own n inside))
      (λ l. kept (get_or firsts n 0) l)
      (cases_lt (get_or firsts n 0) n)

  pub spread_more : IsItsOwn firsts → n < length firsts → n < length sums → AreSpread firsts old sums n → ((k : ℕ) → n ≤ k → get_or sums k (pos 0) ≡ get_or old k (pos 0)) → x ≡ get_or sums (get_or firsts n 0) (pos 0) → AreSpread firsts old (set sums n x) (n + 1)
  spread_more own inside within spread kept is k l = ⊎_elim
      (λ e. ap (λ j. get_or (set sums n x) j (pos 0)) e ∙ get_or-set_same sums n x (pos 0) within ∙ is ∙ read_first own inside spread kept ∙ ap (λ j. get_or old (get_or firsts j 0) (pos 0)) (sym e))
      (λ e. get_or-set_other sums n k x (pos 0) e ∙ spread k (omega (arith, l, e)))
      (cases_eq k n)

  pub kept_more : ((k : ℕ) → n ≤ k → get_or sums k (pos 0) ≡ get_or old k (pos 0)) → (k : ℕ) → n + 1 ≤ k → get_or (set sums n x) k (pos 0) ≡ get_or old k (pos 0)
  kept_more kept k l = get_or-set_other sums n k x (pos 0) (λ e. omega (arith, e, l)) ∙ kept k (omega (arith, l))
