-- A matrix that is multiplied until a power is the identity.
use Rattle.std.proofs.Common.{◌≡◌, ◌≢◌, ℕ, ◌+◌, ◌*◌, ◌<◌, ◌≤◌, ◌⊎◌, inl, inr, sym, ap, ap₂, ◌∙◌, subst, arith, ⊎_elim}
use Rattle.std.proofs.lemmas.Bool.{cases_lt}
use Rattle.lattice_algebra.specs.Matrix.{Matrix, ◌·◌, ◌+ᵐ◌, identity, no_matrix}
use Rattle.lattice_algebra.specs.Operator.{HasEntriesWithin}
use Rattle.lattice_algebra.specs.Powers.{power, sum_of_powers, IsOrder}
use Rattle.lattice_algebra.proofs.Powers.{power-zero, power-more, sum_of_powers-zero, sum_of_powers-more, within-+ᵐ}
use Rattle.group_closure.specs.declared.TheConstants.{MAX_OPERATORS}
use Rattle.op_types.specs.SmallPowers.{HasSmallPowers}

-- m is P^k and s the sum of the powers before it; no power above 0 was the identity so far
pub record IsTurned (p : Matrix) (k : ℕ) (m s : Matrix) : Type 0 where
  pub value : m ≡ power p k
  pub total : s ≡ sum_of_powers p k
  pub size : HasEntriesWithin (2 * k) s
  pub above : (j : ℕ) → 0 < j → j ≤ k → power p j ≢ identity

pub turned_none : (p : Matrix) → IsTurned p 0 identity no_matrix
turned_none p = record {
  value = sym (power-zero p);
  total = sym (sum_of_powers-zero p);
  size = omega arith;
  above = λ j l m. absurd (omega arith);
}

module _ (p : Matrix) (small : HasSmallPowers p) (k : ℕ) (m s : Matrix) (was : IsTurned p k m s) where
  -- the period is still to come
  pub before_period : k < MAX_OPERATORS
  before_period =
      let later : k < small.period = ⊎_elim (λ l. l) (λ l. absurd (was.above small.period small.positive l small.returns)) (cases_lt k small.period) in
      omega (arith, small.short)

  pub narrow_power : HasEntriesWithin 2 m
  narrow_power = subst (HasEntriesWithin 2) (sym was.value) (small.narrow k)

  module _ (n t : Matrix) (e : n ≡ p · m) (d : t ≡ s +ᵐ m) where
    next_power : n ≡ power p (k + 1)
    next_power = e ∙ ap (λ v. p · v) was.value ∙ sym (power-more p k)

    pub next_sum : t ≡ sum_of_powers p (k + 1)
    next_sum = d ∙ ap₂ (λ u v. u +ᵐ v) was.total was.value ∙ sym (sum_of_powers-more p k)

    next_size : HasEntriesWithin (2 * (k + 1)) t
    next_size = subst (HasEntriesWithin (2 * (k + 1))) (sym d) (within-+ᵐ (2 * k) 2 (2 * (k + 1)) s m was.size narrow_power (omega arith))

    pub turned_more : n ≢ identity → IsTurned p (k + 1) n t
    turned_more other = record {
      value = next_power;
      total = next_sum;
      size = next_size;
      above = λ j l h q. ⊎_elim (λ b. was.above j l b q) (λ b. let last : k + 1 ≡ j = omega arith in other (next_power ∙ ap (power p) last ∙ q)) (below_or_last j h);
    }
      where
        below_or_last : (j : ℕ) → j ≤ k + 1 → (j ≤ k) ⊎ (k < j)
        below_or_last j h = ⊎_elim (λ b. inr b) (λ b. inl b) (cases_lt k j)

    pub turned_order : n ≡ identity → IsOrder p (k + 1)
    turned_order q = record {
      positive = omega arith;
      returns = sym next_power ∙ q;
      least = λ j l r. ⊎_elim (λ b. b) (λ b. absurd (was.above j l (omega arith) r)) (at_least j);
    }
      where
        at_least : (j : ℕ) → (k + 1 ≤ j) ⊎ (j < k + 1)
        at_least j = ⊎_elim (λ b. inr b) (λ b. inl b) (cases_lt j (k + 1))

    pub turned_size : HasEntriesWithin (2 * MAX_OPERATORS) t
    turned_size = let l = before_period in let h = next_size in omega arith
