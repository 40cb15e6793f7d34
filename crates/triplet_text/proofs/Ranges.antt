-- A test of each number below another, by computing.
use Rattle.std.proofs.Common.{◌≡◌, inl, inr, ℕ, zero, suc, ◌<◌, Bool, true, ◌&&◌, arith}
use Rattle.std.proofs.lemmas.Bool.Decides.{eqb_tells}
use Rattle.triplet_text.proofs.Options.{both}

-- whether each number below n passes
abbrev pub all_below : ℕ → (ℕ → Bool) → Bool
all_below zero test = true
all_below (suc n) test = test n && all_below n test

pub below_each : (n : ℕ) (test : ℕ → Bool) → all_below n test ≡ true → (k : ℕ) → k < n → test k ≡ true
below_each zero test e k lt = absurd (omega arith)
below_each (suc n) test e k lt =
    let h = both (test n) (all_below n test) e in
    elim (eqb_tells k n) [
      | inl p ↦ rw p.1 h.0
      | inr p ↦ let other = p.1 in below_each n test h.1 k (omega arith)
    ]
