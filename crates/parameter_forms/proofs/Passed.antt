-- Numbers of the machine that were tested, and coefficients that stand in it.
use Rattle.std.proofs.Common.{◌≡◌, ◌≢◌, ◌≤◌, ◌^◌, ℕ, ℤ, pos, unsigned_abs, T, ltb, ap, sym, subst, ◌∙◌, to_z, of_z, w32}
use Rattle.lattice_algebra.specs.Matrix.{Matrix}
use Rattle.lattice_algebra.proofs.Machine.{kept}
use Rattle.parameter_forms.specs.Forms.{IsCoefficientMatrix}

pub other_passed : (x : ℤ) → (of_z w32 x ≡ 0 → ⊥) → x ≢ pos 0
other_passed x h e = h (ap (of_z w32) e)

pub none_passed : (n : ℕ) (x : ℤ) → unsigned_abs x ≤ n → T (ltb n (2 ^ 31)) → of_z w32 x ≡ 0 → x ≡ pos 0
none_passed n x h t e = sym (kept w32 n x h t) ∙ ap (to_z w32) e

pub same_coefficients : (m : Matrix) (d e : ℤ) (b c : Matrix) → d ≡ e → b ≡ c → IsCoefficientMatrix m e c → IsCoefficientMatrix m d b
same_coefficients m d e b c p q h = subst (λ k. IsCoefficientMatrix m k b) (sym p) (subst (IsCoefficientMatrix m e) (sym q) h)
