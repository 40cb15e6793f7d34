use Rattle.std.proofs.Common.{arith, ℕ, ℤ, ◌≡◌, ◌≤◌, ◌<◌, unsigned_abs, to_z-of_z, ap, ◌∙◌, refl}
use Rattle.std.proofs.lemmas.Bool.{false≢true}
use Rattle.phase_rules.specs.declared.TheConstants.{MAX_INDEX}
use Rattle.basis_change.proofs.Indices.{index_fits, index_kept}
use Rattle.basis_change.proofs.parts.number.Goals as goal

small : (n : ℤ) (a b : ℕ) → a ≡ unsigned_abs n → b ≡ MAX_INDEX → a ≤ b → unsigned_abs n ≤ MAX_INDEX
small n a b e f h = omega (arith, e, f, h)

large : (n : ℤ) (a b : ℕ) → a ≡ unsigned_abs n → b ≡ MAX_INDEX → b < a → unsigned_abs n ≤ MAX_INDEX → ⊥
large n a b e f h l = omega (arith, e, f, h, l)

pub returns-then-unsigned_abs-from-clause-some : goal.returns-then-unsigned_abs-from-clause-some
returns-then-unsigned_abs-from-clause-some c = ((λ t. absurd (false≢true t)), (λ h. absurd (large c.args.n _ _ (c.unsigned_abs.ensures.value ∙ ap unsigned_abs (to_z-of_z c.ranges.n)) c.from.ensures c.if-unsigned_abs-from.true h)))

pub overflow_cast-result : goal.overflow_cast-result
overflow_cast-result c = index_fits c.args.n _ (to_z-of_z c.ranges.n) (small c.args.n _ _ (c.unsigned_abs.ensures.value ∙ ap unsigned_abs (to_z-of_z c.ranges.n)) c.from.ensures c.if-unsigned_abs-from.false)

pub returns-clause-some : goal.returns-clause-some
returns-clause-some c = ((λ t. (small c.args.n _ _ (c.unsigned_abs.ensures.value ∙ ap unsigned_abs (to_z-of_z c.ranges.n)) c.from.ensures c.if-unsigned_abs-from.false)), (λ h. refl))

pub returns-clause-value : goal.returns-clause-value
returns-clause-value c = index_kept c.args.n _ (to_z-of_z c.ranges.n) (small c.args.n _ _ (c.unsigned_abs.ensures.value ∙ ap unsigned_abs (to_z-of_z c.ranges.n)) c.from.ensures c.if-unsigned_abs-from.false)
