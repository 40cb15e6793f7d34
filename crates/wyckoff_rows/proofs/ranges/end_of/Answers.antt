use Rattle.std.proofs.Common.{◌≡◌, ◌∙◌, ◌≤◌, ◌^◌, ◌*◌, List, ℕ, ℤ, [], ◌∷◌, ◌+ℤ◌, ◌-ℤ◌, ◌*ℤ◌, unsigned_abs, w64, le_trans, ap, arith}
use Rattle.std.specs.Int.{int_signum}
use Rattle.std.proofs.lemmas.Int.{ints}
use Rattle.lattice_algebra.proofs.Ring.{Expr, var, ◌⊕◌, ◌⊖◌, ◌⊗◌}
use Rattle.lattice_algebra.proofs.Machine.{IsWithin, fits, computed, computed-size, kept}
use Rattle.exact_ops.specs.declared.TheConstants.{UNIT}
use Rattle.group_closure.specs.declared.TheConstants.{MAX_OPERATORS}
use Rattle.wyckoff_rows.proofs.ranges.end_of.Goals as goal
use Rattle.wyckoff_rows.proofs.ranges.end_of.Goals.{After-signum}

abbrev bounds : List ℕ
bounds = (10 ^ 8) ∷ (UNIT * MAX_OPERATORS) ∷ (42 * MAX_OPERATORS) ∷ 1 ∷ []

abbrev numbers : After-signum → List ℤ
numbers c = c.args.base ∷ c.args.cell ∷ c.args.sum ∷ c.signum.result ∷ []

abbrev end : Expr
end = var 0 ⊕ var 1 ⊗ var 2

abbrev whole : Expr
whole = end ⊖ var 3

abbrev given : goal.Start → List ℤ
given c = c.args.base ∷ c.args.cell ∷ c.args.sum ∷ []

within_given : (c : goal.Start) → IsWithin bounds (given c)
within_given c = (c.requires.base, (c.requires.cell, (c.requires.sum, tt)))

pub overflow_mul-result : goal.overflow_mul-result
overflow_mul-result c = fits w64 bounds (given c) (var 1 ⊗ var 2) (within_given c) tt

pub overflow_add-result : goal.overflow_add-result
overflow_add-result c = fits w64 bounds (given c) end (within_given c) tt

sign_small : (c : After-signum) → unsigned_abs c.signum.result ≤ 1
sign_small c = omega (arith, ints, c.signum.ensures.lower_bound, c.signum.ensures.upper_bound)

within : (c : After-signum) → IsWithin bounds (numbers c)
within c = (c.requires.base, (c.requires.cell, (c.requires.sum, (sign_small c, tt))))

pub overflow_sub-result : goal.overflow_sub-result
overflow_sub-result c = fits w64 bounds (numbers c) whole (within c) tt

pub returns-clause-value : goal.returns-clause-value
returns-clause-value c =
    let sign : c.signum.result ≡ int_signum c.args.sum = c.signum.ensures.value ∙ ap int_signum (kept w64 (42 * MAX_OPERATORS) c.args.sum c.requires.sum tt) in
    computed w64 bounds (numbers c) whole (within c) tt ∙ ap (λ s. c.args.base +ℤ c.args.cell *ℤ c.args.sum -ℤ s) sign

pub returns-clause-size : goal.returns-clause-size
returns-clause-size c = le_trans (computed-size w64 bounds (numbers c) whole (within c) tt) (omega arith)
