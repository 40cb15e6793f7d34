use Rattle.std.proofs.Common.{◌≡◌, ◌∙◌, ◌*◌, List, ℕ, ℤ, pos, [], ◌∷◌, w64, ap, sym, subst}
use Rattle.std.specs.Int.{int_min}
use Rattle.lattice_algebra.proofs.Ring.{Expr, var, ◌⊕◌, value}
use Rattle.lattice_algebra.proofs.Machine.{IsWithin, fits, computed, computed-size}
use Rattle.group_closure.specs.declared.TheConstants.{MAX_OPERATORS}
use Rattle.wyckoff_rows.proofs.RangeSizes.{part_below, below_within}
use Rattle.wyckoff_rows.proofs.ranges.least.Goals as goal
use Rattle.wyckoff_rows.proofs.ranges.least.Goals.{After-from-c}

abbrev bounds : List ℕ
bounds = (14 * MAX_OPERATORS) ∷ (14 * MAX_OPERATORS) ∷ (14 * MAX_OPERATORS) ∷ []

abbrev numbers : After-from-c → List ℤ
numbers c = c.from-a.result ∷ c.from-b.result ∷ c.from-c.result ∷ []

abbrev given : After-from-c → List ℤ
given c = int_min c.args.a (pos 0) ∷ int_min c.args.b (pos 0) ∷ int_min c.args.c (pos 0) ∷ []

same_numbers : (c : After-from-c) → numbers c ≡ given c
same_numbers c = λ i. part_below c.args.a c.min.result c.from-a.result c.requires.first c.min.ensures.value c.from-a.ensures i ∷ part_below c.args.b c.min-2.result c.from-b.result c.requires.second c.min-2.ensures.value c.from-b.ensures i ∷ part_below c.args.c c.min-3.result c.from-c.result c.requires.third c.min-3.ensures.value c.from-c.ensures i ∷ []

within : (c : After-from-c) → IsWithin bounds (numbers c)
within c = subst (IsWithin bounds) (sym (same_numbers c)) (below_within c.args.a c.requires.first, (below_within c.args.b c.requires.second, (below_within c.args.c c.requires.third, tt)))

abbrev whole : Expr
whole = var 0 ⊕ var 1 ⊕ var 2

pub overflow_add-result-2 : goal.overflow_add-result-2
overflow_add-result-2 c = fits w64 bounds (numbers c) whole (within c) tt

pub returns-clause-value : goal.returns-clause-value
returns-clause-value c = computed w64 bounds (numbers c) whole (within c) tt ∙ ap (λ r. value r whole) (same_numbers c)

pub returns-clause-size : goal.returns-clause-size
returns-clause-size c = computed-size w64 bounds (numbers c) whole (within c) tt
