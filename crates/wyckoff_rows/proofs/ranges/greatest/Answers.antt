use Rattle.std.proofs.Common.{◌≡◌, ◌∙◌, ◌*◌, List, ℕ, ℤ, pos, [], ◌∷◌, w64, ap, sym, subst}
use Rattle.std.specs.Int.{int_max}
use Rattle.lattice_algebra.proofs.Ring.{Expr, var, ◌⊕◌, value}
use Rattle.lattice_algebra.proofs.Machine.{IsWithin, fits, computed, computed-size}
use Rattle.group_closure.specs.declared.TheConstants.{MAX_OPERATORS}
use Rattle.wyckoff_rows.proofs.RangeSizes.{part_above, above_within}
use Rattle.wyckoff_rows.proofs.ranges.greatest.Goals as goal
use Rattle.wyckoff_rows.proofs.ranges.greatest.Goals.{After-from-c}

abbrev bounds : List ℕ
bounds = (14 * MAX_OPERATORS) ∷ (14 * MAX_OPERATORS) ∷ (14 * MAX_OPERATORS) ∷ []

abbrev numbers : After-from-c → List ℤ
numbers c = c.from-a.result ∷ c.from-b.result ∷ c.from-c.result ∷ []

abbrev given : After-from-c → List ℤ
given c = int_max c.args.a (pos 0) ∷ int_max c.args.b (pos 0) ∷ int_max c.args.c (pos 0) ∷ []

same_numbers : (c : After-from-c) → numbers c ≡ given c
same_numbers c = λ i. part_above c.args.a c.max.result c.from-a.result c.requires.first c.max.ensures.value c.from-a.ensures i ∷ part_above c.args.b c.max-2.result c.from-b.result c.requires.second c.max-2.ensures.value c.from-b.ensures i ∷ part_above c.args.c c.max-3.result c.from-c.result c.requires.third c.max-3.ensures.value c.from-c.ensures i ∷ []

within : (c : After-from-c) → IsWithin bounds (numbers c)
within c = subst (IsWithin bounds) (sym (same_numbers c)) (above_within c.args.a c.requires.first, (above_within c.args.b c.requires.second, (above_within c.args.c c.requires.third, tt)))

abbrev whole : Expr
whole = var 0 ⊕ var 1 ⊕ var 2

pub overflow_add-result-2 : goal.overflow_add-result-2
overflow_add-result-2 c = fits w64 bounds (numbers c) whole (within c) tt

pub returns-clause-value : goal.returns-clause-value
returns-clause-value c = computed w64 bounds (numbers c) whole (within c) tt ∙ ap (λ r. value r whole) (same_numbers c)

pub returns-clause-size : goal.returns-clause-size
returns-clause-size c = computed-size w64 bounds (numbers c) whole (within c) tt
