use Rattle.std.proofs.Common.{◌≡◌, ap, sym, subst, ◌∙◌, List, ℕ, ℤ, [], ◌∷◌, w64}
use Rattle.lattice_algebra.proofs.Ring.{Expr, var, ◌⊖◌, ◌⊗◌, value}
use Rattle.lattice_algebra.proofs.Machine.{IsWithin, fits, computed, computed-size, widened}
use Rattle.exact_ops.specs.declared.TheConstants.{MAX_ENTRY}
use Rattle.exact_ops.proofs.matrix.minor.Goals as goal

abbrev bounds : List ℕ
bounds = MAX_ENTRY ∷ MAX_ENTRY ∷ MAX_ENTRY ∷ MAX_ENTRY ∷ []

abbrev numbers : goal.After-from-d → List ℤ
numbers c = c.from-a.result ∷ c.from-b.result ∷ c.from-c.result ∷ c.from-d.result ∷ []

abbrev given : goal.After-from-d → List ℤ
given c = c.args.a ∷ c.args.b ∷ c.args.c ∷ c.args.d ∷ []

same_numbers : (c : goal.After-from-d) → numbers c ≡ given c
same_numbers c =
    let l = c.requires.left in
    let r = c.requires.right in
    λ i. widened MAX_ENTRY c.args.a c.from-a.ensures l.0 tt i ∷ widened MAX_ENTRY c.args.b c.from-b.ensures l.1 tt i ∷ widened MAX_ENTRY c.args.c c.from-c.ensures r.0 tt i ∷ widened MAX_ENTRY c.args.d c.from-d.ensures r.1 tt i ∷ []

within : (c : goal.After-from-d) → IsWithin bounds (numbers c)
within c = let l = c.requires.left in let r = c.requires.right in subst (IsWithin bounds) (sym (same_numbers c)) (l.0, (l.1, (r.0, (r.1, tt))))

abbrev minor : Expr
minor = var 0 ⊗ var 1 ⊖ var 2 ⊗ var 3

pub overflow_sub-result : goal.overflow_sub-result
overflow_sub-result c = fits w64 bounds (numbers c) minor (within c) tt

pub returns-clause-value : goal.returns-clause-value
returns-clause-value c = computed w64 bounds (numbers c) minor (within c) tt ∙ ap (λ r. value r minor) (same_numbers c)

pub returns-clause-size : goal.returns-clause-size
returns-clause-size c = computed-size w64 bounds (numbers c) minor (within c) tt
