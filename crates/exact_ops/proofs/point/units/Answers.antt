use Rattle.std.proofs.Common.{rules, ◌≡◌, ap, sym, subst, ◌∙◌, List, ℕ, ℤ, pos, [], ◌∷◌, w64, FitsSigned, to_z-of_z, le_refl}
use mir.Syntax.{w128}
use Rattle.lattice_algebra.proofs.Ring.{Expr, var, ◌⊗◌, value}
use Rattle.lattice_algebra.proofs.Machine.{IsWithin, fits, computed}
use Rattle.exact_ops.specs.declared.TheConstants.{UNIT, MAX_COORDINATE, MAX_DENOMINATOR}
use Rattle.exact_ops.proofs.point.units.Goals as goal

abbrev bounds : List ℕ
bounds = UNIT ∷ MAX_COORDINATE ∷ MAX_DENOMINATOR ∷ MAX_DENOMINATOR ∷ []

abbrev numbers : goal.After-from-4 → List ℤ
numbers c = c.from.result ∷ c.from-2.result ∷ c.from-3.result ∷ c.from-4.result ∷ []

abbrev given : goal.After-from-4 → List ℤ
given c = pos UNIT ∷ c.args.a ∷ c.args.b ∷ c.args.c ∷ []

same_numbers : (c : goal.After-from-4) → numbers c ≡ given c
same_numbers c =
    let f : FitsSigned w64 c.args.a = search rules in
    let g : FitsSigned w64 c.args.b = search rules in
    let h : FitsSigned w64 c.args.c = search rules in
    let a = c.from-2.ensures ∙ to_z-of_z f in
    let b = c.from-3.ensures ∙ to_z-of_z g in
    let d = c.from-4.ensures ∙ to_z-of_z h in
    λ i. c.from.ensures i ∷ a i ∷ b i ∷ d i ∷ []

within : (c : goal.After-from-4) → IsWithin bounds (numbers c)
within c = subst (IsWithin bounds) (sym (same_numbers c)) (le_refl UNIT, (c.requires.numerator, (c.requires.first, (c.requires.second, tt))))

abbrev three : Expr
three = var 1 ⊗ var 2 ⊗ var 3

pub overflow_mul-result-2 : goal.overflow_mul-result-2
overflow_mul-result-2 c = fits w128 bounds (numbers c) three (within c) tt

pub overflow_mul-result-3 : goal.overflow_mul-result-3
overflow_mul-result-3 c = fits w128 bounds (numbers c) (var 0 ⊗ three) (within c) tt

pub returns : goal.returns
returns c = computed w128 bounds (numbers c) (var 0 ⊗ three) (within c) tt ∙ ap (λ r. value r (var 0 ⊗ three)) (same_numbers c)
