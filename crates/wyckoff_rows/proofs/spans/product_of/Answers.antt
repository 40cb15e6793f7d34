use Rattle.std.proofs.Common.{◌∙◌, ◌*◌, ◌≤◌, ◌*ℤ◌, List, ℕ, [], ◌∷◌, w64, ap₂, sym, subst, unsigned_abs, le_trans, arith}
use Rattle.lattice_algebra.proofs.Ring.{var, ◌⊗◌}
use Rattle.lattice_algebra.proofs.Machine.{computed, computed-size, widened}
use Rattle.group_closure.specs.declared.TheConstants.{MAX_OPERATORS}
use Rattle.wyckoff_rows.proofs.spans.product_of.Goals as goal

abbrev bounds : List ℕ
bounds = (2 * MAX_OPERATORS) ∷ MAX_OPERATORS ∷ []

pub returns-clause-value : goal.returns-clause-value
returns-clause-value c =
    let a = widened (2 * MAX_OPERATORS) c.args.a c.from-a.ensures c.requires.entry tt in
    computed w64 bounds (c.from-a.result ∷ c.from-q.result ∷ []) (var 0 ⊗ var 1)
    (subst (λ v. unsigned_abs v ≤ 2 * MAX_OPERATORS) (sym a) c.requires.entry, (subst (λ v. unsigned_abs v ≤ MAX_OPERATORS) (sym c.from-q.ensures) c.requires.number, tt)) tt ∙ ap₂ (λ x y. x *ℤ y) a c.from-q.ensures

pub returns-clause-size : goal.returns-clause-size
returns-clause-size c =
    let a = widened (2 * MAX_OPERATORS) c.args.a c.from-a.ensures c.requires.entry tt in
    le_trans (computed-size w64 bounds (c.from-a.result ∷ c.from-q.result ∷ []) (var 0 ⊗ var 1)
    (subst (λ v. unsigned_abs v ≤ 2 * MAX_OPERATORS) (sym a) c.requires.entry, (subst (λ v. unsigned_abs v ≤ MAX_OPERATORS) (sym c.from-q.ensures) c.requires.number, tt)) tt) (omega arith)
