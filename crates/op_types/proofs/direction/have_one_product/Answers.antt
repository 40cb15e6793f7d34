use Rattle.std.proofs.Common.{List, ℕ, ℤ, [], ◌∷◌, ◌*◌, w32, of_z, to_z, ap, sym, ◌∙◌}
use Rattle.std.proofs.lemmas.Bool.Decides.{Decides-eqb}
use Rattle.lattice_algebra.proofs.Ring.{var, ◌⊗◌}
use Rattle.lattice_algebra.proofs.Machine.{IsWithin, exact, computed}
use Rattle.group_closure.specs.declared.TheConstants.{MAX_OPERATORS}
use Rattle.op_types.proofs.direction.have_one_product.Goals as goal

abbrev bounds : List ℕ
bounds = (2 * MAX_OPERATORS) ∷ (2 * MAX_OPERATORS) ∷ (2 * MAX_OPERATORS) ∷ (2 * MAX_OPERATORS) ∷ []

abbrev numbers : goal.Start → List ℤ
numbers c = c.args.a ∷ c.args.b ∷ c.args.c ∷ c.args.d ∷ []

within : (c : goal.Start) → IsWithin bounds (numbers c)
within c = let l = c.requires.left in let r = c.requires.right in (l.0, (l.1, (r.0, (r.1, tt))))

pub returns : goal.returns
returns c =
    let left = exact w32 bounds (numbers c) (var 0 ⊗ var 1) (within c) tt in
    let right = exact w32 bounds (numbers c) (var 2 ⊗ var 3) (within c) tt in (
      (λ t. sym (computed w32 bounds (numbers c) (var 0 ⊗ var 1) (within c) tt) ∙ ap (to_z w32) ((Decides-eqb _ _).0 t) ∙ computed w32 bounds (numbers c) (var 2 ⊗ var 3) (within c) tt),
      (λ e. (Decides-eqb _ _).1 (ap (of_z w32) (left ∙ e ∙ sym right))),
    )
