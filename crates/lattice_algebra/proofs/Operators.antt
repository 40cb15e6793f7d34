-- The operators modulo the cell are a group.
use Rattle.std.proofs.Common.{◌≡◌, ℕ, ◌<◌, ap, sym, ◌∙◌, refl, subst}
use Rattle.lattice_algebra.specs.Matrix.{◌·ᶜ◌, neg_column, IsUnimodular}
use Rattle.lattice_algebra.specs.Operator.{Operator, product, inverse, modulo, IsOperator, IsInverse, identity_operator}
use Rattle.lattice_algebra.specs.Map.{Map, ◌∘◌, identity_map, undo, operator_of, map_of}
use Rattle.lattice_algebra.proofs.Matrices.{IsUnimodular-·, IsUnimodular-inverse, inverse_unique, inverse_matrix-·, ·-inverse_matrix}
use Rattle.lattice_algebra.proofs.Equality.{operator_eq, operator_eq-is}
use Rattle.lattice_algebra.proofs.Maps.{operator_path, ∘_assoc, identity-∘, ∘-identity, undo-∘, ∘-undo, absorb_left, absorb_right, product_is, operator_of-map, IsOperator-of, IsOperator-identity}
use Rattle.finite_groups.specs.Groups.{Group}

unimodular-∘ : (g f : Map) → IsUnimodular g.w → IsUnimodular f.w → IsUnimodular (g ∘ f).w
unfolding ◌∘◌
unimodular-∘ g f p q = IsUnimodular-· g.w f.w p q

pub unimodular-undo : (g : Map) → IsUnimodular g.w → IsUnimodular (undo g).w
unfolding undo
unimodular-undo g u = IsUnimodular-inverse g.w u

-- an operator has one inverse
pub inverse_once : (unit : ℕ) (f g h : Operator) → IsInverse unit f g → IsInverse unit f h → g ≡ h
inverse_once unit f g h p q =
    let e = inverse_unique f.w g.w h.w p.left q.right in
    operator_path g h e (p.translation ∙ ap (λ m. modulo unit (neg_column (m ·ᶜ f.t))) e ∙ sym q.translation)

pub inverse-IsInverse : (unit : ℕ) (f : Operator) → IsUnimodular f.w → IsInverse unit f (inverse unit f)
unfolding inverse
inverse-IsInverse unit f u = record { left = inverse_matrix-· f.w u; right = ·-inverse_matrix f.w u; translation = refl }

pub inverse_is : (unit : ℕ) (f : Operator) → inverse unit f ≡ operator_of unit (undo (map_of f))
unfolding inverse undo operator_of
inverse_is unit f = refl

module _ (unit : ℕ) (some : 0 < unit) where
  pub one_is : operator_of unit identity_map ≡ identity_operator
  one_is = operator_of-map unit some identity_operator (IsOperator-identity unit some)

  pub IsOperator-product : (g f : Operator) → IsOperator unit g → IsOperator unit f → IsOperator unit (product unit g f)
  IsOperator-product g f p q = subst (IsOperator unit) (sym (product_is unit some g f)) (IsOperator-of unit some (map_of g ∘ map_of f) (unimodular-∘ (map_of g) (map_of f) p.unimodular q.unimodular))

  pub IsOperator-inverse : (f : Operator) → IsOperator unit f → IsOperator unit (inverse unit f)
  IsOperator-inverse f p = subst (IsOperator unit) (sym (inverse_is unit f)) (IsOperator-of unit some (undo (map_of f)) (unimodular-undo (map_of f) p.unimodular))

  abbrev pub operators : Group
  operators = record {
    X = Operator;
    eq = operator_eq;
    same = λ f g. operator_eq-is f g (operator_eq f g) refl;
    In = IsOperator unit;
    mul = product unit;
    one = identity_operator;
    inv = inverse unit;
    one_in = IsOperator-identity unit some;
    mul_in = IsOperator-product;
    inv_in = IsOperator-inverse;
    assoc = λ h g f _ _ _. ap (λ k. product unit k f) (product_is unit some h g) ∙ product_is unit some _ f ∙ absorb_left unit some (map_of h ∘ map_of g) (map_of f) ∙ ap (operator_of unit) (∘_assoc (map_of h) (map_of g) (map_of f)) ∙ sym (absorb_right unit some (map_of h) (map_of g ∘ map_of f)) ∙ sym (product_is unit some h _) ∙ ap (product unit h) (sym (product_is unit some g f));
    left = λ f p. product_is unit some identity_operator f ∙ ap (operator_of unit) (identity-∘ (map_of f)) ∙ operator_of-map unit some f p;
    right = λ f p. product_is unit some f identity_operator ∙ ap (operator_of unit) (∘-identity (map_of f)) ∙ operator_of-map unit some f p;
    inv_left = λ f p. ap (λ g. product unit g f) (inverse_is unit f) ∙ product_is unit some _ f ∙ absorb_left unit some (undo (map_of f)) (map_of f) ∙ ap (operator_of unit) (undo-∘ (map_of f) p.unimodular) ∙ one_is;
    inv_right = λ f p. ap (product unit f) (inverse_is unit f) ∙ product_is unit some f _ ∙ absorb_right unit some (map_of f) (undo (map_of f)) ∙ ap (operator_of unit) (∘-undo (map_of f) p.unimodular) ∙ one_is;
  }
