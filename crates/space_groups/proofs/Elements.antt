-- The space group of a closed list of operators, and its action on points.
use Rattle.std.proofs.Common.{◌≡◌, ℕ, ◌<◌, List, Contains, ap, sym, ◌∙◌, subst}
use Rattle.std.proofs.lemmas.List.Elements.{All-contains}
use Rattle.lattice_algebra.specs.Matrix.{IsUnimodular}
use Rattle.lattice_algebra.specs.Operator.{Operator, product, IsOperator, identity_operator}
use Rattle.lattice_algebra.specs.Map.{Map, ◌∘◌, identity_map, undo, operator_of}
use Rattle.lattice_algebra.proofs.Maps.{map_eq, map_eq-is, ∘_assoc, identity-∘, ∘-identity, undo-∘, ∘-undo, operator_of-∘, IsOperator-of}
use Rattle.lattice_algebra.proofs.Operators.{operators, one_is, unimodular-undo}
use Rattle.finite_groups.specs.Groups.{Group, Action}
use Rattle.finite_groups.specs.Words.{IsClosedList}
use Rattle.finite_groups.proofs.Basics as basics
use Rattle.finite_groups.proofs.Closing as closing
use Rattle.space_groups.specs.Space.{IsElement, ScaledPoint, moved}
use Rattle.space_groups.proofs.ScaledPoints.{moved-identity, moved-∘}

unimodular-at : (unit : ℕ) (g : Map) → IsOperator unit (operator_of unit g) → IsUnimodular g.w
unfolding operator_of
unimodular-at unit g h = h.unimodular

-- the parts of a cell, and the members
pub record SpaceGroup : Type 0 where
  pub unit : ℕ
  pub some : 0 < unit
  pub members : List Operator
  pub closed : IsClosedList (operators unit some) members

module _ (L : SpaceGroup) where
  open L use {unit, some, members, closed}

  pub unimodular : (g : Map) → IsElement unit members g → IsUnimodular g.w
  unimodular g c = unimodular-at unit g (All-contains (IsOperator unit) members (operator_of unit g) closed.valid c)

  pub undo_in : (g : Map) → IsElement unit members g → IsElement unit members (undo g)
  undo_in g c =
      let u : IsUnimodular g.w = unimodular g c in
      let f : Operator = operator_of unit g in
      let i : (y : Operator) × Contains members y × (product unit f y ≡ identity_operator) × (product unit y f ≡ identity_operator) = closing.inverse_in (operators unit some) members closed f c in
      let e : i.0 ≡ operator_of unit (undo g) = basics.cancel_left (operators unit some) f i.0 (operator_of unit (undo g))
      (IsOperator-of unit some g u) (All-contains (IsOperator unit) members i.0 closed.valid i.1) (IsOperator-of unit some (undo g) (unimodular-undo g u))
      (i.2 ∙ sym (operator_of-∘ unit some g (undo g) ∙ ap (operator_of unit) (∘-undo g u) ∙ one_is unit some)) in
      subst (Contains members) e i.1

  abbrev pub space : Group
  space = record {
    X = Map;
    eq = map_eq;
    same = map_eq-is;
    In = IsElement unit members;
    mul = ◌∘◌;
    one = identity_map;
    inv = undo;
    one_in = subst (Contains members) (sym (one_is unit some)) closed.has_one;
    mul_in = λ g f p q. subst (Contains members) (operator_of-∘ unit some g f) (closed.closed (operator_of unit g) (operator_of unit f) p q);
    inv_in = undo_in;
    assoc = λ h g f _ _ _. ∘_assoc h g f;
    left = λ f _. identity-∘ f;
    right = λ f _. ∘-identity f;
    inv_left = λ f p. undo-∘ f (unimodular f p);
    inv_right = λ f p. ∘-undo f (unimodular f p);
  }

  abbrev pub on_points : Action space
  on_points = record {
    Y = ScaledPoint;
    act = moved;
    act_one = moved-identity;
    act_mul = λ g f y _ _. moved-∘ g f y;
  }
