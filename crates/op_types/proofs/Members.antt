-- The matrices of the members of a group: their powers, and their proper parts.
use Rattle.std.proofs.Common.{◌≡◌, ℕ, zero, suc, List, length, ⊎_elim, sym, ap, subst, ◌∙◌, refl, Contains, Some, IfSome, slice_get}
use Rattle.std.proofs.lemmas.List.Elements.{All-contains}
use Rattle.lattice_algebra.specs.Matrix.{Matrix, det, identity, ◌·◌}
use Rattle.lattice_algebra.specs.Operator.{Operator, product, HasEntriesWithin}
use Rattle.lattice_algebra.specs.Powers.{power}
use Rattle.lattice_algebra.proofs.Numbers.{positive_or_not}
use Rattle.finite_groups.proofs.Powers as powers
use Rattle.exact_ops.specs.Narrow.{IsNarrow}
use Rattle.exact_ops.specs.declared.TheConstants.{UNIT}
use Rattle.group_closure.specs.GroupList.{IsGroup}
use Rattle.group_closure.proofs.CellOperators.{cell_operators}
use Rattle.group_closure.proofs.Lists.{closed_list}
use Rattle.op_types.specs.ProperPart.{IsProperPart}

product-w : (g f : Operator) → (product UNIT g f).w ≡ g.w · f.w
unfolding product
product-w g f = refl

-- the matrix of a power is the power of the matrix
power-w : (f : Operator) (k : ℕ) → (powers.power cell_operators f k).w ≡ power f.w k
unfolding power
power-w f zero = refl
power-w f (suc k) = product-w f (powers.power cell_operators f k) ∙ ap (λ m. f.w · m) (power-w f k)

pub narrow_member : (members : List Operator) (f : Operator) → IsGroup members → Contains members f → (k : ℕ) → HasEntriesWithin 2 (power f.w k)
narrow_member members f g c k =
    subst (HasEntriesWithin 2) (power-w f k) (All-contains IsNarrow members _ g.narrow (powers.Contains-power cell_operators members f k (closed_list members g) c)).within_two

-- the matrix of a member to the power of the number of members
pub power-length : (members : List Operator) (f : Operator) → IsGroup members → Contains members f → power f.w (length members) ≡ identity
power-length members f g c = sym (power-w f (length members)) ∙ ap (λ (h : Operator). h.w) (powers.power-length cell_operators members f (closed_list members g) c)

-- ---- the proper part

-- a matrix has one proper part
pub same_part : (f : Operator) (w p q : Matrix) → w ≡ f.w → IsProperPart w p → IsProperPart f.w q → p ≡ q
same_part f w p q e h k =
    let g : IsProperPart f.w p = subst (λ m. IsProperPart m p) e h in
    ⊎_elim (λ y. g.same y ∙ sym (k.same y)) (λ n. g.opposite_of n ∙ sym (k.opposite_of n)) (positive_or_not (det f.w))

-- what holds of the operator at a place holds of each that stands there
pub each_at : (P : Operator → Type 0) (members : List Operator) (i : ℕ) (f : Operator) → slice_get members i ≡ Some f → P f → (g : Operator) → slice_get members i ≡ Some g → P g
each_at P members i f e p g is = subst (λ o. IfSome o P) (sym e ∙ is) p
