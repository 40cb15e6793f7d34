-- The matrices of the members of a group, and their proper parts, have small powers, and one of the first MAX_OPERATORS returns.
use Rattle.std.proofs.Common.{◌≡◌, ℕ, List, length, ⊎_elim, sym, subst, Contains, Some, slice_get}
use Rattle.std.proofs.lemmas.List.Elements.{All-contains}
use Rattle.lattice_algebra.specs.Matrix.{Matrix, det}
use Rattle.lattice_algebra.specs.Operator.{Operator, HasEntriesWithin}
use Rattle.lattice_algebra.specs.Powers.{power}
use Rattle.lattice_algebra.proofs.Powers.{power-opposite, within-opposite}
use Rattle.exact_ops.specs.Narrow.{IsNarrow}
use Rattle.group_closure.specs.GroupList.{IsGroup}
use Rattle.group_closure.proofs.Places.{contains_at, some_member}
use Rattle.lattice_algebra.proofs.Numbers.{positive_or_not}
use Rattle.op_types.specs.SmallPowers.{HasSmallPowers}
use Rattle.op_types.specs.ProperPart.{IsProperPart, opposite}
use Rattle.op_types.proofs.Members.{narrow_member, power-length}
use Rattle.op_types.proofs.Orders.{proper_power}

pub small_powers : (members : List Operator) (f : Operator) → IsGroup members → Contains members f → HasSmallPowers f.w
small_powers members f g c = record {
  narrow = narrow_member members f g c;
  period = length members;
  positive = some_member members g;
  short = g.within;
  returns = power-length members f g c;
}

narrow_opposite : (w : Matrix) (k : ℕ) → ((k : ℕ) → HasEntriesWithin 2 (power w k)) → HasEntriesWithin 2 (power (opposite w) k)
narrow_opposite w k h =
    ⊎_elim (λ e. subst (HasEntriesWithin 2) (sym e) (h k)) (λ e. subst (HasEntriesWithin 2) (sym e) (within-opposite 2 (power w k) (h k))) (power-opposite w k)

narrow_part : (w p : Matrix) (k : ℕ) → IsProperPart w p → ((k : ℕ) → HasEntriesWithin 2 (power w k)) → HasEntriesWithin 2 (power p k)
narrow_part w p k h n =
    ⊎_elim (λ y. subst (λ m. HasEntriesWithin 2 (power m k)) (sym (h.same y)) (n k)) (λ m. subst (λ m. HasEntriesWithin 2 (power m k)) (sym (h.opposite_of m)) (narrow_opposite w k n)) (positive_or_not (det w))

pub small_part : (members : List Operator) (f : Operator) (p : Matrix) → IsGroup members → Contains members f → IsProperPart f.w p → HasSmallPowers p
small_part members f p g c h =
    let valid = (All-contains IsNarrow members f g.narrow c).is_operator in
    record {
      narrow = λ k. narrow_part f.w p k h (narrow_member members f g c);
      period = length members;
      positive = some_member members g;
      short = g.within;
      returns = proper_power f.w p (length members) valid.unimodular h (power-length members f g c);
    }

-- ---- the member at a place

pub small_proper : (members : List Operator) (f : Operator) (i : ℕ) (w p : Matrix) → IsGroup members → slice_get members i ≡ Some f → w ≡ f.w → IsProperPart w p → HasSmallPowers p
small_proper members f i w p g e q h = small_part members f p g (contains_at members f i e) (subst (λ m. IsProperPart m p) q h)

pub small_member : (members : List Operator) (f : Operator) (i : ℕ) (w : Matrix) → IsGroup members → slice_get members i ≡ Some f → w ≡ f.w → HasSmallPowers w
small_member members f i w g e q = subst HasSmallPowers (sym q) (small_powers members f g (contains_at members f i e))
