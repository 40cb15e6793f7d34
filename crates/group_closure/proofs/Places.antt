-- The places of the members of a group.
use Rattle.std.proofs.Common.{◌≡◌, ◌≢◌, ℕ, ◌+◌, ◌<◌, ◌≤◌, Some, List, length, get_or, slice_get, sym, ap, ◌∙◌, subst, arith, Contains, ⊎_elim}
use Rattle.std.proofs.lemmas.Bool.{cases_lt}
use Rattle.std.proofs.lemmas.Option.{get_or_from_slice_get, slice_get_within, slice_get-get_or}
use Rattle.std.proofs.lemmas.List.Elements.{All-contains}
use Rattle.finite_groups.proofs.Basics as basics
use Rattle.finite_groups.proofs.Closing as closing
use Rattle.lattice_algebra.specs.Operator.{Operator, product, inverse, IsInverse, identity_operator}
use Rattle.lattice_algebra.proofs.Operators.{inverse-IsInverse, inverse_once}
use Rattle.exact_ops.specs.Narrow.{IsNarrow}
use Rattle.exact_ops.specs.declared.TheConstants.{UNIT}
use Rattle.group_closure.specs.Words.{AreDistinct}
use Rattle.group_closure.specs.Runs.{IsRun}
use Rattle.group_closure.specs.GroupList.{IsGroup}
use Rattle.group_closure.proofs.CellOperators.{cell_operators}
use Rattle.group_closure.proofs.Lists.{closed_list}

-- ---- one member, one place

pub found : (members lent : List Operator) (f op : Operator) (i : ℕ) → lent ≡ members → i < length lent → f ≡ get_or lent i f → f ≡ op → slice_get members i ≡ Some op
found members lent f op i e l q s =
    let here : slice_get lent i ≡ Some (get_or lent i f) = slice_get-get_or lent i f l in
    ap (λ v. slice_get v i) (sym e) ∙ here ∙ ap Some (sym q ∙ s)

-- a member that was read at a place
pub read_at : (members lent : List Operator) (f : Operator) (i k : ℕ) → lent ≡ members → k ≡ i → i < length members → f ≡ get_or lent k f → slice_get members i ≡ Some f
read_at members lent f i k e p l q =
    found members lent f f i e (omega (arith, ap length e)) (q ∙ ap (λ j. get_or lent j f) p) (λ _. f)

-- each place has a member
pub some_at : (ops : List Operator) (k : ℕ) → k < length ops → (f : Operator) × (slice_get ops k ≡ Some f)
some_at ops k l = (get_or ops k identity_operator, slice_get-get_or ops k identity_operator l)

-- what stands at a place is a member
pub contains_at : (members : List Operator) (f : Operator) (i : ℕ) → slice_get members i ≡ Some f → Contains members f
contains_at members f i e = (i, slice_get_within members i f e, get_or_from_slice_get members i f f e)

pub apart : (members : List Operator) (f : Operator) (i k : ℕ) → AreDistinct members → slice_get members i ≡ Some f → slice_get members k ≡ Some f → i < k → ⊥
apart members f i k d p q l = d i k f l (slice_get_within members k f q) (get_or_from_slice_get members i f f p ∙ sym (get_or_from_slice_get members k f f q))

-- and stands at one place alone
pub one_place : (members : List Operator) (f : Operator) (i k : ℕ) → AreDistinct members → slice_get members i ≡ Some f → slice_get members k ≡ Some f → i ≡ k
one_place members f i k d p q =
    let no_less : i < k → ⊥ = apart members f i k d p q in
    let no_more : k < i → ⊥ = apart members f k i d q p in
    omega (arith, no_less, no_more)

-- two members read at one place
pub same_at : (members : List Operator) (f g : Operator) (i : ℕ) → slice_get members i ≡ Some f → slice_get members i ≡ Some g → f ≡ g
same_at members f g i p q = sym (get_or_from_slice_get members i f f p) ∙ get_or_from_slice_get members i g f q

-- a group has a member
pub some_member : (members : List Operator) → IsGroup members → 0 < length members
some_member members p = slice_get_within members 0 identity_operator p.first

-- ---- none of the first i

abbrev pub AreOther : List Operator → Operator → ℕ → Type 0
AreOther members f i = (k : ℕ) (d : Operator) → k < i → get_or members k d ≢ f

pub other_more : (members lent : List Operator) (f g : Operator) (i : ℕ) → lent ≡ members → i < length lent → g ≡ get_or lent i g → g ≢ f → AreOther members f i → AreOther members f (i + 1)
other_more members lent f g i e l q n was k d m =
    ⊎_elim (λ b. was k d b)
    (λ b h. let same : i ≡ k = omega arith in
    n (sym (get_or_from_slice_get members i g d (found members lent g g i e l q (λ _. g))) ∙ ap (λ j. get_or members j d) same ∙ h)) (cases_lt k i)

-- ---- products and inverses of members

pub product_member : (members : List Operator) (f g : Operator) → IsGroup members → Contains members f → Contains members g → Contains members (product UNIT f g)
product_member members f g p c d = p.closed f g c d

pub inverse_member : (members : List Operator) (f : Operator) → IsGroup members → Contains members f → Contains members (inverse UNIT f)
inverse_member members f p c =
    let r = closing.inverse_in cell_operators members (closed_list members p) f c in
    let at = λ (g : Operator) (m : Contains members g). (All-contains IsNarrow members g p.narrow m).is_operator in
    subst (Contains members) (basics.inverse_once cell_operators f r.0 (at f c) (at r.0 r.1) r.2) r.1

pub inverse_is : (members : List Operator) (f : Operator) → IsGroup members → Contains members f → IsInverse UNIT f (inverse UNIT f)
inverse_is members f p c = inverse-IsInverse UNIT f (All-contains IsNarrow members f p.narrow c).is_operator.unimodular

-- a member whose product is the identity is the inverse
pub inverse_by_product : (members : List Operator) (f g : Operator) → IsGroup members → Contains members f → Contains members g → product UNIT f g ≡ identity_operator → IsInverse UNIT f g
inverse_by_product members f g p c d e =
    let at = λ (h : Operator) (m : Contains members h). (All-contains IsNarrow members h p.narrow m).is_operator in
    subst (IsInverse UNIT f) (sym (basics.inverse_once cell_operators f g (at f c) (at g d) e)) (inverse_is members f p c)

-- ---- runs of members with one matrix

-- what the group says of the end of the run of the member at i
pub record EndsRun (members : List Operator) (i end : ℕ) : Type 0 where
  pub first : i ≡ 0 → end ≡ 1
  pub run : 0 < i → IsRun members i end

pub same_matrix : (members : List Operator) (i end k : ℕ) (f g : Operator) → EndsRun members i end → slice_get members i ≡ Some f → slice_get members k ≡ Some g → i ≤ k → k < end → g.w ≡ f.w
same_matrix members i end k f g e p q l m =
    ⊎_elim
    (λ a. (e.run a k f g l p q).1 m)
    (λ a.
    let z : i ≡ 0 = omega arith in
    let one = e.first z in
    let j : i ≡ k = omega (arith, one) in
    sym (ap (λ (x : Operator). x.w) (same_at members f g k (ap (λ n. slice_get members n) (sym j) ∙ p) q)))
    (cases_lt 0 i)
