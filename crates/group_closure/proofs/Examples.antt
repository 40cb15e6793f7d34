-- Worked examples: two lists that are groups. Only examples cite these.
use Rattle.std.proofs.Common.{◌≡◌, ◌≢◌, pos, negsuc, List, [], ◌∷◌, ⊎_elim, Contains, ap, subst, refl, arith}
use Rattle.std.specs.List.Sorted.{IsStrictlySortedBy}
use Rattle.std.proofs.lemmas.Int.{ints}
use Rattle.std.proofs.lemmas.List.Kept.{AllPairs-cons}
use Rattle.std.proofs.lemmas.List.Elements.{All-from_recursion}
use Rattle.finite_groups.proofs.Members as lists
use Rattle.lattice_algebra.specs.Matrix.{◌·◌, ◌·ᶜ◌, ◌+ᶜ◌}
use Rattle.lattice_algebra.specs.Operator.{Operator, identity_operator, product, modulo}
use Rattle.lattice_algebra.proofs.Examples.{inverting, inverting_is_operator, both, closed_list}
use Rattle.exact_ops.specs.declared.TheConstants.{UNIT}
use Rattle.exact_ops.specs.Narrow.{IsNarrow}
use Rattle.group_closure.specs.GroupList.{IsGroup}
use Rattle.group_closure.proofs.CellOperators.{cell_operators}

-- ---- P1

abbrev pub one : List Operator
one = identity_operator ∷ []

pub in_one : (f : Operator) → Contains one f → identity_operator ≡ f
in_one f c = ⊎_elim (λ e. e) (λ n. lists.not_in_nil f n) (lists.Contains-cases f identity_operator [] c)

pub group_of_one : IsGroup one
unfolding IsStrictlySortedBy product modulo ◌·◌ ◌·ᶜ◌ ◌+ᶜ◌
group_of_one = record {
  first = refl;
  distinct = λ i j d l m. absurd (omega arith);
  closed = λ f g p q. subst (λ v. Contains one (product UNIT v g)) (in_one f p) (subst (λ v. Contains one (product UNIT identity_operator v)) (in_one g q) (0, omega arith, refl));
  sorted = tt;
  narrow = All-from_recursion IsNarrow one (record { is_operator = cell_operators.one_in; within_two = omega arith }, tt);
  within = omega arith;
}

-- ---- P-1

apart : identity_operator ≢ inverting
apart e = let x : pos 1 ≡ negsuc 0 = ap (λ (f : Operator). f.w.xx) e in omega (arith, ints)

pub group_of_both : IsGroup both
unfolding IsStrictlySortedBy
group_of_both = record {
  first = refl;
  distinct = AllPairs-cons (λ f g. f ≢ g) identity_operator (inverting ∷ []) (All-from_recursion (λ g. identity_operator ≢ g) (inverting ∷ []) (apart, tt)) (λ i j d l m. absurd (omega arith));
  closed = closed_list.closed;
  sorted = (tt, tt);
  narrow = All-from_recursion IsNarrow both (record { is_operator = cell_operators.one_in; within_two = omega arith }, (record { is_operator = inverting_is_operator; within_two = omega arith }, tt));
  within = omega arith;
}
