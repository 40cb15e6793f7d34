-- Classes and their keys: each class has one key, and equivalence is decided by a test.
use Rattle.std.proofs.Common.{◌≡◌, List, [], ◌∷◌, get_or, ⊎_elim, sym, refl, Contains, AllPairs, Decides}
use Rattle.std.specs.List.{list_any}
use Rattle.std.proofs.lemmas.Bool.Decides.{Decides-or, Decides-by_or, Decides-like}
use Rattle.std.proofs.lemmas.List.Elements.{Contains-get_or, at_read}
use Rattle.finite_groups.proofs.Members as lists
use Rattle.finite_groups.proofs.Pairs.{AllPairs-first}
use Rattle.finite_groups.proofs.Sorting as sorting
use Rattle.lattice_algebra.specs.Operator.{Operator, identity_operator}
use Rattle.group_closure.specs.GroupList.{IsGroup}
use Rattle.phase_rules.specs.declared.pairs.Pairs.{Pairs}
use Rattle.phase_rules.specs.declared.pairs.Pairs.TheVariants.{Friedel, Apart}
use Rattle.phase_rules.specs.Rows.{Row, ◌·ʳ◌, neg_row, row_eq}
use Rattle.phase_rules.specs.Equivalent.{IsSameReflection, AreEquivalent}
use Rattle.phase_rules.proofs.Rows.{row_eq-is}
use Rattle.phase_rules.proofs.Classes.{equivalent_itself, equivalent_back, equivalent_on, some_class}
use Rattle.refl_merge.specs.Keys.{IsAbove, IsClassKey}
use Rattle.refl_merge.specs.Merged.{same_reflection, are_equivalent}
use Rattle.refl_merge.proofs.Order.{above_on, which_above, not_both_above, not_above_itself}

-- ---- the test

same_reflection-is : (pairs : Pairs) (e g : Row) → Decides (same_reflection pairs e g) (IsSameReflection pairs e g)
same_reflection-is Apart e g = row_eq-is g e
same_reflection-is Friedel e g = Decides-or (row_eq g e) (row_eq g (neg_row e)) (row_eq-is g e) (row_eq-is g (neg_row e))

pub are_equivalent-is : (pairs : Pairs) (members : List Operator) (h g : Row) → Decides (are_equivalent pairs members h g) (AreEquivalent pairs members h g)
unfolding are_equivalent
are_equivalent-is pairs members h g =
    let test = λ (f : Operator). same_reflection pairs (h ·ʳ f.w) g in
    let Same = λ (f : Operator). IsSameReflection pairs (h ·ʳ f.w) g in
    Decides-like (list_any test members)
    (λ r. record { by = get_or members r.0 identity_operator; member = Contains-get_or members r.0 identity_operator r.1; same = r.2 identity_operator })
    (λ a. (a.member.0, a.member.1, at_read members Same a.member.0 a.by a.member.1 (sym a.member.2) a.same))
    (Decides-by_or test Same (list_any test) (λ f. same_reflection-is pairs (h ·ʳ f.w) g) refl (λ _ _. refl) members)

-- ---- keys

module _ (pairs : Pairs) (members : List Operator) (group : IsGroup members) where
  -- equivalent rows have one key
  pub one_key : (h g a b : Row) → AreEquivalent pairs members h g → IsClassKey pairs members h a → IsClassKey pairs members g b → a ≡ b
  one_key h g a b e ka kb =
      let back = equivalent_back pairs members group h g e in
      let to_b : AreEquivalent pairs members h b = equivalent_on pairs members group h g b e kb.equivalent in
      let to_a : AreEquivalent pairs members g a = equivalent_on pairs members group g h a back ka.equivalent in
      ⊎_elim
      (λ p. absurd (kb.greatest a to_a p))
      (λ q. ⊎_elim (λ (s : a ≡ b). s) (λ p. absurd (ka.greatest b to_b p)) q)
      (which_above a b)

  -- the key is that of each row of its class
  pub key_of_equivalent : (h g key : Row) → AreEquivalent pairs members h g → IsClassKey pairs members h key → IsClassKey pairs members g key
  key_of_equivalent h g key e k =
      let back = equivalent_back pairs members group h g e in
      record {
        equivalent = equivalent_on pairs members group g h key back k.equivalent;
        greatest = λ x a. k.greatest x (equivalent_on pairs members group h g x e a);
      }

  pub key_of_key : (h key : Row) → IsClassKey pairs members h key → IsClassKey pairs members key key
  key_of_key h key k = key_of_equivalent h key key k.equivalent k

  -- a class in descending order begins with its key
  pub some_key : (h : Row) → (key : Row) × IsClassKey pairs members h key
  some_key h =
      let class = some_class pairs members h in
      let r = sorting.sorted IsAbove above_on which_above class.0 in
      let here : Contains r.0 h = (r.2 h).0 ((class.1.exactly h).1 (equivalent_itself pairs members group h)) in
      first r.0 r.1 here (λ g. ((λ c. (class.1.exactly g).0 ((r.2 g).1 c)), (λ a. (r.2 g).0 ((class.1.exactly g).1 a))))
    where
      first : (rows : List Row) → AllPairs IsAbove rows → Contains rows h → ((g : Row) → (Contains rows g → AreEquivalent pairs members h g) × (AreEquivalent pairs members h g → Contains rows g)) → (key : Row) × IsClassKey pairs members h key
      first [] s c e = lists.not_in_nil h c
      first (key ∷ rest) s c e = (
        key,
        record {
          equivalent = (e key).0 (lists.Contains-here key rest);
          greatest = λ g a p. ⊎_elim (λ (q : key ≡ g). not_above_itself g key (sym q) p) (λ d. not_both_above g key p (AllPairs-first IsAbove key g rest s d)) (lists.Contains-cases g key rest ((e g).1 a));
        },
      )
