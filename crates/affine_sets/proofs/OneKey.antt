-- Averages over full groups have one key exactly where an element carries the image of the one onto that of the other.
use Rattle.std.proofs.Common.{◌≡◌, ◌↔◌, List, length}
use Rattle.lattice_algebra.specs.Operator.{Operator}
use Rattle.exact_ops.specs.declared.TheConstants.{UNIT}
use Rattle.group_closure.specs.GroupList.{IsGroup}
use Rattle.space_groups.specs.Averages.{Block}
use Rattle.space_groups.specs.Keys.{Key, IsKey}
use Rattle.space_groups.proofs.Means as means
use Rattle.space_groups.proofs.Means.{Averaged}
use Rattle.space_groups.proofs.Carried.{IsOwn}
use Rattle.space_groups.proofs.Keys.{same_key_same_image}
use Rattle.site_symmetry.proofs.SpaceOfGroup.{space_of}
use Rattle.affine_sets.specs.Conditions.{IsOfFullGroup, HaveConjugateImages}
use Rattle.affine_sets.proofs.Groups.{averaged_list}

module _ (members : List Operator) (group : IsGroup members) where
  abbrev averaged : (a : Block) → IsOfFullGroup members a → Averaged (space_of members group) (length members)
  averaged a h = averaged_list members group h.group h.is_group a h.mean

  own : (a : Block) (h : IsOfFullGroup members a) → IsOwn (space_of members group) (averaged a h)
  own a h e = (
    (λ c. let r = (h.full.exactly e).0 c in (r.0, (means.full_exactly (averaged a h) e).1 r.1)),
    (λ r. (h.full.exactly e).1 (r.0, (means.full_exactly (averaged a h) e).0 r.1)),
  )

  pub one_key : (a b : Block) (p q : Key) → IsOfFullGroup members a → IsOfFullGroup members b → IsKey UNIT members (length members) a p → IsKey UNIT members (length members) b q → (p ≡ q) ↔ HaveConjugateImages members a b
  one_key a b p q h i k l = same_key_same_image (space_of members group) (averaged a h) (averaged b i) p q (own a h) (own b i) k l
