-- What `next` leaves of a walk through the classes of a box.
use Rattle.std.proofs.Common.{◌≡◌, ℕ, ◌+◌, ◌<◌, ◌≤◌, ◌↔◌, ◌⊎◌, Bool, true, false, List, [], ◌∷◌, ◌++◌, length, get_or, sym, subst}
use Rattle.lattice_algebra.specs.Operator.{Operator}
use Rattle.phase_rules.specs.Rows.{Row}
use Rattle.phase_rules.specs.Equivalent.{AreEquivalent}
use Rattle.tag_walks.specs.Regions.{IsFirstFree}
use Rattle.tag_walks.proofs.Walks as walks
use Rattle.reflections.specs.declared.line.ClassLine.{ClassLine}
use Rattle.reflections.specs.Boxes.{IsInBox, place_of, places}
use Rattle.reflections.specs.ClassLists.{IsLine, IsClassList, class_region, class_lines}
use Rattle.reflections.specs.Walks.{Walk, IsTagged, IsWalk}
use Rattle.reflections.proofs.ClassLists.{region}

-- where some place is free
pub stepped : (members : List Operator) (old v : Walk) (taken : List ClassLine) (p : ℕ) (line : ClassLine) (lent begun tags new : List Bool) → v ≡ old → IsWalk members old taken → lent ≡ v.tags → begun ≡ v.tags → new ≡ tags
    → IsFirstFree lent v.place p
    → IsInBox v.size line.index → place_of v.size line.index ≡ p → IsLine v.pairs members line
    → ((h : Row) → IsInBox v.size h → IsTagged v.size tags h ↔ (IsTagged v.size begun h ⊎ AreEquivalent v.pairs members line.index h))
    → IsWalk members (record { size = v.size; pairs = v.pairs; place = p + 1; tags = new }) (taken ++ line ∷ [])
stepped members old v taken p line lent begun tags new e walk a b d free i q is more =
    let w = subst (λ x. IsWalk members x taken) (sym e) walk in
    record {
      group = w.group;
      tags = walks.stepped (class_region v.pairs members v.size) (class_lines v.pairs members v.size) (region v.pairs members w.group v.size) v.place v.tags taken p line lent begun tags new w.tags a b d free i q is more;
    }

-- where none is
pub over : (members : List Operator) (old v : Walk) (taken : List ClassLine) (lent : List Bool) → v ≡ old → IsWalk members old taken → lent ≡ v.tags → length v.tags ≡ places v.size
    → ((k : ℕ) → v.place ≤ k → k < length lent → get_or lent k false ≡ true) → IsClassList old.pairs members old.size taken
over members old v taken lent e walk a n all =
    let w = subst (λ x. IsWalk members x taken) (sym e) walk in
    subst (λ (x : Walk). IsClassList x.pairs members x.size taken) e
    (walks.over (class_region v.pairs members v.size) (class_lines v.pairs members v.size) (region v.pairs members w.group v.size) v.place v.tags taken lent w.tags a n all)
