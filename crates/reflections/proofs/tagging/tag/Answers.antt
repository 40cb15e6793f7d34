use Rattle.std.proofs.Common.{◌∙◌, subst, sym, ◌⊎◌, ◌↔◌, ◌-◌, length, set, true}
use Rattle.std.proofs.lemmas.List.{length-set}
use Rattle.phase_rules.specs.Rows.{row_of}
use Rattle.phase_rules.specs.Equivalent.{IsSameReflection}
use Rattle.reflections.specs.Walks.{IsTagged}
use Rattle.reflections.proofs.Boxes.{opposite_place}
use Rattle.reflections.proofs.Tags.{set_one, set_both}
use Rattle.reflections.proofs.tagging.tag.Goals as goal

pub returns-in-Friedel : goal.returns-in-Friedel
returns-in-Friedel c = λ h i.
    let box = c.args.size.now in
    let r = row_of c.args.row.now in
    let at = c.place-at.result in
    let one = set c.args.tags.now at true in
    let back = length one - 1 - at in
    subst (λ p. IsTagged box (set one back true) h ↔ (IsTagged box c.args.tags.now h ⊎ IsSameReflection p r h)) (sym c.in-Friedel.is)
    (set_both box c.args.tags.now at back r c.requires.len c.requires.within c.place-at.ensures.value (opposite_place box r at (length one) c.requires.within (sym c.place-at.ensures.value) (length-set c.args.tags.now at true ∙ c.requires.len)) h i)

pub returns-in-Apart : goal.returns-in-Apart
returns-in-Apart c = λ h i.
    let box = c.args.size.now in
    let r = row_of c.args.row.now in
    subst (λ p. IsTagged box (set c.args.tags.now c.place-at.result true) h ↔ (IsTagged box c.args.tags.now h ⊎ IsSameReflection p r h)) (sym c.in-Apart.is)
    (set_one box c.args.tags.now c.place-at.result r h c.requires.len c.requires.within c.place-at.ensures.value i)
