use Rattle.std.proofs.Common.{◌≡◌, ap, subst, sym, ◌⊎◌, ◌↔◌, ◌∙◌}
use Rattle.std.proofs.lemmas.Bool.{false≢true}
use Rattle.lattice_algebra.specs.Matrix.{matrix_of}
use Rattle.phase_rules.specs.Rows.{row_of, ◌·ʳ◌}
use Rattle.phase_rules.specs.Equivalent.{IsSameReflection}
use Rattle.phase_rules.specs.Tallies.{IsTurn}
use Rattle.reflections.specs.Boxes.{IsInBox}
use Rattle.reflections.specs.Walks.{IsTagged}
use Rattle.reflections.proofs.Tags.{set_none}
use Rattle.reflections.proofs.tagging.tag_images.Goals as goal
use Rattle.reflections.proofs.tagging.tag_images.Goals.{After-of, then-holds, else-holds}

image : (c : After-of) → row_of c.times-image.result ≡ c.args.index.now ·ʳ c.args.op.now.w
image c = c.times-image.ensures ∙ ap (λ w. c.args.index.now ·ʳ matrix_of w) c.w.ensures.value

pub returns-clause-turn : goal.returns-clause-turn
returns-clause-turn c = subst (λ r. IsTurn c.args.index.now r c.of.result) (image c) c.of.ensures

pub returns-clause-tags : goal.returns-clause-tags
returns-clause-tags c = λ h i.
    let box = c.args.size.now in
    let r = c.args.index.now ·ʳ c.args.op.now.w in
    elim c.if-holds.branch [
      | then-holds w ↦ subst (λ tags. IsTagged box tags h ↔ (IsTagged box c.args.tags.now h ⊎ IsSameReflection c.args.pairs r h)) (sym w.tags-is)
          (subst (λ e. IsTagged box w.tag.new.tags h ↔ (IsTagged box c.args.tags.now h ⊎ IsSameReflection c.args.pairs e h)) (image c) (w.tag.ensures h i))
      | else-holds w ↦ subst (λ tags. IsTagged box tags h ↔ (IsTagged box c.args.tags.now h ⊎ IsSameReflection c.args.pairs r h)) (sym w.tags-is)
          (set_none box c.args.pairs r (IsTagged box c.args.tags.now h) (λ j. false≢true (sym w.if-holds.false ∙ c.holds.ensures.1 (subst (IsInBox box) (sym (image c)) j))) h i)
    ]
