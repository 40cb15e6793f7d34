use Rattle.std.proofs.Common.{sym, ◌∙◌, subst}
use Rattle.std.proofs.lemmas.Bool.{false≢true}
use Rattle.phase_rules.proofs.Phases.{IsHalf, half_shifting, half_fixing, half_other, whole_reversing, whole_other, not_zero, is_zero}
use Rattle.phase_rules.proofs.tallies.Tally.add.Goals as goal
use Rattle.phase_rules.proofs.tallies.Tally.add.Goals.{then-turn+then-phase_of-ne0, then-turn+else-phase_of-ne0, else-turn}

pub returns-then-turn-2 : goal.returns-then-turn-2
returns-then-turn-2 c = λ members t.
    let x = c.args.index.now in
    let f = c.args.op.now in
    let half : IsHalf members x f c.if-turn.self = elim c.if-turn.branch [
      | then-turn+then-phase_of-ne0 w ↦ subst (IsHalf members x f) (sym w.self-is) (half_shifting members x f c.args.self.now t (c.requires.turn.fixes.0 w.if-turn.true) (not_zero _ _ w.phase_of.ensures w.if-phase_of-ne0.true))
      | then-turn+else-phase_of-ne0 w ↦ subst (IsHalf members x f) (sym w.self-is) (half_fixing members x f c.args.self.now t (c.requires.turn.fixes.0 w.if-turn.true) (is_zero _ _ w.phase_of.ensures w.if-phase_of-ne0.false))
      | else-turn w ↦ subst (IsHalf members x f) (sym w.self-is) (half_other members x f c.args.self.now t (λ p. false≢true (sym w.if-turn.false ∙ c.requires.turn.fixes.1 p)))
    ] in
    whole_reversing members x f c.if-turn.self c.phase_of-self.result half (c.requires.turn.reverses.0 c.if-turn-2.true) c.phase_of-self.ensures

pub returns-else-turn-2 : goal.returns-else-turn-2
returns-else-turn-2 c = λ members t.
    let x = c.args.index.now in
    let f = c.args.op.now in
    let half : IsHalf members x f c.if-turn.self = elim c.if-turn.branch [
      | then-turn+then-phase_of-ne0 w ↦ subst (IsHalf members x f) (sym w.self-is) (half_shifting members x f c.args.self.now t (c.requires.turn.fixes.0 w.if-turn.true) (not_zero _ _ w.phase_of.ensures w.if-phase_of-ne0.true))
      | then-turn+else-phase_of-ne0 w ↦ subst (IsHalf members x f) (sym w.self-is) (half_fixing members x f c.args.self.now t (c.requires.turn.fixes.0 w.if-turn.true) (is_zero _ _ w.phase_of.ensures w.if-phase_of-ne0.false))
      | else-turn w ↦ subst (IsHalf members x f) (sym w.self-is) (half_other members x f c.args.self.now t (λ p. false≢true (sym w.if-turn.false ∙ c.requires.turn.fixes.1 p)))
    ] in
    whole_other members x f c.if-turn.self half (λ p. false≢true (sym c.if-turn-2.false ∙ c.requires.turn.reverses.1 p))
