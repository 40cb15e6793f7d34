use Rattle.std.proofs.Common.{rules, w32, FitsSigned, ap, ◌∙◌}
use Rattle.lattice_algebra.specs.Matrix.{column_of}
use Rattle.phase_rules.specs.Rows.{◌·ʳᶜ◌}
use Rattle.phase_rules.proofs.Phases.{phase_computed}
use Rattle.phase_rules.proofs.tallies.phase_of.Goals as goal

pub returns : goal.returns
returns c =
    let k : FitsSigned w32 c.along.result = search rules in
    phase_computed _ c.along.result c.rem_euclid.result k (c.along.ensures ∙ ap (λ v. c.args.index.now ·ʳᶜ column_of v) c.t.ensures.value) c.rem_euclid.ensures.value
