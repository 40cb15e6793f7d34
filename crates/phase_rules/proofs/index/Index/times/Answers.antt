use Rattle.std.proofs.Common.{rules, w32, FitsSigned}
use Rattle.lattice_algebra.specs.Matrix.{matrix_of}
use Rattle.phase_rules.proofs.Rows.{row_computed}
use Rattle.phase_rules.proofs.index.Index.times.Goals as goal

pub returns : goal.returns
returns c =
    let k : (FitsSigned w32 c.dot.result) × (FitsSigned w32 c.dot-2.result) × (FitsSigned w32 c.dot-3.result) = search rules in
    row_computed c.args.self.now _ (matrix_of c.args.w.now) _ _ _ c.self.view_is c.self.invariant c.requires k.0 k.1 k.2 c.dot.ensures c.dot-2.ensures c.dot-3.ensures
