use Rattle.std.proofs.Common.{rules, w32, FitsSigned}
use Rattle.lattice_algebra.specs.Matrix.{column_of}
use Rattle.phase_rules.proofs.Rows.{dot_computed}
use Rattle.phase_rules.proofs.index.Index.along.Goals as goal

pub returns : goal.returns
returns c =
    let k : FitsSigned w32 c.dot.result = search rules in
    dot_computed c.args.self.now _ (column_of c.args.t.now) _ c.self.view_is c.self.invariant c.requires k c.dot.ensures
