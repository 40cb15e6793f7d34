use Rattle.std.proofs.Common.{rules, w32, FitsSigned}
use Rattle.lattice_algebra.specs.Matrix.{matrix_of}
use Rattle.phase_rules.proofs.Rows.{first_computed}
use Rattle.phase_rules.proofs.index.Index.first_times.Goals as goal

pub returns : goal.returns
returns c =
    let k : FitsSigned w32 c.dot.result = search rules in
    first_computed c.args.self.now _ (matrix_of c.args.w.now) _ c.self.view_is c.self.invariant c.requires k c.dot.ensures
