use Rattle.std.proofs.Common.{sym, ◌∙◌}
use Rattle.exact_ops.specs.Fields.{matrix_in, column_in}
use Rattle.affine_sets.proofs.KeyTests.{matrix_differs, column_decides}
use Rattle.affine_sets.proofs.parts.Key.is.Goals as goal

pub returns : goal.returns
returns c =
    matrix_differs c.args.self.now c.args.other.now (matrix_in c.self.inside.m) (matrix_in c.other.inside.m) (column_in c.self.inside.t) (column_in c.other.inside.t) c.self.inside.over c.other.inside.over c.self.view_is c.other.view_is (sym c.eq-same.ensures ∙ c.if-same.false)

pub returns-then-same : goal.returns-then-same
returns-then-same c =
    column_decides c.args.self.now c.args.other.now (matrix_in c.self.inside.m) (matrix_in c.other.inside.m) (column_in c.self.inside.t) (column_in c.other.inside.t) c.self.inside.over c.other.inside.over c.eq.result c.self.view_is c.other.view_is c.if-self-other.false (sym c.eq-same.ensures ∙ c.if-same.true) c.eq.ensures
