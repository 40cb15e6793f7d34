use Rattle.std.proofs.Common.{sym, ◌∙◌, refl}
use Rattle.exact_ops.specs.Fields.{matrix_in, column_in}
use Rattle.exact_ops.specs.Numbers.{point_in}
use Rattle.basis_change.proofs.ChangedPoints.{is_there, IsPointInRange-over}
use Rattle.basis_change.proofs.parts.Change.point.Goals as goal

pub image_of-n-requires-clause-within : goal.image_of-n-requires-clause-within
image_of-n-requires-clause-within c = c.self.invariant.within

pub image_of-n-requires-clause-in_cell : goal.image_of-n-requires-clause-in_cell
image_of-n-requires-clause-in_cell c = c.self.invariant.in_cell

pub returns-then-not-are_coordinates-clause-some : goal.returns-then-not-are_coordinates-clause-some
returns-then-not-are_coordinates-clause-some c =
    let q = is_there (matrix_in c.self.inside.q) (column_in c.self.inside.origin) c.args.self.now c.image_of-n.result (point_in c.args.x.now) c.self.view_is c.args.x.now.in_range c.image_of-n.ensures in
    (λ e. cc, λ h. sym c.if-not-are_coordinates.true ∙ c.are_coordinates.ensures.1 (q.range.1 h))

pub invariant_of-result : goal.invariant_of-result
invariant_of-result c =
    let q = is_there (matrix_in c.self.inside.q) (column_in c.self.inside.origin) c.args.self.now c.image_of-n.result (point_in c.args.x.now) c.self.view_is c.args.x.now.in_range c.image_of-n.ensures in
    record { in_range = IsPointInRange-over (point_in c.args.x.now) _ c.args.x.now.in_range q.denominator (c.are_coordinates.ensures.0 c.if-not-are_coordinates.false) }

pub returns-clause-some : goal.returns-clause-some
returns-clause-some c =
    let q = is_there (matrix_in c.self.inside.q) (column_in c.self.inside.origin) c.args.self.now c.image_of-n.result (point_in c.args.x.now) c.self.view_is c.args.x.now.in_range c.image_of-n.ensures in
    (λ _. q.range.0 (c.are_coordinates.ensures.0 c.if-not-are_coordinates.false), λ _. refl)

pub returns-clause-value : goal.returns-clause-value
returns-clause-value c = (is_there (matrix_in c.self.inside.q) (column_in c.self.inside.origin) c.args.self.now c.image_of-n.result (point_in c.args.x.now) c.self.view_is c.args.x.now.in_range c.image_of-n.ensures).equal
