use Rattle.std.proofs.Common.{Some, ap, ◌∙◌}
use Rattle.lattice_algebra.specs.Matrix.{column_of}
use Rattle.lattice_algebra.proofs.Maps.{shifted}
use Rattle.exact_ops.specs.declared.TheConstants.{UNIT}
use Rattle.affine_sets.specs.Fields.{stored_offset}
use Rattle.affine_sets.proofs.Placing.{at_place_is, passed_offset}
use Rattle.affine_sets.proofs.growth.with_place.Goals as goal

pub returns-clause-value : goal.returns-clause-value
returns-clause-value c =
    let e = c.args.e.now in
    let k = stored_offset (column_of e.shift) in
    at_place_is c.args.g.now _ e.op (c.place_of.ensures.value ∙ ap Some c.place_of.ensures.operator) ∙ ap (shifted UNIT e.op) (passed_offset k e.in_range)

pub returns-clause-shift : goal.returns-clause-shift
returns-clause-shift c = passed_offset (stored_offset (column_of c.args.e.now.shift)) c.args.e.now.in_range
