use Rattle.std.proofs.Common.{◌*◌, subst, sym}
use Rattle.lattice_algebra.specs.Operator.{AreParts}
use Rattle.lattice_algebra.proofs.Remainders.{modulo_parts}
use Rattle.lattice_algebra.proofs.Numbers.{positive_product}
use Rattle.exact_ops.specs.declared.TheConstants.{UNIT}
use Rattle.exact_ops.proofs.Narrow.{some_parts}
use Rattle.exact_ops.specs.Fields.{matrix_in}
use Rattle.space_groups.specs.Keys.{key_of}
use Rattle.affine_sets.specs.Fields.{offset_in}
use Rattle.affine_sets.proofs.CellNumbers.{in_cell_column}
use Rattle.affine_sets.proofs.special.in_cell.Goals as goal

pub invariant_of-result : goal.invariant_of-result
invariant_of-result c =
    let r = c.requires in
    let t = offset_in c.args.t.now in
    let e = in_cell_column t c.args.over c.in_one_cell.result c.in_one_cell-2.result c.in_one_cell-3.result r.translation r.some r.few c.in_one_cell.ensures c.in_one_cell-2.ensures c.in_one_cell-3.ensures in
    record {
      some = r.some;
      within = r.few;
      matrix = r.matrix;
      in_cell = subst (AreParts (UNIT * c.args.over)) (sym e) (modulo_parts (UNIT * c.args.over) (positive_product UNIT c.args.over some_parts r.some) t);
    }

pub returns-clause-key : goal.returns-clause-key
unfolding key_of
returns-clause-key c =
    let r = c.requires in
    let e = in_cell_column (offset_in c.args.t.now) c.args.over c.in_one_cell.result c.in_one_cell-2.result c.in_one_cell-3.result r.translation r.some r.few c.in_one_cell.ensures c.in_one_cell-2.ensures c.in_one_cell-3.ensures in
    λ i. record { m = matrix_in c.args.m.now; t = e i }
