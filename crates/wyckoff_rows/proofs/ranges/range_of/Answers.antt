use Rattle.std.proofs.Common.{◌*◌, pos, ◌∙◌, w64}
use Rattle.lattice_algebra.proofs.Machine.{back}
use Rattle.exact_ops.specs.declared.TheConstants.{UNIT}
use Rattle.space_groups.specs.Intervals.{sum_below, sum_above}
use Rattle.wyckoff_rows.proofs.RangeEnds.{end_kept, between_ends, below_kept, above_kept}
use Rattle.wyckoff_rows.proofs.ranges.range_of.Goals as goal

pub returns : goal.returns
returns c =
    let a = c.args.a in
    let b = c.args.b in
    let d = c.args.c in
    let low = end_kept c.end_of-low.result c.args.base c.cell_over-cell.result c.least.result (sum_below a b d) c.args.over c.requires.base c.cell_over-cell.ensures c.requires.few c.least.ensures.size c.end_of-low.ensures.size c.end_of-low.ensures.value (c.least.ensures.value ∙ below_kept a b d c.requires.size) in
    let high = end_kept c.end_of-high.result c.args.base c.cell_over-cell.result c.greatest.result (sum_above a b d) c.args.over c.requires.base c.cell_over-cell.ensures c.requires.few c.greatest.ensures.size c.end_of-high.ensures.size c.end_of-high.ensures.value (c.greatest.ensures.value ∙ above_kept a b d c.requires.size) in
    between_ends c.range_between.result c.args.base a b d (pos (UNIT * c.args.over)) (back w64 c.end_of-low.result) (back w64 c.end_of-high.result) low high c.range_between.ensures
