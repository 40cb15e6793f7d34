use Rattle.std.proofs.Common.{◌∙◌, sym, subst}
use Rattle.std.proofs.lemmas.Option.{same_Some}
use Rattle.exact_ops.specs.Fields.{matrix_in}
use Rattle.affine_sets.specs.Fields.{offset_in}
use Rattle.wyckoff_rows.specs.Steps.{kept_in, AreRanges}
use Rattle.wyckoff_rows.proofs.Lists.{contains_at}
use Rattle.wyckoff_rows.proofs.NearFull.{near_translation, near_limit}
use Rattle.wyckoff_rows.proofs.Ranging.{ranges_are, ranges_small}
use Rattle.wyckoff_rows.proofs.ranges.shift_ranges.Goals as goal

pub base_of-base-requires : goal.base_of-base-requires
base_of-base-requires c = near_limit c.args.g.now c.op-f.ensures.group c.args.entry.now.average c.requires.entry.near

pub returns-clause-enough : goal.returns-clause-enough
returns-clause-enough c =
    let g = c.args.g.now in
    let t = c.args.entry.now in
    let r = c.ranges_between.result in
    λ f s. subst (λ v. AreRanges g t.set v r) (same_Some c.op-f.result f (sym c.op-f.ensures.value ∙ s))
    (ranges_are g c.op-f.ensures.group (kept_in t) c.requires.entry.kept c.over.result c.op-f.result (matrix_in c.whole_columns-r.result) (matrix_in c.differences.result) (offset_in c.base_of-base.result)
    c.over.ensures.value c.base_of-base.ensures.value c.differences.ensures.value c.whole_columns-r.ensures.spans r c.ranges_between.ensures)

pub returns-clause-small : goal.returns-clause-small
returns-clause-small c =
    let g = c.args.g.now in
    let t = c.args.entry.now in
    ranges_small g c.op-f.ensures.group (kept_in t) c.requires.entry.kept c.over.result c.op-f.result (matrix_in c.whole_columns-r.result) (matrix_in c.differences.result) (offset_in c.base_of-base.result)
    c.over.ensures.value c.base_of-base.ensures.value c.differences.ensures.value (contains_at g c.args.i c.op-f.result c.op-f.ensures.value) c.whole_columns-r.ensures.size
    (near_translation g c.op-f.ensures.group t.average c.requires.entry.near) c.ranges_between.result c.ranges_between.ensures
