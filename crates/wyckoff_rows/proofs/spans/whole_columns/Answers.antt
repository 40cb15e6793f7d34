use Rattle.std.proofs.Common.{◌∙◌, ◌*◌, w32, pos, ap, sym, subst}
use Rattle.lattice_algebra.specs.Matrix.{Matrix, matrix_of, ◌·◌, scaled}
use Rattle.space_groups.proofs.Blocks.{matrix_part}
use Rattle.lattice_algebra.specs.Operator.{HasEntriesWithin}
use Rattle.lattice_algebra.proofs.Machine.{back}
use Rattle.exact_ops.specs.Fields.{matrix_in}
use Rattle.wyckoff_rows.specs.Spanning.{AreEnough}
use Rattle.wyckoff_rows.proofs.Columns.{AreWholeEntries, over_is, passed_matrix, read_entries, columns_span, AreMultiples, multiple_kept}
use Rattle.wyckoff_rows.proofs.spans.whole_columns.Goals.{After-spanning_sizes-q}
use Rattle.wyckoff_rows.proofs.spans.whole_columns.Goals as goal

pub spanning_sizes-q-requires-clause-idempotent : goal.spanning_sizes-q-requires-clause-idempotent
spanning_sizes-q-requires-clause-idempotent c =
    let s = c.args.s.now in
    let n = c.over-over.result in
    let is = c.of-m.ensures ∙ ap matrix_of c.m.ensures.value in
    ap (λ v. v · v) is ∙ matrix_part s c.over-over.ensures.special.idempotent ∙ ap (λ k. scaled k s.m) (sym c.over-over.ensures.value) ∙ ap (scaled (pos n)) (sym is)

entries : (c : After-spanning_sizes-q) → AreWholeEntries c.spanning_sizes-q.result (passed_matrix (matrix_in c.of-m.result)) c.over-over.result
entries c = read_entries c.args.s.now c.spanning_sizes-q.result (matrix_in c.of-m.result) c.over-over.result (c.of-m.ensures ∙ ap matrix_of c.m.ensures.value) c.over-over.ensures.special c.over-over.ensures.value c.spanning_sizes-q.ensures.whole

pub whole_entry-requires-clause-whole : goal.whole_entry-requires-clause-whole
whole_entry-requires-clause-whole c = (entries (goal.at.whole_entry-requires-clause-whole c).After-spanning_sizes-q).xx

pub whole_entry-requires-2-clause-whole : goal.whole_entry-requires-2-clause-whole
whole_entry-requires-2-clause-whole c = (entries (goal.at.whole_entry-requires-2-clause-whole c).After-spanning_sizes-q).xy

pub whole_entry-requires-3-clause-whole : goal.whole_entry-requires-3-clause-whole
whole_entry-requires-3-clause-whole c = (entries (goal.at.whole_entry-requires-3-clause-whole c).After-spanning_sizes-q).xz

pub whole_entry-requires-4-clause-whole : goal.whole_entry-requires-4-clause-whole
whole_entry-requires-4-clause-whole c = (entries (goal.at.whole_entry-requires-4-clause-whole c).After-spanning_sizes-q).yx

pub whole_entry-requires-5-clause-whole : goal.whole_entry-requires-5-clause-whole
whole_entry-requires-5-clause-whole c = (entries (goal.at.whole_entry-requires-5-clause-whole c).After-spanning_sizes-q).yy

pub whole_entry-requires-6-clause-whole : goal.whole_entry-requires-6-clause-whole
whole_entry-requires-6-clause-whole c = (entries (goal.at.whole_entry-requires-6-clause-whole c).After-spanning_sizes-q).yz

pub whole_entry-requires-7-clause-whole : goal.whole_entry-requires-7-clause-whole
whole_entry-requires-7-clause-whole c = (entries (goal.at.whole_entry-requires-7-clause-whole c).After-spanning_sizes-q).zx

pub whole_entry-requires-8-clause-whole : goal.whole_entry-requires-8-clause-whole
whole_entry-requires-8-clause-whole c = (entries (goal.at.whole_entry-requires-8-clause-whole c).After-spanning_sizes-q).zy

pub whole_entry-requires-9-clause-whole : goal.whole_entry-requires-9-clause-whole
whole_entry-requires-9-clause-whole c = (entries (goal.at.whole_entry-requires-9-clause-whole c).After-spanning_sizes-q).zz

pub returns-clause-spans : goal.returns-clause-spans
returns-clause-spans c =
    let q = c.spanning_sizes-q.result in
    let n = c.over-over.result in
    let is = c.of-m.ensures ∙ ap matrix_of c.m.ensures.value in
    let o = over_is c.args.s.now n c.over-over.ensures.special c.over-over.ensures.value in
    let w = subst (HasEntriesWithin (2 * n)) (sym is) o.entries in
    let m = matrix_in c.of-m.result in
    let r : Matrix = record { xx = back w32 c.whole_entry.result; xy = back w32 c.whole_entry-2.result; xz = back w32 c.whole_entry-3.result; yx = back w32 c.whole_entry-4.result; yy = back w32 c.whole_entry-5.result; yz = back w32 c.whole_entry-6.result; zx = back w32 c.whole_entry-7.result; zy = back w32 c.whole_entry-8.result; zz = back w32 c.whole_entry-9.result } in
    let l = o.few in
    let enough = subst (λ v. AreEnough v q) is c.spanning_sizes-q.ensures.enough in
    columns_span q c.args.s.now n r o.some c.over-over.ensures.value c.over-over.ensures.special.idempotent enough
    (subst (λ v. AreMultiples q v n r) is (record {
      xx = multiple_kept m.xx c.whole_entry.result q.x n l w.x.first c.whole_entry.ensures.size c.whole_entry.ensures.value;
      xy = multiple_kept m.xy c.whole_entry-2.result q.y n l w.x.second c.whole_entry-2.ensures.size c.whole_entry-2.ensures.value;
      xz = multiple_kept m.xz c.whole_entry-3.result q.z n l w.x.third c.whole_entry-3.ensures.size c.whole_entry-3.ensures.value;
      yx = multiple_kept m.yx c.whole_entry-4.result q.x n l w.y.first c.whole_entry-4.ensures.size c.whole_entry-4.ensures.value;
      yy = multiple_kept m.yy c.whole_entry-5.result q.y n l w.y.second c.whole_entry-5.ensures.size c.whole_entry-5.ensures.value;
      yz = multiple_kept m.yz c.whole_entry-6.result q.z n l w.y.third c.whole_entry-6.ensures.size c.whole_entry-6.ensures.value;
      zx = multiple_kept m.zx c.whole_entry-7.result q.x n l w.z.first c.whole_entry-7.ensures.size c.whole_entry-7.ensures.value;
      zy = multiple_kept m.zy c.whole_entry-8.result q.y n l w.z.second c.whole_entry-8.ensures.size c.whole_entry-8.ensures.value;
      zz = multiple_kept m.zz c.whole_entry-9.result q.z n l w.z.third c.whole_entry-9.ensures.size c.whole_entry-9.ensures.value;
    }))
