use Rattle.std.proofs.Common.{◌≡◌, ◌+◌, ◌*◌, pos, ap, ap₂, sym, ◌∙◌, subst, arith, le_refl, w64}
use Rattle.lattice_algebra.specs.Matrix.{column_of, matrix_of, ◌·ᶜ◌, ◌+ᶜ◌, neg_column, times}
use Rattle.lattice_algebra.specs.Operator.{HasEntriesWithin}
use Rattle.lattice_algebra.proofs.Machine.{back, kept}
use Rattle.exact_ops.specs.declared.TheConstants.{UNIT}
use Rattle.exact_ops.specs.Fields.{matrix_in}
use Rattle.group_closure.specs.declared.TheConstants.{MAX_OPERATORS}
use Rattle.affine_sets.specs.declared.TheConstants.{MAX_TRANSLATION}
use Rattle.affine_sets.specs.Averages.{KeyOver}
use Rattle.affine_sets.specs.Fields.{offset_in, key_in}
use Rattle.affine_sets.specs.Conjugates.{carried_key, turned_matrix}
use Rattle.affine_sets.proofs.Held.{rows_below}
use Rattle.affine_sets.proofs.KeySizes.{sum_of_within, opposite_within, parts_within, equal_within, rows_wider}
use Rattle.affine_sets.proofs.KeyWalk.{carried_is}
use Rattle.affine_sets.proofs.KeySizes.{there_within, all_within, back_within, passed_number}
use Rattle.affine_sets.proofs.keys.carried.Goals as goal

pub image-there-requires-clause-left : goal.image-there-requires-clause-left
image-there-requires-clause-left c = subst (HasEntriesWithin 2304) (sym (c.of.ensures ∙ ap matrix_of c.w.ensures.value)) (rows_wider 2 2304 c.args.op.now.w (omega arith) c.t.ensures.narrow.within_two)

pub image-there-requires-clause-right : goal.image-there-requires-clause-right
image-there-requires-clause-right c =
    let k = c.t-2.ensures.in_cell in
    equal_within (UNIT * c.args.s.now.over) MAX_TRANSLATION (offset_in c.of-2.result) c.args.s.now.key.t (c.of-2.ensures ∙ ap column_of c.t-2.ensures.value) (let w = k.within in omega (arith, w)) (parts_within (UNIT * c.args.s.now.over) c.args.s.now.key.t k.in_cell)

pub offset_multiple-by_all-requires-clause-number : goal.offset_multiple-by_all-requires-clause-number
offset_multiple-by_all-requires-clause-number c = passed_number c.from.result c.s.inside.over c.from.ensures c.s.invariant.within

pub offset_multiple-by_all-requires-clause-column : goal.offset_multiple-by_all-requires-clause-column
offset_multiple-by_all-requires-clause-column c = equal_within UNIT MAX_TRANSLATION (offset_in c.of-by.result) c.args.op.now.t (c.of-by.ensures ∙ ap column_of c.t.ensures.value) (omega arith) (parts_within UNIT c.args.op.now.t c.t.ensures.narrow.is_operator.in_cell)

pub offset_sum-requires-clause-left : goal.offset_sum-requires-clause-left
offset_sum-requires-clause-left c = there_within c.args.op.now.w (matrix_in c.of.result) c.args.s.now.key.t (offset_in c.of-2.result) (offset_in c.image-there.result) c.args.s.now.over MAX_TRANSLATION c.t.ensures.narrow.within_two (c.of.ensures ∙ ap matrix_of c.w.ensures.value) c.t-2.ensures.in_cell.within c.t-2.ensures.in_cell.in_cell (c.of-2.ensures ∙ ap column_of c.t-2.ensures.value) c.image-there.ensures (omega arith)

pub offset_sum-requires-clause-right : goal.offset_sum-requires-clause-right
offset_sum-requires-clause-right c = all_within c.args.op.now.t (offset_in c.of-by.result) (offset_in c.offset_multiple-by_all.result) c.from.result c.s.inside.over MAX_TRANSLATION c.from.ensures c.s.invariant.within c.t.ensures.narrow.is_operator.in_cell (c.of-by.ensures ∙ ap column_of c.t.ensures.value) c.offset_multiple-by_all.ensures (omega arith)

pub image-requires-clause-left : goal.image-requires-clause-left
image-requires-clause-left c = rows_wider 384 2304 (matrix_in c.args.m.now) (omega arith) (rows_below c.args.s.now.over (matrix_in c.args.m.now) c.t-2.ensures.in_cell.within c.requires.within)

pub image-requires-clause-right : goal.image-requires-clause-right
image-requires-clause-right c = equal_within UNIT MAX_TRANSLATION (offset_in c.of-by.result) c.args.op.now.t (c.of-by.ensures ∙ ap column_of c.t.ensures.value) (omega arith) (parts_within UNIT c.args.op.now.t c.t.ensures.narrow.is_operator.in_cell)

pub offset_difference-t-requires-clause-left : goal.offset_difference-t-requires-clause-left
offset_difference-t-requires-clause-left c =
    let t = there_within c.args.op.now.w (matrix_in c.of.result) c.args.s.now.key.t (offset_in c.of-2.result) (offset_in c.image-there.result) c.args.s.now.over (6 * (UNIT * MAX_OPERATORS)) c.t.ensures.narrow.within_two (c.of.ensures ∙ ap matrix_of c.w.ensures.value) c.t-2.ensures.in_cell.within c.t-2.ensures.in_cell.in_cell (c.of-2.ensures ∙ ap column_of c.t-2.ensures.value) c.image-there.ensures (le_refl (6 * (UNIT * MAX_OPERATORS))) in
    let a = all_within c.args.op.now.t (offset_in c.of-by.result) (offset_in c.offset_multiple-by_all.result) c.from.result c.s.inside.over (MAX_OPERATORS * UNIT) c.from.ensures c.s.invariant.within c.t.ensures.narrow.is_operator.in_cell (c.of-by.ensures ∙ ap column_of c.t.ensures.value) c.offset_multiple-by_all.ensures (le_refl (MAX_OPERATORS * UNIT)) in
    equal_within (6 * (UNIT * MAX_OPERATORS) + MAX_OPERATORS * UNIT) MAX_TRANSLATION (offset_in c.offset_sum.result) (offset_in c.image-there.result +ᶜ offset_in c.offset_multiple-by_all.result) c.offset_sum.ensures (omega arith) (sum_of_within (6 * (UNIT * MAX_OPERATORS)) (MAX_OPERATORS * UNIT) (offset_in c.image-there.result) (offset_in c.offset_multiple-by_all.result) t a)

pub offset_difference-t-requires-clause-right : goal.offset_difference-t-requires-clause-right
offset_difference-t-requires-clause-right c = back_within (matrix_in c.args.m.now) c.args.op.now.t (offset_in c.of-by.result) (offset_in c.image.result) MAX_TRANSLATION (rows_below c.args.s.now.over (matrix_in c.args.m.now) c.t-2.ensures.in_cell.within c.requires.within) c.t.ensures.narrow.is_operator.in_cell (c.of-by.ensures ∙ ap column_of c.t.ensures.value) c.image.ensures (omega arith)

pub in_cell-requires-clause-translation : goal.in_cell-requires-clause-translation
in_cell-requires-clause-translation c =
    let t = there_within c.args.op.now.w (matrix_in c.of.result) c.args.s.now.key.t (offset_in c.of-2.result) (offset_in c.image-there.result) c.args.s.now.over (6 * (UNIT * MAX_OPERATORS)) c.t.ensures.narrow.within_two (c.of.ensures ∙ ap matrix_of c.w.ensures.value) c.t-2.ensures.in_cell.within c.t-2.ensures.in_cell.in_cell (c.of-2.ensures ∙ ap column_of c.t-2.ensures.value) c.image-there.ensures (le_refl (6 * (UNIT * MAX_OPERATORS))) in
    let a = all_within c.args.op.now.t (offset_in c.of-by.result) (offset_in c.offset_multiple-by_all.result) c.from.result c.s.inside.over (MAX_OPERATORS * UNIT) c.from.ensures c.s.invariant.within c.t.ensures.narrow.is_operator.in_cell (c.of-by.ensures ∙ ap column_of c.t.ensures.value) c.offset_multiple-by_all.ensures (le_refl (MAX_OPERATORS * UNIT)) in
    let n = 6 * (UNIT * MAX_OPERATORS) + MAX_OPERATORS * UNIT in
    let s = equal_within n n (offset_in c.offset_sum.result) (offset_in c.image-there.result +ᶜ offset_in c.offset_multiple-by_all.result) c.offset_sum.ensures (le_refl n) (sum_of_within (6 * (UNIT * MAX_OPERATORS)) (MAX_OPERATORS * UNIT) (offset_in c.image-there.result) (offset_in c.offset_multiple-by_all.result) t a) in
    let k = 3 * (384 * UNIT) in
    let b = back_within (matrix_in c.args.m.now) c.args.op.now.t (offset_in c.of-by.result) (offset_in c.image.result) k (rows_below c.args.s.now.over (matrix_in c.args.m.now) c.t-2.ensures.in_cell.within c.requires.within) c.t.ensures.narrow.is_operator.in_cell (c.of-by.ensures ∙ ap column_of c.t.ensures.value) c.image.ensures (le_refl k) in
    equal_within (n + k) MAX_TRANSLATION (offset_in c.offset_difference-t.result) (offset_in c.offset_sum.result +ᶜ neg_column (offset_in c.image.result)) c.offset_difference-t.ensures (omega arith) (sum_of_within n k (offset_in c.offset_sum.result) (neg_column (offset_in c.image.result)) s (opposite_within k (offset_in c.image.result) b))

pub returns-clause-key : goal.returns-clause-key
returns-clause-key c =
    let f = c.args.op.now in
    let inside : KeyOver = record { key = key_in c.s.inside.m c.s.inside.t; over = c.s.inside.over } in
    let m = matrix_in c.args.m.now in
    let by : offset_in c.of-by.result ≡ f.t = c.of-by.ensures ∙ ap column_of c.t.ensures.value in
    let w : matrix_in c.of.result ≡ f.w = c.of.ensures ∙ ap matrix_of c.w.ensures.value in
    let st : offset_in c.of-2.result ≡ inside.key.t = c.of-2.ensures ∙ ap column_of c.t-2.ensures.value ∙ ap (λ (s : KeyOver). s.key.t) (sym c.s.view_is) in
    let n : back w64 c.from.result ≡ pos c.s.inside.over = ap (back w64) c.from.ensures ∙ kept w64 MAX_OPERATORS (pos c.s.inside.over) c.s.invariant.within tt in
    let there : offset_in c.image-there.result ≡ f.w ·ᶜ inside.key.t = c.image-there.ensures ∙ ap₂ (λ a b. a ·ᶜ b) w st in
    let all : offset_in c.offset_multiple-by_all.result ≡ times (pos inside.over) f.t = c.offset_multiple-by_all.ensures ∙ ap₂ times n by in
    let t : offset_in c.offset_difference-t.result ≡ (f.w ·ᶜ inside.key.t +ᶜ times (pos inside.over) f.t) +ᶜ neg_column (m ·ᶜ f.t) =
    c.offset_difference-t.ensures ∙ ap₂ (λ a b. a +ᶜ neg_column b) (c.offset_sum.ensures ∙ ap₂ (λ a b. a +ᶜ b) there all) (c.image.ensures ∙ ap (λ b. m ·ᶜ b) by) in
    let turned : m ≡ turned_matrix f inside.key.m = c.requires.matrix ∙ ap (λ (s : KeyOver). turned_matrix f s.key.m) (sym c.s.view_is) in
    c.in_cell.ensures.key ∙ carried_is f inside m (offset_in c.offset_difference-t.result) turned t ∙ ap (carried_key f) c.s.view_is
