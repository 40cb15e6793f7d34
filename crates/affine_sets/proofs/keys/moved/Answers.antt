use Rattle.std.proofs.Common.{◌≡◌, ◌+◌, ◌*◌, pos, ap, ap₂, sym, refl, ◌∙◌, arith, le_refl, w64}
use Rattle.lattice_algebra.specs.Matrix.{column_of, ◌·ᶜ◌, ◌+ᶜ◌, times}
use Rattle.lattice_algebra.proofs.Machine.{back, kept}
use Rattle.exact_ops.specs.declared.TheConstants.{UNIT}
use Rattle.exact_ops.specs.Fields.{matrix_in}
use Rattle.group_closure.specs.declared.TheConstants.{MAX_OPERATORS}
use Rattle.affine_sets.specs.declared.TheConstants.{MAX_TRANSLATION}
use Rattle.affine_sets.specs.Averages.{KeyOver}
use Rattle.affine_sets.specs.Fields.{offset_in, key_in}
use Rattle.affine_sets.specs.Conjugates.{moved_key}
use Rattle.affine_sets.proofs.Held.{rows_below}
use Rattle.affine_sets.proofs.KeySizes.{product_within, times_within, sum_of_within, parts_within, equal_within, rows_wider}
use Rattle.affine_sets.proofs.KeyWalk.{moved_is}
use Rattle.affine_sets.proofs.keys.moved.Goals as goal

pub image-requires-clause-left : goal.image-requires-clause-left
image-requires-clause-left c = rows_wider 384 2304 (matrix_in c.base.inside.m) (omega arith) (rows_below c.base.inside.over (matrix_in c.base.inside.m) c.base.invariant.within c.base.invariant.matrix)

pub image-requires-clause-right : goal.image-requires-clause-right
image-requires-clause-right c = equal_within MAX_OPERATORS MAX_TRANSLATION (offset_in c.args.k.now) (offset_in c.args.k.now) refl (omega arith) c.requires

pub offset_multiple-along-requires-clause-column : goal.offset_multiple-along-requires-clause-column
offset_multiple-along-requires-clause-column c =
    let m = matrix_in c.base.inside.m in
    let r = rows_below c.base.inside.over m c.base.invariant.within c.base.invariant.matrix in
    equal_within (3 * (384 * MAX_OPERATORS)) MAX_TRANSLATION (offset_in c.image.result) (m ·ᶜ offset_in c.args.k.now) c.image.ensures (omega arith) (product_within 384 MAX_OPERATORS m (offset_in c.args.k.now) r c.requires)

pub offset_sum-t-requires-clause-left : goal.offset_sum-t-requires-clause-left
offset_sum-t-requires-clause-left c =
    let k = c.t.ensures.in_cell in
    let s = parts_within (UNIT * c.args.base.now.over) c.args.base.now.key.t k.in_cell in
    equal_within (UNIT * c.args.base.now.over) MAX_TRANSLATION (offset_in c.of.result) c.args.base.now.key.t (c.of.ensures ∙ ap column_of c.t.ensures.value) (let w = k.within in omega (arith, w)) s

pub offset_sum-t-requires-clause-right : goal.offset_sum-t-requires-clause-right
offset_sum-t-requires-clause-right c =
    let m = matrix_in c.base.inside.m in
    let r = rows_below c.base.inside.over m c.base.invariant.within c.base.invariant.matrix in
    let n = 3 * (384 * MAX_OPERATORS) in
    let i = equal_within n n (offset_in c.image.result) (m ·ᶜ offset_in c.args.k.now) c.image.ensures (le_refl n) (product_within 384 MAX_OPERATORS m (offset_in c.args.k.now) r c.requires) in
    let u : back w64 c.from.result ≡ pos UNIT = ap (back w64) c.from.ensures ∙ kept w64 UNIT (pos UNIT) (le_refl UNIT) tt in
    equal_within (UNIT * n) MAX_TRANSLATION (offset_in c.offset_multiple-along.result) (times (pos UNIT) (offset_in c.image.result)) (c.offset_multiple-along.ensures ∙ ap (λ v. times v (offset_in c.image.result)) u) (omega arith) (times_within UNIT n (offset_in c.image.result) i)

pub in_cell-requires-clause-translation : goal.in_cell-requires-clause-translation
in_cell-requires-clause-translation c =
    let m = matrix_in c.base.inside.m in
    let r = rows_below c.base.inside.over m c.base.invariant.within c.base.invariant.matrix in
    let n = 3 * (384 * MAX_OPERATORS) in
    let k = c.t.ensures.in_cell in
    let i = equal_within n n (offset_in c.image.result) (m ·ᶜ offset_in c.args.k.now) c.image.ensures (le_refl n) (product_within 384 MAX_OPERATORS m (offset_in c.args.k.now) r c.requires) in
    let u : back w64 c.from.result ≡ pos UNIT = ap (back w64) c.from.ensures ∙ kept w64 UNIT (pos UNIT) (le_refl UNIT) tt in
    let a = equal_within (UNIT * n) (UNIT * n) (offset_in c.offset_multiple-along.result) (times (pos UNIT) (offset_in c.image.result)) (c.offset_multiple-along.ensures ∙ ap (λ v. times v (offset_in c.image.result)) u) (le_refl (UNIT * n)) (times_within UNIT n (offset_in c.image.result) i) in
    let b = UNIT * MAX_OPERATORS in
    let s = equal_within (UNIT * c.args.base.now.over) b (offset_in c.of.result) c.args.base.now.key.t (c.of.ensures ∙ ap column_of c.t.ensures.value) (let w = k.within in omega (arith, w)) (parts_within (UNIT * c.args.base.now.over) c.args.base.now.key.t k.in_cell) in
    equal_within (b + UNIT * n) MAX_TRANSLATION (offset_in c.offset_sum-t.result) (offset_in c.of.result +ᶜ offset_in c.offset_multiple-along.result) c.offset_sum-t.ensures (omega arith) (sum_of_within b (UNIT * n) (offset_in c.of.result) (offset_in c.offset_multiple-along.result) s a)

pub returns-clause-key : goal.returns-clause-key
returns-clause-key c =
    let inside : KeyOver = record { key = key_in c.base.inside.m c.base.inside.t; over = c.base.inside.over } in
    let m = matrix_in c.base.inside.m in
    let k = offset_in c.args.k.now in
    let u : back w64 c.from.result ≡ pos UNIT = ap (back w64) c.from.ensures ∙ kept w64 UNIT (pos UNIT) (le_refl UNIT) tt in
    let t : offset_in c.offset_sum-t.result ≡ inside.key.t +ᶜ times (pos UNIT) (m ·ᶜ k) =
    c.offset_sum-t.ensures ∙ ap₂ (λ a b. a +ᶜ b) (c.of.ensures ∙ ap column_of c.t.ensures.value ∙ ap (λ (s : KeyOver). s.key.t) (sym c.base.view_is)) (c.offset_multiple-along.ensures ∙ ap₂ times u c.image.ensures) in
    c.in_cell.ensures.key ∙ moved_is inside k (offset_in c.offset_sum-t.result) c.base.invariant.some t ∙ ap (λ s. moved_key s k) c.base.view_is
