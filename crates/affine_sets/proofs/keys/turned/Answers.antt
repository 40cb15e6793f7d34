use Rattle.std.proofs.Common.{◌≡◌, ◌∙◌, ◌*◌, ℕ, ap, ap₂, sym, subst, arith}
use Rattle.lattice_algebra.specs.Matrix.{matrix_of, inverse_matrix, ◌·◌}
use Rattle.lattice_algebra.specs.Operator.{HasEntriesWithin}
use Rattle.exact_ops.specs.declared.TheConstants.{UNIT}
use Rattle.exact_ops.specs.Fields.{matrix_in}
use Rattle.group_closure.proofs.Places.{same_at, contains_at}
use Rattle.space_groups.specs.Averages.{Block}
use Rattle.space_groups.specs.Keys.{Key, key_of}
use Rattle.affine_sets.specs.Averages.{KeyOver}
use Rattle.affine_sets.specs.Conjugates.{turned_matrix}
use Rattle.affine_sets.proofs.Held.{rows_below}
use Rattle.affine_sets.proofs.KeyNumbers.{half_within}
use Rattle.affine_sets.proofs.KeySizes.{rows_wider}
use Rattle.affine_sets.proofs.KeyWalk.{left_over}
use Rattle.affine_sets.proofs.KeyRuns.{inverse_matrix_of}
use Rattle.affine_sets.proofs.ConjugateSizes.{turned_within}
use Rattle.affine_sets.proofs.keys.turned.Goals as goal
use Rattle.affine_sets.proofs.keys.turned.Goals.{After-product}

pub product-requires-clause-left : goal.product-requires-clause-left
product-requires-clause-left c =
    let f = c.op.result in
    let is : matrix_in c.of-w.result ≡ f.w = c.of-w.ensures ∙ ap matrix_of c.w.ensures.value in
    let m = matrix_in c.s.inside.m in
    subst (HasEntriesWithin 2304) (sym (c.product-half.ensures ∙ ap (λ w. w · m) is)) (half_within f.w m c.w.ensures.narrow.within_two (rows_below c.s.inside.over m c.s.invariant.within c.s.invariant.matrix))

pub product-requires-clause-right : goal.product-requires-clause-right
product-requires-clause-right c = subst (HasEntriesWithin 2304) (sym (c.of-back.ensures ∙ ap matrix_of c.w-2.ensures.value)) (rows_wider 2 2304 c.op-2.result.w (omega arith) c.w-2.ensures.narrow.within_two)

made : (c : After-product) → matrix_in c.product.result ≡ turned_matrix c.op.result c.args.s.now.key.m
made c =
    let f = c.op.result in
    let is : matrix_in c.of-w.result ≡ f.w = c.of-w.ensures ∙ ap matrix_of c.w.ensures.value in
    let e : matrix_in c.of-back.result ≡ inverse_matrix f.w =
    c.of-back.ensures ∙ ap matrix_of c.w-2.ensures.value ∙ inverse_matrix_of f c.op-2.result c.w.ensures.narrow.is_operator.unimodular (c.inverse_of.ensures.value f c.op-2.result c.op.ensures.value c.op-2.ensures.value) in
    c.product.ensures ∙ ap₂ (λ a b. a · b) (c.product-half.ensures ∙ ap₂ (λ w m. w · m) is (ap (λ (k : KeyOver). k.key.m) c.s.view_is)) e

pub returns-clause-value : goal.returns-clause-value
returns-clause-value c = λ f p. made c ∙ ap (λ g. turned_matrix g c.args.s.now.key.m) (same_at c.args.g.now c.op.result f c.args.i c.op.ensures.value p)

matrix_left : (n : ℕ) (a : Block) (k : Key) → key_of UNIT n a ≡ k → a.m ≡ k.m
unfolding key_of
matrix_left n a k e = ap (λ (k : Key). k.m) e

pub returns-clause-within : goal.returns-clause-within
returns-clause-within c =
    let l = c.requires.left in
    let f = c.op.result in
    let g = c.op.ensures.group in
    subst (HasEntriesWithin (2 * c.args.s.now.over)) (ap (turned_matrix f) (matrix_left c.args.s.now.over l.average c.args.s.now.key l.key) ∙ sym (made c))
    (subst (λ n. HasEntriesWithin (2 * n) (turned_matrix f l.average.m)) (sym (left_over c.args.g.now g c.args.s.now l)) (turned_within c.args.g.now g l.average l.is_average f (contains_at c.args.g.now f c.args.i c.op.ensures.value)))
