-- The order of operators.
use Rattle.std.proofs.Common.{◌≡◌, ◌-◌, ◌<◌, length, drop, ◌++◌, append-nil, List, [], ◌∷◌, refl, sym, ap, ◌∙◌, subst, arith, IsSorted, Ordering, Less, Equal, Greater}
use Rattle.std.proofs.Math.Seq.{drop-length}
use Rattle.std.specs.Cmp.{IsTotalOrder}
use Rattle.std.specs.Ordering.{ordering_then, int_cmp}
use Rattle.std.specs.Cmp.Lexicographic.{slice_cmp}
use Rattle.std.specs.FinMap.{int_cmp-IsAntisymmetric, slice_cmp-IsAntisymmetric}
use Rattle.std.proofs.lemmas.Cmp.{lists_total, on_total, then_total, back_total, int_cmp_total}
use borrow.Rule.Slice.PartMut.{put_mid, post_of}
use Rattle.lattice_algebra.specs.Matrix.{matrix_of, column_of, entries, coordinates}
use Rattle.lattice_algebra.specs.Operator.{Operator}
use Rattle.lattice_algebra.proofs.Maps.{operator_path}
use Rattle.group_closure.specs.Order.{operator_cmp}

pub operator_cmp_total : IsTotalOrder operator_cmp
operator_cmp_total = then_total (back_total (on_total (λ (f : Operator). entries f.w) (lists_total int_cmp_total))) (on_total (λ (f : Operator). coordinates f.t) (lists_total int_cmp_total))

both_tie : (o p : Ordering) → ordering_then o p ≡ Equal → (o ≡ Equal) × (p ≡ Equal)
both_tie Less p e = cc
both_tie Equal p e = (refl, e)
both_tie Greater p e = cc

-- only an operator itself stands at its place in the order
pub operator_ties : (f g : Operator) → operator_cmp f g ≡ Equal → f ≡ g
operator_ties f g e =
    let s = both_tie (slice_cmp int_cmp (entries g.w) (entries f.w)) (slice_cmp int_cmp (coordinates f.t) (coordinates g.t)) e in
    let w : entries g.w ≡ entries f.w = slice_cmp-IsAntisymmetric int_cmp-IsAntisymmetric (entries g.w) (entries f.w) s.0 in
    let t : coordinates f.t ≡ coordinates g.t = slice_cmp-IsAntisymmetric int_cmp-IsAntisymmetric (coordinates f.t) (coordinates g.t) s.1 in
    operator_path f g (ap matrix_of (sym w)) (ap column_of t)

-- after a sort of all but the first
pub sorted_rest : (ops rest : List Operator) → 0 < length ops → IsSorted operator_cmp rest → IsSorted operator_cmp (drop 1 (put_mid 1 (length ops - 1) ops rest))
sorted_rest [] rest l s = absurd (omega arith)
sorted_rest (f ∷ ops) rest l s = subst (IsSorted operator_cmp) (sym (rest_is f ops rest)) s
  where
    rest_is : (f : Operator) (ops rest : List Operator) → drop 1 (put_mid 1 (length (f ∷ ops) - 1) (f ∷ ops) rest) ≡ rest
    rest_is f ops rest =
        let n : length (f ∷ ops) - 1 ≡ length ops = omega arith in
        ap (λ k. rest ++ post_of 1 k (f ∷ ops)) n ∙ ap (λ v. rest ++ v) (drop-length ops) ∙ append-nil rest
