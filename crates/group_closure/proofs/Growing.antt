-- The steps of the loops that close a list.
use Rattle.std.proofs.Common.{◌≡◌, ◌≢◌, ℕ, ◌<◌, ◌≤◌, Some, List, [], ◌∷◌, ◌++◌, length, get_or, refl, sym, ap, ◌∙◌, subst, arith, All, Contains, inl, inr, append_assoc, append-nil, length-append, slice_get}
use Rattle.std.proofs.lemmas.List.Elements.{All-push, All-contains, All-weaker, All-nil, Contains-append_left, Contains-get_or, Contains-push}
use Rattle.std.proofs.lemmas.List.Quantifiers.{all_pairs_push}
use Rattle.std.proofs.lemmas.Map.Made.{IsDistinct-from_AllPairs}
use Rattle.std.proofs.lemmas.Option.{get_or_from_slice_get}
use Rattle.finite_groups.proofs.Closing as closing
use Rattle.lattice_algebra.specs.Matrix.{IsUnimodular, ◌·◌}
use Rattle.lattice_algebra.specs.Operator.{Operator, IsOperator, HasEntriesWithin, product, identity_operator}
use Rattle.lattice_algebra.proofs.Operators.{IsOperator-product}
use Rattle.exact_ops.specs.Narrow.{IsNarrow}
use Rattle.exact_ops.specs.Raw.{IsListed}
use Rattle.exact_ops.specs.declared.TheConstants.{UNIT}
use Rattle.exact_ops.proofs.Narrow.{some_parts}
use Rattle.group_closure.specs.declared.TheConstants.{MAX_OPERATORS}
use Rattle.group_closure.specs.Words.{Span, AreDistinct, IsUnclosed}
use Rattle.group_closure.specs.Steps.{Adds, Extends, IsPartial, HasProducts, IsRefused, IsGenerated}
use Rattle.group_closure.proofs.CellOperators.{cell_operators}
use Rattle.group_closure.proofs.Lists.{are_operators, span_more}

-- ---- one more operator

module _ (old : List Operator) (f : Operator) (new : List Operator) where
  pub extends_added : Adds old f new → Extends old new
  extends_added (inl h) = ([], h.1 ∙ sym (append-nil old))
  extends_added (inr h) = (f ∷ [], h.1)

  pub all_added : (P : Operator → Type 0) → All P old → P f → Adds old f new → All P new
  all_added P a p (inl h) = subst (All P) (sym h.1) a
  all_added P a p (inr h) = subst (All P) (sym h.1) (All-push P old f a p)

  pub distinct_added : AreDistinct old → Adds old f new → AreDistinct new
  distinct_added d (inl h) = subst AreDistinct (sym h.1) d
  distinct_added d (inr h) = subst AreDistinct (sym h.1) (all_pairs_push (λ a b. a ≢ b) old f d (λ k e l q. h.0 (subst (λ v. Contains old v) q (Contains-get_or old k e l))))

-- ---- lists that grow

pub extends_refl : (ops : List Operator) → Extends ops ops
extends_refl ops = ([], sym (append-nil ops))

pub extends_trans : (a b c : List Operator) → Extends a b → Extends b c → Extends a c
extends_trans a b c p q = (p.0 ++ q.0, q.1 ∙ ap (λ v. v ++ q.0) p.1 ∙ append_assoc a p.0 q.0)

pub extends_length : (old new : List Operator) → Extends old new → length old ≤ length new
extends_length old new e = omega (arith, ap length e.1, length-append old e.0)

pub contains_extended : (old new : List Operator) → Extends old new → (f : Operator) → Contains old f → Contains new f
contains_extended old new e f c = subst (λ v. Contains v f) (sym e.1) (Contains-append_left old e.0 f c)

first_appended : (ops more : List Operator) (f : Operator) → slice_get ops 0 ≡ Some f → slice_get (ops ++ more) 0 ≡ Some f
first_appended [] more f e = cc
first_appended (g ∷ ops) more f e = e

first_extended : (old new : List Operator) (f : Operator) → Extends old new → slice_get old 0 ≡ Some f → slice_get new 0 ≡ Some f
first_extended old new f e h = ap (λ v. slice_get v 0) e.1 ∙ first_appended old e.0 f h

has_first : (ops : List Operator) (f : Operator) → slice_get ops 0 ≡ Some f → Contains ops f
has_first [] f e = cc
has_first (g ∷ ops) f e = let q : g ≡ f = cc in (0, omega arith, q)

-- ---- listed operators

pub listed_at : (list : List Operator) (i : ℕ) (f : Operator) → i < length list → slice_get list i ≡ Some f → Contains list f
listed_at list i f l e = (i, l, get_or_from_slice_get list i f f e)

valid_listed : (f : Operator) → IsListed f → IsOperator UNIT f
valid_listed f h = record { unimodular = h.unimodular; in_cell = h.in_range.in_cell }

pub span_listed : (list : List Operator) (f : Operator) → IsOperator UNIT f → Contains list f → Span list f
span_listed list f v c = subst (Span list) (cell_operators.left f v) (closing.span_gen cell_operators list identity_operator f (closing.span_one cell_operators list) c)

-- the matrix of a listed operator is unimodular, so that it is refused only for an entry beyond 2
pub wide_listed : (list : List Operator) (f : Operator) → All IsListed list → Contains list f → (IsUnimodular f.w × HasEntriesWithin 2 f.w → ⊥) → IsUnclosed list
wide_listed list f v c n = inr (f, record { spanned = span_listed list f (valid_listed f (All-contains IsListed list f v c)) c; wide = λ h. n ((All-contains IsListed list f v c).unimodular, h) })

pub narrow_listed : (list : List Operator) (f : Operator) → All IsListed list → Contains list f → HasEntriesWithin 2 f.w → IsNarrow f
narrow_listed list f v c h = record { is_operator = valid_listed f (All-contains IsListed list f v c); within_two = h }

-- ---- products by the generators

pub narrow_identity : IsNarrow identity_operator
narrow_identity = record { is_operator = cell_operators.one_in; within_two = omega arith }

pub partial_one : (generators : List Operator) → IsNarrow identity_operator → IsPartial generators (identity_operator ∷ [])
partial_one generators n = record {
  first = refl;
  spanned = All-push (Span generators) [] identity_operator (All-nil (Span generators)) (closing.span_one cell_operators generators);
  distinct = λ i j d l m. absurd (omega arith);
  narrow = All-push IsNarrow [] identity_operator (All-nil IsNarrow) n;
}

narrow_product : (f g : Operator) → IsNarrow f → IsNarrow g → HasEntriesWithin 2 (f.w · g.w) → IsNarrow (product UNIT f g)
unfolding product
narrow_product f g p q s = record { is_operator = IsOperator-product UNIT some_parts f g p.is_operator q.is_operator; within_two = s }

span_product : (generators ops : List Operator) (f g : Operator) → IsPartial generators ops → Contains ops f → Contains generators g → Span generators (product UNIT f g)
span_product generators ops f g p c d = closing.span_gen cell_operators generators f g (All-contains (Span generators) ops f p.spanned c) d

-- a product beyond 2
pub wide_product : (generators ops : List Operator) (f g : Operator) → IsPartial generators ops → Contains ops f → Contains generators g → (HasEntriesWithin 2 (f.w · g.w) → ⊥) → IsUnclosed generators
unfolding product
wide_product generators ops f g p c d n = inr (product UNIT f g, record { spanned = span_product generators ops f g p c d; wide = n })

pub partial_added : (generators old new : List Operator) (f g : Operator) → IsPartial generators old → All IsNarrow generators → Contains old f → Contains generators g → HasEntriesWithin 2 (f.w · g.w) → Adds old (product UNIT f g) new → IsPartial generators new
partial_added generators old new f g p v c d s a = record {
  first = first_extended old new identity_operator (extends_added old (product UNIT f g) new a) p.first;
  spanned = all_added old (product UNIT f g) new (Span generators) p.spanned (span_product generators old f g p c d) a;
  distinct = distinct_added old (product UNIT f g) new p.distinct a;
  narrow = all_added old (product UNIT f g) new IsNarrow p.narrow (narrow_product f g (All-contains IsNarrow old f p.narrow c) (All-contains IsNarrow generators g v d) s) a;
}

pub too_many : (generators ops : List Operator) → IsPartial generators ops → MAX_OPERATORS < length ops → IsUnclosed generators
too_many generators ops p m = inl (ops, record { spanned = p.spanned; distinct = p.distinct; beyond = m })

-- so the product of f by g is refused only where the generators are unclosed
pub refused : (generators ops : List Operator) (f g : Operator) → IsPartial generators ops → Contains ops f → Contains generators g → IsRefused ops f g → IsUnclosed generators
refused generators ops f g p c d (inl n) = wide_product generators ops f g p c d n
refused generators ops f g p c d (inr h) =
    let more = ops ++ product UNIT f g ∷ [] in
    let a : Adds ops (product UNIT f g) more = inr (h.0, refl) in
    inl (
      more,
      record {
        spanned = all_added ops (product UNIT f g) more (Span generators) p.spanned (span_product generators ops f g p c d) a;
        distinct = distinct_added ops (product UNIT f g) more p.distinct a;
        beyond = omega (arith, h.1, length-append ops (product UNIT f g ∷ []));
      },
    )

-- ---- more generators

pub partial_more : (generators more ops : List Operator) → IsPartial generators ops → IsPartial (generators ++ more) ops
partial_more generators more ops p = record {
  first = p.first;
  spanned = All-weaker (Span generators) (Span (generators ++ more)) (span_more generators (generators ++ more) (Contains-append_left generators more)) ops p.spanned;
  distinct = p.distinct;
  narrow = p.narrow;
}

-- a list that has what it lacked is longer
pub longer : (old new : List Operator) (f : Operator) → Extends old new → Contains new f → (Contains old f → ⊥) → length old < length new
longer old new f ([], e) c n = absurd (n (subst (λ v. Contains v f) (e ∙ append-nil old) c))
longer old new f (g ∷ more, e) c n = omega (arith, ap length e, length-append old (g ∷ more))

pub all_kept : (old more : List Operator) → All (Contains (old ++ more)) old
all_kept old more k d l = Contains-append_left old more (get_or old k d) (Contains-get_or old k d l)

-- ---- products of all members

-- the first i members have their products
abbrev pub AreDone : List Operator → List Operator → ℕ → Type 0
AreDone generators ops i = (k : ℕ) (d : Operator) → k < i → HasProducts generators (get_or ops k d) ops

-- a list whose members all have their products is all of Span
pub generated : (generators ops : List Operator) → All IsNarrow generators → IsPartial generators ops → length ops ≤ MAX_OPERATORS → AreDone generators ops (length ops) → IsGenerated generators ops
generated generators ops v p l h =
    let one : Contains ops identity_operator = has_first ops identity_operator p.first in
    record {
      first = p.first;
      span = λ f. (
        (λ c. All-contains (Span generators) ops f p.spanned c),
        (λ s. closing.spans cell_operators generators ops (are_operators generators v) (IsDistinct-from_AllPairs cell_operators.same ops p.distinct) (are_operators ops p.narrow) one
            (λ x g c d. All-contains (λ g. Contains ops (product UNIT x g)) generators g (subst (λ (u : Operator). HasProducts generators u ops) c.2 (h c.0 x c.1)) d) f s),
      );
      distinct = p.distinct;
      narrow = p.narrow;
      within = l;
    }

pub partial_of_generated : (generators ops : List Operator) → IsGenerated generators ops → IsPartial generators ops
partial_of_generated generators ops p = record { first = p.first; spanned = λ k d l. (p.span (get_or ops k d)).0 (Contains-get_or ops k d l); distinct = p.distinct; narrow = p.narrow }

-- and they have the last generator
pub generated_has : (generators old ops : List Operator) (f : Operator) → IsGenerated generators ops → generators ≡ old ++ f ∷ [] → IsNarrow f → Contains ops f
generated_has generators old ops f p e n = (p.span f).1 (span_listed generators f n.is_operator (subst (λ v. Contains v f) (sym e) (Contains-push old f)))
