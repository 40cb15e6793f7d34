-- A list of operators closes where few narrow operators have the identity among them, and with each of them its products by the
-- listed ones.
use Rattle.std.proofs.Common.{◌⊎◌, ◌↔◌, ◌≤◌, List, [], ◌∷◌, length, get_or, sym, ◌∙◌, subst, arith, All, Contains, inl, inr, ⊎_elim}
use Rattle.std.specs.List.{list_any, IsDistinct}
use Rattle.std.proofs.lemmas.Bool.{cases_Bool, false≢true}
use Rattle.std.proofs.lemmas.List.Elements.{All-contains, Contains-get_or}
use Rattle.finite_groups.proofs.Closing as closing
use Rattle.finite_groups.proofs.Members as lists
use Rattle.lattice_algebra.specs.Operator.{Operator, IsOperator, product, identity_operator}
use Rattle.exact_ops.specs.Narrow.{IsNarrow}
use Rattle.exact_ops.specs.declared.TheConstants.{UNIT}
use Rattle.group_closure.specs.declared.TheConstants.{MAX_OPERATORS}
use Rattle.group_closure.specs.Words.{Span, Closes}
use Rattle.group_closure.proofs.CellOperators.{cell_operators}

-- ---- the law

-- a list without repeats of the same operators
abbrev HasEachOnce : List Operator → List Operator → Type 0
HasEachOnce xs ys = IsDistinct cell_operators.eq ys × (length ys ≤ length xs) × ((f : Operator) → Contains xs f ↔ Contains ys f)

more_once : (f : Operator) (xs ys : List Operator) → HasEachOnce xs ys → (Contains ys f) ⊎ (Contains ys f → ⊥) → (zs : List Operator) × HasEachOnce (f ∷ xs) zs
more_once f xs ys h (inl c) = (
  ys,
  (h.0, omega (arith, h.1), λ g. ((λ d. ⊎_elim (λ e. subst (Contains ys) e c) (λ l. (h.2 g).0 l) (lists.Contains-cases g f xs d)), (λ d. lists.Contains-later g f xs ((h.2 g).1 d)))),
)
more_once f xs ys h (inr n) =
    let into = λ (g : Operator) (d : Contains (f ∷ xs) g). ⊎_elim (λ e. subst (Contains (f ∷ ys)) e (lists.Contains-here f ys)) (λ l. lists.Contains-later g f ys ((h.2 g).0 l)) (lists.Contains-cases g f xs d) in
    let back = λ (g : Operator) (d : Contains (f ∷ ys) g). ⊎_elim (λ e. subst (Contains (f ∷ xs)) e (lists.Contains-here f xs)) (λ l. lists.Contains-later g f xs ((h.2 g).1 l)) (lists.Contains-cases g f ys d) in
    (f ∷ ys, (lists.distinct-cons cell_operators.eq cell_operators.same f ys n h.0, omega (arith, h.1), λ g. (into g, back g)))

has_or_not : (f : Operator) (ys : List Operator) → (Contains ys f) ⊎ (Contains ys f → ⊥)
has_or_not f ys = ⊎_elim (λ e. inl (lists.has_back cell_operators.eq cell_operators.same f ys e)) (λ e. inr (λ c. false≢true (sym e ∙ lists.has cell_operators.eq cell_operators.same f ys c))) (cases_Bool (list_any (cell_operators.eq f) ys))

once : (xs : List Operator) → (ys : List Operator) × HasEachOnce xs ys
unfolding IsDistinct
once [] = ([], (tt, omega arith, λ f. ((λ c. c), (λ c. c))))
once (f ∷ xs) = let r = once xs in more_once f xs r.0 r.1 (has_or_not f r.0)

-- the operators of the set are closed under products by the listed ones
pub record IsEnclosed (list set : List Operator) : Type 0 where
  pub few : length set ≤ MAX_OPERATORS
  pub narrow : All IsNarrow set
  pub identity : Contains set identity_operator
  pub products : (f g : Operator) → Contains set f → Contains list g → Contains set (product UNIT f g)

pub enclosed_closes : (list set : List Operator) → All (IsOperator UNIT) list → IsEnclosed list set → Closes list
enclosed_closes list set valid h =
    let r = once set in
    let back = λ (f : Operator) (c : Contains r.0 f). (r.1.2 f).1 c in
    let operators : All (IsOperator UNIT) r.0 = λ k d l. (All-contains IsNarrow set (get_or r.0 k d) h.narrow (back (get_or r.0 k d) (Contains-get_or r.0 k d l))).is_operator in
    let has : (f : Operator) → Span list f → Contains r.0 f = λ f s. closing.spans cell_operators list r.0 valid r.1.0 operators ((r.1.2 identity_operator).0 h.identity) (λ x g c d. (r.1.2 (product UNIT x g)).0 (h.products x g (back x c) d)) f s in
    (r.0, omega (arith, r.1.1, h.few), has, λ f s. (All-contains IsNarrow set f h.narrow (back f (has f s))).within_two)
