use Rattle.std.proofs.Common.{◌≡◌, ◌∙◌, ℤ, true, false, ap, sym, subst, refl, w64}
use Rattle.std.proofs.lemmas.Bool.{false≢true}
use Rattle.lattice_algebra.specs.Matrix.{Column, matrix_of, ◌·◌}
use Rattle.lattice_algebra.specs.Map.{Map, operator_of}
use Rattle.lattice_algebra.proofs.Maps.{shifted}
use Rattle.lattice_algebra.proofs.Machine.{back}
use Rattle.exact_ops.specs.declared.TheConstants.{UNIT}
use Rattle.exact_ops.specs.Fields.{matrix_in}
use Rattle.space_groups.specs.Averages.{Block}
use Rattle.affine_sets.specs.Fields.{block_in, offset_in}
use Rattle.affine_sets.specs.Conditions.{IsNearAverage, LeavesAlone}
use Rattle.affine_sets.proofs.ImageFixers.{IsRestOf, IsShiftFor, same_matrix, other_matrix, rest_of, passed_near, found_alone, shifts_sought, matrix_sought}
use Rattle.affine_sets.proofs.fixing.fixes_image.Goals.{After-offset_difference-rest, After-t}
use Rattle.affine_sets.proofs.fixing.fixes_image.Goals as goal

pub returns-then-ne-clause-some : goal.returns-then-ne-clause-some
returns-then-ne-clause-some c =
    let is : matrix_in c.of-w.result ≡ c.args.op.now.w = c.of-w.ensures ∙ ap matrix_of c.w.ensures.value in
    λ e o h. absurd (other_matrix (matrix_in c.product.result) (matrix_in c.s.inside.m) c.ne.result c.ne.ensures c.if-ne.true
    (c.product.ensures ∙ ap (λ w. w · matrix_in c.s.inside.m) is ∙ matrix_sought (block_in c.s.inside.m c.s.inside.t c.s.inside.over) c.args.op.now e o (subst (λ (b : Block). LeavesAlone b e) (sym c.s.view_is) h)))

pub offset_difference-rest-requires-clause-right : goal.offset_difference-rest-requires-clause-right
offset_difference-rest-requires-clause-right c =
    let a = block_in c.s.inside.m c.s.inside.t c.s.inside.over in
    let is : matrix_in c.of-w.result ≡ c.args.op.now.w = c.of-w.ensures ∙ ap matrix_of c.w.ensures.value in
    (rest_of a c.args.op.now c.s.inside.over (matrix_in c.of-w.result) (offset_in c.image.result) _ (subst IsNearAverage (sym c.s.view_is) c.requires) refl c.w.ensures.narrow.within_two is c.image.ensures refl).image_size

-- the rest is what the map leaves of the translation
rest : (c : After-offset_difference-rest) → IsRestOf (block_in c.s.inside.m c.s.inside.t c.s.inside.over) c.args.op.now c.s.inside.over (offset_in c.image.result) (offset_in c.offset_difference-rest.result)
rest c =
    let is : matrix_in c.of-w.result ≡ c.args.op.now.w = c.of-w.ensures ∙ ap matrix_of c.w.ensures.value in
    rest_of (block_in c.s.inside.m c.s.inside.t c.s.inside.over) c.args.op.now c.s.inside.over (matrix_in c.of-w.result) (offset_in c.image.result) (offset_in c.offset_difference-rest.result) (subst IsNearAverage (sym c.s.view_is) c.requires) refl c.w.ensures.narrow.within_two is c.image.ensures c.offset_difference-rest.ensures

pub whole_shift-requires-clause-near : goal.whole_shift-requires-clause-near
whole_shift-requires-clause-near c = let r = rest (goal.at.whole_shift-requires-clause-near c).After-offset_difference-rest in passed_near c.offset_difference-rest.result.x c.s.inside.over r.within r.size.first

pub whole_shift-requires-2-clause-near : goal.whole_shift-requires-2-clause-near
whole_shift-requires-2-clause-near c = let r = rest (goal.at.whole_shift-requires-2-clause-near c).After-offset_difference-rest in passed_near c.offset_difference-rest.result.y c.s.inside.over r.within r.size.second

pub whole_shift-requires-3-clause-near : goal.whole_shift-requires-3-clause-near
whole_shift-requires-3-clause-near c = let r = rest (goal.at.whole_shift-requires-3-clause-near c).After-offset_difference-rest in passed_near c.offset_difference-rest.result.z c.s.inside.over r.within r.size.third

-- the whole shifts of an element of the operator that leaves the image alone
sought : (c : After-t) → IsRestOf (block_in c.s.inside.m c.s.inside.t c.s.inside.over) c.args.op.now c.s.inside.over (offset_in c.image.result) (offset_in c.offset_difference-rest.result) → (e : Map) → operator_of UNIT e ≡ c.args.op.now → LeavesAlone c.args.s.now e
    → (let n = c.offset_difference-rest.result in let t = c.args.op.now.t in (k : Column) × IsShiftFor n.x t.x c.s.inside.over k.x × IsShiftFor n.y t.y c.s.inside.over k.y × IsShiftFor n.z t.z c.s.inside.over k.z)
sought c r e o h =
    shifts_sought (block_in c.s.inside.m c.s.inside.t c.s.inside.over) c.args.op.now c.s.inside.over (offset_in c.image.result) (offset_in c.offset_difference-rest.result) e r c.t.ensures.narrow.is_operator.in_cell o (subst (λ (b : Block). LeavesAlone b e) (sym c.s.view_is) h)

pub returns-in_err-x-clause-some : goal.returns-in_err-x-clause-some
returns-in_err-x-clause-some c = λ e o h.
    let at = goal.at.returns-in_err-x-clause-some c in
    let k = sought at.After-t (rest at.After-offset_difference-rest) e o h in
    let found : (j : ℤ) → IsShiftFor c.offset_difference-rest.result.x c.args.op.now.t.x c.s.inside.over j → false ≡ true = λ j s. c.in_err-x.ensures.some j (rw c.t.ensures.value s) in
    absurd (false≢true (found k.0.x k.1))

pub returns-in_err-y-clause-some : goal.returns-in_err-y-clause-some
returns-in_err-y-clause-some c = λ e o h.
    let at = goal.at.returns-in_err-y-clause-some c in
    let k = sought at.After-t (rest at.After-offset_difference-rest) e o h in
    let found : (j : ℤ) → IsShiftFor c.offset_difference-rest.result.y c.args.op.now.t.y c.s.inside.over j → false ≡ true = λ j s. c.in_err-y.ensures.some j (rw c.t.ensures.value s) in
    absurd (false≢true (found k.0.y k.2))

pub returns-in_err-z-clause-some : goal.returns-in_err-z-clause-some
returns-in_err-z-clause-some c = λ e o h.
    let at = goal.at.returns-in_err-z-clause-some c in
    let k = sought at.After-t (rest at.After-offset_difference-rest) e o h in
    let found : (j : ℤ) → IsShiftFor c.offset_difference-rest.result.z c.args.op.now.t.z c.s.inside.over j → false ≡ true = λ j s. c.in_err-z.ensures.some j (rw c.t.ensures.value s) in
    absurd (false≢true (found k.0.z k.3))

pub returns-clause-some : goal.returns-clause-some
returns-clause-some c = λ e p q. refl

pub returns-clause-value : goal.returns-clause-value
returns-clause-value c =
    let a = block_in c.s.inside.m c.s.inside.t c.s.inside.over in
    let f = c.args.op.now in
    let is : matrix_in c.of-w.result ≡ f.w = c.of-w.ensures ∙ ap matrix_of c.w.ensures.value in
    let m : f.w · matrix_in c.s.inside.m ≡ matrix_in c.s.inside.m = ap (λ w. w · matrix_in c.s.inside.m) (sym is) ∙ sym c.product.ensures ∙ same_matrix (matrix_in c.product.result) (matrix_in c.s.inside.m) c.ne.result c.ne.ensures c.if-ne.false in
    subst (λ (b : Block). LeavesAlone b (shifted UNIT f (record { x = back w64 c.in_ok-x.x; y = back w64 c.in_ok-y.y; z = back w64 c.in_ok-z.z }))) c.s.view_is
    (found_alone a f c.s.inside.over (offset_in c.image.result) (offset_in c.offset_difference-rest.result) c.in_ok-x.x c.in_ok-y.y c.in_ok-z.z (rest (goal.at.returns-clause-value c).After-offset_difference-rest) m c.t.ensures.narrow.is_operator.in_cell
    (rw c.t.ensures.value at c.in_ok-x.ensures.value) (rw c.t.ensures.value at c.in_ok-y.ensures.value) (rw c.t.ensures.value at c.in_ok-z.ensures.value) c.in_ok-x.ensures.size c.in_ok-y.ensures.size c.in_ok-z.ensures.size)
