use Rattle.std.proofs.Common.{◌≡◌, ◌+◌, ap, sym, ◌∙◌, subst}
use Rattle.std.proofs.lemmas.Bool.{false≢true}
use Rattle.lattice_algebra.specs.Matrix.{coordinates}
use Rattle.space_groups.specs.Keys.{IsBelow}
use Rattle.affine_sets.specs.Conjugates.{moved_key, shift_number}
use Rattle.affine_sets.proofs.KeySteps.{IsFirstUpTo, one_of_two, first_replaced, first_kept}
use Rattle.affine_sets.proofs.keys.first_of.Goals as goal
use Rattle.affine_sets.proofs.keys.first_of.Goals.{then-is_below, else-is_below}

pub loop-i-init : goal.loop-i-init
loop-i-init c = one_of_two c.args.base.now c.args.best.now c.earlier_of-first.result c.args.sizes.now c.earlier_of-first.ensures.in_cell c.requires.over c.requires.matrix c.earlier_of-first.ensures.value

pub loop-i-preserved : goal.loop-i-preserved
loop-i-preserved c =
    let base = c.args.base.now in
    let best = c.args.best.now in
    let q = c.args.sizes.now in
    let i = c.loop-i.i in
    let first = c.loop-i.first in
    let next = c.moved-next.result in
    let e : next.key ≡ moved_key base (shift_number q i) = c.moved-next.ensures.key ∙ ap (moved_key base) c.nth_shift.ensures.value in
    let a = c.t.ensures.value in
    let b = c.t-in-loop-i.ensures.value in
    elim c.if-is_below.branch [
      | then-is_below w ↦ subst (λ v. IsFirstUpTo base best v q (i + 1)) (sym w.first-is) (first_replaced base best first next q i c.loop-i.invariant c.moved-next.ensures.over e
          (subst (λ v. IsBelow v (coordinates first.key.t)) a (subst (IsBelow c.t.result) b (c.is_below.ensures.0 w.if-is_below.true))))
      | else-is_below w ↦ subst (λ v. IsFirstUpTo base best v q (i + 1)) (sym w.first-is) (first_kept base best first next q i c.loop-i.invariant e
          (λ l. false≢true (sym w.if-is_below.false ∙ c.is_below.ensures.1 (subst (IsBelow c.t.result) (sym b) (subst (λ v. IsBelow v (coordinates first.key.t)) (sym a) l)))))
    ]
