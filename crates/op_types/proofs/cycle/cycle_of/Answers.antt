use Rattle.std.proofs.Common.{◌≢◌, subst, sym, ◌∙◌}
use Rattle.std.proofs.lemmas.Bool.{true≢false}
use Rattle.lattice_algebra.specs.Matrix.{identity}
use Rattle.lattice_algebra.specs.Operator.{HasEntriesWithin}
use Rattle.lattice_algebra.proofs.Equality.{matrix_eq-is}
use Rattle.lattice_algebra.proofs.Powers.{power-one}
use Rattle.exact_ops.specs.Fields.{matrix_in}
use Rattle.op_types.proofs.Cycles.{turned_none, turned_more, turned_order, next_sum, turned_size}
use Rattle.op_types.proofs.cycle.cycle_of.Goals as goal

pub loop-power-init : goal.loop-power-init
loop-power-init c = turned_none (matrix_in c.args.p.now)

pub after-power-requires-clause-left : goal.after-power-requires-clause-left
after-power-requires-clause-left c = subst (HasEntriesWithin 2) (power-one (matrix_in c.args.p.now)) (c.requires.narrow 1)

pub loop-power-preserved : goal.loop-power-preserved
loop-power-preserved c =
    let other : matrix_in c.after-power.result ≢ identity = λ e. true≢false (sym ((matrix_eq-is (matrix_in c.after-power.result) identity c.eq.result c.eq.ensures).1 e) ∙ c.if-eq.false) in
    turned_more _ c.requires _ _ _ c.loop-power.invariant _ _ c.after-power.ensures c.plus-sum.ensures other

pub returns-then-eq-clause-order : goal.returns-then-eq-clause-order
returns-then-eq-clause-order c =
    turned_order _ c.requires _ _ _ c.loop-power.invariant _ _ c.after-power.ensures c.plus-sum.ensures ((matrix_eq-is (matrix_in c.after-power.result) identity c.eq.result c.eq.ensures).0 c.if-eq.true)

pub returns-then-eq-clause-sum : goal.returns-then-eq-clause-sum
returns-then-eq-clause-sum c = next_sum _ c.requires _ _ _ c.loop-power.invariant _ _ c.after-power.ensures c.plus-sum.ensures

pub returns-then-eq-clause-size : goal.returns-then-eq-clause-size
returns-then-eq-clause-size c = turned_size _ c.requires _ _ _ c.loop-power.invariant _ _ c.after-power.ensures c.plus-sum.ensures
