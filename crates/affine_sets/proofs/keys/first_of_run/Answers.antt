use Rattle.std.proofs.Common.{◌*◌, ap, sym, refl, ◌∙◌, arith}
use Rattle.exact_ops.specs.Fields.{matrix_in}
use Rattle.space_groups.specs.Keys.{Key}
use Rattle.affine_sets.proofs.KeyWalk.{carried_key_matrix}
use Rattle.affine_sets.proofs.KeySteps.{one_of_run}
use Rattle.affine_sets.proofs.keys.first_of_run.Goals as goal

pub carried-requires-clause-matrix : goal.carried-requires-clause-matrix
carried-requires-clause-matrix c = sym (c.requires.turned c.loop-i.i c.op.result c.loop-i.auto.i c.loop-i-test.true c.op.ensures.value)

pub first_of-first-requires-clause-matrix : goal.first_of-first-requires-clause-matrix
first_of-first-requires-clause-matrix c =
    c.loop-i.invariant.candidate.matrix ∙ sym (ap (λ (k : Key). k.m) c.carried.ensures.key ∙ carried_key_matrix c.op.result c.args.s.now ∙ c.requires.turned c.loop-i.i c.op.result c.loop-i.auto.i c.loop-i-test.true c.op.ensures.value)

pub loop-i-preserved : goal.loop-i-preserved
loop-i-preserved c =
    let q = c.args.sizes.now in
    let n = c.first_of-first.ensures in
    let turned = c.requires.turned c.loop-i.i c.op.result c.loop-i.auto.i c.loop-i-test.true c.op.ensures.value in
    one_of_run c.args.g.now c.args.s.now (matrix_in c.args.m.now) c.args.best.now c.loop-i.first c.carried.result c.first_of-first.result q c.args.start c.loop-i.i (q.x * q.y * q.z) c.op.result c.loop-i.invariant c.requires.some c.op.ensures.value
    turned c.carried.ensures.key c.carried.ensures.over c.requires.enough refl (record { over = n.over; matrix = n.matrix; origin = n.from; earlier = n.earlier; behind = n.first })

pub returns-clause-first : goal.returns-clause-first
returns-clause-first c = λ i f k l r p b. c.loop-i.invariant.behind i f k l (let t = c.loop-i-test.false in omega (arith, r, t)) p b
