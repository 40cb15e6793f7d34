use Rattle.std.proofs.Common.{◌≡◌, ◌<◌, ◌*◌, length, subst, arith, get_or-set_same}
use Rattle.exact_ops.specs.Fields.{matrix_in}
use Rattle.group_closure.proofs.Places.{some_at}
use Rattle.affine_sets.proofs.KeyRuns.{IsGreatest, first_listed, run_listed, either_within}
use Rattle.affine_sets.proofs.keys.greatest_matrix.Goals as goal
use Rattle.affine_sets.proofs.keys.greatest_matrix.Goals.{After-loop-at}

pub loop-at-init : goal.loop-at-init
loop-at-init c =
    let g = c.args.g.now in
    let r = c.run_end-at.ensures in
    let some : 0 < length g = let l = r.within in let b = r.beyond in omega (arith, l, b) in
    let f = some_at g 0 some in
    record {
      some = r.beyond;
      within = r.within;
      size = c.turned.ensures.within;
      greatest = first_listed g c.args.s.now.key.m (matrix_in c.turned.result) _ c.run_end-at.result f.0 some (r.first (λ _. 0)) f.1 (c.turned.ensures.value f.0 f.1) (get_or-set_same c.args.starts.now 0 0 0 (let n = c.told-starts in omega (arith, n)));
    }

pub with_run-best-requires-clause-few : goal.with_run-best-requires-clause-few
with_run-best-requires-clause-few c = c.loop-at.invariant.greatest.listed.few

pub with_run-best-requires-clause-within : goal.with_run-best-requires-clause-within
with_run-best-requires-clause-within c = let w = c.len-order.ensures.group.within in let t = c.loop-at-test.true in let l = c.len-order.ensures.value in omega (arith, w, t, l)

pub loop-at-preserved : goal.loop-at-preserved
loop-at-preserved c =
    let g = c.args.g.now in
    let at = c.loop-at.at in
    let r = c.run_end-at-in-loop-at.ensures in
    let next = matrix_in c.turned-in-loop-at.result in
    let inv = c.loop-at.invariant in
    let within : at < length g = let t = c.loop-at-test.true in let l = c.len-order.ensures.value in omega (arith, t, l) in
    let f = some_at g at within in
    record {
      some = let b = r.beyond in omega (arith, b);
      within = r.within;
      size = either_within (2 * c.args.s.now.over) next c.loop-at.best c.with_run-best.result c.loop-at.starts c.with_run-best.new.starts at inv.size c.turned-in-loop-at.ensures.within c.with_run-best.ensures;
      greatest = run_listed g c.args.s.now.key.m next c.loop-at.best c.with_run-best.result c.loop-at.starts c.with_run-best.new.starts at c.run_end-at-in-loop-at.result f.0 within r.beyond (record { first = r.first; run = r.run }) f.1
          (c.turned-in-loop-at.ensures.value f.0 f.1) inv.greatest c.with_run-best.ensures;
    }

all : (c : After-loop-at) → IsGreatest c.args.g.now c.args.s.now.key.m (matrix_in c.loop-at.best.m) c.loop-at.starts c.loop-at.best.count (length c.args.g.now)
all c =
    let end : c.loop-at.at ≡ length c.args.g.now = let t = c.loop-at-test.false in let n = c.len-order.ensures.value in let w = c.loop-at.invariant.within in omega (arith, t, n, w) in
    subst (IsGreatest c.args.g.now c.args.s.now.key.m (matrix_in c.loop-at.best.m) c.loop-at.starts c.loop-at.best.count) end c.loop-at.invariant.greatest

pub returns-clause-listed : goal.returns-clause-listed
returns-clause-listed c = (all c).listed

pub returns-clause-greatest : goal.returns-clause-greatest
returns-clause-greatest c = (all c).greatest
