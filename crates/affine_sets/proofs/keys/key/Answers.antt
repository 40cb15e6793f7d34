use Rattle.std.proofs.Common.{◌≡◌, ◌<◌, ap, sym, ◌∙◌, subst, arith}
use Rattle.std.specs.List.{slice_index}
use Rattle.lattice_algebra.specs.Matrix.{origin}
use Rattle.exact_ops.specs.Fields.{matrix_in}
use Rattle.group_closure.proofs.Places.{contains_at, some_at, same_matrix}
use Rattle.space_groups.specs.Keys.{Key}
use Rattle.affine_sets.specs.Averages.{KeyOver}
use Rattle.affine_sets.specs.Conjugates.{IsLeftOf, AreEnoughFor}
use Rattle.affine_sets.proofs.KeyWalk.{left_of, left_over, found_key, carried_key_matrix}
use Rattle.affine_sets.proofs.KeySteps.{by_rotation, carried_by}
use Rattle.affine_sets.proofs.KeyRuns.{AreBehind, run_behind, all_behind}
use Rattle.affine_sets.proofs.keys.key.Goals as goal

pub greatest_matrix-greatest-requires : goal.greatest_matrix-greatest-requires
greatest_matrix-greatest-requires c = left_of c.args.g.now c.args.s.now c.in_cell-left.result c.requires c.in_cell-left.ensures.key c.in_cell-left.ensures.over

pub op-requires : goal.op-requires
op-requires c = let l = c.greatest_matrix-greatest.ensures.listed in l.within 0 l.some

pub loop-i-init : goal.loop-i-init
loop-i-init c =
    let f = c.op.result in
    let k = c.carried-best.ensures in
    let l = c.greatest_matrix-greatest.ensures.listed in
    record {
      candidate = record {
        over = k.over;
        matrix = ap (λ (v : Key). v.m) k.key ∙ carried_key_matrix f c.in_cell-left.result ∙ l.turned 0 f l.some c.op.ensures.value;
        by = f;
        member = contains_at c.args.g.now f (slice_index c.greatest_matrix-greatest.new.starts 0) c.op.ensures.value;
        shift = origin;
        gives = carried_by f c.in_cell-left.result ∙ sym k.key;
      };
      behind = λ j k' f' shift l h p b. absurd (omega (arith, l));
    }

pub run_end-requires : goal.run_end-requires
run_end-requires c = let l = c.greatest_matrix-greatest.ensures.listed in l.within c.from.result (let t = c.loop-i-test.true in let e = c.from.ensures in omega (arith, t, e))

pub first_of_run-best-requires-clause-turned : goal.first_of_run-best-requires-clause-turned
first_of_run-best-requires-clause-turned c = λ k f l r p.
    let g = c.args.g.now in
    let i = c.from.result in
    let listed = c.greatest_matrix-greatest.ensures.listed in
    let few : i < c.greatest_matrix-greatest.result.count = let t = c.loop-i-test.true in let e = c.from.ensures in omega (arith, t, e) in
    let at = slice_index c.greatest_matrix-greatest.new.starts i in
    let e = c.run_end.ensures in
    let first = some_at g at (listed.within i few) in
    by_rotation f first.0 c.in_cell-left.result.key.m (same_matrix g at c.run_end.result k first.0 f (record { first = e.first; run = e.run }) first.1 p l r) ∙ listed.turned i first.0 few first.1

pub first_of_run-best-requires-clause-enough : goal.first_of_run-best-requires-clause-enough
first_of_run-best-requires-clause-enough c = subst (AreEnoughFor c.shift_sizes-sizes.result (matrix_in c.greatest_matrix-greatest.result.m)) (ap (λ (s : KeyOver). s.over) c.left.view_is) c.shift_sizes-sizes.ensures.enough

pub loop-i-preserved : goal.loop-i-preserved
loop-i-preserved c =
    let n = c.first_of_run-best.ensures in
    let e = c.run_end.ensures in
    let starts = c.greatest_matrix-greatest.new.starts in
    let i : c.from.result ≡ c.loop-i.i = c.from.ensures in
    let within = c.greatest_matrix-greatest.ensures.listed.within c.from.result (let t = c.loop-i-test.true in omega (arith, t, i)) in
    record {
      candidate = n.candidate;
      behind = run_behind c.args.g.now c.in_cell-left.result c.loop-i.best c.first_of_run-best.result starts c.loop-i.i (slice_index starts c.from.result) c.run_end.result (ap (slice_index starts) (sym i)) within e.beyond (record { first = e.first; run = e.run }) c.loop-i.invariant.behind n.earlier n.first;
    }

pub returns-clause-key : goal.returns-clause-key
returns-clause-key c =
    let g = c.args.g.now in
    let s = c.in_cell-left.result in
    let l : IsLeftOf g s = left_of c.args.g.now c.args.s.now c.in_cell-left.result c.requires c.in_cell-left.ensures.key c.in_cell-left.ensures.over in
    let m = matrix_in c.greatest_matrix-greatest.result.m in
    let n = c.greatest_matrix-greatest.ensures in
    let b = c.loop-i.invariant in
    let all = subst (λ i. AreBehind g s c.loop-i.best c.greatest_matrix-greatest.new.starts i) (let t = c.loop-i-test.false in let a = c.loop-i.auto.i-end in omega (arith, t, a)) b.behind in
    found_key g c.op.ensures.group s c.args.s.now c.requires (sym c.in_cell-left.ensures.key) (left_over g c.op.ensures.group s l) (subst (λ (s : KeyOver). 0 < s.over) c.left.view_is c.left.invariant.some) m c.loop-i.best b.candidate
    (all_behind g s c.loop-i.best m c.greatest_matrix-greatest.new.starts c.greatest_matrix-greatest.result.count n.listed n.greatest b.candidate.matrix all)

pub returns-clause-over : goal.returns-clause-over
returns-clause-over c = c.loop-i.invariant.candidate.over ∙ left_over c.args.g.now c.op.ensures.group c.in_cell-left.result (left_of c.args.g.now c.args.s.now c.in_cell-left.result c.requires c.in_cell-left.ensures.key c.in_cell-left.ensures.over)
