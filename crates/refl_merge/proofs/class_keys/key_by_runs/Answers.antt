use Rattle.std.proofs.Common.{rules, arith, refl, sym, subst, take}
use Rattle.phase_rules.specs.Rows.{row_of}
use Rattle.refl_merge.specs.Keys.{IsClassKey}
use Rattle.refl_merge.proofs.Greatest.{key_first, key_more, key_all}
use Rattle.refl_merge.proofs.class_keys.key_by_runs.Goals as goal

pub loop-i-init : goal.loop-i-init
loop-i-init c =
    let one = c.run_end-i.ensures.first refl in
    record {
      within = c.run_end-i.ensures.within;
      three = search rules;
      key = subst (λ n. IsClassKey c.args.pairs (take n c.args.group.now) c.args.index.now (row_of c.greatest_image-key.result)) (sym one) (key_first c.args.pairs c.args.group.now c.args.index.now c.op.result _ c.op.ensures.value c.greatest_image-key.ensures);
    }

pub loop-i-preserved : goal.loop-i-preserved
loop-i-preserved c = record {
  within = c.run_end-i-in-loop-i.ensures.within;
  three = search rules;
  key = key_more c.args.pairs c.args.group.now c.args.index.now c.loop-i.i c.run_end-i-in-loop-i.result c.op-in-loop-i.result _ _ c.run_end-i-in-loop-i.ensures.beyond c.op-in-loop-i.ensures.value
      (record { first = c.run_end-i-in-loop-i.ensures.first; run = c.run_end-i-in-loop-i.ensures.run }) c.loop-i.invariant.key c.key_with-greatest.ensures;
}

pub returns : goal.returns
returns c = key_all c.args.pairs c.args.group.now c.args.index.now c.loop-i.i _ (omega arith) c.loop-i.invariant.key
