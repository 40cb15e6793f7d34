use Rattle.std.proofs.Common.{rules, refl, sym, subst, take}
use Rattle.group_closure.proofs.Places.{contains_at, some_at}
use Rattle.phase_rules.specs.declared.pairs.Pairs.TheVariants.{Friedel}
use Rattle.phase_rules.proofs.Opposites.{have_opposites}
use Rattle.phase_rules.specs.Rows.{row_of}
use Rattle.refl_merge.specs.Keys.{IsClassKey}
use Rattle.refl_merge.proofs.Greatest.{key_first, key_more, key_by_half}
use Rattle.refl_merge.proofs.class_keys.key_with_opposites.Goals as goal

pub runs-init : goal.runs-init
runs-init c =
    let one = c.run_end-i.ensures.first refl in
    record {
      within = c.run_end-i.ensures.within;
      three = search rules;
      key = subst (λ n. IsClassKey Friedel (take n c.args.group.now) c.args.index.now (row_of c.greatest_image-key.result)) (sym one) (key_first Friedel c.args.group.now c.args.index.now c.op.result _ c.op.ensures.value c.greatest_image-key.ensures);
    }

pub runs-preserved : goal.runs-preserved
runs-preserved c = record {
  within = c.run_end-i-in-runs.ensures.within;
  three = search rules;
  key = key_more Friedel c.args.group.now c.args.index.now c.runs.i c.run_end-i-in-runs.result c.op-in-runs.result _ _ c.run_end-i-in-runs.ensures.beyond c.op-in-runs.ensures.value
      (record { first = c.run_end-i-in-runs.ensures.first; run = c.run_end-i-in-runs.ensures.run }) c.runs.invariant.key c.key_with-greatest.ensures;
}

pub returns : goal.returns
returns c = λ pairs.
    let members = c.args.group.now in
    let j = some_at members c.args.inversion c.requires.inversion.within in
    let m = contains_at members j.0 c.args.inversion j.1 in
    let w = c.requires.inversion.at j.0 j.1 in
    key_by_half members c.args.index.now c.requires.group j.0 m w pairs c.runs.i _ (have_opposites members c.requires.group j.0 m w c.runs.i (c.stands_first.ensures.behind c.runs-test.false)) c.runs.invariant.key
