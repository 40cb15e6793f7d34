use Rattle.std.proofs.Common.{[], arith, rules, take, subst, sym}
use Rattle.std.proofs.lemmas.List.{take_all}
use Rattle.refl_merge.specs.Steps.{AreGathered}
use Rattle.refl_merge.proofs.Gathering.{behind_more, gathered_none, gathered_more}
use Rattle.refl_merge.proofs.merging.gather.Goals as goal

pub loop-start-init : goal.loop-start-init
loop-start-init c = record {
  within = omega arith;
  len = search rules;
  capacity = search rules;
  behind = λ k j e f l. absurd (omega arith);
  gathered = subst (AreGathered c.args.group.now []) (sym (search rules)) (gathered_none c.args.group.now);
}

pub loop-start-preserved : goal.loop-start-preserved
loop-start-preserved c =
    let members = c.args.group.now in
    let entries = c.args.entries.now in
    let keyed = c.requires.keyed in
    record {
      within = c.run_end-end.ensures.within;
      len = omega (arith, c.push_reserved.ensures.len, c.loop-start.invariant.len, c.run_end-end.ensures.beyond);
      capacity = search rules;
      behind = behind_more c.args.entries.now c.requires.sorted c.loop-start.start c.run_end-end.result c.run_end-end.ensures c.loop-start.invariant.behind;
      gathered = subst (AreGathered members (take c.run_end-end.result entries)) (sym c.push_reserved.ensures.items)
          (gathered_more keyed.0 members c.requires.group entries keyed.1 c.requires.sorted c.loop-start.start c.run_end-end.result c.run_end-end.ensures c.loop-start.invariant.behind c.loop-start.lines.items c.merged_line.result c.loop-start.invariant.gathered c.merged_line.ensures);
    }

pub returns-clause-gathered : goal.returns-clause-gathered
returns-clause-gathered c = subst (λ own. AreGathered c.args.group.now own c.loop-start.lines.items) (take_all c.loop-start.start c.args.entries.now c.loop-start-test.false) c.loop-start.invariant.gathered
