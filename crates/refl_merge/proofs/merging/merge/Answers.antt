use Rattle.std.proofs.Common.{rules, sym, subst, All, IsSorted, is_lt}
use Rattle.std.proofs.lemmas.List.Sorted.{ranks_by, answers_always}
use Rattle.refl_merge.specs.declared.entries.Keyed.{Keyed}
use Rattle.refl_merge.specs.Steps.{IsKeyed, AreGathered, entry_cmp}
use Rattle.refl_merge.proofs.Gathering.{entry_total}
use Rattle.refl_merge.proofs.Finishing.{keyed_sorted, merged_from_gathered}
use Rattle.refl_merge.proofs.merging.merge.Goals as goal

pub gather-requires-clause-sorted : goal.gather-requires-clause-sorted
gather-requires-clause-sorted c = subst (IsSorted entry_cmp) (sym c.deref.ensures.value) (c.sort_unstable_by.ensures.sorted (λ a b. is_lt (entry_cmp a b)) (ranks_by entry_total (λ (e : Keyed). e)) (answers_always _ _ _ (λ f a r q k. search rules)))

pub gather-requires-clause-keyed : goal.gather-requires-clause-keyed
gather-requires-clause-keyed c =
    (c.args.pairs, subst (All (IsKeyed c.args.pairs c.args.group.now)) (sym c.deref.ensures.value) (keyed_sorted c.args.pairs c.args.group.now c.args.list.now _ _ c.sort_unstable_by.ensures.permutation c.in_ok-entries.ensures.keyed).each)

pub returns : goal.returns
returns c =
    merged_from_gathered c.args.pairs c.args.group.now c.len.ensures.group c.args.list.now c.sort_unstable_by.new.self.items
    (keyed_sorted c.args.pairs c.args.group.now c.args.list.now _ _ c.sort_unstable_by.ensures.permutation c.in_ok-entries.ensures.keyed)
    c.in_ok-lines.lines.items
    (subst (λ own. AreGathered c.args.group.now own c.in_ok-lines.lines.items) c.deref.ensures.value c.in_ok-lines.ensures.gathered)
