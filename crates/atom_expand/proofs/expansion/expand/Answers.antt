use Rattle.std.proofs.Common.{rules, ◌≤◌, ◌+◌, length, subst, sym}
use Rattle.exact_ops.specs.Numbers.{point_in}
use Rattle.atom_expand.specs.Sites.{site_in}
use Rattle.atom_expand.specs.Steps.{IsEntryFor}
use Rattle.atom_expand.proofs.Placing.{ArePlaced, begins_in_cell, placed_more}
use Rattle.atom_expand.proofs.expansion.expand.Goals as goal

pub entry_of-entry-requires-clause-orbit : goal.entry_of-entry-requires-clause-orbit
entry_of-entry-requires-clause-orbit c = begins_in_cell c.args.group.now c.len-members.ensures.group (point_in c.get.result.at) c.get.result.at.in_range.positive c.in_ok-orbit.orbit c.in_ok-orbit.ensures

pub loop-k-preserved : goal.loop-k-preserved
loop-k-preserved c =
    let entry = subst (λ xs. IsEntryFor xs c.in_ok-orbit.orbit c.entry_of-entry.result) c.deref.ensures.value c.entry_of-entry.ensures in
    let within : c.loop-k.k ≤ length c.args.atoms.now = search rules in
    record {
      len = search rules;
      capacity = search rules;
      placed =
          subst (ArePlaced c.args.group.now c.args.atoms.now (c.loop-k.k + 1)) (sym c.push_reserved.ensures.items)
          (placed_more c.args.group.now c.args.atoms.now c.len-members.ensures.group c.loop-k.k c.loop-k.entries.items c.loop-k.invariant.placed within (site_in c.get.result) c.get.ensures c.get.result.at.in_range.positive c.in_ok-orbit.orbit c.in_ok-orbit.ensures c.entry_of-entry.result entry);
    }
