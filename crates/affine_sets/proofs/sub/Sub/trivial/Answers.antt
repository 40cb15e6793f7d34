use Rattle.std.proofs.Common.{sym, subst}
use Rattle.affine_sets.specs.Subs.{IsSubList, AreElements, AreShiftsWithin}
use Rattle.affine_sets.proofs.Groups.{trivial_list, trivial_items, identity_move, trivial_elements, trivial_shifts}
use Rattle.affine_sets.proofs.sub.Sub.trivial.Goals as goal

pub invariant_of-result : goal.invariant_of-result
invariant_of-result c = subst IsSubList (sym (trivial_items _ _ _ c.push_reserved.ensures.items c.in-Ok.ensures.items (identity_move c.identity.result c.identity.ensures))) trivial_list

pub returns-clause-value : goal.returns-clause-value
returns-clause-value c = trivial_items _ _ _ c.push_reserved.ensures.items c.in-Ok.ensures.items (identity_move c.identity.result c.identity.ensures)

pub returns-clause-elements : goal.returns-clause-elements
returns-clause-elements c = λ members g. subst (AreElements members) (sym (trivial_items _ _ _ c.push_reserved.ensures.items c.in-Ok.ensures.items (identity_move c.identity.result c.identity.ensures))) (trivial_elements members g)

pub returns-clause-shifts : goal.returns-clause-shifts
returns-clause-shifts c = subst (AreShiftsWithin 0) (sym (trivial_items _ _ _ c.push_reserved.ensures.items c.in-Ok.ensures.items (identity_move c.identity.result c.identity.ensures))) trivial_shifts
