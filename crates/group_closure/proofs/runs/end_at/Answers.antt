use Rattle.std.proofs.Common.{◌+◌, refl, sym, arith, inl, inr, ◌∙◌}
use Rattle.std.proofs.lemmas.Option.{slice_get_within}
use Rattle.group_closure.proofs.OneMatrix.{next_same, next_other, equal_by, other_by}
use Rattle.group_closure.proofs.runs.end_at.Goals as goal

pub returns-then-i-members : goal.returns-then-i-members
returns-then-i-members c = inl ((λ f g a b. absurd (omega (arith, c.if-i-members.true, slice_get_within c.args.members.now (c.args.i + 1) g b))), refl)

pub returns-then-is_eq : goal.returns-then-is_eq
returns-then-is_eq c = inl (
  next_same c.args.members.now c.args.i c.index-members-i.result c.index-members-i-2.result c.w.result c.requires.within c.if-i-members.false c.index-members-i.is c.index-members-i-2.is c.w.ensures.value (sym c.compare_matrix.ensures ∙ equal_by c.compare_matrix.result c.is_eq.result c.is_eq.ensures c.if-is_eq.true),
  refl,
)

pub returns : goal.returns
returns c = inr (
  next_other c.args.members.now c.args.i c.index-members-i.result c.index-members-i-2.result c.w.result c.requires.within c.if-i-members.false c.index-members-i.is c.index-members-i-2.is c.w.ensures.value (λ e. other_by c.compare_matrix.result c.is_eq.result c.is_eq.ensures c.if-is_eq.false (c.compare_matrix.ensures ∙ e)),
  c.if-i-members.false,
  refl,
)
