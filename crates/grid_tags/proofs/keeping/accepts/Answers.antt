use Rattle.std.proofs.Common.{sym, subst, ◌∙◌, arith, refl}
use Rattle.std.proofs.lemmas.Bool.{false≢true}
use Rattle.std.proofs.lemmas.List.{take_all}
use Rattle.finite_groups.proofs.Members as lists
use Rattle.group_closure.proofs.Places.{contains_at}
use Rattle.grid_tags.proofs.Stored.{kept_more}
use Rattle.grid_tags.specs.Grids.{IsKept}
use Rattle.grid_tags.proofs.keeping.accepts.Goals as goal

pub loop-i-init : goal.loop-i-init
loop-i-init c = λ f m. lists.not_in_nil f m

pub returns-then-not-is_kept_by : goal.returns-then-not-is_kept_by
returns-then-not-is_kept_by c = (
  (λ t. absurd (false≢true t)),
  (λ k. absurd (false≢true (sym c.if-not-is_kept_by.true ∙ c.is_kept_by.ensures.1 (k c.op.result (contains_at c.args.group.now c.op.result c.loop-i.i c.op.ensures.value))))),
)

pub loop-i-preserved : goal.loop-i-preserved
loop-i-preserved c = kept_more c.args.group.now c.args.size.now c.loop-i.i c.op.result c.op.ensures.value c.loop-i.invariant (c.is_kept_by.ensures.0 c.if-not-is_kept_by.false)

pub returns : goal.returns
returns c = ((λ t. subst (λ xs. IsKept xs c.args.size.now) (take_all c.loop-i.i c.args.group.now (omega arith)) c.loop-i.invariant), (λ k. refl))
