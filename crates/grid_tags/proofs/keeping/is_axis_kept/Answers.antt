use Rattle.std.proofs.Common.{sym, subst, ◌∙◌, w32}
use Rattle.std.proofs.lemmas.Bool.{false≢true}
use Rattle.std.proofs.lemmas.Int.{to_z-of_z}
use Rattle.exact_ops.specs.declared.TheConstants.{UNIT}
use Rattle.grid_tags.specs.Steps.{IsWhole}
use Rattle.grid_tags.proofs.keeping.is_axis_kept.Goals as goal

pub returns-then-not-is_whole : goal.returns-then-not-is_whole
returns-then-not-is_whole c = (
  (λ t. absurd (false≢true t)),
  (λ k. absurd (false≢true (sym c.if-not-is_whole.true ∙ c.is_whole.ensures.1 (subst (λ x. IsWhole x c.args.n c.args.m) (sym (to_z-of_z w32 c.args.u c.ranges.u)) k.second)))),
)

pub returns-then-not-is_whole-2 : goal.returns-then-not-is_whole-2
returns-then-not-is_whole-2 c = (
  (λ t. absurd (false≢true t)),
  (λ k. absurd (false≢true (sym c.if-not-is_whole-2.true ∙ c.is_whole-2.ensures.1 (subst (λ x. IsWhole x c.args.n c.args.l) (sym (to_z-of_z w32 c.args.v c.ranges.v)) k.third)))),
)

pub returns : goal.returns
returns c = (
  (λ t. record {
    second = subst (λ x. IsWhole x c.args.n c.args.m) (to_z-of_z w32 c.args.u c.ranges.u) (c.is_whole.ensures.0 c.if-not-is_whole.false);
    third = subst (λ x. IsWhole x c.args.n c.args.l) (to_z-of_z w32 c.args.v c.ranges.v) (c.is_whole-2.ensures.0 c.if-not-is_whole-2.false);
    shift = subst (λ x. IsWhole x c.args.n UNIT) (to_z-of_z w32 c.args.t c.ranges.t) (c.is_whole-3.ensures.0 t);
  }),
  (λ k. c.is_whole-3.ensures.1 (subst (λ x. IsWhole x c.args.n UNIT) (sym (to_z-of_z w32 c.args.t c.ranges.t)) k.shift)),
)
