use Rattle.std.proofs.Common.{◌∙◌, sym, refl}
use Rattle.std.proofs.lemmas.Bool.{false≢true}
use Rattle.space_groups.proofs.Ordered.{less_is_below}
use Rattle.affine_sets.proofs.keys.is_below.Goals as goal

pub returns-in-Less : goal.returns-in-Less
returns-in-Less c = let l = less_is_below c.args.a.now c.args.b.now in ((λ _. l.0 (sym c.cmp.ensures ∙ c.in-Less.is)), (λ _. refl))

pub returns-in_default : goal.returns-in_default
returns-in_default c = let l = less_is_below c.args.a.now c.args.b.now in ((λ t. absurd (false≢true t)), (λ b. absurd (c.in_default.not-Less (c.cmp.ensures ∙ l.1 b))))
