use Rattle.std.proofs.Common.{ℕ, replicate, sym, subst, arith}
use Rattle.affine_sets.specs.declared.numbers.Offset.{Offset}
use Rattle.affine_sets.specs.Filing.{filed_shifts}
use Rattle.affine_sets.specs.Growth.{Holds}
use Rattle.affine_sets.proofs.Filing.{none_filed, none_held}
use Rattle.affine_sets.proofs.holding.Held.new.Goals as goal

pub invariant_of-result : goal.invariant_of-result
invariant_of-result c = (rw c.in-Ok.ensures.items (none_filed 192), omega (arith, c.in-Ok.ensures.capacity))

pub returns : goal.returns
returns c = subst (λ items. (p : ℕ) (k : Offset) → Holds (filed_shifts items (replicate 192 0)) p k → ⊥) (sym c.in-Ok.ensures.items) (none_held 192)
