use Rattle.std.proofs.Common.{arith, subst, sym, ℕ, All, Contains}
use Rattle.lattice_algebra.specs.Operator.{Operator}
use Rattle.std.proofs.lemmas.List.Elements.{All-nil}
use Rattle.group_closure.proofs.UnderWay.{made_of_list, list_is_narrow}
use Rattle.group_closure.proofs.closing.Making.close.Goals as goal

pub loop-k-init : goal.loop-k-init
loop-k-init c = record {
  ready = c.begin-buckets.ensures.ready;
  members = λ (j : ℕ) (f : Operator) l. absurd (omega arith);
  generators = subst (All (Contains c.args.list.now)) (sym c.begin-buckets.ensures.none) (All-nil (Contains c.args.list.now));
}

pub returns-clause-generated : goal.returns-clause-generated
returns-clause-generated c = made_of_list c.args.list.now c.loop-k.k c.loop-k.self c.loop-k.buckets c.loop-k.invariant (omega arith)

pub returns-clause-narrow : goal.returns-clause-narrow
returns-clause-narrow c = list_is_narrow c.args.list.now c.loop-k.k c.loop-k.self c.loop-k.buckets c.loop-k.invariant (omega arith)
