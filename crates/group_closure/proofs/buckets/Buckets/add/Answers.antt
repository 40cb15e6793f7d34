use Rattle.std.proofs.Common.{◌+◌, ◌++◌, ◌∷◌, [], length, get_or, set, sym, arith, subst}
use Rattle.group_closure.specs.Buckets.{AreFiled}
use Rattle.group_closure.proofs.Filed.{filed_more}
use Rattle.group_closure.proofs.buckets.Buckets.add.Goals as goal

pub returns : goal.returns
returns c =
    subst (λ b. AreFiled (c.args.members.now ++ c.args.op.now ∷ []) (set c.args.self.now.heads b (length c.args.members.now + 1)) (set c.args.self.now.before (length c.args.members.now) (get_or c.args.self.now.heads b 0))) (sym c.bucket-bucket.ensures.value)
    (filed_more c.args.members.now c.args.self.now.heads c.args.self.now.before c.args.op.now c.requires.filed c.requires.few (omega (arith, c.bucket-bucket.ensures.value, c.bucket-bucket.ensures.within)))
