use Rattle.std.proofs.Common.{ap, ap₂, ◌∙◌}
use Rattle.std.specs.List.{fold}
use Rattle.group_closure.specs.Buckets.{mixed, bucket_of}
use Rattle.group_closure.proofs.buckets.bucket.Goals as goal

pub returns-clause-value : goal.returns-clause-value
unfolding bucket_of
returns-clause-value c = c.mix-2.ensures.value ∙ ap₂ (λ m v. fold mixed m v) (c.mix.ensures.value ∙ ap (fold mixed 0) c.w.ensures.value) c.t.ensures.value
