use Rattle.group_closure.proofs.Existence.{closes_or_not}
use Rattle.group_closure.proofs.laws.closes_or_is_unclosed.Goals as goal

pub returns : goal.returns
returns c = closes_or_not
