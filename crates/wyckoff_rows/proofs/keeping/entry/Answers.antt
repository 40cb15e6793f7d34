use Rattle.std.proofs.Common.{◌/◌, ap₂}
use Rattle.wyckoff_rows.proofs.Meeting.{entry_of}
use Rattle.wyckoff_rows.proofs.keeping.entry.Goals as goal

pub returns-clause-entry : goal.returns-clause-entry
returns-clause-entry c =
    entry_of c.args.g.now c.len.ensures.group c.in_ok-set.set c.args.average c.requires.near c.in_ok-set.ensures.full c.len-2.ensures.group c.args.key (c.len.result / c.len-2.result)
    c.requires.key c.requires.over (ap₂ (λ m n. m / n) c.len.ensures.value c.len-2.ensures.value)
