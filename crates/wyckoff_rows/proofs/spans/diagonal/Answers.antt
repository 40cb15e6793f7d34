use Rattle.std.proofs.Common.{rules}
use Rattle.lattice_algebra.proofs.Machine.{read}
use Rattle.space_groups.specs.Regions.{diagonal}
use Rattle.wyckoff_rows.proofs.spans.diagonal.Goals as goal

pub returns : goal.returns
unfolding diagonal
returns c = search (rules, read)
