use Rattle.std.proofs.Common.{ap}
use Rattle.sg_io.specs.Memory.{MemoryInput}
use Rattle.sg_io.proofs.Told.{gives}
use Rattle.sg_io.proofs.memory.source.NoFailSourceSource.read.Goals as goal

pub returns-clause-bytes : goal.returns-clause-bytes
returns-clause-bytes c =
    gives c.self.inside.bytes.items c.deref.result.now c.args.buf.now c.copy_from_slice.new.self c.args.self.now.left c.self.inside.at c.min.result c.min-count.result c.self.inside.piece
    (ap (λ (v : MemoryInput). v.left) c.self.view_is) c.deref.ensures.value c.self.invariant.1 c.min.ensures c.min-count.ensures c.copy_from_slice.ensures.after
