-- What a handle owns.
use Rattle.std.specs.Prelude.{List, Option, None, Some}
use base.Fml.{Fml, feq}
use denote.RawPtr.{Ptr, null_ptr}
use Rattle.std.specs.declared.alloc.Global.{Global}
use Rattle.std.specs.contracts.impls.GlobalAllocator.TheImpl.{ghosts}
use Rattle.std_alloc.specs.Box.Ownership.{box_owns}
use Rattle.lattice_algebra.specs.Operator.{Operator}
use Rattle.sg_c.specs.contracts.kept.Kept.{the_row}

-- the block of a box with the group of these members; or no block, and then the pointer is null
abbrev pub held : Global → Ptr → Option (List Operator) → Fml
held alloc at (Some members) = box_owns (ghosts.dealloc_token alloc) the_row at members
held alloc at None = feq Ptr at null_ptr
