-- A handle may be used in another thread, one call at a time: what it owns is a box, and what frees the box is the same there.
use Rattle.std.proofs.Common.{List}
use mir.Raw.{raw}
use base.Shift.{Keyless}
use denote.Memory.{lone}
use denote.RawPtr.{Ptr}
use denote.Param.Send.{IsSend, AllSend, owning_send, struct_send, sendable}
use denote.Struct.Owning.{shape, fields, to}
use denote.Struct.Struct.{exits_of}
use Rattle.core.specs.declared.option.Option.{Option}
use Rattle.core.specs.declared.option.Option.TheVariants.{None, Some}
use Rattle.std.specs.declared.alloc.Global.{Global}
use Rattle.std.proofs.alloc.Global.TheSendSync as heap
use Rattle.std.proofs.Crossing.{frees}
use Rattle.std_alloc.proofs.SendSync.{lies, quiet}
use Rattle.lattice_algebra.specs.Operator.{Operator}
use Rattle.sg_c.specs.contracts.kept.Kept as kept
use Rattle.sg_c.proofs.kept.Kept.TheSendSync.{the_send as kept_send}
use Rattle.sg_c.specs.Held.{held}
use Rattle.sg_c.specs.contracts.handle.Handle.{the_type, the_row}

held_keyless : (alloc : Global) (at : Ptr) (members : Option (List Operator)) → Keyless (held alloc at members)
held_keyless alloc at (Some members) = (lies kept.the_row kept_send at members, frees.frees alloc (raw (lone (kept.the_row).mir)) at)
held_keyless alloc at None = tt

pub send : IsSend the_row
send =
    let all : AllSend (fields the_type) = (search sendable, (heap.the_field_send, tt)) in
    owning_send the_type all (λ h. held_keyless h.alloc h.at h.group) (λ k. quiet (to the_type) (exits_of k (fields the_type)) ((struct_send (shape the_type) all).leaving k))
