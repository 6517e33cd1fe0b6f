-- The address of a seat may go to another thread with the seat, or with nothing.
use base.Shift.{Keyless}
use mir.Raw.{raw}
use denote.Memory.{lone}
use denote.RawPtr.{Ptr}
use denote.Struct.Struct.{exits_of}
use denote.Struct.Owning.{shape, fields, to}
use denote.Param.Send.{IsSend, AllSend, owning_send, struct_send, sendable}
use Rattle.std.proofs.Common.{Option, None, Some}
use Rattle.std.proofs.Crossing as heap
use Rattle.std.specs.Global.{Global}
use Rattle.std_alloc.proofs.SendSync.{quiet, lies}
use Rattle.std_heap.proofs.Global.TheSendSync as handle
use Rattle.smp_tables_c.specs.Held.{seat_owns}
use Rattle.smp_tables_c.specs.contracts.seat.OwnedSeat as Home
use Rattle.smp_tables_c.proofs.seat.OwnedSeat.TheSendSync.{the_send as home}
use Rattle.smp_tables_c.specs.contracts.held.Held.{the_row, the_type}

seat_keyless : (alloc : Global) (ptr : Ptr) (seat : Option (Home.the_row).Denot) → Keyless (seat_owns alloc ptr seat)
seat_keyless alloc ptr None = tt
seat_keyless alloc ptr (Some seat) = (lies Home.the_row home ptr seat, heap.frees.frees alloc (raw (lone Home.the_row.mir)) ptr)

pub send : IsSend the_row
send =
    let all : AllSend (fields the_type) = (search sendable, (handle.the_field_send, tt)) in
    owning_send the_type all (λ d. seat_keyless d.alloc d.ptr d.seat)
    (λ k. quiet (to the_type) (exits_of k (fields the_type)) ((struct_send (shape the_type) all).leaving k))
