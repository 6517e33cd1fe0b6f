-- What the address of a seat owns: as a box of the seat, or nothing.
use Rattle.std.specs.Prelude.{Option, None, Some}
use base.Fml.{Fml, ftrue}
use base.Stored.{Coded}
use denote.RawPtr.{Ptr}
use Rattle.std.specs.Box.Ownership.{box_owns}
use Rattle.std.specs.Coded.{coded_option}
use Rattle.std.specs.Global.{Global}
use Rattle.std_heap.specs.contracts.GlobalAllocator.TheImpl.{ghosts}
use Rattle.smp_tables_c.specs.contracts.seat.OwnedSeat.{the_row}

abbrev pub seat_owns : Global → Ptr → Option the_row.Denot → Fml
seat_owns alloc ptr None = ftrue
seat_owns alloc ptr (Some seat) = box_owns (ghosts.dealloc_token alloc) the_row ptr seat

abbrev pub seat_coded : Coded (Option the_row.Denot)
seat_coded = coded_option the_row.coded
