use Rattle.std.proofs.Common.{◌≡◌}
use Rattle.smp_tables_c.specs.Opens.{AreLeft, HasSeats}
use Rattle.smp_tables_c.proofs.open.Opening.seats.Given as goal

abbrev pub invariant-loop-cpu : goal.invariant-loop-cpu
invariant-loop-cpu l =
    HasSeats l.fn.self.calls.value l.fn.self.stops.value l.cpu l.online l.seats.items
    × (l.self.calls.value ≡ l.fn.self.calls.value) × (l.self.stops.value ≡ l.fn.self.stops.value)
    × AreLeft l.cpu l.online l.self.boot l.self.stop_boot
