use Rattle.std.proofs.Common.{◌≡◌, ◌∙◌, ◌++◌, ◌∷◌, [], not, ap}
use Rattle.smp_tables_c.proofs.Filling.{left_behind, left_on, no_seat_there, seat_there, seats_more}
use Rattle.smp_tables_c.proofs.open.Opening.seats.Goals as goal
use Rattle.smp_tables_c.proofs.open.Opening.seats.Goals.{then-contains+in_ok-seat, else-contains}

pub loop-cpu-preserved : goal.loop-cpu-preserved
loop-cpu-preserved c =
    let n = c.loop-cpu.cpu in
    let online = c.args.online in
    let calls = c.args.self.now.calls.value in
    let stops = c.args.self.now.stops.value in
    let old = c.loop-cpu.self in
    let seats = c.loop-cpu.seats.items in
    let x = c.if-contains.seat in
    let is = c.loop-cpu.invariant in
    let ok = c.is_err.ensures.negation ∙ ap not c.if-is_err.false in
    let pushed : c.push.new.self.items ≡ seats ++ x ∷ [] = rw ok at c.push.ensures.items in
    elim c.if-contains.branch [
      | then-contains+in_ok-seat w ↦
          let e = w.in_ok-seat.ensures in
          let there = seat_there calls old.calls.value stops old.stops.value n online w.in_ok-seat.field-0 x w.if-contains.ensures.member w.seat-is e.seat
          is.1 is.2 in
          let more = seats_more calls stops n online seats c.push.new.self.items x is.0 there pushed in
          rw w.self-is (
            more,
            e.calls ∙ is.1,
            e.stops ∙ is.2,
            left_behind n online old.boot w.seat.new.self.boot old.stop_boot w.seat.new.self.stop_boot is.3 e.given.0 e.given.1,
          )
      | else-contains w ↦
          let there = no_seat_there calls stops n online x w.if-contains.ensures.member w.seat-is in
          let more = seats_more calls stops n online seats c.push.new.self.items x is.0 there pushed in
          rw w.self-is (more, is.1, is.2, left_on n online old.boot old.stop_boot is.3)
    ]
