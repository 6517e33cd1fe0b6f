use Rattle.std.proofs.Common.{rules, refl, sym}
use Rattle.std.proofs.lemmas.Int.{to_z-of_z}
use mir.Syntax.{w32}
use mir.Val.{SFits}
use Rattle.smp_tables_c.specs.Stops.{Turns}
use Rattle.smp_tables_c.specs.contracts.seat.OwnedSeat.{the_view}
use Rattle.smp_tables_c.specs.declared.place.CpuPlace.TheVariants.{Moving}
use Rattle.smp_tables_c.proofs.Outside.{by_turn, seated}
use Rattle.smp_tables_c.proofs.seat.OwnedSeat.turn.Goals as goal

pub returns-in-Err : goal.returns-in-Err
returns-in-Err c =
    let s = the_view c.self.inside in
    let v = c.turn_on.result in
    let fits : SFits w32 v = search rules in
    let done = by_turn s (record s { place = Moving }) c.turn_on.new.self c.args.call.now c.turn_on.new.call v c.in-Out.me c.in-Out.stop c.in-Err.stop
    c.turn-turned.result (λ p. refl) refl (sym c.in-Out.ensures.value) c.in-Err.ensures c.turn-turned.ensures c.turn_on.ensures in
    seated (Turns c.args.call.now c.turn_on.new.call) _ v s _ _ _ done (to_z-of_z w32 v fits) c.self.view_is refl
