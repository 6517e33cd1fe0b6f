use Rattle.std.proofs.Common.{◌≡◌, rules, ap, ◌∙◌}
use Rattle.std.proofs.lemmas.Int.{to_z-of_z}
use mir.Syntax.{w32}
use mir.Val.{SFits, to_z}
use Rattle.smp_tables_c.specs.Stops.{FinishBy, Finishes}
use Rattle.smp_tables_c.specs.contracts.seat.OwnedSeat.{the_view}
use Rattle.smp_tables_c.proofs.Outside.{by_stops, seated}
use Rattle.smp_tables_c.proofs.seat.OwnedSeat.finish.Goals as goal
use Rattle.smp_tables_c.proofs.seat.OwnedSeat.finish.Goals.{in-Out, in-Moving, in-InCall, in-InCall-2}

pub returns : goal.returns
returns c = elim c.match-self.branch [
  | in-Out w ↦
      let s = the_view c.self.inside in
      let v = w.finish_by.result in
      let fits : SFits w32 v = search rules in
      let told : to_z w32 c.match-self.result-bits ≡ v = w.result-is ∙ to_z-of_z w32 v fits in
      let by = w.finish_by.ensures.by in
      let done = by_stops FinishBy s w.in-Out.field-0 w.in-Out.stop w.finish_by.new.stop v w.in-Out.is by in
      seated Finishes _ v s _ _ _ done told c.self.view_is (ap the_view w.self-inside-is)
  | in-Moving w ↦ search rules
  | in-InCall w ↦ search rules
  | in-InCall-2 w ↦ search rules
]
