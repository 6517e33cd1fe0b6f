use Rattle.std.proofs.Common.{◌≡◌, rules, ap, subst, ◌∙◌}
use Rattle.std.proofs.lemmas.Int.{to_z-of_z}
use mir.Syntax.{w32}
use mir.Val.{SFits, to_z}
use Rattle.smp_tables_c.specs.Calls.{SendBy, Sends}
use Rattle.smp_tables_c.specs.contracts.seat.OwnedSeat.{the_view}
use Rattle.smp_tables_c.proofs.Outside.{by_calls, seated}
use Rattle.smp_tables_c.proofs.seat.OwnedSeat.send.Goals as goal
use Rattle.smp_tables_c.proofs.seat.OwnedSeat.send.Goals.{in-Out, in-Moving, in-InCall, in-InCall-2}

pub returns : goal.returns
returns c = elim c.match-self.branch [
  | in-Out w ↦
      let s = the_view c.self.inside in
      let v = w.send_by.result in
      let fits : SFits w32 v = search rules in
      let told : to_z w32 c.match-self.result-bits ≡ v = w.result-is ∙ to_z-of_z w32 v fits in
      let by = subst (λ x. SendBy x c.args.to w.in-Out.me w.send_by.new.me w.send_by.result) w.deref.ensures w.send_by.ensures.by in
      let done = by_calls (SendBy c.self.inside.calls.value c.args.to) s w.in-Out.me w.send_by.new.me w.in-Out.field-1 v w.in-Out.is by in
      seated (Sends c.args.to) _ v s _ _ _ done told c.self.view_is (ap the_view w.self-inside-is)
  | in-Moving w ↦ search rules
  | in-InCall w ↦ search rules
  | in-InCall-2 w ↦ search rules
]
