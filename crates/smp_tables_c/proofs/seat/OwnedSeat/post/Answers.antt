use Rattle.std.proofs.Common.{◌≡◌, rules, ap, subst, ◌∙◌}
use Rattle.std.proofs.lemmas.Int.{to_z-of_z}
use mir.Syntax.{w32}
use mir.Val.{SFits, to_z}
use Rattle.smp_tables_c.specs.Calls.{PostBy, Posts}
use Rattle.smp_tables_c.specs.contracts.seat.OwnedSeat.{the_view}
use Rattle.smp_tables_c.proofs.Outside.{by_calls, seated}
use Rattle.smp_tables_c.proofs.seat.OwnedSeat.post.Goals as goal
use Rattle.smp_tables_c.proofs.seat.OwnedSeat.post.Goals.{in-Out, in-Moving, in-InCall, in-InCall-2}

pub returns : goal.returns
returns c = elim c.match-self.branch [
  | in-Out w ↦
      let call = c.args.call in
      let s = the_view c.self.inside in
      let v = w.post_by.result in
      let fits : SFits w32 v = search rules in
      let told : to_z w32 c.match-self.result-bits ≡ v = w.result-is ∙ to_z-of_z w32 v fits in
      let by = subst (λ x. PostBy x call.k call.to call.class call.func call.info call.tries w.in-Out.me w.post_by.new.me w.post_by.result)
      w.deref.ensures w.post_by.ensures.by in
      let done = by_calls (PostBy c.self.inside.calls.value call.k call.to call.class call.func call.info call.tries) s w.in-Out.me
      w.post_by.new.me w.in-Out.field-1 v w.in-Out.is by in
      seated (Posts call.k call.to call.class call.func call.info call.tries) _ v s _ _ _ done told c.self.view_is (ap the_view w.self-inside-is)
  | in-Moving w ↦ search rules
  | in-InCall w ↦ search rules
  | in-InCall-2 w ↦ search rules
]
