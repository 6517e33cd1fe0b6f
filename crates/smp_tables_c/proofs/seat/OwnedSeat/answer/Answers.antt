use Rattle.std.proofs.Common.{ℤ, rules, refl, sym, subst}
use Rattle.std.proofs.lemmas.Int.{to_z-of_z}
use mir.Syntax.{w32}
use mir.Val.{SFits}
use Rattle.smp_multi.specs.ByValue.{Answered}
use Rattle.smp_tables_c.specs.Stops.{AnswersStop}
use Rattle.smp_tables_c.specs.contracts.seat.OwnedSeat.{the_view}
use Rattle.smp_tables_c.proofs.Outside.{by_answer, seated}
use Rattle.smp_tables_c.proofs.seat.OwnedSeat.answer.Goals as goal

pub returns-in-InStop : goal.returns-in-InStop
returns-in-InStop c =
    let s = the_view c.self.inside in
    let fits : SFits w32 c.args.answer = search rules in
    let done = by_answer s c.args.answer c.in-InStop.me c.in-InStop.answering c.answer-stop.result (sym c.in-InStop.ensures.value)
    (subst (λ (v : ℤ). Answered c.in-InStop.answering v c.answer-stop.result) (to_z-of_z w32 c.args.answer fits) c.answer-stop.ensures) in
    seated (AnswersStop c.args.answer) _ _ s _ _ _ done refl c.self.view_is refl
