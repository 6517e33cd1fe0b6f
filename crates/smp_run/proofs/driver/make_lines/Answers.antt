use Rattle.std.proofs.Common.{List, ◌∙◌, ap, sym, subst, vec_len}
use Rattle.std.proofs.lemmas.List.{take_at}
use Rattle.smp_machine.specs.MachineCpu.{MachineValue, MachineCpuValue}
use Rattle.smp_run.specs.Driven.{MakesLines}
use Rattle.smp_run.specs.Seats.{IsSeated}
use Rattle.smp_run.specs.declared.answer.Answer.{Answer}
use Rattle.smp_run.proofs.Stays.{rest_like}
use Rattle.smp_run.proofs.driver.make_lines.Goals as goal

pub answer_all-requires-clause-rest : goal.answer_all-requires-clause-rest
answer_all-requires-clause-rest g c =
    let taken = c.take_answers-answers in
    rest_like c.args.seat.now taken.new.seat taken.ensures.machine taken.ensures.cpu c.requires.seated c.requires.waited

pub returns-clause-makes : goal.returns-clause-makes
returns-clause-makes g c =
    let first = c.args.seat.now in let lines = c.args.lines.now in let taken = c.take_answers-answers in let call = c.answer_all in
    let mid = taken.new.seat in let told = call.new.answers in let new = call.new.seat.cpu in let made = call.ensures in let left = c.leave_answers in
    let here : MakesLines mid.machine lines told mid.cpu new = record {
      seated = subst (λ (x : MachineValue). IsSeated x new) made.stays.same.machine_is made.stays.rest.seated;
      waited = made.stays.rest.waited;
      number_is = made.stays.same.number_is;
      answered = made.answered;
      sent = made.sent;
      played = made.played;
    } in
    let all : MakesLines first.machine lines told first.cpu left.new.seat.cpu =
    subst (λ (p : MachineCpuValue). MakesLines first.machine lines told first.cpu p) (sym left.ensures.cpu)
    (subst (λ (p : MachineCpuValue). MakesLines first.machine lines told p new) taken.ensures.cpu
    (subst (λ (x : MachineValue). MakesLines x lines told mid.cpu new) taken.ensures.machine here)) in
    subst (λ (xs : List Answer). MakesLines first.machine lines xs first.cpu left.new.seat.cpu)
    (sym (ap (λ (v : _). v.items) left.ensures.left
    ∙ take_at told _ _ (made.answered.sized ∙ sym (ap (λ (v : _). vec_len v) taken.ensures.taken ∙ c.requires.sized)))) all
