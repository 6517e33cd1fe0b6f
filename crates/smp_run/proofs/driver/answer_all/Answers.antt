use Rattle.std.proofs.Common.{rules, ◌≡◌, ℕ, [], ◌∷◌, ◌++◌, length, ◌∙◌, refl, sym, subst, arith}
use Rattle.smp_machine.specs.MachineCpu.{MachineValue}
use Rattle.smp_run.specs.Answers.{IsLineAnswer}
use Rattle.smp_run.specs.Made.{AreLinesMade, IsLineMade}
use Rattle.smp_run.specs.Seats.{keys_at}
use Rattle.smp_run.proofs.Answering.{answered_more}
use Rattle.smp_run.proofs.Making.{lines_more, lines_none, lines_then, made_same}
use Rattle.smp_run.proofs.Sending.{called_none, script_more}
use Rattle.smp_run.proofs.Stays.{stays_first, stays_on}
use Rattle.smp_run.proofs.driver.answer_all.Goals as goal

pub loop-at-init : goal.loop-at-init
loop-at-init g c =
    let me = c.args.seat.now.cpu in let m = c.args.seat.now.machine in (
      stays_first c.args.seat.now c.requires.rest,
      c.requires.sized,
      (λ i l a below mine. absurd (omega (arith, below))),
      called_none me me refl refl,
      ([], lines_none m me.calls.number c.args.lines.now c.args.answers.now, made_same me me refl),
    )

pub loop-at-preserved : goal.loop-at-preserved
loop-at-preserved g c =
    let was = c.loop-at.invariant in let same = was.0.same in let call = c.answer_if.ensures in let made = was.4 in
    let first = c.args.seat.now in let m = first.machine in let this = first.cpu.calls.number in let mid = c.loop-at.seat in
    let lines = c.args.lines.now in let line = c.index-lines-at.result in let answer = c.answer_if.new.answer in let new = c.answer_if.new.seat.cpu in
    let told : IsLineMade m this line answer call.made.0 =
    subst (λ (n : ℕ). IsLineMade m n line answer call.made.0) same.number_is
    (subst (λ (x : MachineValue). IsLineMade x mid.cpu.calls.number line answer call.made.0) same.machine_is call.made.1) in (
      stays_on first mid c.answer_if.new.seat was.0 call.stays,
      search rules,
      answered_more m.calls.online (keys_at m) this lines c.loop-at.answers c.loop-at.at line answer
          c.loop-at-test.true was.1
          c.index-lines-at.is
          (λ mine. subst (λ (x : MachineValue). IsLineAnswer x.calls.online (keys_at x) line answer) same.machine_is
          (call.answered (mine ∙ sym same.number_is)))
          was.2,
      script_more m mid.machine first.cpu mid.cpu new lines c.loop-at.at line c.loop-at-test.true
          c.index-lines-at.is same.machine_is same.number_is was.3 call.sent,
      (
        made.0 ++ call.made.0 ∷ [],
        lines_more m this lines c.loop-at.answers c.loop-at.at line answer made.0 call.made.0 c.loop-at-test.true was.1 c.index-lines-at.is told made.1,
        lines_then made.0 call.made.0 first.cpu mid.cpu new made.2 call.made.2,
      ),
    )

pub returns-clause-played : goal.returns-clause-played
returns-clause-played g c =
    let made = c.loop-at.invariant.4 in let m = c.args.seat.now.machine in let lines = c.args.lines.now in
    let all : c.loop-at.at ≡ length lines = search (rules, arith) in
    record {
      made = made.0;
      lines_are = subst (λ (n : ℕ). AreLinesMade m c.args.seat.now.cpu.calls.number lines c.loop-at.answers n made.0) all made.1;
      stops = made.2;
    }
