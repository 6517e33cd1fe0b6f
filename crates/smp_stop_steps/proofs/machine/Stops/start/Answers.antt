use Rattle.std.proofs.Common.{◌≡◌, List, Some, length, sym, subst, ◌∙◌, ap, arith, rules}
use Rattle.std.proofs.lemmas.List.{get_or_read}
use Rattle.smp_words.specs.Commands.{FitsCommand}
use Rattle.smp_stop_steps.specs.{cpus, StopControlValue, stop_outside, stop_first, StopsValue, stop_control_of, StageFits}
use Rattle.smp_stop_steps.proofs.{TheMachine.Answered.first_fits, TheMachine.Starting.may_begin}
use Rattle.smp_stop_steps.proofs.machine.Stops.start.Goals as goal

pub begin-requires-clause-may : goal.begin-requires-clause-may
begin-requires-clause-may g c = let items = c.self.inside.controls.items in
    let sized : length items ≡ cpus = c.self.invariant.sized in
    let kept : items ≡ c.args.self.now.controls = ap (λ (v : StopsValue). v.controls) c.self.view_is in
    let here : c.index.result.now ≡ stop_control_of items c.args.cpu = get_or_read items c.args.cpu c.index.result.now (omega (arith, c.requires.cpu))
    c.index.ensures stop_outside in
    let now : c.index.result.now ≡ stop_control_of c.args.self.now.controls c.args.cpu = here ∙ ap (λ (x : List StopControlValue). stop_control_of x
    c.args.cpu) kept in
    let first : stop_first (stop_control_of c.args.self.now.controls c.args.cpu) c.args.command ≡ Some c.in-Some.stage =
    rw (← now) (sym c.first_stage.ensures ∙ c.in-Some.is) in
    let fits : FitsCommand c.args.command = search rules in
    may_begin c.args.self.now c.args.cpu c.args.command c.in-Some.stage c.requires.cpu c.requires.below c.requires.online fits
    c.requires.allowed first

-- the answer of the command is an i32, and so are those of the CPU's visit
pub begin-requires-clause-answers : goal.begin-requires-clause-answers
begin-requires-clause-answers g c = let items = c.self.inside.controls.items in
    let sized : length items ≡ cpus = c.self.invariant.sized in
    let here : c.index.result.now ≡ stop_control_of items c.args.cpu = get_or_read items c.args.cpu c.index.result.now (omega (arith, c.requires.cpu))
    c.index.ensures stop_outside in
    let first : stop_first (stop_control_of items c.args.cpu) c.args.command ≡ Some c.in-Some.stage = rw (← here) (sym c.first_stage.ensures ∙ c.in-Some.is) in
    let fits : FitsCommand c.args.command = search rules in
    subst StageFits first (first_fits (stop_control_of items c.args.cpu) c.args.command (c.self.invariant.answers c.args.cpu).visit fits)
