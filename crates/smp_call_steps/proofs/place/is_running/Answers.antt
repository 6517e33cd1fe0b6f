use Rattle.std.proofs.Common.{◌≡◌, ◌<◌, length, ap, ◌∙◌, arith}
use Rattle.std.proofs.lemmas.List.{get_or_read}
use Rattle.smp_call_steps.specs.{has_record, running_of, ControlValue, control_of, outside}
use Rattle.smp_call_steps.proofs.State.Places.{in_running}
use Rattle.smp_call_steps.proofs.place.is_running.Goals as goal

pub returns-clause-calls : goal.returns-clause-calls
returns-clause-calls c calls shown =
    let controls = c.args.controls.now in
    let sized : c.args.cpu < length controls = omega (arith, c.requires.known, c.requires.table.controls_sized) in
    let here : c.index-controls-cpu.result ≡ control_of controls c.args.cpu =
    get_or_read controls c.args.cpu c.index-controls-cpu.result sized c.index-controls-cpu.is outside in
    in_running shown c.args.cpu c.args.id c.is_running.result (c.is_running.ensures ∙ ap (λ (x : ControlValue). has_record c.args.id (running_of x.stage)) here)

pub returns-clause-told : goal.returns-clause-told
returns-clause-told c = search (get_or_read, arith)
