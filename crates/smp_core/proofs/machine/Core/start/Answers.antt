use Rattle.std.proofs.Common.{rules, ◌≡◌, None, length, sym, ◌∙◌, arith}
use Rattle.std.proofs.lemmas.List.{get_or_read}
use Rattle.std.specs.Prelude.{slice_set}
use Rattle.smp_words.specs.Size.{cpus}
use Rattle.smp_call_steps.specs.Calls.{CallState}
use Rattle.smp_words.specs.Commands.{FitsCommand}
use Rattle.smp_core.specs.Start.{refusal_of}
use Rattle.smp_call_steps.specs.Start.{first_stage, control_at}
use Rattle.smp_core.specs.Value.{CoreValue}
use Rattle.smp_call_steps.specs.Value.{ValuesShow, control_of, outside}
use Rattle.smp_core.proofs.Starts.{may_start, started_shown, start_below}
use Rattle.smp_call_steps.proofs.Machine.Starts.{names_record}
use Rattle.smp_core.proofs.Insides.{started_inside}
use Rattle.smp_core.proofs.Whole.{sound_started}
use Rattle.smp_core.proofs.machine.Core.start.Goals as goal
use Rattle.smp_core.proofs.machine.Core.start.Given as given

-- the core before, over its fields
abbrev before : (g : given.Over) (c : goal.After-start-arg-1 g) → CoreValue
before g c =
    record {
      nr = c.self.inside.nr;
      online = c.self.inside.online;
      words = c.self.inside.words.items;
      controls = c.self.inside.controls.items;
      stops = c.self.inside.stops;
    }

allowed : (g : given.Over) (c : goal.After-start-arg-1 g) → refusal_of (before g c) c.args.cpu c.args.command ≡ None
allowed g c = rw (← c.self.view_is) at (sym c.refusal.ensures.exact ∙ c.in_default.is)

pub first_stage-stage-requires-clause-record : goal.first_stage-stage-requires-clause-record
first_stage-stage-requires-clause-record g c =
    let core = c.args.self.now in
    names_record core.nr core.online c.args.cpu c.args.command
    (may_start core c.args.cpu c.args.command (sym c.refusal.ensures.exact ∙ c.in_default.is)).is_allowed

pub start-requires-clause-allowed : goal.start-requires-clause-allowed
start-requires-clause-allowed g c = (may_start (before g c) c.args.cpu c.args.command (allowed g c)).is_stop_allowed

fits : (g : given.Over) (c : goal.After-start-arg-1 g) → FitsCommand c.args.command
fits g c = search rules

-- where the CPU is after it
begun : (g : given.Over) (c : goal.After-start-arg-1 g) → c.begin.new.self
    ≡ control_at (control_of c.self.inside.controls.items c.args.cpu) (first_stage c.self.inside.online c.args.cpu c.args.command)
begun g c =
    let controls = c.self.inside.controls.items in
    let below = start_below (before g c) c.args.cpu c.args.command c.self.invariant.limits (allowed g c) in
    let sized : length controls ≡ cpus = c.self.invariant.table.controls_sized in
    let here : c.index_mut.result.now ≡ control_of controls c.args.cpu =
    get_or_read controls c.args.cpu c.index_mut.result.now (omega arith) c.index_mut.ensures.value outside in
    rw (← here, ← c.first_stage-stage.ensures) c.begin.ensures

-- the core shows the calls that it showed
shown_after : (g : given.Over) (c : goal.After-start-arg-1 g) (calls : CallState) → ValuesShow calls c.self.inside.words.items c.self.inside.controls.items →
    ValuesShow calls c.self.inside.words.items (slice_set c.self.inside.controls.items c.args.cpu c.begin.new.self)
shown_after g c calls shown =
    let sized : length c.self.inside.controls.items ≡ cpus = c.self.invariant.table.controls_sized in
    rw (begun g c) (started_shown calls (before g c) c.args.cpu c.args.command c.self.invariant.limits sized (allowed g c) (fits g c) shown)

pub invariant_of-self : goal.invariant_of-self
invariant_of-self g c =
    rw (begun g c.before, c.start.ensures.started) (sound_started (before g c.before) c.args.cpu c.args.command c.self.invariant (fits g c.before)
    (allowed g c.before) (rw c.start.ensures.started at c.start.ensures.told))

pub returns-clause-told : goal.returns-clause-told
returns-clause-told g c calls shown = shown_after g c.before calls (rw (← c.self.view_is) at shown)

pub returns-clause-inside : goal.returns-clause-inside
returns-clause-inside g c =
    let invariant = c.self.invariant in
    let stops_sized : length c.self.inside.stops.controls ≡ cpus = c.has_all_places.ensures in
    rw (begun g c.before, c.start.ensures.started) (started_inside (before g c.before) c.args.cpu c.args.command invariant.limits
    invariant.table.controls_sized stops_sized (allowed g c.before))
