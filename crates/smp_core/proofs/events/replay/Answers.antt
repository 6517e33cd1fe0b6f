use Rattle.std.proofs.Common.{arith}
use Rattle.smp_core.proofs.Replays.{GoesOn-all, IsToldBy, ends_refused, goes_on, idle_so_far, starts}
use Rattle.smp_stop_steps.specs.State.{StopState}
use Rattle.smp_stop_steps.specs.Value.{StopShown}
use Rattle.smp_core.proofs.events.replay.Goals as goal
use Rattle.smp_core.proofs.events.replay.Given as given

pub loop-position-init : goal.loop-position-init
loop-position-init g c = starts c.args.core c.args.events.now c.new-seen.result.items c.new-seen.ensures.items

pub loop-position-preserved : goal.loop-position-preserved
loop-position-preserved g c =
    let answer = c.in-Ok.ensures.answer in
    let core = c.apply.ensures.core in
    let pushed = c.in_ok-note_step-in-Ok.ensures.ok in
    let told = c.in-Ok.ensures.told in
    let said = c.in-Ok.ensures.said in
    let stops = c.in-Ok.ensures.stops in
    let notes = c.in-Ok.ensures.stop_notes in
    goes_on c.args.core c.loop-position.core c.apply.new.self c.args.events.now c.loop-position.position c.index-events-position.result
    c.loop-position.seen.items c.note_step.new.seen.items c.in-Ok.step
    (omega arith) c.index-events-position.is answer core pushed told said stops notes c.is_whole.ensures c.loop-position.invariant

refused : (g : given.Over) (c : goal.In-Err g) → (p : StopState) → StopShown p c.args.core.stops →
    IsToldBy c.args.core c.apply.new.self c.args.events.now c.loop-position.seen.items p
refused g c =
    let answer = c.in-Err.ensures.answer in
    let same = c.in-Err.ensures.err in
    ends_refused c.args.core c.loop-position.core c.apply.new.self c.args.events.now c.loop-position.position c.index-events-position.result
    c.loop-position.seen.items c.in-Err.error
    (omega arith) c.index-events-position.is answer same c.is_whole.ensures c.loop-position.invariant

pub returns-in-Err-clause-stops : goal.returns-in-Err-clause-stops
returns-in-Err-clause-stops g c p shown = (refused g c p shown).0

pub returns-in-Err-clause-stop_notes : goal.returns-in-Err-clause-stop_notes
returns-in-Err-clause-stop_notes g c p shown = (refused g c p shown).1

pub returns-in-Err-clause-told : goal.returns-in-Err-clause-told
returns-in-Err-clause-told g c calls shown = let same = c.in-Err.ensures.err in rw same (c.loop-position.invariant.told calls shown)

pub returns-in-Err-clause-offline_stops : goal.returns-in-Err-clause-offline_stops
returns-in-Err-clause-offline_stops g c p shown = (refused g c p shown).2

pub returns-in-Err-clause-offline : goal.returns-in-Err-clause-offline
returns-in-Err-clause-offline g c calls shown idle = idle_so_far c.args.core c.loop-position.core c.args.events.now c.loop-position.position
    c.loop-position.seen.items c.loop-position.invariant c.is_whole.ensures calls shown idle

all : (g : given.Over) (c : goal.After-is_whole-2 g) → (p : StopState) → StopShown p c.args.core.stops →
    IsToldBy c.args.core c.loop-position.core c.args.events.now c.loop-position.seen.items p
all g c = GoesOn-all c.args.core c.loop-position.core c.args.events.now c.loop-position.position c.loop-position.seen.items
    (omega arith) c.is_whole-2.ensures c.loop-position.invariant

pub returns-clause-stops : goal.returns-clause-stops
returns-clause-stops g c p shown = (all g c p shown).0

pub returns-clause-stop_notes : goal.returns-clause-stop_notes
returns-clause-stop_notes g c p shown = (all g c p shown).1

pub returns-clause-offline_stops : goal.returns-clause-offline_stops
returns-clause-offline_stops g c p shown = (all g c p shown).2

pub returns-clause-offline : goal.returns-clause-offline
returns-clause-offline g c calls shown idle = idle_so_far c.args.core c.loop-position.core c.args.events.now c.loop-position.position
    c.loop-position.seen.items c.loop-position.invariant c.is_whole-2.ensures calls shown idle
