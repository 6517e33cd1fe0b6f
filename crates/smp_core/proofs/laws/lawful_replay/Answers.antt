use Rattle.std.proofs.Common.{IfOk, subst}
use Rattle.smp_call_steps.specs.Calls.{no_calls}
use Rattle.smp_call_steps.proofs.Headline.{shown_laws, in_one_place, run_once, run_in_order, run_equal_queued}
use Rattle.smp_stop_steps.specs.State.{no_stops}
use Rattle.smp_stop_steps.specs.Value.{StopShown}
use Rattle.smp_stop_steps.proofs.Promises.Headline.{disabled_while, lawful_while}
use Rattle.smp_core.specs.Headline.{calls_after, stops_after}
use Rattle.smp_core.specs.New.{new_core}
use Rattle.smp_core.specs.Runs.{IsReplay}
use Rattle.smp_core.specs.Value.{CoreValue, Shown}
use Rattle.smp_core.proofs.Headline.{ok_then, laws_after}
use Rattle.smp_core.proofs.laws.lawful_replay.Goals as goal
use Rattle.smp_core.proofs.laws.lawful_replay.Given as given

pub returns-clause-run : goal.returns-clause-run
returns-clause-run g c = ok_then c.replay.result c.replay.ensures.run
    (λ r run. subst (λ (k : CoreValue). IsReplay k c.args.events.now r.core r.seen.items r.stopped) c.in_ok-core.ensures.ok run)

-- the new core shows no calls and no stops, so what the replay tells of these is what the core shows after it
calls_told : (g : given.Over) (c : goal.After-replay g) → IfOk c.replay.result (λ r. Shown (calls_after r.seen.items) r.core)
calls_told g c = ok_then c.replay.result c.replay.ensures.told (λ r told. told no_calls c.in_ok-core.ensures.empty)

stops_told : (g : given.Over) (c : goal.After-replay g) → let first = new_core c.args.nr c.args.online c.args.labels.now in
    IfOk c.replay.result (λ r. StopShown (stops_after first c.args.events.now r.seen.items) r.core.stops)
stops_told g c = ok_then c.replay.result c.replay.ensures.stops
    (λ r told. subst (λ (k : CoreValue). StopShown (stops_after k c.args.events.now r.seen.items) r.core.stops) c.in_ok-core.ensures.ok
    (told no_stops c.in_ok-core.ensures.no_stops))

pub returns-clause-place : goal.returns-clause-place
returns-clause-place g c = ok_then c.replay.result (calls_told g c) (λ r shown. in_one_place (shown_laws shown))

pub returns-clause-once : goal.returns-clause-once
returns-clause-once g c = ok_then c.replay.result (calls_told g c) (λ r shown. run_once (shown_laws shown))

pub returns-clause-order : goal.returns-clause-order
returns-clause-order g c = ok_then c.replay.result (calls_told g c) (λ r shown. run_in_order (shown_laws shown))

pub returns-clause-drained : goal.returns-clause-drained
returns-clause-drained g c = ok_then c.replay.result (calls_told g c) (λ r shown. run_equal_queued (shown_laws shown))

pub returns-clause-function : goal.returns-clause-function
returns-clause-function g c = let first = new_core c.args.nr c.args.online c.args.labels.now in
    ok_then c.replay.result (stops_told g c) (λ r shown. disabled_while (laws_after first r.core c.args.events.now r.seen.items shown))

pub returns-clause-lawful : goal.returns-clause-lawful
returns-clause-lawful g c = let first = new_core c.args.nr c.args.online c.args.labels.now in
    ok_then c.replay.result (stops_told g c) (λ r shown. lawful_while (laws_after first r.core c.args.events.now r.seen.items shown))
