use Rattle.std.proofs.Common.{IfOk, Result, Ok, Err, subst}
use Rattle.std.specs.List.{AllByRecursion}
use Rattle.smp_labels.specs.declared.words.LabelWords.{LabelWords}
use Rattle.smp_stop_steps.specs.State.{no_stops}
use Rattle.smp_stop_steps.specs.Value.{StopShown}
use Rattle.smp_core.specs.New.{new_core}
use Rattle.smp_core.specs.Runs.{IsReplay}
use Rattle.smp_core.specs.Value.{CoreValue}
use Rattle.smp_core.specs.Whole.{IsWhole}
use Rattle.trace_model.specs.declared.without.Setting.{Setting}
use Rattle.trace_laws.specs.AcceptedReplays.{AreWordsOf, CallsAreAccepted, Fits, FitsCpus, IsAccepted, IsOf}
use Rattle.trace_laws.proofs.WholeReplays.AcceptedReplays.{replays_are_accepted}
use Rattle.trace_laws.proofs.ReplayCalls.AcceptedCalls.{calls_of_replays_are_accepted}
use Rattle.trace_laws.proofs.machine.replay_accepted.Goals as goal

-- what holds of a value that came
ok_then : {T E : Type 0} (r : Result T E) (P Q : T → Type 0) → ((x : T) → P x → Q x) → IfOk r P → IfOk r Q
ok_then (Ok x) P Q f k = f x k
ok_then (Err e) P Q f k = tt

pub returns-clause-run : goal.returns-clause-run
returns-clause-run g c =
    ok_then c.replay.result (λ r. IsReplay c.in_ok-core.core c.args.events.now r.core r.seen.items r.stopped)
    (λ r. IsReplay (new_core c.args.nr c.args.online c.args.labels.now) c.args.events.now r.core r.seen.items r.stopped)
    (λ r run. subst (λ (k : CoreValue). IsReplay k c.args.events.now r.core r.seen.items r.stopped) c.in_ok-core.ensures.ok run)
    c.replay.ensures.run

pub returns-clause-accepted : goal.returns-clause-accepted
returns-clause-accepted g c =
    let made = c.in_ok-core.ensures.ok in
    ok_then c.replay.result (λ r. IsReplay (new_core c.args.nr c.args.online c.args.labels.now) c.args.events.now r.core r.seen.items r.stopped)
    (λ r. (u : Setting) (words : LabelWords) → AllByRecursion FitsCpus c.args.events.now → IsOf u c.args.online →
    AreWordsOf u words (new_core c.args.nr c.args.online c.args.labels.now).stops → IsAccepted u words r.seen.items r.core)
    (λ r run u words fits is_of words_are.
    replays_are_accepted c.args.nr c.args.online c.args.labels.now c.args.events.now r.core r.seen.items r.stopped u words
    (subst IsWhole made c.is_whole.ensures) (subst (λ (k : CoreValue). StopShown no_stops k.stops) made c.in_ok-core.ensures.no_stops) fits
    run is_of words_are)
    (returns-clause-run g c)

pub returns-clause-calls : goal.returns-clause-calls
returns-clause-calls g c =
    ok_then c.replay.result (λ r. IsReplay (new_core c.args.nr c.args.online c.args.labels.now) c.args.events.now r.core r.seen.items r.stopped)
    (λ r. (u : Setting) (words : LabelWords) → AllByRecursion Fits c.args.events.now → IsOf u c.args.online →
    CallsAreAccepted u words r.seen.items r.core)
    (λ r run u words fits is_of.
    calls_of_replays_are_accepted c.args.nr c.args.online c.args.labels.now c.args.events.now r.core r.seen.items r.stopped u words
    (subst IsWhole c.in_ok-core.ensures.ok c.is_whole.ensures) fits run is_of)
    (returns-clause-run g c)
