-- The trace of a replay is judged lawful.
use Rattle.trace_laws.proofs.Names.{AllByRecursion, Event, LabelWords, Labels, List, MOST_SITES, Ok, Option, Runs, Setting, StateValue, ap, arith, first_site}
use Rattle.trace_laws.proofs.Names.{length, length-append, length-map, length-replicate, map, opening, refl, replicate, subst, sym, words_of, ℕ, ◌-◌, ◌∙◌, ◌≡◌}
use Rattle.trace_laws.proofs.Names.{◌≤◌}
use Rattle.trace_laws.proofs.ReplayNames.{AreTold, AreWordsOf, ArgFits, CoreValue, FitsCpus, IsReplay, IsWhole, ReadsBack, Seen, SmpError, StopShown, all_fresh}
use Rattle.trace_laws.proofs.ReplayNames.{all_told, events_of, labels_or_none, new_core, new_stops, no_calls, no_stops, replay_from, script_is_spelled}
use Rattle.trace_laws.proofs.ReplayNames.{setting_of, trace_text, traced}
use Rattle.smp_words.specs.declared.command.Event.{Event as Command}
use Rattle.smp_core.specs.Replay.{Replay as Replayed}
use Rattle.smp_script.specs.declared.mode.Mode.TheVariants.{Replay}
use Rattle.trace_judge.proofs.Meaning.{runs_accepted}
use Rattle.trace_judge.specs.Verdict.{verdict_of}
use Rattle.trace_laws.proofs.ReplayTexts.NewMachine.{labels_are, limits_are, new_none, new_whole}
use Rattle.trace_laws.proofs.{ReplayTexts.FrontLines.few_cpus, ReplayTexts.FrontLines.trace_mask, ReplayTexts.ReadBack.texts_read_back}
use Rattle.trace_laws.proofs.{ReplayTexts.ToldEvents.fresh_pasts, ReplayTexts.ToldEvents.new_args, ReplayTexts.ToldEvents.replay_tells}
use Rattle.trace_laws.proofs.{WholeReplays.AcceptedReplays.all_begun, WholeReplays.AcceptedReplays.replays_are_accepted}
use Rattle.trace_laws.specs.{AcceptedReplays.IsAccepted, ReplayTexts.TextsOfReplaysAreLawful}

-- the words of a trace's head are those of a new machine
words_are : (nr online : ℕ) (labels : Labels) → length labels.entries ≤ MOST_SITES
    → AreWordsOf (setting_of online labels all_told) (words_of labels) (new_stops nr online labels)
unfolding words_of
words_are nr online labels few = record {
  count = refl;
  keys_are = refl;
  sites_are = length-append (map first_site labels.entries) (replicate (MOST_SITES - length labels.entries) 0)
      ∙ rw (length-map labels.entries first_site, length-replicate {A = ℕ} (MOST_SITES - length labels.entries) 0) (omega (arith, few));
  keys = λ key. refl;
  entries = λ site. refl;
  sites = λ site. refl;
}

-- a text that reads back as a run is lawful
pub run_is_lawful : (text : List ℕ) (u : Setting) (words : LabelWords) (events : List (ℕ × Event)) (t : StateValue) → ReadsBack text u words events
    → Runs (opening u words) events t → verdict_of text ≡ Ok (length events, t)
run_is_lawful text u words events t b run =
    let same : Runs (opening b.head.setting b.head.words) b.told.events t = rw (b.setting_is, b.words_are, b.events_are) run in
    let count : length b.told.events ≡ length events = ap length b.events_are in
    runs_accepted text b.head (length events) t b.head_is (record {
      told = b.told;
      told_is = b.told_is;
      run = same;
      counted = omega (arith, count);
    })

-- the events of a replay may be told in a trace
told_of_replay : (nr online : ℕ) (labels : Labels) (commands : List Command) (core : CoreValue) (steps : List Seen) (stopped : Option (ℕ × SmpError))
    → let first = new_core nr online labels in let u = setting_of online labels all_told in
    length labels.entries ≤ MOST_SITES → IsWhole first → StopShown no_stops first.stops → AllByRecursion FitsCpus commands
    → AllByRecursion ArgFits commands → IsReplay first commands core steps stopped → AreTold u (events_of all_fresh steps)
told_of_replay nr online labels commands core steps stopped few whole none fits args is_replay =
    let first = new_core nr online labels in
    let u = setting_of online labels all_told in
    let words = words_of labels in
    let begun = all_begun nr online labels u words whole none (record { online = refl; whole = refl }) (words_are nr online labels few) in
    let told : AreTold u (events_of all_fresh (replay_from 0 first commands).seen) =
    replay_tells u 0 commands first no_calls no_stops all_fresh (opening u words) begun (record { online = refl; keys = refl; sites = refl })
    (new_args nr online labels) fresh_pasts fits args in
    subst (λ (r : Replayed). AreTold u (events_of all_fresh r.seen)) (sym is_replay) told

pub texts_are_lawful : TextsOfReplaysAreLawful
texts_are_lawful text script commands core steps stopped lawful fits args is_replay within =
    let labels = labels_or_none script.labels in
    let events = events_of all_fresh steps in
    let spelled = script_is_spelled Replay text script lawful in
    let mask = spelled.0 in
    let s = spelled.2 in
    let are = labels_are script.labels s.labels in
    let limits = limits_are script.nr script.online mask s.some (omega (arith, s.within, (few_cpus script.version)))
    (trace_mask script.version mask script.online s.mask_is.reads) s.online in
    let whole = new_whole script.nr script.online labels limits are in
    let none = new_none script.nr script.online labels limits are in
    let accepted : IsAccepted (traced script) (words_of labels) steps core =
    replays_are_accepted script.nr script.online labels commands core steps stopped (traced script) (words_of labels) whole none fits is_replay
    (record { online = refl; whole = refl }) (words_are script.nr script.online labels are.few_sites) in
    let told : AreTold (traced script) events =
    told_of_replay script.nr script.online labels commands core steps stopped are.few_sites whole none fits args is_replay in
    record {
      accepted = accepted;
      verdict = run_is_lawful (trace_text text script events) (traced script) (words_of labels) events accepted.end
          (texts_read_back text script events lawful told within) accepted.run;
    }
