-- The trace of a script is that of its replay, and is judged lawful.
use Rattle.trace_laws.proofs.Names.{arith, AllByRecursion, List, Option, Result, [], ap, cond, map, refl, subst, suc, sym, zero}
use Rattle.trace_laws.proofs.Names.{ℕ, ◌++◌, ◌+◌, ◌∷◌, ◌≡◌}
use Rattle.trace_laws.proofs.ReplayNames.{ArgFits, CoreValue, FitsCpus, IsReplay, Seen, SmpError, Version, labels_or_none, limit_of, new_core}
use Rattle.trace_laws.proofs.ReplayNames.{replay_from, replay_made, replay_on, script_is_spelled}
use Rattle.std.proofs.Common.{negsuc}
use Rattle.smp_words.specs.{declared.command.Event.Event as Command}
use Rattle.smp_core.specs.Replay.{turn_of}
use Rattle.smp_script.specs.Spelling.{DirectiveFits, Masks, SpellLine}
use Rattle.smp_script.specs.{Script.first_line, declared.directive.Directive.Directive, declared.mode.Mode.TheVariants.Replay}
use Rattle.trace_events.specs.Rows.{asked_cpu, is_refused, looked_at, rows_of, turns_in, what_of}
use Rattle.trace_events.specs.{Moments.moments_at, Moments.moments_of, Moments.steps_at, Replays.rows_of_script, ScriptTrace.steps_of}
use Rattle.trace_events.specs.{declared.moments.Asked.Asked, declared.moments.Asked.TheVariants.Show, declared.moments.Asked.TheVariants.Turn}
use Rattle.trace_events.specs.{declared.moments.Moment.Moment, declared.rows.Row.Row}
use Rattle.trace_laws.proofs.{ReplayTexts.FrontLines.trace_mask, ReplayTexts.JudgedReplays.texts_are_lawful, ReplayTexts.NewMachine.mask_fits}
use Rattle.trace_laws.specs.ReplayTexts.{TracesAreLawful, command_in, commands_at, commands_of}

-- the steps that are seen row by row
abbrev Same : List Moment → Type 0
Same ms = (core : CoreValue) (number position : ℕ) → steps_of (rows_of core number ms) ≡ (replay_from position core (commands_at ms)).seen

answer_seen : (ms : List Moment) → Same ms → (core : CoreValue) (number line cpu next position : ℕ) (answer : Result (Option Seen) SmpError)
    → let row : Row = record { number = number; line = line; cpu = cpu; what = what_of answer } in
    steps_of (row ∷ cond (is_refused row.what) [] (rows_of core next ms))
    ≡ (replay_on position core answer (replay_from (position + 1) core (commands_at ms))).seen
answer_seen ms ih core number line cpu next position answer = search arith

asked_seen : (ms : List Moment) → Same ms → (core : CoreValue) (number position line cpu : ℕ) (a : Asked)
    → let l = looked_at core number line cpu a in
    steps_of (l.row ∷ cond (is_refused l.row.what) [] (rows_of l.core (number + turns_in a) ms))
    ≡ (replay_from position core (command_in a ++ commands_at ms)).seen
asked_seen ms ih core number position line cpu (Turn e) =
    answer_seen ms ih (turn_of core e).core number line cpu (number + 1) position (turn_of core e).answer
asked_seen ms ih core number position line cpu Show = ih core (number + 0) position

rows_seen : (ms : List Moment) → Same ms
rows_seen [] core number position = refl
rows_seen (m ∷ ms) core number position = asked_seen ms (rows_seen ms) core number position m.line (asked_cpu m.asked) m.asked

-- the numbers of a command of a script
abbrev Fine : Command → Type 0
Fine c = FitsCpus c × ArgFits c

abbrev AreFine : List Moment → Type 0
AreFine ms = AllByRecursion Fine (commands_at ms)

fine_steps : (line cpu count : ℕ) → AreFine (steps_at line cpu count)
fine_steps line cpu zero = tt
fine_steps line cpu (suc count) = ((tt, tt), fine_steps line cpu count)

fine_asked : (a : Asked) (cs ds : List Command) → (AllByRecursion Fine cs → AllByRecursion Fine ds) → AllByRecursion Fine (command_in a ++ cs)
    → AllByRecursion Fine (command_in a ++ ds)
fine_asked (Turn e) cs ds k z = (z.0, k z.1)
fine_asked Show cs ds k z = k z

fine_both : (xs ys : List Moment) → AreFine xs → AreFine ys → AreFine (xs ++ ys)
fine_both [] ys x y = y
fine_both (m ∷ xs) ys x y = fine_asked m.asked (commands_at xs) (commands_at (xs ++ ys)) (λ z. fine_both xs ys z y) x

fine_lines : (version : Version) (online line : ℕ) (lines : List (Masks × Directive)) → AllByRecursion (DirectiveFits Replay online) (map (λ l. l.1) lines)
    → AllByRecursion (SpellLine (limit_of version)) lines → AreFine (moments_of line (map (λ l. l.1) lines))
fine_lines version online line [] f s = tt
fine_lines version online line ((masks, d) ∷ lines) f s =
    fine_both (moments_at line d) (moments_of (line + 1) (map (λ l. l.1) lines)) (search (mask_fits, trace_mask, negsuc, fine_steps, arith))
    (fine_lines version online (line + 1) lines f.1 s.1)

fine_fit : (cs : List Command) → AllByRecursion Fine cs → AllByRecursion FitsCpus cs × AllByRecursion ArgFits cs
fine_fit [] all = (tt, tt)
fine_fit (c ∷ cs) all = let rest = fine_fit cs all.1 in ((all.0.0, rest.0), (all.0.1, rest.1))

pub traces_are_lawful : TracesAreLawful
traces_are_lawful text script lawful within =
    let spelled = script_is_spelled Replay text script lawful in
    let s = spelled.2 in
    let first = new_core script.nr script.online (labels_or_none script.labels) in
    let moments = moments_of (first_line script.labels) script.directives in
    let r = replay_from 0 first (commands_of script) in
    let seen : steps_of (rows_of_script script) ≡ r.seen = rows_seen moments first 0 0 in
    let replay : IsReplay first (commands_of script) r.core (steps_of (rows_of_script script)) r.stopped = ap (λ xs. replay_made r.core xs r.stopped) seen in
    let fits : AllByRecursion (DirectiveFits Replay script.online) (map (λ l. l.1) spelled.1) =
    subst (λ ds. AllByRecursion (DirectiveFits Replay script.online) ds) (sym s.lines_are) s.fit in
    let fine : AreFine moments = subst (λ ds. AreFine (moments_of (first_line script.labels) ds)) s.lines_are
    (fine_lines script.version script.online (first_line script.labels) spelled.1 fits s.masks_are) in
    let both = fine_fit (commands_of script) fine in
    record {
      core = r.core;
      stopped = r.stopped;
      replay = replay;
      judged = texts_are_lawful text script (commands_of script) r.core (steps_of (rows_of_script script)) r.stopped lawful both.0 both.1 replay within;
    }
