-- What is printed of a verdict on an order of the events.
use Rattle.std.proofs.Common.{◌≡◌, ℕ, List, length, map, Some, Result, Ok, Err, Vec, subst}
use Rattle.trace_model.specs.State.{StateValue}
use Rattle.trace_judge.specs.declared.trace.Ruling.{Ruling}
use Rattle.trace_judge.specs.declared.verdict.Verdict.{Verdict}
use Rattle.trace_judge.specs.declared.verdict.Verdict.TheVariants.{Lawful, Broken}
use Rattle.trace_ftrace.specs.Bounds.{bounds_of}
use Rattle.trace_ftrace.specs.Offline.{made_of, unless_hidden}
use Rattle.trace_ftrace.specs.Ordered.{start_in_order, verdict_on, HasRun, IsLawful, IsOrder, RulesInOrder}
use Rattle.trace_ftrace.specs.Placing.{placed}
use Rattle.trace_ftrace.specs.Text.{SourceValue, PrintsRun, PrintsSeen}
use Rattle.trace_ftrace.specs.Verdict.{goes_all}
use Rattle.trace_ftrace.specs.declared.kept.Mark.{Mark}
use Rattle.trace_ftrace.specs.declared.placing.Choice.{Choice}
use Rattle.trace_ftrace.specs.declared.placing.Step.{Step}
use Rattle.trace_ftrace.specs.declared.told.Told.{Told}
use Rattle.trace_ftrace.specs.declared.wrong.Refusal.{Refusal}
use Rattle.trace_ftrace.specs.declared.wrong.Refusal.TheVariants as refusal
use Rattle.trace_ftrace.specs.declared.wrong.Wrong.TheVariants as wrong

-- steps that were placed are in order
pub in_order : (choices : List Choice) (marks : List Mark) (told : List Told) (steps : List Step) → placed choices told (bounds_of marks) ≡ Some steps
    → IsOrder marks told steps
in_order choices marks told steps h = record { choices = choices; are_placed = h }

-- the verdict on steps that all go
lawful_end : (steps : List Step) (from state s : StateValue) (events n : ℕ) → from ≡ start_in_order → goes_all (map (λ s. s.told) steps) from ≡ Ok state
    → n ≡ length steps → events ≡ n → s ≡ state → verdict_on steps ≡ Ok (events, s)
lawful_end steps from state s events n f g l e h =
    let here = subst (λ (x : StateValue). goes_all (map (λ (y : Step). y.told) steps) x ≡ Ok state) f g in
    rw (here, h, e, l)

-- what an end of a run is as a verdict
pub rules_lawful : {A : Type 0} (r : Result (Verdict A) Refusal) (marks : List Mark) (told : List Told) (steps slice : List Step) (n : ℕ)
    (from state : StateValue)
    → IsOrder marks told steps → from ≡ start_in_order → slice ≡ steps → goes_all (map (λ s. s.told) slice) from ≡ Ok state → n ≡ length slice
    → IsLawful r n state
    → RulesInOrder r marks told
rules_lawful (Ok (Lawful events s)) marks told steps slice n from state o f v g l h =
    record {
      steps = steps;
      in_order = o;
      holds = lawful_end steps from state s events n f
          (subst (λ (x : List Step). goes_all (map (λ (y : Step). y.told) x) from ≡ Ok state) v g) (subst (λ (x : List Step). n ≡ length x) v l) h.0 h.1;
    }
rules_lawful (Ok (Broken line cpu event why)) marks told steps slice n from state o f v g l h = absurd h
rules_lawful (Err refusal.Unplaced) marks told steps slice n from state o f v g l h = tt
rules_lawful (Err refusal.NoMemory) marks told steps slice n from state o f v g l h = absurd h
rules_lawful (Err refusal.TooLong) marks told steps slice n from state o f v g l h = absurd h
rules_lawful (Err refusal.LongTrace) marks told steps slice n from state o f v g l h = absurd h
rules_lawful (Err (refusal.Wrong line why)) marks told steps slice n from state o f v g l h = absurd h

-- the verdict on an order that was chosen
run_of : {A : Type 0} (marks : List Mark) (told : List Told) (v : Verdict A) → RulesInOrder (Ok v) marks told
    → HasRun marks told (λ steps. verdict_on steps ≡ made_of v)
run_of marks told (Lawful events state) r = r
run_of marks told (Broken line cpu event why) r = r

-- what is printed of it
pub prints_run : {A : Type 0} (answer : Result (Vec ℕ A × Ruling) Refusal) (x : SourceValue) (v : Verdict A) → RulesInOrder (Ok v) x.marks x.told
    → PrintsSeen answer x (unless_hidden x.offline (made_of v)) → PrintsRun answer x
prints_run (Ok (out, ruling)) x v r p =
    let run = run_of x.marks x.told v r in
    record { steps = run.steps; in_order = run.in_order; holds = rw run.holds p }
prints_run (Err refusal.NoMemory) x v r p = tt
prints_run (Err refusal.TooLong) x v r p = absurd p
prints_run (Err refusal.LongTrace) x v r p = absurd p
prints_run (Err refusal.Unplaced) x v r p = absurd p
prints_run (Err (refusal.Wrong line wrong.Form)) x v r p = absurd p
prints_run (Err (refusal.Wrong line wrong.Lost)) x v r p = absurd p
prints_run (Err (refusal.Wrong line wrong.Time)) x v r p = absurd p
prints_run (Err (refusal.Wrong line wrong.Field)) x v r p = absurd p
prints_run (Err (refusal.Wrong line wrong.Cpu)) x v r p = absurd p
prints_run (Err (refusal.Wrong line wrong.Class)) x v r p = absurd p
prints_run (Err (refusal.Wrong line wrong.Records)) x v r p = absurd p
prints_run (Err (refusal.Wrong line wrong.Stops)) x v r p = absurd p
prints_run (Err (refusal.Wrong line wrong.Offline)) x v r p =
    let run = run_of x.marks x.told v r in
    record { steps = run.steps; in_order = run.in_order; holds = rw run.holds p }

-- and where no order is made
pub fails_run : (A : Type 0) (why : Refusal) (x : SourceValue) → RulesInOrder {A = A} (Err why) x.marks x.told → PrintsRun {A = A} (Err why) x
fails_run A refusal.NoMemory x h = h
fails_run A refusal.TooLong x h = h
fails_run A refusal.LongTrace x h = h
fails_run A refusal.Unplaced x h = h
fails_run A (refusal.Wrong line wrong.Form) x h = h
fails_run A (refusal.Wrong line wrong.Lost) x h = h
fails_run A (refusal.Wrong line wrong.Time) x h = h
fails_run A (refusal.Wrong line wrong.Field) x h = h
fails_run A (refusal.Wrong line wrong.Cpu) x h = h
fails_run A (refusal.Wrong line wrong.Class) x h = h
fails_run A (refusal.Wrong line wrong.Records) x h = h
fails_run A (refusal.Wrong line wrong.Stops) x h = h
fails_run A (refusal.Wrong line wrong.Offline) x h = absurd h
