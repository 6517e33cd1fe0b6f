-- The verdict on the events of a text, with the order of its appends.
use Rattle.std.specs.Prelude.{◌≡◌, ℕ, true, false, nat_lt, List, length, map, Some, Result, Ok, Err}
use Rattle.smp_words.specs.FirstFault.{◌>>=◌}
use Rattle.trace_model.specs.Opened.{opening}
use Rattle.trace_model.specs.State.{StateValue}
use Rattle.trace_model.specs.declared.without.Without.{Without}
use Rattle.trace_judge.specs.Cpus.{every_cpu}
use Rattle.trace_judge.specs.Head.{no_labels, words_of}
use Rattle.trace_judge.specs.declared.early_end.EarlyEnd.{EarlyEnd}
use Rattle.trace_judge.specs.declared.early_end.EarlyEnd.TheVariants as early_end
use Rattle.trace_judge.specs.declared.verdict.Verdict.{Verdict}
use Rattle.trace_judge.specs.declared.verdict.Verdict.TheVariants.{Lawful, Broken}
use Rattle.trace_ftrace.specs.Bounds.{bounds_of}
use Rattle.trace_ftrace.specs.Placing.{placed}
use Rattle.trace_ftrace.specs.Verdict.{goes_all}
use Rattle.trace_ftrace.specs.declared.kept.Mark.{Mark}
use Rattle.trace_ftrace.specs.declared.placing.Choice.{Choice}
use Rattle.trace_ftrace.specs.declared.placing.Step.{Step}
use Rattle.trace_ftrace.specs.declared.told.Told.{Told}
use Rattle.trace_ftrace.specs.declared.wrong.Refusal.{Refusal}
use Rattle.trace_ftrace.specs.declared.wrong.Refusal.TheVariants as refusal
use Rattle.trace_ftrace.specs.declared.wrong.Wrong.TheVariants as wrong

-- all but the calls and the takes is left out
abbrev pub calls_in_order : Without
calls_in_order = record { gate = true; interrupts = true; order = false; raises = true; switches = true; unlocks = true }

-- the state before the first event
unfoldable pub start_in_order : StateValue
start_in_order = opening (record { cpus = 512; online = every_cpu; keys = 0; sites = 0; is_third = true; without = calls_in_order }) (words_of no_labels)

-- these steps are the events that lines tell, each once and each append where it can be, with takes between them
pub record IsOrder (marks : List Mark) (told : List Told) (steps : List Step) : Type 0 where
  pub choices : List Choice
  pub are_placed : placed choices told (bounds_of marks) ≡ Some steps

-- the model's run of such steps
abbrev pub run_of : List Step → Result StateValue EarlyEnd
run_of steps = goes_all (map (λ s. s.told) steps) start_in_order

-- the verdict on them: how many there are and the state at the end, or the first event that no run has
abbrev pub verdict_on : List Step → Result (ℕ × StateValue) EarlyEnd
verdict_on steps = run_of steps >>= λ s. Ok (length steps, s)

-- of some such order this holds
pub record HasRun (marks : List Mark) (told : List Told) (is : List Step → Type 0) : Type 0 where
  pub steps : List Step
  pub in_order : IsOrder marks told steps
  pub holds : is steps

-- an event of this line has a CPU above 511
abbrev pub IsFault : ℕ → Result (ℕ × StateValue) EarlyEnd → Type 0
IsFault line (Err (early_end.Fault at cause)) = at ≡ line
IsFault line _ = ⊥

-- why there is no verdict: a CPU above 511, or too many events; nothing is said of memory that runs out, and where no order was made
abbrev pub FailsInOrder : Refusal → List Mark → List Told → Type 0
FailsInOrder (refusal.Wrong line wrong.Cpu) marks told = HasRun marks told (λ steps. IsFault line (verdict_on steps))
FailsInOrder (refusal.Wrong line why) marks told = ⊥
FailsInOrder refusal.LongTrace marks told = ⊥
FailsInOrder refusal.TooLong marks told = nat_lt 1000000 (length told) ≡ true
FailsInOrder other marks told = Unit {0}

-- what was answered is the verdict on some such order
abbrev pub RulesInOrder : {A : Type 0} → Result (Verdict A) Refusal → List Mark → List Told → Type 0
RulesInOrder (Ok (Lawful events state)) marks told = HasRun marks told (λ steps. verdict_on steps ≡ Ok (events, state))
RulesInOrder (Ok (Broken line cpu event why)) marks told = HasRun marks told (λ steps. verdict_on steps ≡ Err (early_end.Broken line cpu event why))
RulesInOrder (Err why) marks told = FailsInOrder why marks told

-- what was answered is that so many events are lawful, with this state behind them
abbrev pub IsLawful : {A : Type 0} → Result (Verdict A) Refusal → ℕ → StateValue → Type 0
IsLawful (Ok (Lawful events state)) n s = (events ≡ n) × (state ≡ s)
IsLawful (Ok (Broken line cpu event why)) n s = ⊥
IsLawful (Err refusal.Unplaced) n s = Unit {0}
IsLawful (Err why) n s = ⊥
