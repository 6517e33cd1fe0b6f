-- The verdict on events.
use Rattle.std.specs.Prelude.{◌≡◌, ℕ, true, nat_lt, if◌then◌else◌, List, [], ◌∷◌, length, Result, Ok, Err}
use Rattle.smp_mask.specs.declared.error.Cause.TheVariants.{Range}
use Rattle.smp_words.specs.FirstFault.{◌>>=◌}
use Rattle.trace_model.specs.Opened.{opening}
use Rattle.trace_model.specs.State.{StateValue}
use Rattle.trace_model.specs.declared.without.Without.{Without}
use Rattle.trace_judge.specs.Cpus.{every_cpu}
use Rattle.trace_judge.specs.Head.{no_labels, words_of}
use Rattle.trace_judge.specs.Judged.{told_goes}
use Rattle.trace_judge.specs.declared.early_end.EarlyEnd.{EarlyEnd}
use Rattle.trace_judge.specs.declared.early_end.EarlyEnd.TheVariants as early_end
use Rattle.trace_judge.specs.declared.verdict.Verdict.{Verdict}
use Rattle.trace_judge.specs.declared.verdict.Verdict.TheVariants.{Lawful, Broken}
use Rattle.trace_ftrace.specs.declared.told.Told.{Told}
use Rattle.trace_ftrace.specs.declared.wrong.Refusal.{Refusal}
use Rattle.trace_ftrace.specs.declared.wrong.Refusal.TheVariants as refusal
use Rattle.trace_ftrace.specs.declared.wrong.Wrong.TheVariants as wrong

-- all but calls is left out
abbrev pub calls_alone : Without
calls_alone = record { gate = true; interrupts = true; order = true; raises = true; switches = true; unlocks = true }

-- the state before the first event
unfoldable pub start : StateValue
start = opening (record { cpus = 512; online = every_cpu; keys = 0; sites = 0; is_third = true; without = calls_alone }) (words_of no_labels)

-- the state after one event
unfoldable pub goes_one : Told → StateValue → Result StateValue EarlyEnd
goes_one x s = if nat_lt x.cpu 512 then told_goes x.line x.cpu x.event s else Err (early_end.Fault x.line Range)

-- the state after events
abbrev pub goes_all : List Told → StateValue → Result StateValue EarlyEnd
goes_all [] s = Ok s
goes_all (x ∷ xs) s = goes_one x s >>= goes_all xs

-- how many events there are and the state at the end, or the first event that no run has; or why there is no verdict
abbrev pub ruled : ℕ → Result StateValue EarlyEnd → Result (Result (ℕ × StateValue) EarlyEnd) Refusal
ruled n (Ok s) = Ok (Ok (n, s))
ruled n (Err (early_end.Fault line cause)) = Err (refusal.Wrong line wrong.Cpu)
ruled n (Err why) = Ok (Err why)

unfoldable pub ruling_of : List Told → Result (Result (ℕ × StateValue) EarlyEnd) Refusal
ruling_of told = if nat_lt 1000000 (length told) then Err refusal.TooLong else ruled (length told) (goes_all told start)

-- what was answered is the verdict, unless memory ran out
abbrev pub Rules : {A : Type 0} → Result (Verdict A) Refusal → Result (Result (ℕ × StateValue) EarlyEnd) Refusal → Type 0
Rules (Ok (Lawful events state)) made = made ≡ Ok (Ok (events, state))
Rules (Ok (Broken line cpu event why)) made = made ≡ Ok (Err (early_end.Broken line cpu event why))
Rules (Err refusal.NoMemory) made = Unit {0}
Rules (Err why) made = made ≡ Err why
