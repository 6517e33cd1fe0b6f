-- A CPU that goes offline, which the model has not.
use Rattle.std.specs.Prelude.{ℕ, Bool, true, false, nat_le, ◌||◌, if◌then◌else◌, List, [], ◌∷◌, Option, Some, None, Result, Ok, Err, codes}
use Rattle.std.specs.Str.{bytes_eq}
use Rattle.trace_model.specs.State.{StateValue}
use Rattle.trace_model.specs.declared.reason.Reason.{Reason}
use Rattle.trace_model.specs.declared.reason.Reason.TheVariants as reason
use Rattle.trace_judge.specs.declared.early_end.EarlyEnd.{EarlyEnd}
use Rattle.trace_judge.specs.declared.early_end.EarlyEnd.TheVariants as early_end
use Rattle.trace_judge.specs.declared.verdict.Verdict.{Verdict}
use Rattle.trace_judge.specs.declared.verdict.Verdict.TheVariants.{Lawful, Broken}
use Rattle.trace_ftrace.specs.Fields.{symbol_of}
use Rattle.trace_ftrace.specs.Signs.{is_symbol}
use Rattle.trace_ftrace.specs.declared.sign.Sign.{Sign}
use Rattle.trace_ftrace.specs.declared.sign.Sign.TheVariants as sign
use Rattle.trace_ftrace.specs.declared.stop_sign.StopSign.{StopSign}
use Rattle.trace_ftrace.specs.declared.stop_sign.StopSign.TheVariants as stop
use Rattle.trace_ftrace.specs.declared.wrong.Refusal.{Refusal}
use Rattle.trace_ftrace.specs.declared.wrong.Refusal.TheVariants as refusal
use Rattle.trace_ftrace.specs.declared.wrong.Wrong.TheVariants as wrong

-- a CPU has gone offline: the call by which it says so begins, or the stop that took it down has its answer
unfoldable pub is_in_takedown : List ℕ → Bool
is_in_takedown word = bytes_eq (symbol_of word) (codes "(takedown_cpu")

abbrev pub is_takedown : List (List ℕ) → Bool
is_takedown [] = false
is_takedown (w ∷ ws) = is_in_takedown w

abbrev pub closes_offline : StopSign → List (List ℕ) → Bool
closes_offline (stop.Close answer) fields = is_takedown fields
closes_offline _ fields = false

abbrev pub shows_offline : Sign → List (List ℕ) → Bool
shows_offline (sign.Begin address) fields = is_symbol (codes "func") (codes "cpuhp_complete_idle_dead") fields
shows_offline (sign.Stop s) fields = closes_offline s fields
shows_offline _ fields = false

-- a CPU that goes offline can cause this before a line shows it: it queues and runs calls untold, and runs some with interrupts off
abbrev pub is_untold : Reason → Bool
is_untold (reason.RecordFree id) = true
is_untold (reason.RecordQueued id cpu) = true
is_untold reason.InterruptsOff = true
is_untold _ = false

-- an event that is refused is not judged, where this line shows that a CPU has gone offline
abbrev pub is_hidden : ℕ → ℕ → Reason → Bool
is_hidden offline line why = nat_le offline line || is_untold why

-- that line, where an event is not judged for it, or a verdict is of such an event
abbrev pub hidden_at : ℕ → ℕ → Reason → Option ℕ
hidden_at offline line why = if is_hidden offline line why then Some offline else None

abbrev pub hidden_by : {A : Type 0} → Option ℕ → Verdict A → Option ℕ
hidden_by (Some offline) (Broken line cpu event why) = hidden_at offline line why
hidden_by _ _ = None

-- what a verdict was made of
abbrev pub made_of : {A : Type 0} → Verdict A → Result (ℕ × StateValue) EarlyEnd
made_of (Lawful events state) = Ok (events, state)
made_of (Broken line cpu event why) = Err (early_end.Broken line cpu event why)

-- the verdict, unless it is of such an event
abbrev pub unless_hidden : Option ℕ → Result (ℕ × StateValue) EarlyEnd → Result (Result (ℕ × StateValue) EarlyEnd) Refusal
unless_hidden (Some offline) (Err (early_end.Broken line cpu event why)) =
    if is_hidden offline line why then Err (refusal.Wrong offline wrong.Offline) else Ok (Err (early_end.Broken line cpu event why))
unless_hidden _ made = Ok made
