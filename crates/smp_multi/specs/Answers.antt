-- What each call answers, and what it leaves of its CPU.
use Rattle.std.specs.Int.{cast_signed, w32}
use Rattle.std.specs.Prelude.{◌≡◌, ◌≢◌, ◌⊎◌, ◌↔◌, ℕ, ℤ, pos, ◌+◌, ◌%◌, ◌^◌, true, false, Option, Some, None, Result, Ok, Err}
use Rattle.smp_mask.specs.Mask.{has}
use Rattle.smp_mask.specs.declared.error.SmpError.{SmpError}
use Rattle.smp_mask.specs.declared.error.SmpError.TheVariants as error
use Rattle.smp_stop_steps.specs.Threads.Known.{setup_in}
use Rattle.smp_stop_steps.specs.Sources.{IsWork}
use Rattle.smp_stop_steps.specs.Start.{begin_refusal, has_slot, answer_word}
use Rattle.smp_multi.specs.Laws.{Finds, FindsNoCall}
use Rattle.smp_multi.specs.Names.{Slot, Work, Kind, One, StopCall}
use Rattle.smp_multi.specs.Names.field
use Rattle.smp_multi.specs.declared.func.Called.{Called}
use Rattle.smp_multi.specs.Cpu.{TableValue, CpuValue, Inside, call_with, begins, enters, misses, runs, answers, collects, looks_in_vain, makes, terms_of}
use Rattle.smp_multi.specs.Cpu.{is_pending}
use Rattle.smp_multi.specs.Polls.{IsLastResult}
use Rattle.smp_multi.specs.Running.{called}
use Rattle.smp_multi.specs.StepCounts.{completing}

-- begin: it is refused just as the pure machine refuses it, and its work is one that a stop may have
abbrev pub BeginAnswers : TableValue → CpuValue → CpuValue → Work → Result Unit SmpError → Type 0
BeginAnswers t old new work (Ok u) = (begin_refusal (terms_of t old) work (is_pending old.pending) ≡ None) × IsWork (setup_in t.setting) work
    × (new ≡ begins work old)
BeginAnswers t old new work (Err e) = (begin_refusal (terms_of t old) work (is_pending old.pending) ≡ Some e) × (new ≡ old)

-- enter: the stop calls the CPU, which is in none; in the CPU's own slot it is its own stop
pub record Enters (t : TableValue) (slot : ℕ) (old new : CpuValue) (kind : Kind) : Type 0 where
  pub work : Work
  pub outside : old.inside ≡ None
  pub there : has_slot t.nr slot ≡ true
  pub member : has work.mask old.number ≡ true
  pub own : slot ≡ old.number → old.pending ≡ Some work
  pub kind_is : kind ≡ work.kind
  pub is : new ≡ enters slot work old

-- enter is refused without a step: the CPU is in a stop, or there is no such slot
abbrev pub MayNotTry : TableValue → ℕ → CpuValue → Type 0
MayNotTry t slot c = (c.inside ≢ None) ⊎ (has_slot t.nr slot ≡ false)

-- the one look at the roll of a slot has not found the CPU there, which is in no stop
pub record Misses (t : TableValue) (slot : ℕ) (old new : CpuValue) : Type 0 where
  pub outside : old.inside ≡ None
  pub there : has_slot t.nr slot ≡ true
  pub none : FindsNoCall old slot
  pub is : new ≡ misses slot old

-- enter is refused: without a step, or after this look
abbrev pub RefusesEntry : TableValue → ℕ → CpuValue → CpuValue → Type 0
RefusesEntry t slot old new = (MayNotTry t slot old × (new ≡ old)) ⊎ Misses t slot old new

-- a CPU in a stop of one CPU
pub record IsInOne (c : CpuValue) : Type 0 where
  pub stop : Inside
  pub is : c.inside ≡ Some stop
  pub one : stop.work.kind ≡ One

-- the call of its function with this answer
abbrev pub call_of : Inside → ℤ → StopCall
call_of stop answer = call_with stop.work (answer_word answer)

-- one that has called the function of the stop of one CPU, at two loads, and has completed with its answer
abbrev pub completes_one : Inside → ℤ → CpuValue → CpuValue
completes_one stop v c = let x = answer_word v in makes (2 + completing x) (answers stop.slot x (runs (call_of stop v) c))

-- run_one: the function is called once, and what it answered is the CPU's answer
abbrev pub RunAnswers : {F : Type 0} → (F → Called → F → Type 0) → CpuValue → CpuValue → F → F → Result ℤ SmpError → Type 0
RunAnswers leads old new before after (Ok v) =
    (at : IsInOne old) × (new ≡ completes_one at.stop v old) ×
    leads before (called old.number at.stop.work.func at.stop.work.arg v) after
RunAnswers leads old new before after (Err error.BadArgument) = (¬ (IsInOne old)) × (new ≡ old) × (after ≡ before)
RunAnswers leads old new before after (Err _) = ⊥

-- the i32 of a result word
abbrev pub answer_in : ℕ → ℤ
answer_in word = cast_signed w32 (word % 2 ^ 32)

-- the word is that of the i32 itself, with nothing cut: it is 0 just where the i32 is
abbrev pub IsWholeWord : ℤ → ℕ → Type 0
IsWholeWord v word = (word ≡ answer_word v) × (v ≡ pos 0 ↔ word ≡ 0)

-- poll_done: None where the one look at done found it not set; at Some the stop is collected, with its result
abbrev pub PollAnswers : CpuValue → CpuValue → Result (Option ℤ) SmpError → Type 0
PollAnswers old new (Ok None) = (old.pending ≢ None) × (new ≡ looks_in_vain old) × Finds old (Slot old.number field.Done) 0
PollAnswers old new (Ok (Some v)) = (old.pending ≢ None)
    × ((word : ℕ) × (v ≡ answer_in word) × (new ≡ collects word old) × IsLastResult new word × IsWholeWord v word)
PollAnswers old new (Err error.BadArgument) = (old.pending ≡ None) × (new ≡ old)
PollAnswers old new (Err _) = ⊥
