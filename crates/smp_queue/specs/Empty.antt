-- What a table is while none of its CPUs has made a step.
use Rattle.std.specs.Prelude.{◌≡◌, ℕ, ◌<◌, false, []}
use Rattle.atomic_table.specs.Table.{State}
use Rattle.smp_words.specs.Size.{records}
use Rattle.smp_call_steps.specs.Calls.{CallState}
use Rattle.smp_call_steps.specs.declared.place.RecPlace.TheVariants as place
use Rattle.smp_queue.specs.Names.{Word, CallSeatView}
use Rattle.smp_queue.specs.Cells.{number_in}
use Rattle.smp_queue.specs.Rule.{Ruled, NoneHasBegun}
use Rattle.smp_queue.specs.Cpu.{TableValue, setting_of}

-- all words are 0; each queue and each batch is empty, no interrupt is pending, and each record is free
pub record IsEmpty (a : CallState) (at : Word → ℕ) : Type 0 where
  pub words : (word : Word) → at word ≡ 0
  pub queues : (cpu : ℕ) → a.queue cpu ≡ []
  pub pending : (cpu : ℕ) → a.pending cpu ≡ false
  pub batches : (cpu : ℕ) → a.batch cpu ≡ []
  pub free : (id : ℕ) → id < records → a.place id ≡ place.Free

-- so the table is, with all its words, at any time at which no seat's CPU has made a step
abbrev pub BeginsEmpty : TableValue → Type 0
BeginsEmpty t = (s : State (Unit {0}) CallSeatView) (r : Ruled (setting_of t) s) → NoneHasBegun s → IsEmpty r.calls (number_in s.words)
