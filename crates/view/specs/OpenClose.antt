-- What one step opens and a later one closes.
use Rattle.std.specs.Prelude.{ℕ, ◌-◌, ◌==◌, ◌&&◌, Bool, true, false, if◌then◌else◌, nat_le, Option, Some, None}
use Rattle.smp_words.specs.declared.field.Field.TheVariants as fields
use Rattle.smp_words.specs.declared.word.Word.{Word}
use Rattle.smp_words.specs.declared.word.Word.TheVariants as words
use Rattle.smp_words.specs.declared.seen.Act.{Act}
use Rattle.smp_words.specs.declared.seen.Act.TheVariants as acts
use Rattle.smp_words.specs.declared.seen.Note.{Note}
use Rattle.smp_words.specs.declared.seen.Note.TheVariants as notes
use Rattle.smp_words.specs.declared.seen.Seen.{Seen}
use Rattle.view.specs.declared.open_close.Link.{Link}
use Rattle.view.specs.declared.open_close.Link.TheVariants.{Call, Interrupt, Off, Phase}
use Rattle.trace_events.specs.declared.rows.What.{What}
use Rattle.trace_events.specs.declared.rows.What.TheVariants.{Stepped}

-- a phase from 1 to 4
abbrev pub phase_opened : ℕ → ℕ → Option Link
phase_opened slot phase = if nat_le 1 phase && nat_le phase 4 then Some (Phase slot phase) else None

-- a compare-exchange that won: the head has the record + 1
abbrev pub call_opened : Act → Option ℕ → Option Link
call_opened acts.Cas (Some head) = Some (Call (head - 1))
call_opened _ _ = None

-- the store of a phase, and the load of the second one by a CPU that acts on it
abbrev pub state_opened : ℕ → ℕ → Act → Option ℕ → Option ℕ → Option Note → Option Link
state_opened slot cpu acts.Store found (Some phase) _ = phase_opened slot phase
state_opened slot cpu acts.Load (Some found) put None = if found == 2 then Some (Off cpu) else None
state_opened _ _ _ _ _ _ = None

abbrev pub opened_at : Seen → Word → Option Note → Option Link
opened_at seen (words.Head cpu) _ = call_opened seen.act seen.put
opened_at seen (words.Intr cpu) (Some notes.Sent) = Some (Interrupt cpu)
opened_at seen (words.Slot slot fields.State) _ = state_opened slot seen.cpu seen.act seen.found seen.put seen.note
opened_at _ _ _ = None

abbrev pub opened : Seen → Option Link
opened seen = opened_at seen seen.word seen.note

abbrev pub opened_by : What → Option Link
opened_by (Stepped seen) = opened seen
opened_by _ = None

-- the run of this record's call: a sync one's entry tells its record + 2, an async one's unlocks it
abbrev pub is_run : ℕ → Option Note → Word → Option ℕ → Bool
is_run own (Some (notes.Call source func info)) (words.Hand cpu) (Some hand) = hand - 2 == own
is_run own (Some (notes.Call source func info)) (words.Flags id) put = id == own
is_run _ _ _ _ = false

-- the swap that takes this CPU's interrupt
abbrev pub is_taking : ℕ → Act → Word → Bool
is_taking cpu acts.Swap (words.Intr c) = c == cpu
is_taking _ _ _ = false

-- the store of a phase of this slot
abbrev pub is_phase : ℕ → Act → Word → Bool
is_phase slot acts.Store (words.Slot s fields.State) = s == slot
is_phase _ _ _ = false

abbrev pub is_left : Option Note → Bool
is_left (Some notes.Left) = true
is_left _ = false

abbrev pub closes : Link → Seen → Bool
closes (Call own) seen = is_run own seen.note seen.word seen.put
closes (Interrupt cpu) seen = is_taking cpu seen.act seen.word
closes (Off cpu) seen = (seen.cpu == cpu) && is_left seen.note
closes (Phase slot phase) seen = is_phase slot seen.act seen.word

abbrev pub closed_by : Link → What → Bool
closed_by link (Stepped seen) = closes link seen
closed_by _ _ = false
