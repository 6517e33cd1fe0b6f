-- What a CPU has done before that its next step's events need.
use Rattle.std.specs.Prelude.{ℕ, ◌-◌, ◌^◌, ◌%◌, Bool, true, false, ◌==◌, if◌then◌else◌, min, pos, List, Option, Some, unwrap_or, slice_index_or}
use Rattle.std.specs.Int.{w32, cast_signed}
use Rattle.smp_words.specs.Flags.{class_of}
use Rattle.smp_words.specs.Kinds.{kind_at}
use Rattle.smp_words.specs.declared.call.Class.TheVariants.{Async}
use Rattle.smp_words.specs.declared.work.Kind.TheVariants.{One}
use Rattle.smp_words.specs.declared.field.Field.{Field}
use Rattle.smp_words.specs.declared.field.Field.TheVariants as field
use Rattle.smp_words.specs.declared.seen.Act.{Act}
use Rattle.smp_words.specs.declared.seen.Act.TheVariants as act
use Rattle.smp_words.specs.declared.seen.Note.{Note}
use Rattle.smp_words.specs.declared.seen.Note.TheVariants as note
use Rattle.smp_words.specs.declared.seen.Seen.{Seen}
use Rattle.smp_words.specs.declared.word.Word.{Word}
use Rattle.smp_words.specs.declared.word.Word.TheVariants as word
use Rattle.trace_events.specs.declared.past.Past.{Past}

-- a CPU that has done nothing
abbrev pub fresh : Past
fresh = record {
  post = record { class = Async; func = 0; info = 0 };
  draft = record { kind = One; mask = 0; active = 0; func = 0; arg = 0 };
  begun = 0;
  phase = 0;
  answer = pos 0;
}

-- what a CPU has done; nothing where there is no such CPU
abbrev pub past_at : List Past → ℕ → Past
past_at pasts cpu = slice_index_or pasts cpu fresh

-- the number of a record, of 16 bits, and a phase, of 32
abbrev pub id_of : ℕ → ℕ
id_of number = min number 65535

abbrev pub phase_of : ℕ → ℕ
phase_of number = min number (2 ^ 32 - 1)

-- a load of the phase found a new one
abbrev pub is_new : Option Note → Bool
is_new (Some note.Same) = false
is_new _ = true

-- after a step that enters this record's call, where its note says so
abbrev pub after_call_entry : Past → ℕ → Option Note → Past
after_call_entry p id (Some (note.Call source func info)) = record p { begun = id_of id }
after_call_entry p id _ = p

-- after a store to a record's flags: the class of a call to come, or the entry of one
abbrev pub after_flags : Past → ℕ → ℕ → Option Note → Past
after_flags p id put n = if put == 0 then after_call_entry p id n else record p { post = record (p.post) { class = class_of put } }

-- after a store to a word of a slot
abbrev pub after_draft : Past → Field → ℕ → Past
after_draft p field.Kind put = record p { draft = record (p.draft) { kind = kind_at put } }
after_draft p field.Mask put = record p { draft = record (p.draft) { mask = put } }
after_draft p field.Active put = record p { draft = record (p.draft) { active = put } }
after_draft p field.Func put = record p { draft = record (p.draft) { func = put } }
after_draft p field.Arg put = record p { draft = record (p.draft) { arg = put } }
after_draft p field.Result put = record p { answer = cast_signed w32 (put % 2 ^ 32) }
after_draft p _ put = p

-- after a load of a word of a slot: the phase, where it is a new one
abbrev pub after_slot_load : Past → Field → ℕ → Option Note → Past
after_slot_load p field.State found n = if is_new n then record p { phase = phase_of found } else p
after_slot_load p _ found n = p

-- after a subtraction from a word of a slot: completing takes the answer
abbrev pub after_slot_sub : Past → Field → Past
after_slot_sub p field.Todo = record p { answer = pos 0 }
after_slot_sub p _ = p

-- after a step on a word of a slot
abbrev pub after_slot : Past → Field → Act → Seen → Past
after_slot p f act.Store s = after_draft p f (unwrap_or s.put 0)
after_slot p f act.Load s = after_slot_load p f (unwrap_or s.found 0) s.note
after_slot p f act.Sub s = after_slot_sub p f
after_slot p f _ s = p

-- after a store to another word: of a call to come, or of one that is entered
abbrev pub after_store : Past → Word → ℕ → Option Note → Past
after_store p (word.Flags id) put n = after_flags p id put n
after_store p (word.Func id) put n = record p { post = record (p.post) { func = put } }
after_store p (word.Info id) put n = record p { post = record (p.post) { info = put } }
after_store p (word.Hand cpu) put n = after_call_entry p (put - 2) n
after_store p _ put n = p

-- after a step
abbrev pub after_other : Past → Act → Seen → Past
after_other p act.Store s = after_store p s.word (unwrap_or s.put 0) s.note
after_other p _ s = p

abbrev pub after_on : Past → Word → Seen → Past
after_on p (word.Slot source f) s = after_slot p f s.act s
after_on p _ s = after_other p s.act s

abbrev pub after : Past → Seen → Past
after p s = after_on p s.word s
