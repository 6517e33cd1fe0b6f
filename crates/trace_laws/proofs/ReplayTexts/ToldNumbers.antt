-- The numbers of what a step tells, where its own numbers are of its types.
use Rattle.trace_laws.proofs.Names.{AllByRecursion, Bool, Event, Option, Setting, Some, arith, cases_lt, cond, nat_lt, nat_tests, refl, unwrap_or, ℕ, ◌<◌, ◌==◌}
use Rattle.trace_laws.proofs.Names.{◌^◌, ◌≡◌, ◌≤◌}
use Rattle.trace_laws.proofs.ReplayNames.{Act, EventFits, Field, IsAnswer, Note, OwnStop, Past, Seen, StepEvents, Word, after, after_call_entry, after_draft}
use Rattle.trace_laws.proofs.ReplayNames.{after_flags, after_on, after_other, after_slot, after_slot_load, events_in, fresh, of_ack, of_key, of_nudge, phase_of}
use Rattle.trace_laws.proofs.ReplayNames.{told_of, told_on, with_on}
use Rattle.smp_words.specs.declared.field.Field.TheVariants as field
use Rattle.smp_words.specs.declared.seen.Act.TheVariants as act
use Rattle.smp_words.specs.declared.seen.Note.TheVariants as note
use Rattle.smp_words.specs.declared.word.Word.TheVariants as word
use Rattle.trace_model.specs.declared.event.StopEvent.TheVariants as stops
use Rattle.trace_events.specs.declared.step_events.StepEvents.TheVariants as told
use Rattle.smp_words.specs.declared.phase.TheConstants.{PREPARE, EXIT, OVER}

-- the number in a word's name is of its type, where an event tells it
abbrev pub WordFits : Word → Type 0
WordFits (word.Head cpu) = cpu < 2 ^ 32
WordFits (word.Intr cpu) = cpu < 2 ^ 32
WordFits (word.Slot source f) = source < 2 ^ 32
WordFits _ = Unit {0}

-- so are those of a note
abbrev pub NoteFits : Option Note → Type 0
NoteFits (Some (note.Call source func info)) = (func < 2 ^ 16) × (info < 2 ^ 64)
NoteFits (Some (note.Run func arg)) = (func < 2 ^ 16) × (arg < 2 ^ 64)
NoteFits (Some (note.Result answer)) = IsAnswer answer
NoteFits _ = Unit {0}

-- and what a step puts where a function or its argument is kept
abbrev pub PutFits : Word → ℕ → Type 0
PutFits (word.Func id) put = put < 2 ^ 64
PutFits (word.Info id) put = put < 2 ^ 64
PutFits (word.Slot source field.Func) put = put < 2 ^ 64
PutFits (word.Slot source field.Arg) put = put < 2 ^ 64
PutFits _ put = Unit {0}

-- the numbers of a step are of its types
pub record StepFits (s : Seen) : Type 0 where
  pub word : WordFits s.word
  pub put : PutFits s.word (unwrap_or s.put 0)
  pub note : NoteFits s.note

-- what a CPU has kept has numbers of its types
pub record PastFits (p : Past) : Type 0 where
  pub begun : p.begun < 2 ^ 16
  pub post_func : p.post.func < 2 ^ 64
  pub post_info : p.post.info < 2 ^ 64
  pub draft_func : p.draft.func < 2 ^ 64
  pub draft_arg : p.draft.arg < 2 ^ 64
  pub answer : IsAnswer p.answer

pub fresh_fits : PastFits fresh
fresh_fits = search arith

-- the phases, the keys and the sites of a step are those that a trace may tell
abbrev pub AckRange : Past → Act → Type 0
AckRange p act.Sub = (PREPARE ≤ p.phase) × (p.phase ≤ EXIT)
AckRange p _ = Unit {0}

abbrev pub StateRange : Act → Seen → Type 0
StateRange act.Store s = unwrap_or s.put 0 ≤ OVER
StateRange _ s = Unit {0}

abbrev pub SlotRange : Past → Field → Seen → Type 0
SlotRange p field.Ack s = AckRange p s.act
SlotRange p field.State s = StateRange s.act s
SlotRange p _ s = Unit {0}

abbrev pub CountRange : Act → Seen → Type 0
CountRange act.Store s = unwrap_or s.put 0 ≤ 65535
CountRange _ s = Unit {0}

abbrev pub InRange : Setting → Past → Word → Seen → Type 0
InRange u p (word.Slot source f) s = SlotRange p f s
InRange u p (word.Key key) s = (key < u.keys) × CountRange s.act s
InRange u p (word.Site site) s = site < u.sites
InRange u p _ s = Unit {0}

-- the numbers of an event are of its types, and its stop is its CPU's
abbrev pub IsFit : Setting → ℕ → Event → Type 0
IsFit u cpu e = EventFits u e × OwnStop cpu e

abbrev pub Fit : Setting → ℕ → StepEvents → Type 0
Fit u cpu t = AllByRecursion (IsFit u cpu) (events_in t)

module _ (u : Setting) (cpu : ℕ) where
  fit_if : (b : Bool) (t o : StepEvents) → Fit u cpu t → Fit u cpu o → Fit u cpu (cond b t o)
  fit_if b t o x y = search arith

  raise_fits : (b : Bool) (put : ℕ) (n : Option Note) → nat_lt PREPARE put ≡ b → put ≤ OVER
      → Fit u cpu (cond b (with_on (stops.Raise (phase_of put)) n) told.Nothing)
  raise_fits b put n e l = search (nat_tests, arith)

  ack_fits : (p : Past) (a : Act) (n : Option Note) → AckRange p a → Fit u cpu (of_ack p a n)
  ack_fits p a n l = search arith

  nudge_fits : (key found : ℕ) (put : Option ℕ) → key < u.keys → Fit u cpu (of_nudge key found put)
  nudge_fits key found put l = search arith

  key_fits : (p : Past) (key : ℕ) (a : Act) (s : Seen) → key < u.keys → CountRange a s → Fit u cpu (of_key p key a s)
  key_fits p key a s h1 h2 = search (fit_if, nudge_fits, arith)

-- what a step tells fits
module _ (u : Setting) where
  word_fits : (p : Past) (w : Word) (s : Seen) → PastFits p → WordFits w → NoteFits s.note → InRange u p w s → Fit u s.cpu (told_on p w s)
  word_fits p w s h1 h2 h3 h4 = search (fit_if u s.cpu, raise_fits u s.cpu, ack_fits u s.cpu, key_fits u s.cpu, arith)

  pub told_fits : (p : Past) (s : Seen) → PastFits p → StepFits s → InRange u p s.word s → Fit u s.cpu (told_of p s)
  told_fits p s k f r = word_fits p s.word s k f.word f.note r

-- and what is kept of it
past_if : (b : Bool) (p q : Past) → PastFits p → PastFits q → PastFits (cond b p q)
past_if b p q x y = search arith

-- the same numbers, with another answer
answered : (p q : Past) → q.begun ≡ p.begun → q.post.func ≡ p.post.func → q.post.info ≡ p.post.info → q.draft.func ≡ p.draft.func → q.draft.arg ≡ p.draft.arg
    → IsAnswer q.answer → PastFits p → PastFits q
answered p q h1 h2 h3 h4 h5 h6 h7 = search arith

flags_keep : (p : Past) (id put : ℕ) (n : Option Note) → PastFits p → PastFits (after_flags p id put n)
flags_keep p id put n k = past_if (put == 0) (after_call_entry p id n) _ (search arith) (answered p _ refl refl refl refl refl k.answer k)

draft_keeps : (p : Past) (source : ℕ) (f : Field) (put : ℕ) → PutFits (word.Slot source f) put → PastFits p → PastFits (after_draft p f put)
draft_keeps p source f put h1 h2 = search (answered, cases_lt, nat_tests, arith)

load_keeps : (p : Past) (f : Field) (found : ℕ) (n : Option Note) → PastFits p → PastFits (after_slot_load p f found n)
load_keeps p f found n k = search (past_if, answered, arith)

slot_keeps : (p : Past) (source : ℕ) (f : Field) (a : Act) (s : Seen) → PutFits (word.Slot source f) (unwrap_or s.put 0) → PastFits p
    → PastFits (after_slot p f a s)
slot_keeps p source f a s h1 h2 = search (draft_keeps, load_keeps, answered, arith)

other_keeps : (p : Past) (a : Act) (s : Seen) → PutFits s.word (unwrap_or s.put 0) → PastFits p → PastFits (after_other p a s)
other_keeps p a s l k = search (flags_keep, arith)

on_keeps : (p : Past) (w : Word) (s : Seen) → s.word ≡ w → PutFits w (unwrap_or s.put 0) → PastFits p → PastFits (after_on p w s)
on_keeps p w s e l k = search (slot_keeps, other_keeps, arith)

pub after_fits : (p : Past) (s : Seen) → PastFits p → StepFits s → PastFits (after p s)
after_fits p s k f = on_keeps p s.word s refl f.put k
