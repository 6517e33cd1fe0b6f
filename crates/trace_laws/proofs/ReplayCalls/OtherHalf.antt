-- What a step of one half leaves of what a CPU keeps of the other.
use Rattle.trace_laws.proofs.Names.{arith, Option, false, false≢true, refl, true, true≢false, ℕ, ◌≡◌}
use Rattle.trace_laws.proofs.ReplayNames.{Act, Field, Note, Past, Seen, Word, after, after_draft, after_on, after_other, after_slot}
use Rattle.trace_laws.proofs.ReplayNames.{after_slot_load}
use Rattle.trace_laws.proofs.ReplayCalls.EventsByHalf.{is_call_word}

-- what a CPU keeps of the calls that it posts and begins
pub record KeepsCalls (p q : Past) : Type 0 where
  pub begun : q.begun ≡ p.begun
  pub post : q.post ≡ p.post

same : (p : Past) → KeepsCalls p p
same p = record { begun = refl; post = refl }

draft_keeps : (p : Past) (f : Field) (put : ℕ) → KeepsCalls p (after_draft p f put)
draft_keeps p f put = search arith

load_keeps : (p : Past) (f : Field) (found : ℕ) (said : Option Note) → KeepsCalls p (after_slot_load p f found said)
load_keeps p f found said = search (same, arith)

slot_keeps : (p : Past) (f : Field) (a : Act) (s : Seen) → KeepsCalls p (after_slot p f a s)
slot_keeps p f a s = search (draft_keeps, load_keeps, same, arith)

other_keeps : (p : Past) (w : Word) (a : Act) (s : Seen) → s.word ≡ w → is_call_word w ≡ false → KeepsCalls p (after_other p a s)
other_keeps p w a s h1 h2 = search (same, true≢false, arith)

on_keeps : (p : Past) (w : Word) (s : Seen) → s.word ≡ w → is_call_word w ≡ false → KeepsCalls p (after_on p w s)
on_keeps p w s h1 h2 = search (slot_keeps, other_keeps, true≢false, arith)

pub stop_keeps : (p : Past) (s : Seen) → is_call_word s.word ≡ false → KeepsCalls p (after p s)
stop_keeps p s e = on_keeps p s.word s refl e

-- what a CPU keeps of the stops
pub record KeepsStops (p q : Past) : Type 0 where
  pub phase : q.phase ≡ p.phase
  pub answer : q.answer ≡ p.answer
  pub draft : q.draft ≡ p.draft

stays : (p : Past) → KeepsStops p p
stays p = record { phase = refl; answer = refl; draft = refl }

pub call_keeps : (p : Past) (s : Seen) → is_call_word s.word ≡ true → KeepsStops p (after p s)
call_keeps p s e = search (stays, false≢true, arith)
