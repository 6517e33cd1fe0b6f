-- Steps that touch no record: loads of the own flags, and the send of an interrupt.
use Rattle.std.proofs.Common.{arith, ◌≡◌, ◌≢◌, ℕ, ◌%◌, Bool, true, false, ◌==◌, cond, refl, ◌⊎◌, inl, inr}
use Rattle.std.proofs.lemmas.Bool.{cases_eq, eqb-false}
use Rattle.smp_words.specs.Put.{put, put_word}
use Rattle.smp_call_steps.specs.{CallState, confirms, sends, ControlValue, FlagsShow, IsEmpty, IsNoticed, is_pending, is_accepted, is_owed, bit, share_of}
use Rattle.smp_call_steps.specs.{held_of, HandIs, Word, Intr, Hand, Flags, RecPlace}
use Rattle.smp_call_steps.specs.Stands.{CallStands}
use Rattle.smp_call_steps.specs.Shows.{Shows}
use Rattle.smp_words.proofs.Puts.{at_test, put_all}
use Rattle.smp_call_steps.proofs.Steps.Frames.{leaves_all, CallStands-kept}
use Rattle.smp_call_steps.proofs.Steps.Placings.{placed_confirmed}
use Rattle.smp_call_steps.specs.place

-- a step that changes no word and no call
pub stands_on : (a : CallState) (at : Word → ℕ) (control : ℕ → ControlValue) (me : ℕ) (next : ControlValue) → Shows a at control →
    a.held me ≡ held_of next.stage → CallStands a.place at (share_of a me) me next → HandIs next.stage (at (Hand me)) → Shows a at (put control me next)
stands_on a at control me next s held stands hand =
    let held' = put_all (λ cpu (x : ControlValue). a.held cpu ≡ held_of x.stage) control me next held (λ cpu _. s.held cpu) in
    let stands' = put_all (λ cpu x. CallStands a.place at (share_of a cpu) cpu x) control me next stands (λ cpu _. s.stands cpu) in
    let hands = put_all (λ cpu (x : ControlValue). HandIs x.stage (at (Hand cpu))) control me next hand (λ cpu _. s.hands cpu) in
    search (held', stands', hands, arith)

-- a record whose flags have no LOCK is free
pub unlocked_free : (p : RecPlace) (flags : ℕ) → FlagsShow p flags → (flags % 2 == 1) ≡ false → p ≡ place.Free
unlocked_free x flags f e = search (eqb-false, arith)

-- confirm: the source has seen its record free
pub confirms_kept : (a : CallState) (at : Word → ℕ) (control : ℕ → ControlValue) (me id : ℕ) → a.place id ≡ place.Free → Shows a at control
    → Shows (confirms a me id) at control
confirms_kept a at control me id free s = search (placed_confirmed, arith)

-- the load of a flags word: where LOCK is clear, its source has it confirmed
pub confirm_if : (a : CallState) (at : Word → ℕ) (control : ℕ → ControlValue) (me id : ℕ) (b : Bool) → (at (Flags id) % 2 == 1) ≡ b → Shows a at control
    → Shows (cond b a (confirms a me id)) at control
confirm_if a at control me id true e s = s
confirm_if a at control me id false e s = confirms_kept a at control me id (unlocked_free (a.place id) (at (Flags id)) (s.written.locks id) e) s

-- what is owed to another CPU stays owed
owed_else : (f : ℕ → ℕ → Bool) (me to source cpu : ℕ) → cpu ≢ to → f source cpu ≡ true → put f me (put (f me) to false) source cpu ≡ true
owed_else f me to source cpu ne o = search (at_test, arith)

noticed_still : (a : CallState) (me to cpu : ℕ) → cpu ≢ to → IsNoticed a.pending a.accepted a.owes cpu
    → IsNoticed (sends a me to).pending a.accepted (sends a me to).owes cpu
noticed_still a me to cpu ne (is_pending e) = is_pending (at_test cpu to (λ b. cond b true (a.pending cpu) ≡ true) (λ _. refl) (λ _. e))
noticed_still a me to cpu ne (is_accepted e) = is_accepted e
noticed_still a me to cpu ne (is_owed source o) = is_owed source (owed_else a.owes me to source cpu ne o)

-- where each CPU with a queue was noticed, it is noticed after the send
pub noticed_sent : (a : CallState) → ((cpu : ℕ) → IsEmpty (a.queue cpu) ⊎ IsNoticed a.pending a.accepted a.owes cpu) → (me to cpu : ℕ)
    → IsEmpty (a.queue cpu) ⊎ IsNoticed (sends a me to).pending a.accepted (sends a me to).owes cpu
noticed_sent a n me to cpu = elim (cases_eq cpu to) [
  | inl e ↦ inr (is_pending (at_test cpu to (λ b. cond b true (a.pending cpu) ≡ true) (λ _. refl) (λ ne. absurd (ne e))))
  | inr ne ↦ elim (n cpu) [ inl empty ↦ inl empty | inr m ↦ inr (noticed_still a me to cpu ne m) ]
]

-- send: the store of an interrupt word
pub send_kept : (a : CallState) (at : Word → ℕ) (control : ℕ → ControlValue) (me to : ℕ) (next : ControlValue) → Shows a at control
    → a.held me ≡ held_of next.stage →
    CallStands a.place (put_word at (Intr to) 1) (share_of a me) me next → HandIs next.stage (at (Hand me))
    → Shows (sends a me to) (put_word at (Intr to) 1) (put control me next)
send_kept a at control me to next s held stands hand = record {
  held = put_all (λ cpu (x : ControlValue). a.held cpu ≡ held_of x.stage) control me next held (λ cpu _. s.held cpu);
  stands = put_all (λ cpu x. CallStands a.place at' (share_of a cpu) cpu x) control me next stands
      (λ cpu _. CallStands-kept (leaves_all a.place at at' (λ _. refl) (λ _. refl) (λ _. refl) (λ _. refl) cpu) (share_of a cpu) (control cpu)
      (s.placed.batched cpu) (s.stands cpu));
  hands = put_all (λ cpu (x : ControlValue). HandIs x.stage (at (Hand cpu))) control me next hand (λ cpu _. s.hands cpu);
  placed = s.placed;
  written = s.written;
  chained = s.chained;
  links = s.links;
  noticed = record {
    words = λ cpu. at_test cpu to (λ b. cond b 1 (at (Intr cpu)) ≡ bit (cond b true (a.pending cpu))) (λ _. refl) (λ _. s.noticed.words cpu);
    noticed = noticed_sent a s.noticed.noticed me to;
  };
  recorded = s.recorded;
  tallied = s.tallied;
}
  where
    at' : Word → ℕ
    at' = put_word at (Intr to) 1
