-- The steps of handle before it takes a queue and after it has run it: enter, accept and leave.
use Rattle.std.proofs.Common.{◌≡◌, ◌≢◌, ℕ, ◌<◌, ◌⊎◌, inl, inr, Bool, true, false, ◌==◌, cond, if◌then◌else◌, Some, None, sym, refl, ◌∙◌, arith}
use Rattle.std.proofs.lemmas.Bool.{eqb-true, eqb-false}
use Rattle.smp_words.specs.Size.{cpus}
use Rattle.smp_words.specs.Put.{put, put_word}
use Rattle.smp_call_steps.specs.{CallState, accepts, handle_goes, ControlValue, bit, IsEmpty, IsNoticed, is_pending, is_accepted}
use Rattle.smp_call_steps.specs.{is_owed, Noticed, nexts_in, intrs_in}
use Rattle.smp_call_steps.specs.{outside, hands_in, last_batch, share_of, HandleStands, HandIs, held_of, Word, Intr, Hand, Handle}
use Rattle.smp_call_steps.specs.Stands.{CallStands}
use Rattle.smp_call_steps.specs.Shows.{Shows}
use Rattle.smp_words.proofs.Puts.{at_test, test_here, test_else}
use Rattle.smp_call_steps.proofs.Steps.Frames.{leaves_all}
use Rattle.smp_call_steps.proofs.Steps.Turns.{holds_nothing, stands_at, hand_at, held_after, stands_after, hands_after, hands_stored}
use Rattle.smp_call_steps.proofs.Steps.StepShows.{StepShows}
use Rattle.smp_call_steps.specs.handle

one≢zero : ◌≢◌ {A = ℕ} 1 0
one≢zero e = omega arith

zero_bit : (b : Bool) → bit b ≡ 0 → b ≡ false
zero_bit x e = search (one≢zero, arith)

one_bit : (b : Bool) → bit b ≢ 0 → b ≡ true
one_bit x ne = search arith

module _ (a : CallState) (me : ℕ) where
  abbrev accepted' : ℕ → Bool
  accepted' = put a.accepted me (if a.pending me then true else a.accepted me)

  -- a CPU that was noticed is noticed still
  still_noticed : (cpu : ℕ) → IsNoticed a.pending a.accepted a.owes cpu → IsNoticed (put a.pending me false) accepted' a.owes cpu
  still_noticed cpu (is_pending e) = search (at_test, test_here, test_else, arith)
  still_noticed cpu (is_accepted e) = search (at_test, arith)
  still_noticed cpu (is_owed source e) = is_owed source e

  -- where each CPU with a queue was noticed, it is noticed after the swap of the own interrupt word
  pub noticed_then : ((cpu : ℕ) → IsEmpty (a.queue cpu) ⊎ IsNoticed a.pending a.accepted a.owes cpu) → (cpu : ℕ)
      → IsEmpty (a.queue cpu) ⊎ IsNoticed (put a.pending me false) accepted' a.owes cpu
  noticed_then n cpu = elim (n cpu) [ inl empty ↦ inl empty | inr noticed ↦ inr (still_noticed cpu noticed) ]

module _ {a : CallState} {at : Word → ℕ} {control : ℕ → ControlValue} (me : ℕ) (s : Shows a at control) where
  -- a step that stores the own handling word alone
  stores_hand : (n : ℕ) (c : ControlValue) → a.held me ≡ held_of c.stage → CallStands a.place (put_word at (Hand me) n) (share_of a me) me c
      → HandIs c.stage n →
      Shows a (put_word at (Hand me) n) (put control me c)
  stores_hand n c held stands hand =
      let held' = held_after me s c held in
      let stands' = stands_after me s (put_word at (Hand me) n) a.place (share_of a) c (λ _ _. refl)
      (λ cpu _. leaves_all a.place at (put_word at (Hand me) n) (λ _. refl) (λ _. refl) (λ _. refl) (λ _. refl) cpu) stands in
      let hands = hands_stored me s c n hand in
      search (held', stands', hands, arith)

  pub enter_step : (control me).stage ≡ Some (Handle handle.Enter) → StepShows a at control me (Handle handle.Enter)
  enter_step e =
      let was = stands_at me s handle.Enter e in
      stores_hand 1 (record { stage = Some (Handle handle.Accept); drain = (control me).drain }) (holds_nothing me s handle.Enter e) was one≢zero

  pub leave_idle_step : (control me).stage ≡ Some (Handle handle.LeaveIdle) → StepShows a at control me (Handle handle.LeaveIdle)
  leave_idle_step e =
      let was = stands_at me s handle.LeaveIdle e in
      stores_hand 0 outside (holds_nothing me s handle.LeaveIdle e) was.1 refl

  pub leave_step : (control me).stage ≡ Some (Handle handle.Leave) → StepShows a at control me (Handle handle.Leave)
  leave_step e =
      let was = stands_at me s handle.Leave e in
      stores_hand 0 outside (holds_nothing me s handle.Leave e) was.1.0 refl

  noticed_accepted : Noticed (put (intrs_in at) me 0) a.queue (put a.pending me false) (accepted' a me) a.owes
  noticed_accepted = record {
    words = λ cpu. at_test cpu me (λ b. cond b 0 (at (Intr cpu)) ≡ bit (cond b false (a.pending cpu))) (λ _. refl) (λ _. s.noticed.words cpu);
    noticed = noticed_then a me s.noticed.noticed;
  }

  -- where it goes, by whether an interrupt was pending
  accept_stands : (b : Bool) → (b ≡ true → a.pending me ≡ false) → (b ≡ false → a.pending me ≡ true)
      → HandleStands (nexts_in at) (share_of a me) (control me).drain handle.Accept → me < cpus →
      CallStands a.place at (share_of (accepts a me) me) me
      (record { stage = (if b then handle_goes handle.LeaveIdle else handle_goes handle.Take).next; drain = (control me).drain })
  accept_stands x none some was range = search arith

  accept_hand : (b : Bool) → hands_in at me ≢ 0 → HandIs (if b then handle_goes handle.LeaveIdle else handle_goes handle.Take).next (hands_in at me)
  accept_hand x ne = search arith

  accept_held : (b : Bool) → a.held me ≡ None → a.held me ≡ held_of (if b then handle_goes handle.LeaveIdle else handle_goes handle.Take).next
  accept_held x e = search arith

  pub accept_step : (control me).stage ≡ Some (Handle handle.Accept) → StepShows a at control me (Handle handle.Accept)
  accept_step e =
      let was = stands_at me s handle.Accept e in
      let idle : Bool = at (Intr me) == 0 in
      let c : ControlValue = record { stage = (if idle then handle_goes handle.LeaveIdle else handle_goes handle.Take).next; drain = (control me).drain } in
      record {
        held = held_after me s c (accept_held idle (holds_nothing me s handle.Accept e));
        stands = stands_after me s (put_word at (Intr me) 0) a.place (share_of (accepts a me)) c
            (λ cpu ne. at_test cpu me (λ b.
            record {
              last = last_batch (a.taken cpu);
              batch = a.batch cpu;
              running = a.running cpu;
              accepted = cond b (if a.pending me then true else a.accepted me) (a.accepted cpu);
            } ≡ share_of a cpu) (λ f. absurd (ne f)) (λ _. refl))
            (λ cpu _. leaves_all a.place at (put_word at (Intr me) 0) (λ _. refl) (λ _. refl) (λ _. refl) (λ _. refl) cpu)
            (stands_stored idle (accept_stands idle
            (λ t. zero_bit (a.pending me) (sym (s.noticed.words me) ∙ eqb-true (at (Intr me)) 0 t))
            (λ t. one_bit (a.pending me) (λ z. eqb-false (at (Intr me)) 0 t (s.noticed.words me ∙ z)))
            was.1 was.0));
        hands = hands_after me s c (accept_hand idle (hand_at me s handle.Accept e));
        placed = s.placed;
        written = s.written;
        chained = s.chained;
        links = s.links;
        noticed = noticed_accepted;
        recorded = s.recorded;
        tallied = s.tallied;
      }
    where
      stands_stored : (b : Bool) → CallStands a.place at (share_of (accepts a me) me) me
          (record { stage = (if b then handle_goes handle.LeaveIdle else handle_goes handle.Take).next; drain = (control me).drain }) →
          CallStands a.place (put_word at (Intr me) 0) (share_of (accepts a me) me) me
          (record { stage = (if b then handle_goes handle.LeaveIdle else handle_goes handle.Take).next; drain = (control me).drain })
      stands_stored true h = h
      stands_stored false h = h
