-- The swap that takes a queue: the whole queue becomes a batch.
use Rattle.std.proofs.Common.{arith, ◌≡◌, ◌≢◌, ℕ, ◌⊎◌, inl, inr, false, cond, Some, None, List, [], ◌∷◌, ◌++◌, sym, subst, refl, ap, ◌∙◌}
use Rattle.std.proofs.lemmas.List.{append-nil}
use Rattle.smp_words.specs.Put.{put, put_word}
use Rattle.smp_call_steps.specs.{order, CallState, place_taken, takes, no_drain, record_at, reverse_on, ControlValue, IsApart, IsPlaced}
use Rattle.smp_call_steps.specs.{IsThere, Placed, Leads, Chained, last_batch, IsEmpty, IsNoticed, is_pending, is_accepted, is_owed, Noticed}
use Rattle.smp_call_steps.specs.{nexts_in, heads_in, intrs_in, WrittenIn}
use Rattle.smp_call_steps.specs.{Share, share_of, Call, Word, Head, Hand, RecPlace, Handle}
use Rattle.smp_call_steps.specs.Shows.{Shows}
use Rattle.smp_words.proofs.Puts.{at_test, test_here, test_else}
use Rattle.smp_call_steps.proofs.Basics.Alls.{every}
use Rattle.smp_call_steps.proofs.Steps.Frames.{LeavesTo}
use Rattle.smp_call_steps.proofs.State.Batches.{every_order, has_order, apart_order}
use Rattle.smp_call_steps.proofs.State.Recordings.{recorded_taken}
use Rattle.smp_call_steps.proofs.Steps.Turns.{holds_nothing, stands_at, hand_at, held_after, stands_after, hands_after}
use Rattle.smp_call_steps.proofs.State.Walks.{link_back, reverse_goes, hand_of_reverse}
use Rattle.smp_call_steps.proofs.Steps.StepShows.{StepShows}
use Rattle.smp_call_steps.specs.place
use Rattle.smp_call_steps.specs.handle

-- what a place becomes when this CPU takes its queue

taken_here : (me : ℕ) → place_taken me (place.Queued me) ≡ place.Batch me
taken_here me = test_here me (place.Batch me) (place.Queued me)

taken_else : (me cpu : ℕ) → cpu ≢ me → place_taken me (place.Queued cpu) ≡ place.Queued cpu
taken_else me cpu ne = test_else cpu me (place.Batch me) (place.Queued cpu) ne

pub last_batch-push : (batches : List (List Call)) (batch : List Call) → last_batch (batches ++ batch ∷ []) ≡ batch
last_batch-push [] batch = refl
last_batch-push (x ∷ []) batch = refl
last_batch-push (x ∷ (y ∷ ys)) batch = last_batch-push (y ∷ ys) batch

module _ (a : CallState) (me : ℕ) where
  abbrev place' : ℕ → RecPlace
  place' = λ id. place_taken me (a.place id)

  abbrev queue' : ℕ → List Call
  queue' = put a.queue me []

  abbrev batch' : ℕ → List Call
  batch' = put a.batch me (order (a.queue me))

  moved : (from : RecPlace) (call : Call) → IsPlaced a.place from call → IsPlaced place' (place_taken me from) call
  moved from call p = record { is_call = p.is_call; placed = ap (place_taken me) p.placed }

  there : (id : ℕ) (p : RecPlace) → a.batch me ≡ [] → IsThere a.held a.queue a.batch a.running id p
      → IsThere a.held queue' batch' a.running id (place_taken me p)
  there id x none h = search (at_test, test_here, has_order, test_else, arith)

  pub placed_taken : a.batch me ≡ [] → Placed a.place a.held a.queue a.batch a.running a.confirmed → Placed place' a.held queue' batch' a.running a.confirmed
  placed_taken none p = search (at_test, every, taken_else, every_order, taken_here, moved, apart_order, there, arith)

  noticed_still : (cpu : ℕ) → cpu ≢ me → IsNoticed a.pending a.accepted a.owes cpu → IsNoticed a.pending (put a.accepted me false) a.owes cpu
  noticed_still cpu ne (is_pending e) = is_pending e
  noticed_still cpu ne (is_accepted e) = is_accepted (test_else cpu me false (a.accepted cpu) ne ∙ e)
  noticed_still cpu ne (is_owed source e) = is_owed source e

  -- where each CPU with a queue was noticed, it is noticed after the take
  pub noticed_after : ((cpu : ℕ) → IsEmpty (a.queue cpu) ⊎ IsNoticed a.pending a.accepted a.owes cpu) → (cpu : ℕ)
      → IsEmpty (queue' cpu) ⊎ IsNoticed a.pending (put a.accepted me false) a.owes cpu
  noticed_after n cpu = at_test cpu me (λ b. IsEmpty (cond b [] (a.queue cpu)) ⊎ IsNoticed a.pending (put a.accepted me false) a.owes cpu) (λ _. inl tt)
      (λ ne. elim (n cpu) [ inl empty ↦ inl empty | inr noticed ↦ inr (noticed_still cpu ne noticed) ])

module _ (a : CallState) (at : Word → ℕ) (me : ℕ) where
  written_taken : WrittenIn at a.place a.queue a.batch a.running → WrittenIn at (place' a me) (queue' a me) (batch' a me) a.running
  written_taken w = search (at_test, every_order, arith)

  chained_taken : Chained (heads_in at) (nexts_in at) a.queue → Chained (put (heads_in at) me 0) (nexts_in at) (queue' a me)
  chained_taken c = search (at_test, arith)

  noticed_taken : Noticed (intrs_in at) a.queue a.pending a.accepted a.owes
      → Noticed (intrs_in at) (queue' a me) a.pending (put a.accepted me false) a.owes
  noticed_taken n = record { words = n.words; noticed = noticed_after a me n.noticed }

module _ {a : CallState} {at : Word → ℕ} {control : ℕ → ControlValue} (me : ℕ) (s : Shows a at control) where
  -- nobody minds a queued record
  leaves_taken : (cpu : ℕ) → LeavesTo cpu a.place (place' a me) at (put_word at (Head me) 0)
  leaves_taken cpu = search arith

  pub take_step : (control me).stage ≡ Some (Handle handle.Take) → StepShows a at control me (Handle handle.Take)
  take_step e =
      let was = stands_at me s handle.Take e in
      let k = was.1 in
      let link : ℕ = at (Head me) in
      let c : ControlValue = record { stage = Some (Handle (reverse_on None (record_at link))); drain = no_drain } in
      let after : Share = share_of (takes a me) me in
      let whole : last_batch (put a.taken me (a.taken me ++ a.queue me ∷ []) me) ≡ a.queue me =
      ap last_batch (test_here me (a.taken me ++ a.queue me ∷ []) (a.taken me)) ∙ last_batch-push (a.taken me) (a.queue me) in
      let held = held_after me s c (holds_nothing me s handle.Take e) in
      let stands = stands_after me s (put_word at (Head me) 0) (place' a me) (share_of (takes a me)) c
      (λ cpu ne. at_test cpu me (λ b.
      record {
        last = last_batch (cond b (a.taken me ++ a.queue me ∷ []) (a.taken cpu));
        batch = cond b (order (a.queue me)) (a.batch cpu);
        running = a.running cpu;
        accepted = cond b false (a.accepted cpu);
      } ≡ share_of a cpu) (λ f. absurd (ne f)) (λ _. refl))
      (λ cpu _. leaves_taken cpu) (
        was.0,
        reverse_goes (nexts_in at) after no_drain None (record_at link) (a.queue me) [] (whole ∙ sym (append-nil (a.queue me)))
            (subst (λ (n : ℕ). Leads (nexts_in at) n (a.queue me) 0) (sym (link_back link)) (s.chained.chain me)) refl
            (subst IsApart (sym whole) (s.placed.queue_apart me)) refl
            (test_here me (order (a.queue me)) (a.batch me) ∙ ap order (sym whole)) k.1 (test_here me false (a.accepted me)),
      ) in
      let hands = hands_after me s c (hand_of_reverse None (record_at link) (at (Hand me)) (hand_at me s handle.Take e)) in
      let placed = placed_taken a me k.0 s.placed in
      let written = written_taken a at me s.written in
      let chained = chained_taken a at me s.chained in
      let noticed = noticed_taken a at me s.noticed in
      let recorded = recorded_taken a me s.recorded k.0 k.1 in
      search (held, stands, hands, placed, written, chained, noticed, recorded, arith)
