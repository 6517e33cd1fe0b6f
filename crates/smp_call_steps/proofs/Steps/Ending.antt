-- The steps of handle that count a call and end it.
use Rattle.std.proofs.Common.{◌≡◌, ◌≢◌, ℕ, ◌+◌, ◌%◌, ◌^◌, cond, Option, Some, List, [], ◌∷◌, ◌++◌, sym, subst, refl, ap, ◌∙◌, arith}
use Rattle.std.proofs.lemmas.List.{append-nil}
use Rattle.std.specs.List.{AllByRecursion}
use Rattle.smp_words.specs.Size.{owner}
use Rattle.smp_words.specs.Put.{put, put_word}
use Rattle.smp_call_steps.specs.{CallState, Running, Nothing, CountedCall, counts, ends_sync, ends_async, DrainValue, second_on, first_on}
use Rattle.smp_call_steps.specs.{ControlValue, locked_by, IsWritten, Written, last_batch, flags_in, funcs_in, infos_in}
use Rattle.smp_call_steps.specs.{nexts_in, queued_in, ran_in, IsWrittenIn, running_call, counted_call, Tallied, Share, share_of, HandIs}
use Rattle.smp_call_steps.specs.{held_of, Call, Word, Hand, Ran, Flags, Walk, Handle}
use Rattle.smp_call_steps.specs.Stands.{CallStands}
use Rattle.smp_call_steps.specs.Shows.{Shows}
use Rattle.smp_words.proofs.Puts.{at_test, test_here, test_else}
use Rattle.smp_call_steps.proofs.Steps.Frames.{Minds, leaves_others, leaves_all}
use Rattle.smp_call_steps.proofs.Steps.Turns.{holds_nothing, stands_at, hand_at, held_after, stands_after, hands_after}
use Rattle.smp_call_steps.proofs.Steps.Moving.{Running≢Running, Batch≢Running, Queued≢Running}
use Rattle.smp_call_steps.proofs.Steps.Moving.{all_written_still, written_moved}
use Rattle.smp_call_steps.proofs.State.Walks.{walks_stay, ends_stay, second_goes, first_goes, hand_of_second, hand_of_first}
use Rattle.smp_call_steps.proofs.Steps.Placings.{running_here, placed_counted, placed_ended}
use Rattle.smp_call_steps.proofs.State.Recordings.{recorded_counted}
use Rattle.smp_call_steps.proofs.State.Tallies.{tallied_more, tallied_same}
use Rattle.smp_call_steps.proofs.Steps.StepShows.{StepShows}
use Rattle.smp_call_steps.specs.place
use Rattle.smp_call_steps.specs.handle

more_than_zero : (hand id : ℕ) → hand ≡ id + 2 → hand ≢ 0
more_than_zero hand id e f = omega arith

module _ {a : CallState} {at : Word → ℕ} {control : ℕ → ControlValue} (me : ℕ) (s : Shows a at control) where
  -- the words after the store of the number of calls that ran from its source
  abbrev stored : Call → Word → ℕ
  stored call = put_word at (Ran me (owner call.id)) ((at (Ran me (owner call.id)) + 1) % 2 ^ 64)

  -- a call is counted: the SYNC call that runs stays locked, an ASYNC call has ended
  module _ (call : Call) (r : Running) (ran' : ℕ → List Call) (others : (cpu : ℕ) → cpu ≢ me → ran' cpu ≡ a.ran cpu)
      (locked : locked_by r ≡ locked_by (a.running me))
      (ended : ran' me ++ running_call r ≡ a.ran me ++ running_call (a.running me))
      (counted : ran' me ++ counted_call r ≡ (a.ran me ++ counted_call (a.running me)) ++ call ∷ []) where
    same_locked : (cpu : ℕ) → locked_by (put a.running me r cpu) ≡ locked_by (a.running cpu)
    same_locked cpu = search (at_test, arith)

    count_shown : (c : ControlValue) → a.held me ≡ held_of c.stage → HandIs c.stage (at (Hand me))
        → CallStands a.place (stored call)
        (record { last = last_batch (a.taken me); batch = a.batch me; running = put a.running me r me; accepted = a.accepted me }) me c →
        Shows (record a { running = put a.running me r; ran = ran' }) (stored call) (put control me c)
    count_shown c held hand stands = record {
      held = held_after me s c held;
      stands = stands_after me s (stored call) a.place (share_of (record a { running = put a.running me r; ran = ran' })) c
          (λ cpu ne. at_test cpu me (λ b.
          record { last = last_batch (a.taken cpu); batch = a.batch cpu; running = cond b r (a.running cpu); accepted = a.accepted cpu } ≡ share_of a cpu)
          (λ f. absurd (ne f)) (λ _. refl))
          (λ cpu _. leaves_all a.place at (stored call) (λ _. refl) (λ _. refl) (λ _. refl) (λ _. refl) cpu) stands;
      hands = hands_after me s c hand;
      placed = placed_counted a s.placed me r locked;
      written = record {
        locks = s.written.locks;
        queued = s.written.queued;
        batched = s.written.batched;
        runs = λ cpu. subst (AllByRecursion (IsWrittenIn at)) (sym (same_locked cpu)) (s.written.runs cpu);
      };
      chained = s.chained;
      links = s.links;
      noticed = s.noticed;
      recorded = recorded_counted a me s.recorded r ran' others ended;
      tallied = tallied_more (queued_in at) (ran_in at) a.sent a.held a.ran ran' a.running (put a.running me r) me call
          (ap (λ (x : Running). ran' me ++ counted_call x) (test_here me r (a.running me)) ∙ counted)
          (λ cpu ne. ap (λ (x : Running). ran' cpu ++ counted_call x) (test_else cpu me r (a.running cpu) ne)
          ∙ ap (λ (xs : List Call). xs ++ counted_call (a.running cpu)) (others cpu ne))
          s.tallied;
    }

  -- the store of the number of calls that ran, for a SYNC call
  pub count_sync_step : (walk : Walk) (call : Call) (next : Option ℕ) → (control me).stage ≡ Some (Handle (handle.CountSync walk call next))
      → StepShows a at control me (Handle (handle.CountSync walk call next))
  count_sync_step walk call next e =
      let was = stands_at me s (handle.CountSync walk call next) e in
      let k = was.1.1 in
      let c : ControlValue = record { stage = Some (Handle (handle.EndSync walk call next)); drain = (control me).drain } in
      let running_is = k.running_is in
      subst (λ (x : Running). Shows (counts a me x) (stored call) (put control me c)) (sym running_is)
      (count_shown call (CountedCall call) a.ran (λ _ _. refl) (rw running_is refl) (rw running_is refl)
      (rw (running_is, append-nil (a.ran me)) refl)
      c (holds_nothing me s (handle.CountSync walk call next) e) (hand_at me s (handle.CountSync walk call next) e) (
        was.0,
        (
          was.1.0,
          walks_stay k k.begun (a.batch me) (put a.running me (CountedCall call) me) k.begun_are k.batch (test_here me (CountedCall call) (a.running me)),
          was.1.2,
        ),
      ))

  pub count_async_step : (call : Call) (next : Option ℕ) → (control me).stage ≡ Some (Handle (handle.CountAsync call next))
      → StepShows a at control me (Handle (handle.CountAsync call next))
  count_async_step call next e =
      let was = stands_at me s (handle.CountAsync call next) e in
      let rest : List Call = was.1.0 in
      let k = was.1.1 in
      let d : DrainValue = (control me).drain in
      let c : ControlValue = record { stage = Some (Handle (second_on next)); drain = (control me).drain } in
      let ran' : ℕ → List Call = put a.ran me (a.ran me ++ call ∷ []) in
      let after : Share = share_of (ends_async a me call) me in
      let running_is = k.running_is in
      let ran_here : ran' me ≡ a.ran me ++ call ∷ [] = test_here me (a.ran me ++ call ∷ []) (a.ran me) in
      subst (λ (x : Running). Shows (counts a me x) (stored call) (put control me c)) (sym running_is)
      (count_shown call Nothing ran' (λ cpu ne. test_else cpu me (a.ran me ++ call ∷ []) (a.ran cpu) ne) (rw running_is refl)
      (append-nil (ran' me) ∙ (ran_here ∙ ap (λ (x : Running). a.ran me ++ running_call x) (sym running_is)))
      (append-nil (ran' me) ∙ (ran_here ∙ ap (λ (xs : List Call). xs ++ call ∷ [])
      (sym (append-nil (a.ran me)) ∙ ap (λ (x : Running). a.ran me ++ counted_call x) (sym running_is))))
      c (holds_nothing me s (handle.CountAsync call next) e)
      (hand_of_second next (at (Hand me)) (hand_at me s (handle.CountAsync call next) e)) (
        was.0,
        second_goes (nexts_in at) after d next rest
            (ends_stay k k.begun (a.batch me) (put a.running me Nothing me) k.whole k.batch (test_here me Nothing (a.running me))),
      ))

  -- the record of the SYNC call that ran is free
  module _ (call : Call) (running : a.running me ≡ CountedCall call) where
    here : a.place call.id ≡ place.Running me
    here = running_here a s.placed me call running

    end_written : Written (put (flags_in at) call.id 0) (funcs_in at) (infos_in at) (put a.place call.id place.Free) a.queue a.batch (put a.running me Nothing)
    end_written = written_moved a.place call.id (place.Running me) place.Free here (flags_in at) (put (flags_in at) call.id 0) (funcs_in at) (infos_in at) same
        a.held a.queue a.batch a.batch a.running (put a.running me Nothing) a.confirmed (λ cpu. Queued≢Running cpu me) s.placed s.written
        (test_here call.id 0 (at (Flags call.id)))
        (λ cpu. all_written_still a.place call.id (place.Running me) place.Free here (flags_in at) (put (flags_in at) call.id 0) (funcs_in at)
        (infos_in at) same (place.Batch cpu) (a.batch cpu) (Batch≢Running cpu me) (s.placed.batched cpu) (s.written.batched cpu))
        (λ cpu. at_test cpu me (λ b. AllByRecursion (IsWritten (put (flags_in at) call.id 0) (funcs_in at) (infos_in at))
        (locked_by (cond b Nothing (a.running cpu))))
        (λ _. tt)
        (λ ne. all_written_still a.place call.id (place.Running me) place.Free here (flags_in at) (put (flags_in at) call.id 0) (funcs_in at) (infos_in at) same
        (place.Running cpu) (locked_by (a.running cpu)) (Running≢Running cpu me ne) (s.placed.runs cpu) (s.written.runs cpu)))
      where
        same : (u : ℕ) → u ≢ call.id → put (flags_in at) call.id 0 u ≡ at (Flags u)
        same u ne = test_else u call.id 0 (at (Flags u)) ne

    abbrev ran' : ℕ → List Call
    ran' = put a.ran me (a.ran me ++ call ∷ [])

    ended : ran' me ++ [] ≡ a.ran me ++ running_call (a.running me)
    ended = append-nil (ran' me) ∙ (test_here me (a.ran me ++ call ∷ []) (a.ran me) ∙ ap (λ (x : Running). a.ran me ++ running_call x) (sym running))

    end_tallied : Tallied (queued_in at) (ran_in at) a.sent a.held (put a.ran me (a.ran me ++ call ∷ [])) (put a.running me Nothing)
    end_tallied = search (tallied_same, at_test, append-nil, arith)

    end_shown : (c : ControlValue) → a.held me ≡ held_of c.stage → HandIs c.stage (at (Hand me))
        → CallStands (put a.place call.id place.Free) (put_word at (Flags call.id) 0) (share_of (ends_sync a me call) me) me c →
        Shows (ends_sync a me call) (put_word at (Flags call.id) 0) (put control me c)
    end_shown c held hand stands = record {
      held = held_after me s c held;
      stands = stands_after me s (put_word at (Flags call.id) 0) (put a.place call.id place.Free) (share_of (ends_sync a me call)) c
          (λ cpu ne. at_test cpu me (λ b.
          record { last = last_batch (a.taken cpu); batch = a.batch cpu; running = cond b Nothing (a.running cpu); accepted = a.accepted cpu }
          ≡ share_of a cpu) (λ f. absurd (ne f)) (λ _. refl))
          (λ cpu ne. leaves_others me call.id a.place (put a.place call.id place.Free) at (put_word at (Flags call.id) 0)
          (subst (Minds me call.id) (sym here) refl)
          (record {
            place_stays = λ u n. test_else u call.id place.Free (a.place u) n;
            flags = λ u n. test_else u call.id 0 (at (Flags u)) n;
            func = λ _ _. refl;
            info = λ _ _. refl;
            next = λ _ _. refl;
          }) cpu ne)
          stands;
      hands = hands_after me s c hand;
      placed = placed_ended a s.placed me call running;
      written = end_written;
      chained = s.chained;
      links = s.links;
      noticed = s.noticed;
      recorded = recorded_counted a me s.recorded Nothing ran' (λ cpu ne. test_else cpu me (a.ran me ++ call ∷ []) (a.ran cpu) ne) ended;
      tallied = end_tallied;
    }

  -- the store of 0 to the flags, where a call is counted: a SYNC call ends
  pub end_sync_step : (walk : Walk) (call : Call) (next : Option ℕ) → (control me).stage ≡ Some (Handle (handle.EndSync walk call next))
      → StepShows a at control me (Handle (handle.EndSync walk call next))
  end_sync_step walk call next e =
      let was = stands_at me s (handle.EndSync walk call next) e in
      let rest : List Call = was.1.0 in
      let k = was.1.1 in
      let d : DrainValue = (control me).drain in
      let held = holds_nothing me s (handle.EndSync walk call next) e in
      let at' : Word → ℕ = put_word at (Flags call.id) 0 in
      let c : ControlValue = record { stage = Some (Handle (first_on walk next)); drain = (control me).drain } in
      let after : Share = share_of (ends_sync a me call) me in
      let shown : Shows (ends_sync a me call) at' (put control me c) =
      end_shown call k.running_is c held
      (hand_of_first walk next (at (Hand me)) (more_than_zero (at (Hand me)) call.id (hand_at me s (handle.EndSync walk call next) e))) (
        was.0,
        first_goes (nexts_in at) after d walk next rest
            (walks_stay k k.begun (a.batch me) (put a.running me Nothing me) k.begun_are k.batch (test_here me Nothing (a.running me))),
      ) in
      search (at', c, held, k, shown, arith)
