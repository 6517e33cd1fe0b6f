-- The steps of handle that begin a call: the front of the batch runs, and its record stays locked or is free.
use Rattle.std.proofs.Common.{◌≡◌, ◌≢◌, ℕ, ◌+◌, nat_lt, inl, true, cond, Option, Some, None, List, [], ◌∷◌, ◌++◌, sym, subst, refl, ◌∙◌, arith}
use Rattle.std.proofs.Common.{append_assoc}
use Rattle.std.proofs.lemmas.Bool.{lt-ltb}
use Rattle.std.proofs.lemmas.List.{append-nil}
use Rattle.std.specs.List.{AllByRecursion}
use Rattle.smp_words.specs.Put.{put, put_word}
use Rattle.smp_call_steps.specs.{CallState, Running, Nothing, SyncCall, AsyncCall, begins_sync, begins_async, sync_calls, async_calls, DrainValue}
use Rattle.smp_call_steps.specs.{ControlValue, IsApart, HasRecord, locked_by, AllPlaced, FlagsShow, IsWritten, Written, last_batch, flags_in}
use Rattle.smp_call_steps.specs.{funcs_in, infos_in, queued_in, ran_in, IsWrittenIn, counted_call, Tallied, share_of, HandIs}
use Rattle.smp_call_steps.specs.{Call, Word, Hand, Flags, RecPlace, Walk, Handle}
use Rattle.smp_call_steps.specs.Stands.{CallStands}
use Rattle.smp_call_steps.specs.Shows.{Shows}
use Rattle.smp_words.proofs.Puts.{at_test, test_here, test_else}
use Rattle.smp_call_steps.proofs.Steps.Frames.{Minds, Touches, leaves_others}
use Rattle.smp_call_steps.proofs.State.Walks.{walks_stay, ends_stay, walks_sync, ends_async}
use Rattle.smp_call_steps.proofs.Steps.Turns.{holds_nothing, stands_at, hand_at, held_after, stands_after, hands_after, hands_stored}
use Rattle.smp_call_steps.proofs.Steps.Moving.{Batch≢Batch, Running≢Batch, Queued≢Batch}
use Rattle.smp_call_steps.proofs.Steps.Moving.{all_written_still, all_written_apart, written_moved}
use Rattle.smp_call_steps.proofs.Steps.Placings.{front_placed, front_apart, front_here, placed_begun}
use Rattle.smp_call_steps.proofs.State.Recordings.{recorded_begun}
use Rattle.smp_call_steps.proofs.State.Tallies.{tallied_same}
use Rattle.smp_call_steps.proofs.Steps.StepShows.{StepShows}
use Rattle.smp_call_steps.specs.place
use Rattle.smp_call_steps.specs.handle

module _ {a : CallState} {at : Word → ℕ} {control : ℕ → ControlValue} (me : ℕ) (s : Shows a at control) where
  -- the front of the batch goes to another place, and runs
  module _ (call : Call) (rest : List Call) (front : a.batch me ≡ call ∷ rest) (idle : a.running me ≡ Nothing) (to : RecPlace) (r : Running) where
    abbrev begun : CallState
    begun = record a { place = put a.place call.id to; batch = put a.batch me rest; running = put a.running me r }

    here : a.place call.id ≡ place.Batch me
    here = front_here a s.placed me call rest front

    apart : IsApart (call ∷ rest)
    apart = front_apart a s.placed me call rest front

    all_written : AllByRecursion (IsWrittenIn at) (call ∷ rest)
    all_written = subst (λ (xs : List Call). AllByRecursion (IsWrittenIn at) xs) front (s.written.batched me)

    begun_stands : (at' : Word → ℕ) (c : ControlValue) → Touches call.id a.place (put a.place call.id to) at at'
        → CallStands (put a.place call.id to) at' (share_of begun me) me c →
        (cpu : ℕ) → CallStands (put a.place call.id to) at' (share_of begun cpu) cpu (put control me c cpu)
    begun_stands at' c t stands = stands_after me s at' (put a.place call.id to) (share_of begun) c
        (λ cpu ne. at_test cpu me (λ b.
        record { last = last_batch (a.taken cpu); batch = cond b rest (a.batch cpu); running = cond b r (a.running cpu); accepted = a.accepted cpu }
        ≡ share_of a cpu) (λ f. absurd (ne f)) (λ _. refl))
        (λ cpu ne. leaves_others me call.id a.place (put a.place call.id to) at at' (subst (Minds me call.id) (sym here) refl) t cpu ne)
        stands

    begun_written : (flags' : ℕ → ℕ) → ((u : ℕ) → u ≢ call.id → flags' u ≡ at (Flags u)) → FlagsShow to (flags' call.id)
        → AllByRecursion (IsWritten flags' (funcs_in at) (infos_in at)) (locked_by r) →
        Written flags' (funcs_in at) (infos_in at) (put a.place call.id to) a.queue (put a.batch me rest) (put a.running me r)
    begun_written flags' same lock runs = written_moved a.place call.id (place.Batch me) to here (flags_in at) flags' (funcs_in at) (infos_in at) same
        a.held a.queue a.batch (put a.batch me rest) a.running (put a.running me r) a.confirmed (λ cpu. Queued≢Batch cpu me) s.placed s.written lock
        (λ cpu. at_test cpu me (λ b. AllByRecursion (IsWritten flags' (funcs_in at) (infos_in at)) (cond b rest (a.batch cpu)))
        (λ _. all_written_apart a.place call.id (place.Batch me) to here (flags_in at) flags' (funcs_in at) (infos_in at) same rest apart.0 all_written.1)
        (λ ne. all_written_still a.place call.id (place.Batch me) to here (flags_in at) flags' (funcs_in at) (infos_in at) same (place.Batch cpu) (a.batch cpu)
        (Batch≢Batch cpu me ne) (s.placed.batched cpu) (s.written.batched cpu)))
        (λ cpu. at_test cpu me (λ b. AllByRecursion (IsWritten flags' (funcs_in at) (infos_in at)) (locked_by (cond b r (a.running cpu))))
        (λ _. runs)
        (λ _. all_written_still a.place call.id (place.Batch me) to here (flags_in at) flags' (funcs_in at) (infos_in at) same (place.Running cpu)
        (locked_by (a.running cpu)) (Running≢Batch cpu me) (s.placed.runs cpu) (s.written.runs cpu)))

    begun_tallied : counted_call r ≡ [] → Tallied (queued_in at) (ran_in at) a.sent a.held a.ran (put a.running me r)
    begun_tallied uncounted = search (tallied_same, at_test, arith)

  -- the store of the record's number: a SYNC call begins
  begun_sync : (walk : Walk) (next : Option ℕ) (call : Call) (rest : List Call) (c : ControlValue) → a.batch me ≡ call ∷ rest → a.running me ≡ Nothing
      → a.held me ≡ None → c.stage ≡ Some (Handle (handle.CountSync walk call next)) →
      CallStands (put a.place call.id (place.Running me)) (put_word at (Hand me) (call.id + 2)) (share_of (begins_sync a me (call ∷ rest)) me) me c →
      Shows (begins_sync a me (call ∷ rest)) (put_word at (Hand me) (call.id + 2)) (put control me c)
  begun_sync walk next call rest c front idle held stage stands =
      let to : RecPlace = place.Running me in
      let first = front_placed a s.placed me call rest front in
      let words = all_written call rest front idle to (SyncCall call) in
      record {
        held = held_after me s c (rw stage held);
        stands = begun_stands call rest front idle to (SyncCall call) (put_word at (Hand me) (call.id + 2)) c
            (record {
              place_stays = λ u ne. test_else u call.id to (a.place u) ne;
              flags = λ _ _. refl;
              func = λ _ _. refl;
              info = λ _ _. refl;
              next = λ _ _. refl;
            }) stands;
        hands = hands_stored me s c (call.id + 2) (rw stage refl);
        placed = placed_begun a s.placed me call rest front to (SyncCall call) idle
            (record { is_call = first.0.is_call; placed = test_here call.id to (a.place call.id) }, tt)
            (subst (λ (x : Running). HasRecord call.id (locked_by x)) (sym (test_here me (SyncCall call) (a.running me))) (inl refl));
        written = begun_written call rest front idle to (SyncCall call) (flags_in at) (λ _ _. refl)
            (subst (λ (p : RecPlace). FlagsShow p (at (Flags call.id))) (front_here a s.placed me call rest front) (s.written.locks call.id)) (words.0, tt);
        chained = s.chained;
        links = s.links;
        noticed = s.noticed;
        recorded = recorded_begun a me s.recorded call rest (SyncCall call) front idle refl;
        tallied = begun_tallied call rest front idle to (SyncCall call) refl;
      }

  pub begin_sync_step : (walk : Walk) (call : Call) (next : Option ℕ) → (control me).stage ≡ Some (Handle (handle.BeginSync walk call next))
      → StepShows a at control me (Handle (handle.BeginSync walk call next))
  begin_sync_step walk call next e =
      let was = stands_at me s (handle.BeginSync walk call next) e in
      let k = was.1.1 in
      let d : DrainValue = (control me).drain in
      let left : List Call = sync_calls was.1.0 ++ async_calls (last_batch (a.taken me)) in
      let at' : Word → ℕ = put_word at (Hand me) (call.id + 2) in
      let c : ControlValue = record { stage = Some (Handle (handle.CountSync walk call next)); drain = d } in
      let stored : nat_lt 1 (call.id + 2) ≡ true = lt-ltb 1 (call.id + 2) (omega arith) in
      let shown : Shows (begins_sync a me (call ∷ left)) at' (put control me c) =
      begun_sync walk next call left c k.batch k.running_is (holds_nothing me s (handle.BeginSync walk call next) e) refl (
        was.0,
        (
          was.1.0,
          walks_stay k (k.begun ++ call ∷ []) (put a.batch me left me) (put a.running me (SyncCall call) me)
              (k.begun_are ∙ sym (append-nil (k.begun ++ call ∷ []))) (test_here me left (a.batch me)) (test_here me (SyncCall call) (a.running me)),
          walks_sync k,
        ),
      ) in
      search (at', c, stored, k, shown, arith)

  -- the store of 0 to the flags: an ASYNC call begins
  begun_async : (next : Option ℕ) (call : Call) (rest : List Call) (c : ControlValue) → a.batch me ≡ call ∷ rest → a.running me ≡ Nothing → a.held me ≡ None
      → HandIs c.stage (at (Hand me)) → c.stage ≡ Some (Handle (handle.CountAsync call next)) →
      CallStands (put a.place call.id place.Free) (put_word at (Flags call.id) 0) (share_of (begins_async a me (call ∷ rest)) me) me c →
      Shows (begins_async a me (call ∷ rest)) (put_word at (Flags call.id) 0) (put control me c)
  begun_async next call rest c front idle held hand stage stands =
      let to : RecPlace = place.Free in
      let held' = held_after me s c (rw stage held) in
      let stands' = begun_stands call rest front idle to (AsyncCall call) (put_word at (Flags call.id) 0) c
      (record {
        place_stays = λ u ne. test_else u call.id to (a.place u) ne;
        flags = λ u ne. test_else u call.id 0 (at (Flags u)) ne;
        func = λ _ _. refl;
        info = λ _ _. refl;
        next = λ _ _. refl;
      }) stands in
      let hands = hands_after me s c hand in
      let placed = placed_begun a s.placed me call rest front to (AsyncCall call) idle tt tt in
      let written = begun_written call rest front idle to (AsyncCall call) (put (flags_in at) call.id 0) (λ u ne. test_else u call.id 0 (at (Flags u)) ne)
      (test_here call.id 0 (at (Flags call.id))) tt in
      let recorded = recorded_begun a me s.recorded call rest (AsyncCall call) front idle refl in
      let tallied = begun_tallied call rest front idle to (AsyncCall call) refl in
      search (held', stands', hands, placed, written, recorded, tallied, arith)

  pub begin_async_step : (call : Call) (next : Option ℕ) → (control me).stage ≡ Some (Handle (handle.BeginAsync call next))
      → StepShows a at control me (Handle (handle.BeginAsync call next))
  begin_async_step call next e =
      let was = stands_at me s (handle.BeginAsync call next) e in
      let rest : List Call = was.1.0 in
      let k = was.1.1 in
      let d : DrainValue = (control me).drain in
      let held = holds_nothing me s (handle.BeginAsync call next) e in
      let at' : Word → ℕ = put_word at (Flags call.id) 0 in
      let c : ControlValue = record { stage = Some (Handle (handle.CountAsync call next)); drain = d } in
      let front : AllPlaced a.place (place.Batch me) (call ∷ rest) =
      subst (λ (xs : List Call). AllPlaced a.place (place.Batch me) xs) k.batch (s.placed.batched me) in
      let shown : Shows (begins_async a me (call ∷ rest)) at' (put control me c) =
      begun_async next call rest c k.batch k.running_is held (hand_at me s (handle.BeginAsync call next) e) refl (
        was.0,
        (
          rest,
          ends_stay k (k.begun ++ call ∷ []) (put a.batch me rest me) (put a.running me (AsyncCall call) me)
              (k.whole ∙ sym (append_assoc k.begun (call ∷ []) rest)) (test_here me rest (a.batch me)) (test_here me (AsyncCall call) (a.running me)),
          front.0.is_call,
          ends_async k,
        ),
      ) in
      search (at', c, held, k, shown, arith)
