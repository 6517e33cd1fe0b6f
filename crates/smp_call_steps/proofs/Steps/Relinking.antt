-- The steps of handle that store a next word: a record is reversed, or another is unlinked after it.
use Rattle.std.proofs.Common.{◌≡◌, ◌≢◌, ℕ, ◌+◌, Option, Some, List, [], ◌∷◌, ◌++◌, length, sym, subst, refl, ap, ◌∙◌, arith}
use Rattle.std.specs.List.{AllByRecursion}
use Rattle.smp_words.proofs.Puts.{test_here, test_else}
use Rattle.smp_words.specs.Put.{put, put_word}
use Rattle.smp_call_steps.specs.{async_calls, CallState, Holding, links, link_to, reverse_on, ControlValue, IsAbsent, IsApart, Holds, IsPlaced, AllPlaced}
use Rattle.smp_call_steps.specs.{Leads, Path, nexts_in, hands_in, share_of, EndsAt, HandIs, held_of, Call, Word, Head, Hand, Next, Walk, Handle}
use Rattle.smp_call_steps.specs.Stands.{CallStands}
use Rattle.smp_call_steps.specs.Shows.{Shows}
use Rattle.smp_call_steps.proofs.Basics.Alls.{every_right, every_async, every_last}
use Rattle.smp_call_steps.proofs.State.Counts.{held_place}
use Rattle.smp_call_steps.proofs.Steps.Frames.{Minds, leaves_others, Leads-kept}
use Rattle.smp_call_steps.proofs.Steps.Moving.{Queued≢Batch, else_by_place}
use Rattle.smp_call_steps.proofs.Steps.Own.{LinkIs-kept}
use Rattle.smp_call_steps.proofs.Steps.Passing.{passes_sync}
use Rattle.smp_call_steps.proofs.Steps.StepShows.{StepShows}
use Rattle.smp_call_steps.proofs.Steps.Turns.{holds_nothing, stands_at, hand_at, held_after, stands_after, hands_after}
use Rattle.smp_call_steps.proofs.State.Walks.{Path-kept, Path-push, Path-cut, absent_before, absent_after, apart_left, apart_across, reverses_all}
use Rattle.smp_call_steps.proofs.State.Walks.{walks_passed, reverse_goes, hand_of_reverse}
use Rattle.smp_call_steps.proofs.State.Batches.{apart_async}
use Rattle.smp_call_steps.specs.place
use Rattle.smp_call_steps.specs.handle

-- a list without a record, where a next word is stored
leads_else : (nexts : ℕ → ℕ) (id n link : ℕ) (calls : List Call) → IsAbsent id calls → Leads nexts link calls 0 → Leads (put nexts id n) link calls 0
leads_else nexts id n link calls absent l = search (Leads-kept, test_else, arith)

path_else : (nexts : ℕ → ℕ) (id n link : ℕ) (calls : List Call) (after : ℕ) → IsAbsent id calls → Path nexts link calls after
    → Path (put nexts id n) link calls after
path_else nexts id n link calls after absent l = search (Path-kept, test_else, arith)

-- the link after the newest call of a path is stored
path_to : (nexts : ℕ → ℕ) (n link : ℕ) (front : List Call) (newest : Call) (after : ℕ) → IsAbsent newest.id front → Path nexts link (front ++ newest ∷ []) after
    → Path (put nexts newest.id n) link (front ++ newest ∷ []) n
path_to nexts n link front newest after absent l = search (Path-push, path_else, Path-cut, test_here, arith)

module _ {a : CallState} {at : Word → ℕ} {control : ℕ → ControlValue} (me : ℕ) (s : Shows a at control) where
  -- the next word of a record of the own batch is stored
  relinked : (id n : ℕ) → a.place id ≡ place.Batch me → (c : ControlValue) → a.held me ≡ held_of c.stage
      → CallStands a.place (put_word at (Next id) n) (share_of a me) me c → HandIs c.stage (hands_in at me) →
      Shows a (put_word at (Next id) n) (put control me c)
  relinked id n here c held stands hand = record {
    held = held_after me s c held;
    stands = stands_after me s (put_word at (Next id) n) a.place (share_of a) c (λ _ _. refl)
        (λ cpu ne. leaves_others me id a.place a.place at (put_word at (Next id) n) (subst (Minds me id) (sym here) refl)
        (record { place_stays = λ _ _. refl; flags = λ _ _. refl; func = λ _ _. refl; info = λ _ _. refl; next = λ u f. test_else u id n (at (Next u)) f })
        cpu ne)
        stands;
    hands = hands_after me s c hand;
    placed = s.placed;
    written = s.written;
    chained = record {
      chain = λ cpu. Leads-kept (nexts_in at) (put (nexts_in at) id n) (IsPlaced a.place (place.Queued cpu))
          (λ call q. test_else call.id id n (at (Next call.id))
          (else_by_place a.place call.id id (place.Queued cpu) (place.Batch me) q.placed here (Queued≢Batch cpu me)))
          (at (Head cpu)) (a.queue cpu) 0 (s.placed.queued cpu) (s.chained.chain cpu);
    };
    links = record {
      held_links = λ cpu. LinkIs-kept (nexts_in at) (put (nexts_in at) id n) (a.held cpu) (a.linked cpu)
          (λ u h. test_else u id n (at (Next u)) (held_else cpu u h)) (s.links.held_links cpu);
    };
    noticed = s.noticed;
    recorded = s.recorded;
    tallied = s.tallied;
  }
    where
      held_else : (cpu u : ℕ) → Holds (a.held cpu) u → u ≢ id
      held_else cpu u h = else_by_place a.place u id place.Held (place.Batch me) (held_place s cpu u h) here (λ e. cc)

  -- the next word of the record that is reversed
  pub reverse_store_step : (newer : Option ℕ) (id : ℕ) (older : Option ℕ) → (control me).stage ≡ Some (Handle (handle.ReverseStore newer id older))
      → StepShows a at control me (Handle (handle.ReverseStore newer id older))
  reverse_store_step newer id older e =
      let was = stands_at me s (handle.ReverseStore newer id older) e in
      let call : Call = was.1.0 in
      let h = was.1.1 in
      let same : call.id ≡ id = was.1.2 in
      let held = holds_nothing me s (handle.ReverseStore newer id older) e in
      let n : ℕ = link_to newer in
      let c : ControlValue = record { stage = Some (Handle (reverse_on (Some id) older)); drain = record { calls = (control me).drain.calls + 1 } } in
      let all = reverses_all (IsPlaced a.place (place.Batch me)) h (s.placed.batched me) in
      let mine = every_right (IsPlaced a.place (place.Batch me)) h.older (call ∷ h.newer) all in
      let here : a.place id ≡ place.Batch me = ap a.place (sym same) ∙ mine.0.placed in
      let apart : IsApart (h.older ++ call ∷ h.newer) = subst IsApart h.whole h.apart in
      let before : IsAbsent id h.older = subst (λ (k : ℕ). IsAbsent k h.older) same (absent_before h.older call h.newer apart) in
      let after : IsAbsent id h.newer = subst (λ (k : ℕ). IsAbsent k h.newer) same (absent_after h.older call h.newer apart) in
      let linked : put (nexts_in at) id n call.id ≡ n = ap (put (nexts_in at) id n) same ∙ test_here id n (at (Next id)) in
      let up : Path (put (nexts_in at) id n) (id + 1) (call ∷ h.newer) 0 = (
        ap (λ (k : ℕ). k + 1) (sym same),
        subst (λ (k : ℕ). Path (put (nexts_in at) id n) k h.newer 0) (sym linked)
            (path_else (nexts_in at) id n (link_to newer) h.newer 0 after h.leads_up),
      ) in
      let counted : (control me).drain.calls + 1 ≡ length (call ∷ h.newer) = (let k = h.counted in omega arith) in
      subst (λ (x : Option Holding). Shows (links a me (Some n) x) (put_word at (Next id) n) (put control me c)) (sym held)
      (relinked id n here c held (
        was.0,
        reverse_goes (put (nexts_in at) id n) (share_of a me) (record { calls = (control me).drain.calls + 1 }) (Some id) older h.older (call ∷ h.newer) h.whole
            (leads_else (nexts_in at) id n (link_to older) h.older before h.leads_down) up h.apart counted h.batch h.running h.accepted,
      )
      (hand_of_reverse (Some id) older (at (Hand me)) (hand_at me s (handle.ReverseStore newer id older) e)))

  -- the next word of the last ASYNC record that was passed
  pub unlink_step : (walk : Walk) (last : ℕ) (call : Call) (next : Option ℕ) → (control me).stage ≡ Some (Handle (handle.Unlink walk last call next))
      → StepShows a at control me (Handle (handle.Unlink walk last call next))
  unlink_step walk last call next e =
      let was = stands_at me s (handle.Unlink walk last call next) e in
      let rest : List Call = was.1.0 in
      let h = was.1.1 in
      let held = holds_nothing me s (handle.Unlink walk last call next) e in
      let n : ℕ = link_to next in
      let c : ControlValue = record { stage = Some (Handle (handle.BeginSync walk call next)); drain = (control me).drain } in
      let end : EndsAt (Some last) (async_calls h.passed) = subst (λ (x : Option ℕ). EndsAt x (async_calls h.passed)) was.1.4 h.ends_at in
      let front : List Call = end.0 in
      let newest : Call = end.1 in
      let parts : async_calls h.passed ≡ front ++ newest ∷ [] = end.2 in
      let same : newest.id ≡ last = end.3 in
      let all = walks_passed (IsPlaced a.place (place.Batch me)) h (s.placed.batched me) in
      let mine : IsPlaced a.place (place.Batch me) newest =
      every_last (IsPlaced a.place (place.Batch me)) front newest (subst (λ (xs : List Call). AllPlaced a.place (place.Batch me) xs) parts all) in
      let here : a.place last ≡ place.Batch me = ap a.place (sym same) ∙ mine.placed in
      let apart : IsApart (h.passed ++ call ∷ rest) = subst IsApart h.whole h.apart in
      let asyncs : IsApart (front ++ newest ∷ []) = subst IsApart parts (apart_async h.passed (apart_left h.passed (call ∷ rest) apart)) in
      let across = every_async (λ x. IsAbsent x.id (call ∷ rest)) h.passed (apart_across h.passed (call ∷ rest) apart) in
      let away : IsAbsent newest.id (call ∷ rest) =
      every_last (λ x. IsAbsent x.id (call ∷ rest)) front newest
      (subst (λ (xs : List Call). AllByRecursion (λ x. IsAbsent x.id (call ∷ rest)) xs) parts across) in
      let gone : IsAbsent last rest = subst (λ (k : ℕ). IsAbsent k rest) same away.1 in
      let passed : Path (put (nexts_in at) last n) (link_to walk.first) (async_calls h.passed) n =
      subst (λ (xs : List Call). Path (put (nexts_in at) last n) (link_to walk.first) xs n) (sym parts)
      (subst (λ (k : ℕ). Path (put (nexts_in at) k n) (link_to walk.first) (front ++ newest ∷ []) n) same
      (path_to (nexts_in at) n (link_to walk.first) front newest (call.id + 1) (absent_before front newest [] asyncs)
      (subst (λ (xs : List Call). Path (nexts_in at) (link_to walk.first) xs (call.id + 1)) parts h.leads_here))) in
      let linked : put (nexts_in at) last n call.id ≡ link_to next =
      test_else call.id last n (at (Next call.id)) (subst (λ (k : ℕ). call.id ≢ k) same away.0) ∙ was.1.2 in
      let on : Path (put (nexts_in at) last n) (link_to next) rest 0 =
      path_else (nexts_in at) last n (link_to next) rest 0 gone (subst (λ (k : ℕ). Path (nexts_in at) k rest 0) was.1.2 h.leads_on.1) in
      subst (λ (x : Option Holding). Shows (links a me (Some n) x) (put_word at (Next last) n) (put control me c)) (sym held)
      (relinked last n here c held (
        was.0,
        (
          rest,
          passes_sync (nexts_in at) (put (nexts_in at) last n) (share_of a me)
              (control me).drain walk walk next call rest h was.1.3 passed h.ends_at on,
          linked,
        ),
      )
      (hand_at me s (handle.Unlink walk last call next) e))
