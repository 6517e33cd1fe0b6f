-- The place law after each kind of step, whatever words there are: a record is confirmed, a source locks, fills or gives up its own, a
-- call joins a queue, begins, is counted or ends.
use Rattle.std.proofs.Common.{◌≡◌, ◌≢◌, ℕ, true, false, cond, Option, Some, None, List, [], ◌∷◌, ◌++◌, ◌⊎◌, inl, sym, subst, refl, ap, ◌∙◌, arith}
use Rattle.std.proofs.Common.{true≢false}
use Rattle.std.proofs.lemmas.Bool.{cases_eq}
use Rattle.std.specs.List.{AllByRecursion}
use Rattle.smp_words.specs.Put.{put}
use Rattle.smp_words.specs.Size.{owner}
use Rattle.smp_call_steps.specs.{CallState, Holding, Running, Nothing, CountedCall, Placed, IsCall, IsThere, Holds, HasRecord, IsApart, AllPlaced}
use Rattle.smp_call_steps.specs.{locked_by, Call, RecPlace}
use Rattle.smp_words.proofs.Puts.{at_test, put_other, put_same}
use Rattle.smp_call_steps.proofs.Basics.Alls.{every, every_push}
use Rattle.smp_call_steps.proofs.State.Batches.{has_left, has_right}
use Rattle.smp_call_steps.proofs.Steps.Moving.{Batch≢Batch, Running≢Batch, Queued≢Batch, Batch≢Free}
use Rattle.smp_call_steps.proofs.Steps.Moving.{all_placed_still, all_placed_apart, placed_moved}
use Rattle.smp_call_steps.specs.place

-- at home: free, or held
abbrev pub IsHome : RecPlace → Type 0
IsHome p = (p ≡ place.Free) ⊎ (p ≡ place.Held)

pub away_queue : (cpu : ℕ) → IsHome (place.Queued cpu) → ⊥
away_queue cpu x = search arith

pub away_batch : (cpu : ℕ) → IsHome (place.Batch cpu) → ⊥
away_batch cpu x = search arith

pub away_running : (cpu : ℕ) → IsHome (place.Running cpu) → ⊥
away_running cpu x = search arith

-- a source moves its own record, which is free or held by it, between these two places
pub record OwnMove (a : CallState) (me id : ℕ) (places' : ℕ → RecPlace) (held' : ℕ → Option Holding) : Type 0 where
  pub place_stays : (u : ℕ) → u ≢ id → places' u ≡ a.place u
  pub owned : owner id ≡ me
  pub before : IsHome (a.place id)
  pub after : (places' id ≡ place.Free) ⊎ ((places' id ≡ place.Held) × Holds (held' me) id)
  pub mine_only : (u : ℕ) → Holds (a.held me) u → u ≡ id
  pub others_held : (cpu : ℕ) → cpu ≢ me → held' cpu ≡ a.held cpu

-- a call that is counted for this CPU
abbrev pub counted_hold : Call → ℕ → Option Holding
counted_hold call to = Some (record { call = call; to = to; is_counted = true })

held_same : (held : Option Holding) (call : Call) (to u : ℕ) → held ≡ counted_hold call to → Holds held u → u ≡ call.id
held_same x call to u e h = search arith

IsApart-push : (calls : List Call) (new : Call) → AllByRecursion (λ call. new.id ≢ call.id) calls → IsApart calls → IsApart (calls ++ new ∷ [])
IsApart-push [] new h a = (tt, tt)
IsApart-push (call ∷ rest) new h a = (every_push (λ c. c.id ≢ call.id) rest new a.0 h.0, IsApart-push rest new h.1 a.1)

-- of a batch, the records but the front one
has_rest : (u : ℕ) (call : Call) (rest : List Call) → u ≢ call.id → HasRecord u (call ∷ rest) → HasRecord u rest
has_rest u call rest ne y = search arith

module _ (a : CallState) (p : Placed a.place a.held a.queue a.batch a.running a.confirmed) (me : ℕ) where
  -- a record that is free is confirmed
  pub placed_confirmed : (id : ℕ) → a.place id ≡ place.Free
      → Placed a.place a.held a.queue a.batch a.running (put a.confirmed me (put (a.confirmed me) id true))
  placed_confirmed id free = search (at_test, arith)

  -- a source moves its own record
  module _ (id : ℕ) (places' : ℕ → RecPlace) (held' : ℕ → Option Holding) (o : OwnMove a me id places' held') where
    pub placed_own : Placed places' held' a.queue a.batch a.running a.confirmed
    placed_own = search (away_queue, away_batch, away_running, cases_eq, every, arith)

  -- the held call joins a queue
  module _ (to : ℕ) (call : Call) (own : owner call.id ≡ me) (holds : a.held me ≡ counted_hold call to) (is_call : IsCall call)
      (placed : a.place call.id ≡ place.Held) where
    not_held : (q : RecPlace) (u : ℕ) → a.place u ≡ q → q ≢ place.Held → u ≢ call.id
    not_held q u e ne f = ne (sym e ∙ (ap a.place f ∙ placed))

    queued_else : (cpu : ℕ) → place.Queued cpu ≢ place.Held
    queued_else cpu e = cc

    batch_else : (cpu : ℕ) → place.Batch cpu ≢ place.Held
    batch_else cpu e = cc

    running_else : (cpu : ℕ) → place.Running cpu ≢ place.Held
    running_else cpu e = cc

    still : (q : RecPlace) → q ≢ place.Held → (calls : List Call) → AllPlaced a.place q calls → AllPlaced (put a.place call.id (place.Queued to)) q calls
    still q ne = search (every, put_other, not_held, arith)

    there_others : (u : ℕ) (q : RecPlace) → u ≢ call.id → IsThere a.held a.queue a.batch a.running u q
        → IsThere (put a.held me None) (put a.queue to (a.queue to ++ call ∷ [])) a.batch a.running u q
    there_others u y ne h = search (at_test, held_same, has_left, arith)

    there_this : IsThere (put a.held me None) (put a.queue to (a.queue to ++ call ∷ [])) a.batch a.running call.id (place.Queued to)
    there_this = rw (put_same a.queue to (a.queue to ++ call ∷ [])) (has_right call.id (a.queue to) (call ∷ []) (inl refl))

    pub placed_appended : Placed (put a.place call.id (place.Queued to)) (put a.held me None) (put a.queue to (a.queue to ++ call ∷ [])) a.batch a.running
        (put a.confirmed me (put (a.confirmed me) call.id false))
    placed_appended = search (
      at_test,
      every_push,
      still,
      queued_else,
      put_same,
      batch_else,
      running_else,
      IsApart-push,
      every,
      not_held,
      cases_eq,
      there_this,
      put_other,
      there_others,
      true≢false,
      held_same,
      arith,
    )

  -- the front of the batch goes to another place, and runs
  module _ (call : Call) (rest : List Call) (front : a.batch me ≡ call ∷ rest) where
    pub front_placed : AllPlaced a.place (place.Batch me) (call ∷ rest)
    front_placed = subst (λ (xs : List Call). AllPlaced a.place (place.Batch me) xs) front (p.batched me)

    pub front_apart : IsApart (call ∷ rest)
    front_apart = subst IsApart front (p.batch_apart me)

    pub front_here : a.place call.id ≡ place.Batch me
    front_here = front_placed.0.placed

    pub placed_begun : (to : RecPlace) (r : Running) → a.running me ≡ Nothing → AllPlaced (put a.place call.id to) (place.Running me) (locked_by r)
        → IsThere a.held a.queue (put a.batch me rest) (put a.running me r) call.id to
        → Placed (put a.place call.id to) a.held a.queue (put a.batch me rest) (put a.running me r) a.confirmed
    placed_begun to r idle runs there = placed_moved a.place call.id (place.Batch me) to front_here a.held a.queue a.batch (put a.batch me rest) a.running
        (put a.running me r) a.confirmed
        (Batch≢Free me) (λ cpu. Queued≢Batch cpu me) p
        (λ cpu. at_test cpu me (λ b. AllPlaced (put a.place call.id to) (place.Batch cpu) (cond b rest (a.batch cpu)))
        (λ e. subst (λ (k : ℕ). AllPlaced (put a.place call.id to) (place.Batch k) rest) (sym e)
        (all_placed_apart a.place call.id (place.Batch me) to front_here (place.Batch me) rest front_apart.0 front_placed.1))
        (λ ne. all_placed_still a.place call.id (place.Batch me) to front_here (place.Batch cpu) (a.batch cpu) (Batch≢Batch cpu me ne) (p.batched cpu)))
        (λ cpu. at_test cpu me (λ b. AllPlaced (put a.place call.id to) (place.Running cpu) (locked_by (cond b r (a.running cpu))))
        (λ e. subst (λ (k : ℕ). AllPlaced (put a.place call.id to) (place.Running k) (locked_by r)) (sym e) runs)
        (λ _. all_placed_still a.place call.id (place.Batch me) to front_here (place.Running cpu) (locked_by (a.running cpu)) (Running≢Batch cpu me)
        (p.runs cpu)))
        (λ cpu. at_test cpu me (λ b. IsApart (cond b rest (a.batch cpu))) (λ _. front_apart.1) (λ _. p.batch_apart cpu))
        there
        (λ u cpu ne. at_test cpu me (λ b. HasRecord u (a.batch cpu) → HasRecord u (cond b rest (a.batch cpu)))
        (λ e h. has_rest u call rest ne (subst (HasRecord u) (ap a.batch e ∙ front) h)) (λ _ h. h))
        (λ u cpu ne. at_test cpu me (λ b. HasRecord u (locked_by (a.running cpu)) → HasRecord u (locked_by (cond b r (a.running cpu))))
        (λ e h. absurd (subst (λ (x : Running). HasRecord u (locked_by x)) (ap a.running e ∙ idle) h)) (λ _ h. h))

  -- a call is counted, or an ASYNC call ends: the same records are locked
  pub placed_counted : (r : Running) → locked_by r ≡ locked_by (a.running me) → Placed a.place a.held a.queue a.batch (put a.running me r) a.confirmed
  placed_counted r locked = search (at_test, arith)

  -- a SYNC call that is counted ends, and its record is free
  module _ (call : Call) (running : a.running me ≡ CountedCall call) where
    running_placed : AllPlaced a.place (place.Running me) (call ∷ [])
    running_placed = subst (λ (x : Running). AllPlaced a.place (place.Running me) (locked_by x)) running (p.runs me)

    pub running_here : a.place call.id ≡ place.Running me
    running_here = running_placed.0.placed

    pub placed_ended : Placed (put a.place call.id place.Free) a.held a.queue a.batch (put a.running me Nothing) a.confirmed
    placed_ended = search (placed_moved, running_here, all_placed_still, at_test, arith)
