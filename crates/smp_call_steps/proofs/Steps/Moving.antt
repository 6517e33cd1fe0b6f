-- One record goes from one place to another: the place law, the words and the links after it.
use Rattle.std.proofs.Common.{arith, ◌≡◌, ◌≢◌, ℕ, Bool, cond, Option, List, sym, subst, ap, ◌∙◌}
use Rattle.std.specs.List.{AllByRecursion}
use Rattle.smp_words.specs.Put.{put}
use Rattle.smp_call_steps.specs.{Holding, Running, IsAbsent, IsApart, HasRecord, IsPlaced, IsThere, Placed, locked_by, AllPlaced, FlagsShow, IsWritten}
use Rattle.smp_call_steps.specs.{Written, Call, RecPlace}
use Rattle.smp_words.proofs.Puts.{at_test, test_else}
use Rattle.smp_call_steps.proofs.Basics.Alls.{every, every_both}
use Rattle.smp_call_steps.specs.place

-- places that are not one

pub Batch≢Batch : (x y : ℕ) → x ≢ y → place.Batch x ≢ place.Batch y
Batch≢Batch x y ne e = ne (let f : x ≡ y = cc in f)

pub Running≢Running : (x y : ℕ) → x ≢ y → place.Running x ≢ place.Running y
Running≢Running x y ne e = ne (let f : x ≡ y = cc in f)

pub Running≢Batch : (x y : ℕ) → place.Running x ≢ place.Batch y
Running≢Batch x y e = cc

pub Batch≢Running : (x y : ℕ) → place.Batch x ≢ place.Running y
Batch≢Running x y e = cc

pub Queued≢Batch : (x y : ℕ) → place.Queued x ≢ place.Batch y
Queued≢Batch x y e = cc

pub Queued≢Running : (x y : ℕ) → place.Queued x ≢ place.Running y
Queued≢Running x y e = cc

pub Batch≢Free : (x : ℕ) → place.Batch x ≢ place.Free
Batch≢Free x e = cc

-- at two places, so not one record
pub else_by_place : (places : ℕ → RecPlace) (u id : ℕ) (p q : RecPlace) → places u ≡ p → places id ≡ q → p ≢ q → u ≢ id
else_by_place places u id p q there here ne e = ne (sym there ∙ (ap places e ∙ here))

-- where a record is said to be, once another has moved
there_still : (held : ℕ → Option Holding) (queue batch batch' : ℕ → List Call) (running running' : ℕ → Running) (u : ℕ) (p : RecPlace) →
    ((cpu : ℕ) → HasRecord u (batch cpu) → HasRecord u (batch' cpu))
    → ((cpu : ℕ) → HasRecord u (locked_by (running cpu)) → HasRecord u (locked_by (running' cpu))) →
    IsThere held queue batch running u p → IsThere held queue batch' running' u p
there_still held queue batch batch' running running' u y in_batch runs h = search arith

module _ (places : ℕ → RecPlace) (id : ℕ) (from to : RecPlace) (here : places id ≡ from) where
  pub place_else : (u : ℕ) → u ≢ id → put places id to u ≡ places u
  place_else u ne = test_else u id to (places u) ne

  -- a call by another record is where it was
  pub placed_still : (p : RecPlace) (call : Call) → call.id ≢ id → IsPlaced places p call → IsPlaced (put places id to) p call
  placed_still p call ne h = record { is_call = h.is_call; placed = place_else call.id ne ∙ h.placed }

  -- calls at another place are where they were
  pub all_placed_still : (p : RecPlace) (calls : List Call) → p ≢ from → AllPlaced places p calls → AllPlaced (put places id to) p calls
  all_placed_still p calls ne h = search (every, placed_still, else_by_place, arith)

  -- and so are calls by other records
  pub all_placed_apart : (p : RecPlace) (calls : List Call) → IsAbsent id calls → AllPlaced places p calls → AllPlaced (put places id to) p calls
  all_placed_apart p calls absent h = search (every_both, placed_still, arith)

  module _ (held : ℕ → Option Holding) (queue batch batch' : ℕ → List Call) (running running' : ℕ → Running) (confirmed : ℕ → ℕ → Bool) where
    -- the place law after a record has left a batch or the call that runs
    pub placed_moved : from ≢ place.Free → ((cpu : ℕ) → place.Queued cpu ≢ from) → Placed places held queue batch running confirmed →
        ((cpu : ℕ) → AllPlaced (put places id to) (place.Batch cpu) (batch' cpu)) →
        ((cpu : ℕ) → AllPlaced (put places id to) (place.Running cpu) (locked_by (running' cpu))) →
        ((cpu : ℕ) → IsApart (batch' cpu)) →
        IsThere held queue batch' running' id to →
        ((u cpu : ℕ) → u ≢ id → HasRecord u (batch cpu) → HasRecord u (batch' cpu)) →
        ((u cpu : ℕ) → u ≢ id → HasRecord u (locked_by (running cpu)) → HasRecord u (locked_by (running' cpu))) →
        Placed (put places id to) held queue batch' running' confirmed
    placed_moved taken unqueued p batched runs apart there in_batch in_run = record {
      queued = λ cpu. all_placed_still (place.Queued cpu) (queue cpu) (unqueued cpu) (p.queued cpu);
      batched = batched;
      runs = runs;
      queue_apart = p.queue_apart;
      batch_apart = apart;
      is_there = λ u. at_test u id (λ b. IsThere held queue batch' running' u (cond b to (places u)))
          (λ e. subst (λ (k : ℕ). IsThere held queue batch' running' k to) (sym e) there)
          (λ ne. there_still held queue batch batch' running running' u (places u) (λ cpu. in_batch u cpu ne) (λ cpu. in_run u cpu ne) (p.is_there u));
      settled = search (place_else, arith);
    }

  module _ (flags flags' funcs infos : ℕ → ℕ) (same : (u : ℕ) → u ≢ id → flags' u ≡ flags u) where
    -- the words of calls at another place are what they were
    pub all_written_still : (p : RecPlace) (calls : List Call) → p ≢ from → AllPlaced places p calls → AllByRecursion (IsWritten flags funcs infos) calls
        → AllByRecursion (IsWritten flags' funcs infos) calls
    all_written_still p calls ne h k = search (every_both, else_by_place, arith)

    -- and so are those of calls by other records
    pub all_written_apart : (calls : List Call) → IsAbsent id calls → AllByRecursion (IsWritten flags funcs infos) calls
        → AllByRecursion (IsWritten flags' funcs infos) calls
    all_written_apart calls absent k = search (every_both, arith)

    -- the words after it
    pub written_moved : (held : ℕ → Option Holding) (queue batch batch' : ℕ → List Call) (running running' : ℕ → Running) (confirmed : ℕ → ℕ → Bool)
        → ((cpu : ℕ) → place.Queued cpu ≢ from) →
        Placed places held queue batch running confirmed → Written flags funcs infos places queue batch running → FlagsShow to (flags' id) →
        ((cpu : ℕ) → AllByRecursion (IsWritten flags' funcs infos) (batch' cpu)) →
        ((cpu : ℕ) → AllByRecursion (IsWritten flags' funcs infos) (locked_by (running' cpu))) →
        Written flags' funcs infos (put places id to) queue batch' running'
    written_moved held queue batch batch' running running' confirmed unqueued p w lock batched runs = search (at_test, all_written_still, arith)
