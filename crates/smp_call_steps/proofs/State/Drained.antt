-- Where no record is locked and nobody handles calls, each call that was queued has run, once.
use Rattle.std.proofs.Common.{◌≡◌, ◌≢◌, ℕ, ◌+◌, ◌%◌, ◌^◌, Bool, cond, Option, Some, None, List, [], ◌∷◌, ◌++◌, length, sym, refl, ap, ◌∙◌, arith}
use Rattle.std.proofs.lemmas.List.{append-nil}
use Rattle.smp_words.specs.Size.{owner}
use Rattle.smp_call_steps.specs.{CallState, Holding, Recorded, Marked, marked, others_marked, batches_marked, marked_from, sent_to, calls_from, orders}
use Rattle.smp_call_steps.specs.{sync_calls, async_calls, order, Holds, AllPlaced, FlagsShow, Share, share_of, Rests}
use Rattle.smp_call_steps.specs.{StandsAt, HandIs, DrainValue, Call, Word, Hand, Queued, Ran, Flags, RecPlace, Stage}
use Rattle.smp_call_steps.specs.Reached.{ArePlaced, AreTallied}
use Rattle.smp_call_steps.specs.place

-- how many calls of a source a list has

length-kept : {A : Type 0} (b : Bool) (x : A) (rest : List A) → length (cond b (x ∷ rest) rest) ≡ cond b 1 0 + length rest
length-kept x y rest = search arith

calls_from-append : (source : ℕ) (xs ys : List Call) → length (calls_from source (xs ++ ys)) ≡ length (calls_from source xs) + length (calls_from source ys)
calls_from-append source [] ys = omega arith
calls_from-append source (x ∷ xs) ys = search (length-kept, calls_from-append source xs ys, arith)

marked_from-append : (source : ℕ) (xs ys : List Marked)
    → length (marked_from source (xs ++ ys)) ≡ length (marked_from source xs) + length (marked_from source ys)
marked_from-append source [] ys = omega arith
marked_from-append source (x ∷ xs) ys = search (length-kept, marked_from-append source xs ys, arith)

-- marks are no calls

others_from : (source : ℕ) (calls : List Call) → length (marked_from source (others_marked calls)) ≡ length (calls_from source calls)
others_from source [] = refl
others_from source (call ∷ rest) = search (length-kept, others_from source rest, arith)

all_from : (source : ℕ) (calls : List Call) → length (marked_from source (marked calls)) ≡ length (calls_from source calls)
all_from source x = search (length-kept, others_from, arith)

-- the drain order has the calls of its batch

parts_from : (source : ℕ) (calls : List Call) → length (calls_from source (sync_calls calls)) + length (calls_from source (async_calls calls))
    ≡ length (calls_from source calls)
parts_from source [] = refl
parts_from source (call ∷ rest) = search (calls_from-append, parts_from source rest, arith)

order_from : (source : ℕ) (calls : List Call) → length (calls_from source (order calls)) ≡ length (calls_from source calls)
order_from source calls = calls_from-append source (sync_calls calls) (async_calls calls) ∙ parts_from source calls

batches_from : (source : ℕ) (taken : List (List Call)) → length (marked_from source (batches_marked taken)) ≡ length (calls_from source (orders taken))
batches_from source [] = refl
batches_from source (batch ∷ rest) = search (marked_from-append, calls_from-append, all_from, order_from, batches_from source rest, arith)

-- no record is locked, and nobody is inside handle
pub record Still (at : Word → ℕ) : Type 0 where
  pub unlocked : (id : ℕ) → at (Flags id) % 2 ≢ 1
  pub outside : (cpu : ℕ) → at (Hand cpu) ≡ 0

unlocked_free : (p : RecPlace) (flags : ℕ) → FlagsShow p flags → flags % 2 ≢ 1 → p ≡ place.Free
unlocked_free x flags h ne = search arith

none_placed : (places : ℕ → RecPlace) (p : RecPlace) (calls : List Call) → p ≢ place.Free → ((id : ℕ) → places id ≡ place.Free) → AllPlaced places p calls
    → calls ≡ []
none_placed places p [] ne free h = refl
none_placed places p (call ∷ rest) ne free h = absurd (ne (sym h.0.placed ∙ free call.id))

none_held : (held : Option Holding) → ((id : ℕ) → Holds held id → ⊥) → held ≡ None
none_held None h = refl
none_held (Some x) h = absurd (h x.call.id refl)

-- nothing is taken and nothing runs, where the handling word is 0
pub rests_at : (places : ℕ → RecPlace) (at : Word → ℕ) (s : Share) (d : DrainValue) (me hand : ℕ) (stage : Option Stage) → hand ≡ 0 → HandIs stage hand
    → StandsAt places at s d me stage → Rests s
rests_at places at s d me hand x z h k = search arith

-- the laws of calls, and what the words say of them: each flags word, each tally, and each handling word
pub record HasLaws (a : CallState) (at : Word → ℕ) : Type 0 where
  pub placed : ArePlaced a
  pub recorded : Recorded a.sent a.taken a.queue a.ran a.running a.batch
  pub owns : (cpu id : ℕ) → Holds (a.held cpu) id → owner id ≡ cpu
  pub home : (cpu id : ℕ) → Holds (a.held cpu) id → a.place id ≡ place.Held
  pub locks : (id : ℕ) → FlagsShow (a.place id) (at (Flags id))
  pub tallied : AreTallied a at
  pub idle : (cpu : ℕ) → at (Hand cpu) ≡ 0 → Rests (share_of a cpu)

module _ {a : CallState} {at : Word → ℕ} (s : HasLaws a at) (still : Still at) where
  free : (id : ℕ) → a.place id ≡ place.Free
  free id = unlocked_free (a.place id) (at (Flags id)) (s.locks id) (still.unlocked id)

  nothing_held : (cpu : ℕ) → a.held cpu ≡ None
  nothing_held cpu = none_held (a.held cpu) (λ id h. let e = sym (s.home cpu id h) ∙ free id in cc)

  -- the tally words count the calls that were sent and those that ran

  pub still_queued : (source cpu : ℕ) → at (Queued source cpu) ≡ length (sent_to cpu (a.sent source)) % 2 ^ 64
  still_queued source cpu = search (nothing_held, arith)

  pub still_ran : (cpu source : ℕ) → at (Ran cpu source) ≡ length (calls_from source (a.ran cpu)) % 2 ^ 64
  still_ran cpu source = search (append-nil, arith)

  -- each CPU has run what it has taken, in drain order
  pub all_ran : (cpu : ℕ) → a.ran cpu ≡ orders (a.taken cpu)
  all_ran cpu = search (append-nil, arith)

  -- and has taken what was sent to it
  pub all_sent : (source cpu : ℕ) → sent_to cpu (a.sent source) ≡ marked_from source (batches_marked (a.taken cpu))
  all_sent source cpu = search (append-nil, arith)

  -- as many calls of each source as it has queued for a CPU have run there
  pub as_many_ran : (source cpu : ℕ) → length (sent_to cpu (a.sent source)) ≡ length (calls_from source (a.ran cpu))
  as_many_ran source cpu = search (all_sent, batches_from, all_ran, arith)

  pub equal_tallies : (source cpu : ℕ) → at (Queued source cpu) ≡ at (Ran cpu source)
  equal_tallies source cpu = still_queued source cpu ∙ ap (λ (n : ℕ). n % 2 ^ 64) (as_many_ran source cpu) ∙ sym (still_ran cpu source)
