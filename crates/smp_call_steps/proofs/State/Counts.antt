-- The calls by a confirmed record have all run, or run now.
use Rattle.std.proofs.Common.{◌≡◌, ◌≢◌, ℕ, ◌+◌, ◌==◌, true, cond, List, [], ◌∷◌, ◌++◌, refl, ap, ◌∙◌, arith}
use Rattle.std.proofs.lemmas.Bool.{ne_eqb}
use Rattle.std.proofs.lemmas.List.Sums.{sum_by-append}
use Rattle.smp_words.specs.Size.{owner}
use Rattle.smp_call_steps.specs.{CallState, Running, calls_by, batches, async_call, ConfirmedCallsRan, orders, running_call, if_sync, if_async}
use Rattle.smp_call_steps.specs.{sync_calls, async_calls, order, Holds, locked_by, AllPlaced, ControlValue}
use Rattle.smp_call_steps.specs.{Call, Class, Word, RecPlace}
use Rattle.smp_call_steps.specs.Shows.{Shows}
use Rattle.smp_call_steps.specs.place

pub by-append : (id : ℕ) (xs ys : List Call) → calls_by id (xs ++ ys) ≡ calls_by id xs + calls_by id ys
by-append id xs ys = sum_by-append (λ call. cond (call.id == id) 1 0) xs ys

by-class : (id : ℕ) (class : Class) (call : Call) → calls_by id (if_sync class call) + calls_by id (if_async class call) ≡ calls_by id (call ∷ [])
by-class id x call = search arith

by-parts : (id : ℕ) (calls : List Call) → calls_by id (sync_calls calls) + calls_by id (async_calls calls) ≡ calls_by id calls
by-parts id [] = refl
by-parts id (call ∷ rest) =
    let one = by-class id call.class call in
    let r = by-parts id rest in
    let a : calls_by id (sync_calls (call ∷ rest)) ≡ calls_by id (if_sync call.class call) + calls_by id (sync_calls rest) =
    by-append id (if_sync call.class call) (sync_calls rest) in
    let b : calls_by id (async_calls (call ∷ rest)) ≡ calls_by id (if_async call.class call) + calls_by id (async_calls rest) =
    by-append id (if_async call.class call) (async_calls rest) in
    let w : calls_by id (call ∷ rest) ≡ calls_by id (call ∷ []) + calls_by id rest = by-append id (call ∷ []) rest in
    omega arith

-- the drain order has the calls of its batch
by-order : (id : ℕ) (calls : List Call) → calls_by id (order calls) ≡ calls_by id calls
by-order id calls = by-append id (sync_calls calls) (async_calls calls) ∙ by-parts id calls

by-orders : (id : ℕ) (taken : List (List Call)) → calls_by id (orders taken) ≡ calls_by id (batches taken)
by-orders id [] = refl
by-orders id (batch ∷ rest) = search (by-order, by-append, by-orders id rest, arith)

-- a list of calls whose records are elsewhere has none by this record
pub none_by : (places : ℕ → RecPlace) (p : RecPlace) (id : ℕ) (calls : List Call) → places id ≢ p → AllPlaced places p calls → calls_by id calls ≡ 0
none_by places p id [] ne h = refl
none_by places p id (call ∷ rest) ne h = search (ne_eqb, none_by places p id rest ne h.1, arith)

-- the calls that run, but for an ASYNC one, keep their record locked
by-running : (id : ℕ) (running : Running) → calls_by id (running_call running) ≡ calls_by id (locked_by running) + calls_by id (async_call running)
by-running id x = search arith

-- a record that its source holds is at that place

-- a record that is free, or held
pub record IsOut (p : RecPlace) : Type 0 where
  pub queue : (cpu : ℕ) → p ≢ place.Queued cpu
  pub batch : (cpu : ℕ) → p ≢ place.Batch cpu
  pub running : (cpu : ℕ) → p ≢ place.Running cpu

module _ {a : CallState} {at : Word → ℕ} {control : ℕ → ControlValue} (s : Shows a at control) where
  pub held_place : (source id : ℕ) → Holds (a.held source) id → a.place id ≡ place.Held
  held_place source id h = search arith

  pub confirmed_out : (id : ℕ) → a.confirmed (owner id) id ≡ true → IsOut (a.place id)
  confirmed_out id e = search (held_place, arith)

  pub confirmed_calls_ran : ConfirmedCallsRan a
  confirmed_calls_ran id cpu e =
      let out = confirmed_out id e in
      let q = none_by a.place (place.Queued cpu) id (a.queue cpu) (out.queue cpu) (s.placed.queued cpu) in
      let b = none_by a.place (place.Batch cpu) id (a.batch cpu) (out.batch cpu) (s.placed.batched cpu) in
      let r = none_by a.place (place.Running cpu) id (locked_by (a.running cpu)) (out.running cpu) (s.placed.runs cpu) in
      let runs = by-running id (a.running cpu) in
      let all : calls_by id (a.ran cpu ++ (running_call (a.running cpu) ++ a.batch cpu)) ≡ calls_by id (orders (a.taken cpu)) =
      ap (calls_by id) (s.recorded.drained cpu) in
      search (by-orders, by-append, arith)
