-- The headline, of calls.
use Rattle.std.proofs.Common.{◌≡◌, ◌≢◌, ℕ, ◌%◌, Bool, true, false, cond, List, [], ◌∷◌, ◌++◌, IsPermutation}
use Rattle.std.proofs.Common.{sym, subst, ap, ◌∙◌, append_assoc, arith}
use Rattle.std.proofs.lemmas.List.Sorted.{IsPermutation-refl, IsPermutation-sym, IsPermutation-cons, IsPermutation-trans}
use Rattle.std.proofs.lemmas.List.Sorted.{IsPermutation-append, IsPermutation-middle}
use Rattle.smp_call_steps.specs.{CallState, ControlValue, Call, Class, Word, RecPlace, IsThere, FlagsShow, flags_in, batches, orders, calls_from}
use Rattle.smp_call_steps.specs.{calls_to, if_sync, if_async, sync_calls, async_calls, order, of_class, IsPrefix}
use Rattle.smp_call_steps.specs.{running_call, history_of, Recorded}
use Rattle.smp_call_steps.specs.Headline.{IsAt, HasOnePlace, InOnePlace, begun, waiting, joined, RunOnce, RunInOrder, IsDrained, RunEqualQueued}
use Rattle.smp_call_steps.specs.Shows.{Shows}
use Rattle.smp_call_steps.proofs.Promises.{from_class, from-append, only_there, unmarked, unmarked_sent, unmarked_from, unmarked_history, unmarked_batches}
use Rattle.smp_call_steps.proofs.State.Drained.{HasLaws, Still, all_ran, all_sent, equal_tallies, rests_at}
use Rattle.smp_call_steps.proofs.State.Counts.{held_place}
use Rattle.smp_call_steps.proofs.State.QueueOrder.{of_class-append, orders_keep}
use Rattle.smp_call_steps.proofs.Steps.Own.{holder_owns}
use Rattle.smp_call_steps.specs.place

-- where a record is

unlocked_free : (p : RecPlace) (flags : ℕ) → FlagsShow p flags → flags ≡ 0 → p ≡ place.Free
unlocked_free x flags h e = search arith

pub locked_flags : (p : RecPlace) (flags : ℕ) → FlagsShow p flags → p ≢ place.Free → flags % 2 ≡ 1
locked_flags x flags h ne = search arith

-- calls that words and stages show have these laws
pub shown_laws : {a : CallState} {at : Word → ℕ} {control : ℕ → ControlValue} → Shows a at control → HasLaws a at
shown_laws {a} {at} {control} s = search (holder_owns, held_place, rests_at, arith)

module _ {a : CallState} {at : Word → ℕ} (s : HasLaws a at) where
  here : (id : ℕ) (p : RecPlace) → FlagsShow p (flags_in at id) → IsThere a.held a.queue a.batch a.running id p → IsAt a (flags_in at) id p
  here id x f h = search arith

  only : (id : ℕ) (p : RecPlace) → IsAt a (flags_in at) id p → p ≡ a.place id
  only id place.Free h = sym (unlocked_free (a.place id) (flags_in at id) (s.locks id) h)
  only id place.Held h = sym (only_there a s.placed s.home id place.Held (λ e. cc) h)
  only id (place.Queued cpu) h = sym (only_there a s.placed s.home id (place.Queued cpu) (λ e. cc) h)
  only id (place.Batch cpu) h = sym (only_there a s.placed s.home id (place.Batch cpu) (λ e. cc) h)
  only id (place.Running cpu) h = sym (only_there a s.placed s.home id (place.Running cpu) (λ e. cc) h)

  one_place : (id : ℕ) → HasOnePlace a (flags_in at) id
  one_place id = search (here, only, locked_flags, arith)

  pub in_one_place : InOnePlace a at
  in_one_place = record { each = one_place; queue_apart = s.placed.queue_apart; batch_apart = s.placed.batch_apart }

-- what a drain order has of a source

module _ (source : ℕ) where
  abbrev from : List Call → List Call
  from calls = calls_from source calls

  first : (b : Bool) (x : Call) (xs ys : List Call) → IsPermutation xs ys → IsPermutation (cond b (x ∷ xs) xs) (cond b (x ∷ ys) ys)
  first x y xs ys h = search (IsPermutation-cons, arith)

  later : (b : Bool) (x : Call) (xs us vs : List Call) → IsPermutation xs (us ++ vs) → IsPermutation (cond b (x ∷ xs) xs) (us ++ cond b (x ∷ vs) vs)
  later true x xs us vs h = IsPermutation-trans _ _ _ (IsPermutation-cons x xs (us ++ vs) h) (IsPermutation-sym _ _ (IsPermutation-middle us x vs))
  later false x xs us vs h = h

  by_class : (class : Class) (x : Call) (rest : List Call) → IsPermutation (from rest) (from (order rest))
      → IsPermutation (from (x ∷ rest)) (from ((if_sync class x ++ sync_calls rest) ++ (if_async class x ++ async_calls rest)))
  by_class x y rest h = search (first, from-append, later, arith)

  from_order : (calls : List Call) → IsPermutation (from calls) (from (order calls))
  from_order [] = IsPermutation-refl []
  from_order (x ∷ rest) = by_class x.class x rest (from_order rest)

  from_orders : (taken : List (List Call)) → IsPermutation (from (batches taken)) (from (orders taken))
  from_orders [] = IsPermutation-refl []
  from_orders (batch ∷ rest) = subst (λ xs. IsPermutation xs (from (orders (batch ∷ rest)))) (sym (from-append source batch (batches rest)))
      (subst (IsPermutation (from batch ++ from (batches rest))) (sym (from-append source (order batch) (orders rest)))
      (IsPermutation-append (from batch) (from (order batch)) (from (batches rest)) (from (orders rest)) (from_order batch) (from_orders rest)))

-- by the queue history alone
module _ (a : CallState) (r : Recorded a.sent a.taken a.queue a.ran a.running a.batch) where
  -- what joined a queue is what was sent
  joins : (source cpu : ℕ) → calls_from source (joined a cpu) ≡ calls_to cpu (a.sent source)
  joins source cpu = sym (sym (unmarked_sent cpu (a.sent source)) ∙ (ap unmarked (r.in_order source cpu) ∙
      (unmarked_from source (history_of (a.taken cpu) (a.queue cpu)) ∙ ap (calls_from source) (unmarked_history (a.taken cpu) (a.queue cpu)))))

  -- and it is, in drain order, what has begun and what waits
  parts : (cpu : ℕ) → orders (a.taken cpu) ++ a.queue cpu ≡ begun a cpu ++ waiting a cpu
  parts cpu = search (append_assoc, arith)

  pub once_recorded : RunOnce a
  once_recorded source cpu =
      let from : List Call → List Call = calls_from source in
      let apart : from (joined a cpu) ≡ from (batches (a.taken cpu)) ++ from (a.queue cpu) = from-append source (batches (a.taken cpu)) (a.queue cpu) in
      let whole : from (orders (a.taken cpu)) ++ from (a.queue cpu) ≡ from (begun a cpu ++ waiting a cpu) =
      sym (from-append source (orders (a.taken cpu)) (a.queue cpu)) ∙ ap from (parts cpu) in
      subst (λ xs. IsPermutation xs (from (begun a cpu ++ waiting a cpu))) (sym apart ∙ joins source cpu)
      (subst (IsPermutation (from (batches (a.taken cpu)) ++ from (a.queue cpu))) whole
      (IsPermutation-append (from (batches (a.taken cpu))) (from (orders (a.taken cpu))) (from (a.queue cpu)) (from (a.queue cpu))
      (from_orders source (a.taken cpu)) (IsPermutation-refl (from (a.queue cpu)))))

  begins : (cpu : ℕ) (class : Class) → IsPrefix (of_class class (begun a cpu)) (of_class class (joined a cpu))
  begins cpu class =
      let of : List Call → List Call = of_class class in
      let run : List Call = running_call (a.running cpu) in
      let taken : of (batches (a.taken cpu)) ≡ of (begun a cpu) ++ of (a.batch cpu) =
      sym (orders_keep class (a.taken cpu)) ∙ (ap of (sym (r.drained cpu) ∙ sym (append_assoc (a.ran cpu) run (a.batch cpu)))
      ∙ of_class-append class (begun a cpu) (a.batch cpu)) in (
        of (a.batch cpu) ++ of (a.queue cpu),
        of_class-append class (batches (a.taken cpu)) (a.queue cpu) ∙ (ap (λ xs. xs ++ of (a.queue cpu)) taken
            ∙ append_assoc (of (begun a cpu)) (of (a.batch cpu)) (of (a.queue cpu))),
      )

  pub order_recorded : RunInOrder a
  order_recorded = record { begin = begins; join = joins }

  -- of each source and class, the calls that have begun on a CPU are the first of those that the source has sent to it
  pub sent_recorded : (source cpu : ℕ) (class : Class)
      → IsPrefix (of_class class (calls_from source (begun a cpu))) (of_class class (calls_to cpu (a.sent source)))
  sent_recorded source cpu class =
      let p = begins cpu class in (
        calls_from source p.0,
        ap (of_class class) (sym (joins source cpu)) ∙ (from_class source class (joined a cpu) ∙ (ap (calls_from source) p.1 ∙
            (from-append source (of_class class (begun a cpu)) p.0
            ∙ ap (λ (xs : List Call). xs ++ calls_from source p.0) (sym (from_class source class (begun a cpu)))))),
      )

module _ {a : CallState} {at : Word → ℕ} (s : HasLaws a at) where
  pub run_once : RunOnce a
  run_once = once_recorded a s.recorded

  pub run_in_order : RunInOrder a
  run_in_order = order_recorded a s.recorded

  pub run_as_sent : (source cpu : ℕ) (class : Class)
      → IsPrefix (of_class class (calls_from source (begun a cpu))) (of_class class (calls_to cpu (a.sent source)))
  run_as_sent = sent_recorded a s.recorded

  still : IsDrained at → Still at
  still d = record { unlocked = λ id. let e = d.flags id in search (e, arith); outside = d.hands }

  pub run_equal_queued : RunEqualQueued a at
  run_equal_queued d source cpu =
      let from : List Call → List Call = calls_from source in
      let sent : calls_to cpu (a.sent source) ≡ from (batches (a.taken cpu)) =
      sym (unmarked_sent cpu (a.sent source)) ∙ (ap unmarked (all_sent s (still d) source cpu) ∙
      (unmarked_from source _ ∙ ap from (unmarked_batches (a.taken cpu)))) in
      record {
        calls = subst (λ xs. IsPermutation xs (from (a.ran cpu))) (sym sent) (subst (λ xs. IsPermutation (from (batches (a.taken cpu))) (from xs))
            (sym (all_ran s (still d) cpu)) (from_orders source (a.taken cpu)));
        counts = equal_tallies s (still d) source cpu;
      }
