-- The calls by a confirmed record have run.
use Rattle.std.proofs.Common.{◌≡◌, ℕ, ◌+◌, true, cond, List, [], ◌∷◌, ◌++◌, ◌⊎◌, inl, inr, sym, subst, refl, ap, ◌∙◌, arith, append_assoc}
use Rattle.std.specs.List.{AllByRecursion}
use Rattle.smp_words.specs.Size.{owner}
use Rattle.smp_words.proofs.Puts.{at_test}
use Rattle.smp_call_steps.specs.{CallState, Running, Sending, RunsByClass, calls_by, batches}
use Rattle.smp_call_steps.specs.{ConfirmedSyncCallsEnded, HasCall, HasRunAt, ConfirmedCallsHaveRun, Marked, mark, marked, others_marked, batches_marked}
use Rattle.smp_call_steps.specs.{history_of, sent_to, marked_from, orders, running_call, if_sync, if_async, sync_calls, async_calls, order, IsPlaced}
use Rattle.smp_call_steps.specs.{locked_by, of_class, ControlValue, Call, Class, Sync, Word}
use Rattle.smp_call_steps.specs.Shows.{Shows}
use Rattle.smp_call_steps.proofs.Basics.Alls.{every, every_append}
use Rattle.smp_call_steps.proofs.State.Classes.{runs_by_class}
use Rattle.smp_call_steps.proofs.State.Counts.{IsOut, by-append, none_by, confirmed_out}
use Rattle.smp_call_steps.proofs.State.QueueOrder.{of_class-append, orders_keep}
use Rattle.smp_call_steps.specs.place

-- of the SYNC calls

every_of_class : (P : Call → Type 0) (class : Class) (calls : List Call) → AllByRecursion P calls → AllByRecursion P (of_class class calls)
every_of_class P class [] h = tt
every_of_class P class (call ∷ rest) h = search (every_append, every_of_class P class rest h.1, arith)

-- a call that runs while its record is free is not SYNC
running_none : (id : ℕ) (running : Running) → RunsByClass running → calls_by id (locked_by running) ≡ 0 → calls_by id (of_class Sync (running_call running)) ≡ 0
running_none id x h e = search arith

-- the calls of a list

has_left : (call : Call) (xs ys : List Call) → HasCall call xs → HasCall call (xs ++ ys)
has_left call [] ys h = absurd h
has_left call (x ∷ xs) ys (inl e) = inl e
has_left call (x ∷ xs) ys (inr h) = inr (has_left call xs ys h)

has_right : (call : Call) (xs ys : List Call) → HasCall call ys → HasCall call (xs ++ ys)
has_right call [] ys h = h
has_right call (x ∷ xs) ys h = inr (has_right call xs ys h)

has_either : (call : Call) (xs ys : List Call) → HasCall call (xs ++ ys) → HasCall call xs ⊎ HasCall call ys
has_either call [] ys h = inr h
has_either call (x ∷ xs) ys (inl e) = inl (inl e)
has_either call (x ∷ xs) ys (inr h) = elim (has_either call xs ys h) [ inl k ↦ inl (inr k) | inr k ↦ inr k ]

-- what holds of each call that a list has, holds of all
every_call : (P : Call → Type 0) (calls : List Call) → ((call : Call) → HasCall call calls → P call) → AllByRecursion P calls
every_call P [] f = tt
every_call P (call ∷ rest) f = (f call (inl refl), every_call P rest (λ c h. f c (inr h)))

holds_of : (P : Call → Type 0) (calls : List Call) (call : Call) → AllByRecursion P calls → HasCall call calls → P call
holds_of P [] call all h = absurd h
holds_of P (x ∷ xs) call all (inl e) = subst P e all.0
holds_of P (x ∷ xs) call all (inr h) = holds_of P xs call all.1 h

-- the drain order has the calls of its batch

has_by_class : (class : Class) (call : Call) (syncs asyncs : List Call) → HasCall call ((if_sync class call ++ syncs) ++ (if_async class call ++ asyncs))
has_by_class x call syncs asyncs = search (has_right, arith)

has_past : (call : Call) (xs syncs ys asyncs : List Call) → HasCall call (syncs ++ asyncs) → HasCall call ((xs ++ syncs) ++ (ys ++ asyncs))
has_past call xs syncs ys asyncs h = elim (has_either call syncs asyncs h) [
  | inl k ↦ has_left call (xs ++ syncs) (ys ++ asyncs) (has_right call xs syncs k)
  | inr k ↦ has_right call (xs ++ syncs) (ys ++ asyncs) (has_right call ys asyncs k)
]

has_order : (call : Call) (batch : List Call) → HasCall call batch → HasCall call (order batch)
has_order call [] h = h
has_order call (x ∷ xs) (inl e) = subst (λ (c : Call). HasCall c (order (x ∷ xs))) e (has_by_class x.class x (sync_calls xs) (async_calls xs))
has_order call (x ∷ xs) (inr h) = has_past call (if_sync x.class x) (sync_calls xs) (if_async x.class x) (async_calls xs) (has_order call xs h)

has_orders : (call : Call) (taken : List (List Call)) → HasCall call (batches taken) → HasCall call (orders taken)
has_orders call [] h = h
has_orders call (batch ∷ rest) h = elim (has_either call batch (batches rest) h) [
  | inl k ↦ has_left call (order batch) (orders rest) (has_order call batch k)
  | inr k ↦ has_right call (order batch) (orders rest) (has_orders call rest k)
]

-- what holds of each call of a history holds of those that were sent

module _ (P : Call → Type 0) where
  abbrev Of : Marked → Type 0
  Of m = P m.call

  every_others : (calls : List Call) → AllByRecursion P calls → AllByRecursion Of (others_marked calls)
  every_others [] h = tt
  every_others (call ∷ rest) h = (h.0, every_others rest h.1)

  every_marked : (calls : List Call) → AllByRecursion P calls → AllByRecursion Of (marked calls)
  every_marked x h = search (every_others, arith)

  every_from : (source : ℕ) (ms : List Marked) → AllByRecursion Of ms → AllByRecursion (λ m. (owner m.call.id ≡ source) × P m.call) (marked_from source ms)
  every_from source [] h = tt
  every_from source (m ∷ rest) h = search (at_test, every_from source rest h.1, arith)

  every_history : (taken : List (List Call)) (queue : List Call) → ((call : Call) → HasCall call (batches taken ++ queue) → P call)
      → AllByRecursion Of (history_of taken queue)
  every_history [] queue f = every_marked queue (every_call P queue f)
  every_history (batch ∷ rest) queue f = subst (λ (ms : List Marked). AllByRecursion Of ms)
      (sym (append_assoc (marked batch) (batches_marked rest) (marked queue)))
      (every_append Of (marked batch) (history_of rest queue)
      (every_marked batch (every_call P batch (λ c h. f c (has_left c (batch ++ batches rest) queue (has_left c batch (batches rest) h)))))
      (every_history rest queue (λ c h. elim (has_either c (batches rest) queue h) [
        | inl k ↦ f c (has_left c (batch ++ batches rest) queue (has_right c batch (batches rest) k))
        | inr k ↦ f c (has_right c (batch ++ batches rest) queue k)
      ])))

-- what holds of all that were sent to each CPU holds of all that were sent
every_sent : (P : ℕ → Call → Type 0) (sent : List Sending) → ((cpu : ℕ) → AllByRecursion (λ m. P cpu m.call) (sent_to cpu sent))
    → AllByRecursion (λ s. P s.to s.call) sent
every_sent P [] f = tt
every_sent P (s ∷ rest) f = (
  at_test s.to s.to (λ b. AllByRecursion (λ (m : Marked). P s.to m.call) (cond b (mark s.is_first s.call ∷ sent_to s.to rest) (sent_to s.to rest))
      → P s.to s.call) (λ _ h. h.0) (λ ne. absurd (ne refl)) (f s.to),
  every_sent P rest (λ cpu. at_test s.to cpu
      (λ b. AllByRecursion (λ (m : Marked). P cpu m.call) (cond b (mark s.is_first s.call ∷ sent_to cpu rest) (sent_to cpu rest))
      → AllByRecursion (λ (m : Marked). P cpu m.call) (sent_to cpu rest))
      (λ _ h. h.1) (λ _ h. h) (f cpu)),
)

module _ (a : CallState) (at : Word → ℕ) (control : ℕ → ControlValue) (s : Shows a at control) where
  pub confirmed_sync_calls_ended : ConfirmedSyncCallsEnded a
  confirmed_sync_calls_ended id cpu e =
      let out = confirmed_out s id e in
      let ran : List Call = of_class Sync (a.ran cpu) in
      let runs : List Call = of_class Sync (running_call (a.running cpu)) in
      let left : List Call = of_class Sync (a.batch cpu) in
      let waits : List Call = of_class Sync (a.queue cpu) in
      let q = none_by a.place (place.Queued cpu) id waits (out.queue cpu)
      (every_of_class (IsPlaced a.place (place.Queued cpu)) Sync (a.queue cpu) (s.placed.queued cpu)) in
      let b = none_by a.place (place.Batch cpu) id left (out.batch cpu)
      (every_of_class (IsPlaced a.place (place.Batch cpu)) Sync (a.batch cpu) (s.placed.batched cpu)) in
      let r = running_none id (a.running cpu) (runs_by_class a at control s cpu)
      (none_by a.place (place.Running cpu) id (locked_by (a.running cpu)) (out.running cpu) (s.placed.runs cpu)) in
      let parts : of_class Sync (batches (a.taken cpu)) ≡ ran ++ (runs ++ left) =
      sym (orders_keep Sync (a.taken cpu)) ∙ (ap (of_class Sync) (sym (s.recorded.drained cpu)) ∙
      (of_class-append Sync (a.ran cpu) (running_call (a.running cpu) ++ a.batch cpu)
      ∙ ap (λ (k : List Call). ran ++ k) (of_class-append Sync (running_call (a.running cpu)) (a.batch cpu)))) in
      let whole : calls_by id (of_class Sync (batches (a.taken cpu) ++ a.queue cpu)) ≡ calls_by id (of_class Sync (batches (a.taken cpu))) + calls_by id waits =
      ap (calls_by id) (of_class-append Sync (batches (a.taken cpu)) (a.queue cpu)) ∙ by-append id (of_class Sync (batches (a.taken cpu))) waits in
      let taken : calls_by id (of_class Sync (batches (a.taken cpu))) ≡ calls_by id ran + calls_by id (runs ++ left) =
      ap (calls_by id) parts ∙ by-append id ran (runs ++ left) in
      search (by-append, runs, left, arith)

  -- a call of a history has run, where its record is confirmed
  abbrev HasRunOnce : ℕ → Call → Type 0
  HasRunOnce cpu call = a.confirmed (owner call.id) call.id ≡ true → HasRunAt a cpu call call.class

  ended_run : (cpu : ℕ) (call : Call) (class : Class) → HasCall call (a.ran cpu) → HasRunAt a cpu call class
  ended_run cpu call x h = search (has_left, arith)

  running_run : (cpu : ℕ) (call : Call) → IsOut (a.place call.id) → (running : Running) → RunsByClass running
      → AllByRecursion (IsPlaced a.place (place.Running cpu)) (locked_by running) → HasCall call (running_call running) →
      (class : Class) → call.class ≡ class → HasRunAt (record a { running = λ _. running }) cpu call class
  running_run cpu call out x r k h class e = search (holds_of, has_right, arith)

  same_run : (cpu : ℕ) (call : Call) (class : Class) → HasRunAt (record a { running = λ _. a.running cpu }) cpu call class → HasRunAt a cpu call class
  same_run cpu call x h = search arith

  taken_run : (cpu : ℕ) (call : Call) → IsOut (a.place call.id) → HasCall call (a.ran cpu ++ (running_call (a.running cpu) ++ a.batch cpu))
      → HasRunAt a cpu call call.class
  taken_run cpu call out h = elim (has_either call (a.ran cpu) (running_call (a.running cpu) ++ a.batch cpu) h) [
    | inl k ↦ ended_run cpu call call.class k
    | inr k ↦ elim (has_either call (running_call (a.running cpu)) (a.batch cpu) k) [
      | inl r ↦ same_run cpu call call.class (running_run cpu call out (a.running cpu) (runs_by_class a at control s cpu) (s.placed.runs cpu) r call.class refl)
      | inr b ↦ absurd (out.batch cpu (holds_of (IsPlaced a.place (place.Batch cpu)) (a.batch cpu) call (s.placed.batched cpu) b).placed)
    ]
  ]

  history_run : (cpu : ℕ) (call : Call) → HasCall call (batches (a.taken cpu) ++ a.queue cpu) → HasRunOnce cpu call
  history_run cpu call h e =
      let out = confirmed_out s call.id e in
      elim (has_either call (batches (a.taken cpu)) (a.queue cpu) h) [
        | inl k ↦ taken_run cpu call out (subst (HasCall call) (sym (s.recorded.drained cpu)) (has_orders call (a.taken cpu) k))
        | inr q ↦ absurd (out.queue cpu (holds_of (IsPlaced a.place (place.Queued cpu)) (a.queue cpu) call (s.placed.queued cpu) q).placed)
      ]

  pub confirmed_calls_have_run : ConfirmedCallsHaveRun a
  confirmed_calls_have_run source = every_sent (λ cpu call. a.confirmed source call.id ≡ true → HasRunAt a cpu call call.class) (a.sent source) (λ cpu.
      subst (λ (ms : List Marked). AllByRecursion (λ m. a.confirmed source m.call.id ≡ true → HasRunAt a cpu m.call m.call.class) ms)
      (sym (s.recorded.in_order source cpu))
      (every (λ (m : Marked). (owner m.call.id ≡ source) × HasRunOnce cpu m.call)
      (λ m. a.confirmed source m.call.id ≡ true → HasRunAt a cpu m.call m.call.class)
      (λ m h e. h.1 (subst (λ (k : ℕ). a.confirmed k m.call.id ≡ true) (sym h.0) e))
      (marked_from source (history_of (a.taken cpu) (a.queue cpu)))
      (every_from (HasRunOnce cpu) source (history_of (a.taken cpu) (a.queue cpu))
      (every_history (HasRunOnce cpu) (a.taken cpu) (a.queue cpu) (history_run cpu)))))
