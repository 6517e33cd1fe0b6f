-- In which order calls run.
use Rattle.std.proofs.Common.{arith, ◌≡◌, ◌≢◌, ℕ, List, [], ◌∷◌, ◌++◌, sym, subst, refl, ap, ◌∙◌, append_assoc}
use Rattle.std.proofs.lemmas.List.{append-nil}
use Rattle.std.specs.List.{AllByRecursion}
use Rattle.smp_call_steps.specs.{CallState, batches, rest_of, orders, running_call, sync_calls, async_calls, of_class}
use Rattle.smp_call_steps.specs.{KeepsClasses, AsyncsLast, IsPrefix, ControlValue, IsAsync, Call, Class, Sync, Async, Word}
use Rattle.smp_call_steps.specs.Shows.{Shows}
use Rattle.smp_call_steps.proofs.Basics.Alls.{every_right}
use Rattle.smp_call_steps.proofs.State.Walks.{IsSync, all_sync, all_async}

pub of_class-append : (class : Class) (xs ys : List Call) → of_class class (xs ++ ys) ≡ of_class class xs ++ of_class class ys
of_class-append class [] ys = refl
of_class-append class (x ∷ xs) ys = search (append_assoc, of_class-append class xs ys, arith)

-- of the SYNC calls of a list, all are of class SYNC, and none is ASYNC

sync_of : (calls : List Call) → of_class Sync (sync_calls calls) ≡ of_class Sync calls
sync_of [] = refl
sync_of (call ∷ rest) = search (of_class-append, sync_of rest, arith)

not_sync_of : (calls : List Call) → of_class Sync (async_calls calls) ≡ []
not_sync_of [] = refl
not_sync_of (call ∷ rest) = search (of_class-append, not_sync_of rest, arith)

async_of : (calls : List Call) → of_class Async (async_calls calls) ≡ of_class Async calls
async_of [] = refl
async_of (call ∷ rest) = search (of_class-append, async_of rest, arith)

not_async_of : (calls : List Call) → of_class Async (sync_calls calls) ≡ []
not_async_of [] = refl
not_async_of (call ∷ rest) = search (of_class-append, not_async_of rest, arith)

pub keeps_classes : (batch : List Call) → KeepsClasses batch
keeps_classes batch Sync = search (of_class-append, not_sync_of, append-nil, sync_of, arith)
keeps_classes batch Async = search (of_class-append, not_async_of, async_of, arith)

abbrev first_class : List Call → Class
first_class [] = Sync
first_class (call ∷ rest) = call.class

pub Sync≢Async : Sync ≢ Async
Sync≢Async e = cc

-- after an ASYNC call in SYNC calls that ASYNC calls follow come only ASYNC calls
after_async : (syncs asyncs before : List Call) (call : Call) (after : List Call) → AllByRecursion IsSync syncs → AllByRecursion IsAsync asyncs
    → syncs ++ asyncs ≡ before ++ call ∷ after → call.class ≡ Async → AllByRecursion IsAsync after
after_async [] asyncs before call after h k e is = (every_right IsAsync before (call ∷ after) (subst (λ (xs : List Call). AllByRecursion IsAsync xs) e k)).1
after_async (x ∷ syncs) asyncs [] call after h k e is = absurd (Sync≢Async (sym h.0 ∙ (ap first_class e ∙ is)))
after_async (x ∷ syncs) asyncs (y ∷ before) call after h k e is = after_async syncs asyncs before call after h.1 k (ap rest_of e) is

pub asyncs_last : (batch : List Call) → AsyncsLast batch
asyncs_last batch before call after e is = after_async (sync_calls batch) (async_calls batch) before call after (all_sync batch) (all_async batch) e is

pub orders_keep : (class : Class) (taken : List (List Call)) → of_class class (orders taken) ≡ of_class class (batches taken)
orders_keep class [] = refl
orders_keep class (batch ∷ rest) = search (of_class-append, keeps_classes, orders_keep class rest, arith)

pub run_in_queue_order : (a : CallState) (at : Word → ℕ) (control : ℕ → ControlValue) → Shows a at control → (cpu : ℕ) (class : Class)
    → IsPrefix (of_class class (a.ran cpu)) (of_class class (batches (a.taken cpu) ++ a.queue cpu))
run_in_queue_order a at control s cpu class =
    let more : List Call = running_call (a.running cpu) ++ a.batch cpu in
    let ended : of_class class (batches (a.taken cpu)) ≡ of_class class (a.ran cpu) ++ of_class class more =
    sym (orders_keep class (a.taken cpu)) ∙ (ap (of_class class) (sym (s.recorded.drained cpu)) ∙ of_class-append class (a.ran cpu) more) in (
      of_class class more ++ of_class class (a.queue cpu),
      of_class-append class (batches (a.taken cpu)) (a.queue cpu) ∙
          (ap (λ (k : List Call). k ++ of_class class (a.queue cpu)) ended
          ∙ append_assoc (of_class class (a.ran cpu)) (of_class class more) (of_class class (a.queue cpu))),
    )
