-- Calls that wait have ended.
use Rattle.std.proofs.Common.{◌≡◌, ◌≢◌, ◌⊎◌, ℕ, zero, suc, ◌<◌, inl, inr, not, ◌&&◌, ◌||◌, ◌==◌, Bool, true, false, None, Some, Option, Result, Ok}
use Rattle.std.proofs.Common.{Err, IfOk, IfErr}
use Rattle.std.proofs.Common.{if◌then◌else◌, List, [], ◌∷◌, ◌++◌, slice_index_or, slice_set, refl, sym, ap, ◌∙◌, subst}
use Rattle.std.proofs.lemmas.Bool.{cases_eq, or_right}
use Rattle.std.proofs.lemmas.List.{append-nil}
use Rattle.smp_mask.specs.Mask.{has}
use Rattle.smp_mask.specs.declared.error.SmpError.{SmpError}
use Rattle.smp_mask.specs.declared.error.SmpError.TheVariants as error
use Rattle.smp_words.specs.Size.{records_of_one, record_of}
use Rattle.smp_words.specs.declared.call.Call.{Call}
use Rattle.smp_words.specs.declared.call.Class.{Class}
use Rattle.smp_words.specs.declared.call.Class.TheVariants.{Async}
use Rattle.smp_call_steps.specs.declared.known.Sending.{Sending}
use Rattle.smp_call_steps.specs.declared.known.DirectCall.{DirectCall}
use Rattle.smp_queue.specs.Cpu.{CpuValue, confirmed_at, confirms, looks}
use Rattle.smp_queue.specs.declared.handler.Heard.{Heard}
use Rattle.smp_calls.specs.Families.{CallsBy, CallsHere, CallsMany, CallsOne, CallsUserHere, CallsWith, QueuesNone, RefusesUser}
use Rattle.smp_calls.specs.Queued.{Queued, is_used, sendings}
use Rattle.smp_calls.specs.Records.{call_by, class_for, many_call, user_record}
use Rattle.smp_calls.specs.Targets.{HasNone}
use Rattle.smp_multi.specs.declared.func.Called.{Called}
use Rattle.smp_machine.specs.Calls.{RefusedInHand}
use Rattle.smp_machine.specs.Own.{Own}
use Rattle.smp_machine.specs.MachineCpu.{MachineCpuValue}
use Rattle.smp_machine.specs.Seats.{SeatValue}
use Rattle.smp_machine.specs.Works.{Works}
use Rattle.smp_run.specs.Sent.{HasWaited, is_sync, is_waited}
use Rattle.smp_run.proofs.Staying.{Quiet, QuietSeat}

waited_then : (was : Bool) (id : ℕ) (xs ys : List Sending) → is_waited was id (xs ++ ys) ≡ is_waited (is_waited was id xs) id ys
waited_then was id [] ys = refl
waited_then was id (x ∷ xs) ys = waited_then (if id == x.call.id then is_sync x.call.class else was) id xs ys

pick : (here later sync was : Bool) → (if later then sync else (if here then sync else was)) ≡ (if here || later then sync else was)
pick true true sync was = refl
pick true false sync was = refl
pick false true sync was = refl
pick false false sync was = refl

-- of calls of one class, by whether one is by this record
waited_queued : (call : ℕ → Call) (sync : Bool) (id : ℕ) (queued : List Queued) → ((to : ℕ) → is_sync (call to).class ≡ sync) → (was : Bool)
    → is_waited was id (sendings call queued) ≡ (if is_used call id queued then sync else was)
waited_queued call sync id [] class was = refl
waited_queued call sync id (q ∷ qs) class was =
    waited_queued call sync id qs class (if id == (call q.to).id then is_sync (call q.to).class else was)
    ∙ (ap (λ (s : Bool). if is_used call id qs then sync else (if id == (call q.to).id then s else was)) (class q.to)
    ∙ pick (id == (call q.to).id) (is_used call id qs) sync was)

confirmed_if : (used wait last confirmed : Bool) → (if used then wait else last) ≡ true → (last ≡ true → confirmed ≡ true)
    → (if used then wait else confirmed) ≡ true
confirmed_if true wait last confirmed e was = e
confirmed_if false wait last confirmed e was = was e

-- calls were queued, whose records are confirmed exactly where they wait
waits_more : (old new : MachineCpuValue) (call : ℕ → Call) (queued : List Queued) (wait : Bool) → new.calls.number ≡ old.calls.number
    → new.calls.part.sent ≡ old.calls.part.sent ++ sendings call queued
    → ((k : ℕ) → k < records_of_one → confirmed_at new.calls k
    ≡ (if is_used call (record_of old.calls.number k) queued then wait else confirmed_at old.calls k))
    → ((to : ℕ) → is_sync (call to).class ≡ wait) → HasWaited old → HasWaited new
waits_more old new call queued wait number sent confirmed class was = record {
  each = λ k low last.
      let id = record_of old.calls.number k in
      let all : is_waited false id new.calls.part.sent ≡ true =
      subst (λ (n : ℕ). is_waited false (record_of n k) new.calls.part.sent ≡ true) number last in
      let e : is_waited false id new.calls.part.sent ≡ (if is_used call id queued then wait else is_waited false id old.calls.part.sent) =
      ap (λ (l : List Sending). is_waited false id l) sent ∙ (waited_then false id old.calls.part.sent (sendings call queued)
      ∙ waited_queued call wait id queued class (is_waited false id old.calls.part.sent)) in
      confirmed k low ∙ confirmed_if (is_used call id queued) wait (is_waited false id old.calls.part.sent) (confirmed_at old.calls k) (sym e ∙ all)
      (was.each k low);
}

-- no call was queued, and each record that was confirmed still is
waits_same : (old new : MachineCpuValue) → new.calls.number ≡ old.calls.number → new.calls.part.sent ≡ old.calls.part.sent
    → ((k : ℕ) → k < records_of_one → confirmed_at old.calls k ≡ true → confirmed_at new.calls k ≡ true) → HasWaited old → HasWaited new
waits_same old new number sent confirmed was = record {
  each = λ k low last. confirmed k low (was.each k low
      (subst (λ (l : List Sending). is_waited false (record_of old.calls.number k) l ≡ true) sent
      (subst (λ (n : ℕ). is_waited false (record_of n k) new.calls.part.sent ≡ true) number last)));
}

pub waits_still : (old new : MachineCpuValue) → new.calls ≡ old.calls → HasWaited old → HasWaited new
waits_still old new e was =
    waits_same old new (ap (λ (c : CpuValue). c.number) e) (ap (λ (c : CpuValue). c.part.sent) e)
    (λ k low t. subst (λ (c : CpuValue). confirmed_at c k ≡ true) (sym e) t) was

class_waits : (wait : Bool) → is_sync (class_for wait) ≡ wait
class_waits true = refl
class_waits false = refl

set_true : (xs : List Bool) (i j : ℕ) → slice_index_or xs j false ≡ true → slice_index_or (slice_set xs i true) j false ≡ true
set_true [] i j e = absurd (cc e)
set_true (x ∷ xs) zero zero e = refl
set_true (x ∷ xs) zero (suc j) e = e
set_true (x ∷ xs) (suc i) zero e = e
set_true (x ∷ xs) (suc i) (suc j) e = set_true xs i j e

-- a record was seen confirmed
waits_confirmed : (old new : MachineCpuValue) (k : ℕ) (direct : List DirectCall) → new.calls ≡ record (looks (confirms k old.calls)) { direct = direct }
    → HasWaited old → HasWaited new
waits_confirmed old new k direct e was =
    waits_same old new (ap (λ (c : CpuValue). c.number) e) (ap (λ (c : CpuValue). c.part.sent) e)
    (λ i low t. subst (λ (c : CpuValue). confirmed_at c i ≡ true) (sym e)
    (set_true old.calls.part.confirmed (record_of old.calls.number k) (record_of old.calls.number i) t)) was

module _ {H : Type 0} (leads : H → Heard → H → Type 0) where
  waits_none : (wait : Bool) (old new : MachineCpuValue) (h h' : H) → QueuesNone leads old.calls h new.calls h' wait → HasWaited old → HasWaited new
  waits_none wait old new h h' q was =
      waits_same old new q.number_is (q.sent_is ∙ append-nil old.calls.part.sent)
      (λ k low t. q.confirmed_are k low ∙ or_right (not wait && k == 1) (confirmed_at old.calls k) t) was

  waits_here : (func info : ℕ) (wait : Bool) (old new : MachineCpuValue) (h h' : H) → CallsHere leads old.calls h new.calls h' func info wait
      → HasWaited old → HasWaited new
  waits_here func info wait old new h h' c was =
      let q = c.2 in
      waits_same old new (ap (λ (x : CpuValue). x.number) c.3 ∙ q.number_is)
      (ap (λ (x : CpuValue). x.part.sent) c.3 ∙ (q.sent_is ∙ append-nil old.calls.part.sent))
      (λ k low t. ap (λ (x : CpuValue). confirmed_at x k) c.3 ∙ (q.confirmed_are k low
      ∙ or_right (not wait && k == 1) (confirmed_at old.calls k) t)) was

  waits_by : (k dst func info : ℕ) (class : Class) (wait : Bool) (old new : MachineCpuValue) (h h' : H) → is_sync class ≡ wait
      → CallsBy leads old.calls h new.calls h' k class dst func info wait → HasWaited old → HasWaited new
  waits_by k dst func info class wait old new h h' is c was =
      waits_more old new (λ _. call_by old.calls.number k class func info) c.0 wait c.2.number_is c.2.sent_is c.2.confirmed_are (λ to. is) was

  pub waited_single : (online dst func info : ℕ) (wait : Bool) (old new : MachineCpuValue) (h h' : H) (made : Result (Unit {0}) SmpError)
      → old.stops.inside ≡ None
      → IfOk made (λ _. dst ≢ old.calls.number → (has online dst ≡ true) × CallsOne leads old.calls h new.calls h' dst func info wait)
      → IfOk made (λ _. dst ≡ old.calls.number → CallsHere leads old.calls h new.calls h' func info wait)
      → IfErr made (λ e. RefusedInHand e old h new h' ⊎ ((old.stops.inside ≡ None) × (e ≡ error.NoCpu) × (dst ≢ old.calls.number)
      × (has online dst ≡ false) × QueuesNone leads old.calls h new.calls h' wait))
      → HasWaited old → HasWaited new
  waited_single online dst func info wait old new h h' (Ok u) free queued here refused was = elim (cases_eq dst old.calls.number) [
    | inl own ↦ waits_here func info wait old new h h' (here own) was
    | inr other ↦ waits_by _ dst func info (class_for wait) wait old new h h' (class_waits wait) (queued other).1 was
  ]
  waited_single online dst func info wait old new h h' (Err e) free queued here (inl held) was = absurd (held.in_hand free)
  waited_single online dst func info wait old new h h' (Err e) free queued here (inr (_, is, other, off, none)) was = waits_none wait old new h h' none was

  refused_user : (online u dst : ℕ) (old new : MachineCpuValue) (e : SmpError) → RefusesUser online old.calls new.calls u dst e → HasWaited old → HasWaited new
  refused_user online u dst old new error.BadArgument r was = waits_still old new r.1 was
  refused_user online u dst old new error.Busy r was =
      waits_same old new (ap (λ (c : CpuValue). c.number) r.2) (ap (λ (c : CpuValue). c.part.sent) r.2)
      (λ k low t. subst (λ (c : CpuValue). confirmed_at c k ≡ true) (sym r.2) t) was
  refused_user online u dst old new error.NoCpu r was = waits_confirmed old new (user_record u) old.calls.direct r.3 was
  refused_user online u dst old new error.NoStopper r was = absurd r
  refused_user online u dst old new error.Contended r was = absurd r
  refused_user online u dst old new error.NoMemory r was = absurd r
  refused_user online u dst old new error.Stale r was = absurd r
  refused_user online u dst old new error.SlotBusy r was = absurd r
  refused_user online u dst old new (error.BadScript n cause) r was = absurd r
  refused_user online u dst old new error.IdleStep r was = absurd r
  refused_user online u dst old new (error.BadMask n) r was = absurd r
  refused_user online u dst old new (error.StreamFailed n) r was = absurd r
  refused_user online u dst old new (error.KeyRange n) r was = absurd r

  pub waited_user : (online dst u func info : ℕ) (old new : MachineCpuValue) (h h' : H) (made : Result (Unit {0}) SmpError) → old.stops.inside ≡ None
      → IfOk made (λ _. dst ≢ old.calls.number → (has online dst ≡ true)
      × CallsBy leads old.calls h new.calls h' (user_record u) Async dst func info false)
      → IfOk made (λ _. dst ≡ old.calls.number → CallsUserHere leads old.calls h new.calls h' u func info)
      → IfErr made (λ e. RefusedInHand e old h new h' ⊎ ((old.stops.inside ≡ None) × RefusesUser online old.calls new.calls u dst e × (h' ≡ h)))
      → HasWaited old → HasWaited new
  waited_user online dst u func info old new h h' (Ok x) free queued here refused was = elim (cases_eq dst old.calls.number) [
    | inl own ↦ waits_confirmed old new (user_record u) _ (here own).0 was
    | inr other ↦ waits_by _ dst func info Async false old new h h' refl (queued other).1 was
  ]
  waited_user online dst u func info old new h h' (Err e) free queued here (inl held) was = absurd (held.in_hand free)
  waited_user online dst u func info old new h h' (Err e) free queued here (inr (_, r, same)) was = refused_user online u dst old new e r was

  pub waited_any : (online mask func info : ℕ) (wait : Bool) (old new : MachineCpuValue) (h h' : H) (made : Result ℕ SmpError) → old.stops.inside ≡ None
      → IfOk made (λ cpu. cpu ≢ old.calls.number → CallsOne leads old.calls h new.calls h' cpu func info wait)
      → IfOk made (λ cpu. cpu ≡ old.calls.number → CallsHere leads old.calls h new.calls h' func info wait)
      → IfErr made (λ e. RefusedInHand e old h new h' ⊎ ((old.stops.inside ≡ None) × (e ≡ error.NoCpu) × HasNone mask online old.calls.number
      × (new.calls ≡ old.calls) × (h' ≡ h)))
      → HasWaited old → HasWaited new
  waited_any online mask func info wait old new h h' (Ok cpu) free queued here refused was = elim (cases_eq cpu old.calls.number) [
    | inl own ↦ waits_here func info wait old new h h' (here own) was
    | inr other ↦ waits_by _ cpu func info (class_for wait) wait old new h h' (class_waits wait) (queued other) was
  ]
  waited_any online mask func info wait old new h h' (Err e) free queued here (inl held) was = absurd (held.in_hand free)
  waited_any online mask func info wait old new h h' (Err e) free queued here (inr (_, is, none, same, kept)) was = waits_still old new same was

  -- whether a record is confirmed after a direct call too
  both_confirmed : (wait used confirmed : Bool) → ((wait && used) || (if used then false else confirmed)) ≡ (if used then wait else confirmed)
  both_confirmed true true confirmed = refl
  both_confirmed true false confirmed = refl
  both_confirmed false true confirmed = refl
  both_confirmed false false confirmed = refl

  waits_with : (old new : MachineCpuValue) (h h' : H) (call : ℕ → Call) (queued : List Queued) (here : Option Heard) (wait : Bool)
      → ((to : ℕ) → is_sync (call to).class ≡ wait) → CallsWith leads old.calls h new.calls h' call queued here wait → HasWaited old → HasWaited new
  waits_with old new h h' call queued None wait class c was = waits_more old new call queued wait c.number_is c.sent_is c.confirmed_are class was
  waits_with old new h h' call queued (Some heard) wait class c was =
      waits_more old new call queued wait (c.later.number_is ∙ c.first.number_is)
      (c.later.sent_is ∙ (append-nil c.middle.part.sent ∙ c.first.sent_is))
      (λ k low. let used = is_used call (record_of old.calls.number k) queued in
      c.later.confirmed_are k low ∙ (ap (λ (b : Bool). (wait && used) || b) (c.first.confirmed_are k low)
      ∙ both_confirmed wait used (confirmed_at old.calls k)))
      class was

  pub waited_many : (to : ℕ → List ℕ) (func info : ℕ) (here : ℕ → Option Heard) (wait : Bool) (old new : MachineCpuValue) (h h' : H) (made : Result ℕ SmpError)
      → old.stops.inside ≡ None
      → IfOk made (λ called. CallsMany leads old.calls h new.calls h' (to called) (class_for wait) func info (here called) wait)
      → IfErr made (λ e. RefusedInHand e old h new h') → HasWaited old → HasWaited new
  waited_many to func info here wait old new h h' (Ok called) free c refused was =
      waits_with old new h h' (many_call old.calls.number (class_for wait) func info) c.0 (here called) wait (λ x. class_waits wait) c.2 was
  waited_many to func info here wait old new h h' (Err e) free c refused was = absurd (refused.in_hand free)

module _ {H F : Type 0} (hears : H → Heard → H → Type 0) (runs : F → Called → F → Type 0) where
  pub waited_worked : (old new : MachineCpuValue) (h h' : H) (f f' : F) (own : Own) → Works hears runs old h f new h' f' own → HasWaited old → HasWaited new
  waited_worked old new h h' f f' own w was =
      waits_same old new (ap (λ (c : CpuValue). c.number) w.calls_kept) (ap (λ (c : CpuValue). c.part.sent) w.calls_kept)
      (λ k low t. subst (λ (c : CpuValue). confirmed_at c k ≡ true) (sym w.calls_kept) t) was

  waited_quiet : (old new : MachineCpuValue) (h h' : H) (f f' : F) → Quiet hears runs old h f new h' f' → HasWaited old → HasWaited new
  waited_quiet old new h h' f f' (inl (own, w, outside)) was = waited_worked old new h h' f f' own w was
  waited_quiet old new h h' f f' (inr same) was = subst (λ (p : MachineCpuValue). HasWaited p) (sym same) was

  pub waited_quietly : (old new : SeatValue H F) → QuietSeat hears runs old new → HasWaited old.cpu → HasWaited new.cpu
  waited_quietly old new q was = waited_quiet old.cpu new.cpu old.handler new.handler old.functions new.functions q was
