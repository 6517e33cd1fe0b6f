-- What a family leaves of its CPU and its handler.
use Rattle.std.specs.Prelude.{◌≡◌, ◌≢◌, ℕ, ◌+◌, ◌<◌, ◌≤◌, Bool, true, false, not, ◌&&◌, ◌||◌, ◌==◌, if◌then◌else◌, Option, Some, None, List, [], ◌∷◌}
use Rattle.std.specs.Prelude.{◌++◌, length}
use Rattle.std.specs.Prelude.{slice_index_or}
use Rattle.smp_mask.specs.Mask.{has}
use Rattle.smp_mask.specs.declared.error.SmpError.{SmpError}
use Rattle.smp_mask.specs.declared.error.SmpError.TheVariants as error
use Rattle.smp_words.specs.Size.{cpus, records, records_of_one, record_of}
use Rattle.smp_call_steps.specs.declared.known.Sending.{Sending}
use Rattle.smp_call_steps.specs.declared.known.Logged.{Logged}
use Rattle.smp_words.specs.declared.call.Call.{Call}
use Rattle.smp_words.specs.declared.call.Class.{Class}
use Rattle.smp_queue.specs.Cpu.{CpuValue, confirmed_at, confirms, looks, notes_call}
use Rattle.smp_queue.specs.Handling.{heard}
use Rattle.smp_queue.specs.declared.handler.Heard.{Heard}
use Rattle.smp_calls.specs.Handles.{Handles}
use Rattle.smp_calls.specs.Queued.{Queued, destinations, sendings, calls_and_interrupts, is_first_to, is_used}
use Rattle.smp_calls.specs.Turns.{after_each}
use Rattle.smp_calls.specs.Records.{call_by, class_for, single_record, user_record, many_call, many_record}

-- a CPU's number is one, and it has all its records
pub record IsSized (c : CpuValue) : Type 0 where
  pub number : c.number < cpus
  pub records_are : length c.part.confirmed ≡ records

-- whether a CPU owes another one an interrupt
abbrev pub owes_at : CpuValue → ℕ → Bool
owes_at c other = slice_index_or c.part.owes other false

-- a CPU has sent these calls, has logged this, now owes these interrupts and has seen these of its records confirmed, and has made a
-- compare-exchange at least for each call; else it has only handled, and it has made no direct call. Where it has logged
-- nothing, its last call or interrupt is still the one before
pub record Leaves {H : Type 0} (leads : H → Heard → H → Type 0) (old : CpuValue) (before : H) (new : CpuValue) (after : H) (sent : List Sending)
    (log : List Logged) (owes confirmed : ℕ → Bool) : Type 0 where
  pub table_is : new.table ≡ old.table
  pub setting_is : new.setting ≡ old.setting
  pub number_is : new.number ≡ old.number
  pub sized : length new.part.confirmed ≡ length old.part.confirmed
  pub owes_sized : length new.part.owes ≡ length old.part.owes
  pub sent_is : new.part.sent ≡ old.part.sent ++ sent
  pub log_is : new.log ≡ old.log ++ log
  pub direct_is : new.direct ≡ old.direct
  pub tried : old.tried + length sent ≤ new.tried
  pub still : log ≡ [] → (new.sent_at ≡ old.sent_at) × (new.asked_at ≡ old.asked_at)
  pub owes_are : (c : ℕ) → owes_at new c ≡ owes c
  pub confirmed_are : (k : ℕ) → k < records_of_one → confirmed_at new k ≡ confirmed k
  pub handled : Handles leads old before new after

-- a family has queued these calls, all before its first interrupt; it has sent one interrupt to each CPU whose queue was empty, and no
-- other, so that none is owed for them; and the records that it used are confirmed exactly where it waited
abbrev pub Calls : {H : Type 0} → (H → Heard → H → Type 0) → CpuValue → H → CpuValue → H → (ℕ → Call) → List Queued → Bool → Type 0
Calls leads old before new after call queued wait =
    Leaves leads old before new after (sendings call queued) (calls_and_interrupts queued)
    (λ c. owes_at old c && not (is_first_to c queued))
    (λ k. if is_used call (record_of old.number k) queued then wait else confirmed_at old k)

-- since a call was queued for the last of these CPUs, or an interrupt sent, the CPU has made no step and not handled; where there
-- are none it has done nothing
abbrev pub IsLast : CpuValue → CpuValue → List ℕ → Type 0
IsLast old new [] = (new.steps ≡ old.steps) × (length new.part.asked ≡ length old.part.asked)
    × (new.sent_at ≡ old.sent_at) × (new.asked_at ≡ old.asked_at)
IsLast old new (to ∷ others) = (new.steps ≡ new.sent_at) × (length new.part.asked ≡ new.asked_at)

-- the same, and a direct call: when that is made, all calls are queued and all interrupts sent, no record that was used is seen
-- confirmed, and nothing was done since; after it the CPU only waits. The last entry of the direct calls at the end tells the
-- place: it has the whole log, so it comes after these calls and interrupts, and the number of steps and of takes of the
-- interrupt word that the last of them had
pub record CallsAndHere {H : Type 0} (leads : H → Heard → H → Type 0) (old : CpuValue) (before : H) (new : CpuValue) (after : H) (call : ℕ → Call)
    (queued : List Queued) (heard : Heard) (wait : Bool) : Type 0 where
  pub middle : CpuValue
  pub called : H
  pub ended : H
  pub first : Calls leads old before middle called call queued false
  pub at_once : IsLast old middle (destinations queued)
  pub here : leads called heard ended
  pub later : Leaves leads (notes_call middle) ended new after [] [] (owes_at middle)
      (λ k. (wait && is_used call (record_of old.number k) queued) || confirmed_at middle k)

-- with a direct call, if any
abbrev pub CallsWith : {H : Type 0} → (H → Heard → H → Type 0) → CpuValue → H → CpuValue → H → (ℕ → Call) → List Queued → Option Heard → Bool → Type 0
CallsWith leads old before new after call queued None wait = Calls leads old before new after call queued wait
CallsWith leads old before new after call queued (Some heard) wait = CallsAndHere leads old before new after call queued heard wait

-- a call to one CPU through its queue, by this record
abbrev pub CallsBy : {H : Type 0} → (H → Heard → H → Type 0) → CpuValue → H → CpuValue → H → ℕ → Class → ℕ → ℕ → ℕ → Bool → Type 0
CallsBy leads old before new after k class dst func info wait =
    (queued : List Queued) × (destinations queued ≡ dst ∷ []) ×
    Calls leads old before new after (λ _. call_by old.number k class func info) queued wait

-- by the record that its waiting asks for
abbrev pub CallsOne : {H : Type 0} → (H → Heard → H → Type 0) → CpuValue → H → CpuValue → H → ℕ → ℕ → ℕ → Bool → Type 0
CallsOne leads old before new after dst func info wait = CallsBy leads old before new after (single_record wait) (class_for wait) dst func info wait

-- a call to one CPU that queues none and sends no interrupt: without wait it has waited for the async record
abbrev pub QueuesNone : {H : Type 0} → (H → Heard → H → Type 0) → CpuValue → H → CpuValue → H → Bool → Type 0
QueuesNone leads old before new after wait = Leaves leads old before new after [] [] (owes_at old) (λ k. (not wait && k == 1) || confirmed_at old k)

-- the records for calls to many with these destinations are all seen confirmed
abbrev pub AreConfirmed : CpuValue → (ℕ → Bool) → Type 0
AreConfirmed c to = (cpu : ℕ) → to cpu ≡ true → confirmed_at c (many_record cpu) ≡ true

-- a CPU has looked at the flags of its record k, and has handled once after each look but the last: each take of its interrupt word
-- is listed with the looks before it. Where the record was seen confirmed before, that was one look, and it has handled nothing. It
-- has changed no head
pub record Awaits {H : Type 0} (k : ℕ) (old : CpuValue) (before : H) (new : CpuValue) (after : H) : Type 0 where
  pub turns : new.steps + length old.part.asked ≡ old.steps + (1 + length new.part.asked)
  pub locked : ℕ
  pub steps_are : new.steps ≡ old.steps + (locked + 1)
  pub takes_are : new.asked_after ≡ old.asked_after ++ after_each old.steps locked
  pub tried_is : new.tried ≡ old.tried
  pub at_once : confirmed_at old k ≡ true → (new ≡ looks (confirms k old)) × (after ≡ before)

-- the same, and then its function on the CPU itself: that direct call is all that it does after it has waited, and without wait
-- it has handled only while its async record was busy
abbrev pub CallsHere : {H : Type 0} → (H → Heard → H → Type 0) → CpuValue → H → CpuValue → H → ℕ → ℕ → Bool → Type 0
CallsHere {H = H} leads old before new after func info wait =
    (waited : CpuValue) × (called : H) × QueuesNone leads old before waited called wait × (new ≡ notes_call waited)
    × leads called (heard old.number func info) after × (wait ≡ false → Awaits 1 old before waited called)

-- a call by a record of the user, on the CPU itself: the record was seen confirmed by one step, and nothing else was done
-- before the direct call
abbrev pub CallsUserHere : {H : Type 0} → (H → Heard → H → Type 0) → CpuValue → H → CpuValue → H → ℕ → ℕ → ℕ → Type 0
CallsUserHere leads old before new after u func info =
    (new ≡ notes_call (looks (confirms (user_record u) old))) × leads before (heard old.number func info) after

-- a CPU has handled nothing
pub record HandlesNone (old new : CpuValue) : Type 0 where
  pub asked_is : new.part.asked ≡ old.part.asked
  pub taken_is : new.part.taken ≡ old.part.taken
  pub ran_is : new.part.ran ≡ old.part.ran

-- why a call by a record of the user is refused, and what that leaves. E4 comes first, by no step, then E2 and then E1, each by
-- one step, the load of the record's flags
abbrev pub RefusesUser : ℕ → CpuValue → CpuValue → ℕ → ℕ → SmpError → Type 0
RefusesUser online old new u dst error.BadArgument = (2 ≤ u) × (new ≡ old)
RefusesUser online old new u dst error.Busy = (u < 2) × (confirmed_at old (user_record u) ≢ true) × (new ≡ looks old)
RefusesUser online old new u dst error.NoCpu = (u < 2) × (dst ≢ old.number) × (has online dst ≡ false)
    × (new ≡ looks (confirms (user_record u) old))
RefusesUser online old new u dst _ = ⊥

-- calls to these CPUs, ascending, each by its record for calls to many, and a direct call, if any; the records are confirmed exactly where
-- it waited
abbrev pub CallsMany : {H : Type 0} → (H → Heard → H → Type 0) → CpuValue → H → CpuValue → H → List ℕ → Class → ℕ → ℕ → Option Heard → Bool → Type 0
CallsMany leads old before new after to class func info here waited =
    (queued : List Queued) × (destinations queued ≡ to) ×
    CallsWith leads old before new after (many_call old.number class func info) queued here waited
