-- A CPU's part of the calls, and what each event makes of it.
use Rattle.std.specs.Prelude.{ℕ, zero, suc, ◌%◌, Bool, true, false, ◌==◌, nat_lt, if◌then◌else◌, Option, Some, None, List, [], ◌∷◌, ◌++◌, slice_set}
use Rattle.smp_words.specs.Size.{cpus, records}
use Rattle.smp_call_steps.specs.Order.{order}
use Rattle.smp_call_steps.specs.Calls.{CallState, Holding, Running, Nothing, SyncCall, CountedCall, AsyncCall}
use Rattle.smp_call_steps.specs.Names.{Call, Word, Head, Intr, Hand, Ran, Flags, Act}
use Rattle.smp_call_steps.specs.Names.act
pub use Rattle.smp_call_steps.specs.declared.known.CallPart.{CallPart}

-- the first n values of f
unfoldable pub row : {A : Type 0} → ℕ → (ℕ → A) → List A
row zero f = []
row (suc n) f = f zero ∷ row n (λ k. f (suc k))

-- a CPU's part of these calls
abbrev pub part_of : CallState → ℕ → CallPart
part_of a me = record {
  sent = a.sent me;
  taken = a.taken me;
  batch = a.batch me;
  running = a.running me;
  ran = a.ran me;
  owes = row cpus (a.owes me);
  accepted = a.accepted me;
  asked = a.asked me;
  confirmed = row records (a.confirmed me);
}

abbrev pub number_or_zero : Option ℕ → ℕ
number_or_zero (Some n) = n
number_or_zero None = 0

-- the events

-- it has seen the last call of this record confirmed
abbrev pub part_confirmed : ℕ → CallPart → CallPart
part_confirmed id p = record p { confirmed = slice_set p.confirmed id true }

-- it has queued this call, into a queue that was empty or not
abbrev pub part_queued : Call → ℕ → Bool → CallPart → CallPart
part_queued call to first p = record p {
  sent = p.sent ++ record { call = call; to = to; is_first = first } ∷ [];
  owes = if first then slice_set p.owes to true else p.owes;
  confirmed = slice_set p.confirmed call.id false;
}

-- it has sent an interrupt, and owes none
abbrev pub part_sent : ℕ → CallPart → CallPart
part_sent to p = record p { owes = slice_set p.owes to false }

-- it has taken its interrupt word, where an interrupt was pending or not
abbrev pub part_accepted : Bool → CallPart → CallPart
part_accepted pending p = record p { asked = p.asked ++ pending ∷ []; accepted = if pending then true else p.accepted }

-- it has taken this queue
abbrev pub part_taken : List Call → CallPart → CallPart
part_taken queue p = record p { taken = p.taken ++ queue ∷ []; batch = order queue; accepted = false }

-- the front of its batch runs
abbrev pub part_begun : (Call → Running) → List Call → CallPart → CallPart
part_begun kind [] p = p
part_begun kind (call ∷ rest) p = record p { batch = rest; running = kind call }

-- its call has ended
abbrev pub part_ended : Call → CallPart → CallPart
part_ended call p = record p { running = Nothing; ran = p.ran ++ call ∷ [] }

-- its call is counted: this ends an ASYNC call
abbrev pub part_counted : Running → CallPart → CallPart
part_counted (SyncCall call) p = record p { running = CountedCall call }
part_counted (AsyncCall call) p = part_ended call p
part_counted _ p = p

-- it has unlocked a record: this ends a SYNC call that is counted, and else begins an ASYNC call
abbrev pub part_unlocked : Running → CallPart → CallPart
part_unlocked (CountedCall call) p = part_ended call p
part_unlocked _ p = part_begun AsyncCall p.batch p

-- what a step on each kind of word makes of it

abbrev pub part_appended : ℕ → Bool → Option Holding → CallPart → CallPart
part_appended to first None p = p
part_appended to first (Some h) p = part_queued h.call to first p

abbrev pub part_released : Option Holding → CallPart → CallPart
part_released (Some h) p = p
part_released None p = part_unlocked p.running p

abbrev pub part_flags : ℕ → Option Holding → Act → Option ℕ → Option ℕ → CallPart → CallPart
part_flags id held act.Load (Some found) put p = if found % 2 == 1 then p else part_confirmed id p
part_flags id held act.Store found (Some n) p = if n == 0 then part_released held p else p
part_flags id held _ found put p = p

abbrev pub part_head : List Call → ℕ → Option Holding → Act → Option ℕ → Option ℕ → CallPart → CallPart
part_head queue to held act.Cas (Some found) (Some n) p = part_appended to (found == 0) held p
part_head queue to held act.Swap found put p = part_taken queue p
part_head queue to held _ found put p = p

abbrev pub part_intr : ℕ → Act → Option ℕ → CallPart → CallPart
part_intr to act.Store found p = part_sent to p
part_intr to act.Swap found p = part_accepted (number_or_zero found == 1) p
part_intr to _ found p = p

abbrev pub part_hand : Option ℕ → CallPart → CallPart
part_hand (Some n) p = if nat_lt 1 n then part_begun SyncCall p.batch p else p
part_hand None p = p

-- a CPU's part after a step of its own, by the call that it holds; a swap of the head takes this queue
abbrev pub part_after : List Call → Option Holding → Act → Word → Option ℕ → Option ℕ → CallPart → CallPart
part_after queue held act (Flags id) found put p = part_flags id held act found put p
part_after queue held act (Head to) found put p = part_head queue to held act found put p
part_after queue held act (Intr to) found put p = part_intr to act found p
part_after queue held act (Hand cpu) found put p = part_hand put p
part_after queue held act (Ran by from) found put p = part_counted p.running p
part_after queue held act _ found put p = p
