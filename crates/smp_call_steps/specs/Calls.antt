-- How each step that was seen changes the state of the calls.
use Rattle.std.specs.Prelude.{ℕ, ◌%◌, Bool, true, false, ◌==◌, not, nat_lt, if◌then◌else◌, Option, Some, None, List, [], ◌∷◌, ◌++◌}
use Rattle.smp_words.specs.Put.{put}
use Rattle.smp_words.specs.Flags.{class_of}
use Rattle.smp_call_steps.specs.Order.{order}
use Rattle.smp_call_steps.specs.Names.{Call, Word, Head, Intr, Hand, Queued, Ran, Flags, Func, Info, Next, Seen, Act, RecPlace}
use Rattle.smp_call_steps.specs.Names.place
use Rattle.smp_call_steps.specs.Names.act
pub use Rattle.smp_call_steps.specs.State.{Sending, Running, Nothing, SyncCall, CountedCall, AsyncCall, Holding, CallState, no_calls}

abbrev pub is_nil : {A : Type 0} → List A → Bool
is_nil [] = true
is_nil (x ∷ xs) = false

-- lock: the record goes from the free ones to the one that is held
abbrev pub locked : CallState → ℕ → ℕ → ℕ → CallState
locked a me id flags = record a {
  place = put a.place id place.Held;
  held = put a.held me (Some (record { call = record { id = id; class = class_of flags; func = 0; info = 0 }; to = 0; is_counted = false }));
  linked = put a.linked me None;
}

-- give up: back to the free ones
abbrev pub given_up : CallState → ℕ → ℕ → CallState
given_up a me id = record a { place = put a.place id place.Free; held = put a.held me None }

-- confirm: the source has seen the record free
abbrev pub confirms : CallState → ℕ → ℕ → CallState
confirms a me id = record a { confirmed = put a.confirmed me (put (a.confirmed me) id true) }

abbrev pub with_func : ℕ → Holding → Holding
with_func n h = record h { call = record (h.call) { func = n } }

abbrev pub with_info : ℕ → Holding → Holding
with_info n h = record h { call = record (h.call) { info = n } }

-- counted for a CPU, or counted back
abbrev pub with_count : ℕ → Holding → Holding
with_count to h = record h { to = to; is_counted = not h.is_counted }

abbrev pub holding_with : (Holding → Holding) → Option Holding → Option Holding
holding_with f None = None
holding_with f (Some h) = Some (f h)

-- the holder links its record
abbrev pub links : CallState → ℕ → Option ℕ → Option Holding → CallState
links a me (Some n) (Some h) = record a { linked = put a.linked me (Some n) }
links a me _ _ = a

abbrev pub holds_with : CallState → ℕ → (Holding → Holding) → CallState
holds_with a me f = record a { held = put a.held me (holding_with f (a.held me)) }

-- append: the held call joins the end of the queue
abbrev pub appended : CallState → ℕ → ℕ → Option Holding → CallState
appended a me to None = a
appended a me to (Some h) = let first = is_nil (a.queue to) in record a {
  place = put a.place h.call.id (place.Queued to);
  held = put a.held me None;
  queue = put a.queue to (a.queue to ++ h.call ∷ []);
  sent = put a.sent me (a.sent me ++ record { call = h.call; to = to; is_first = first } ∷ []);
  owes = if first then put a.owes me (put (a.owes me) to true) else a.owes;
  confirmed = put a.confirmed me (put (a.confirmed me) h.call.id false);
}

-- send: the CPU has an interrupt pending, and the sender owes it none
abbrev pub sends : CallState → ℕ → ℕ → CallState
sends a me to = record a { pending = put a.pending to true; owes = put a.owes me (put (a.owes me) to false) }

-- accept: the interrupt that was pending, if any, is accepted
abbrev pub accepts : CallState → ℕ → CallState
accepts a me = record a {
  asked = put a.asked me (a.asked me ++ a.pending me ∷ []);
  pending = put a.pending me false;
  accepted = put a.accepted me (if a.pending me then true else a.accepted me);
}

-- a record of this CPU's queue goes to its batch
abbrev pub place_taken : ℕ → RecPlace → RecPlace
place_taken me (place.Queued cpu) = if cpu == me then place.Batch me else place.Queued cpu
place_taken me place.Free = place.Free
place_taken me place.Held = place.Held
place_taken me (place.Batch cpu) = place.Batch cpu
place_taken me (place.Running cpu) = place.Running cpu

-- take: the whole queue becomes a batch, in drain order
abbrev pub takes : CallState → ℕ → CallState
takes a me = record a {
  place = λ id. place_taken me (a.place id);
  queue = put a.queue me [];
  taken = put a.taken me (a.taken me ++ a.queue me ∷ []);
  batch = put a.batch me (order (a.queue me));
  accepted = put a.accepted me false;
}

-- begin, of a SYNC call: the front of the batch runs, and its record stays locked
abbrev pub begins_sync : CallState → ℕ → List Call → CallState
begins_sync a me [] = a
begins_sync a me (call ∷ rest) = record a {
  place = put a.place call.id (place.Running me);
  batch = put a.batch me rest;
  running = put a.running me (SyncCall call);
}

-- begin, of an ASYNC call: the front of the batch runs, and its record is free
abbrev pub begins_async : CallState → ℕ → List Call → CallState
begins_async a me [] = a
begins_async a me (call ∷ rest) = record a {
  place = put a.place call.id place.Free;
  batch = put a.batch me rest;
  running = put a.running me (AsyncCall call);
}

-- end, of a SYNC call: it has run, and its record is free
abbrev pub ends_sync : CallState → ℕ → Call → CallState
ends_sync a me call = record a {
  place = put a.place call.id place.Free;
  running = put a.running me Nothing;
  ran = put a.ran me (a.ran me ++ call ∷ []);
}

-- end, of an ASYNC call: it has run
abbrev pub ends_async : CallState → ℕ → Call → CallState
ends_async a me call = record a { running = put a.running me Nothing; ran = put a.ran me (a.ran me ++ call ∷ []) }

-- a call is counted: this ends an ASYNC call
abbrev pub counts : CallState → ℕ → Running → CallState
counts a me (SyncCall call) = record a { running = put a.running me (CountedCall call) }
counts a me (AsyncCall call) = ends_async a me call
counts a me _ = a

-- a CPU that holds no call unlocks a record: it ends a SYNC call that is counted, else it begins an ASYNC call
abbrev pub unlocks : CallState → ℕ → Running → CallState
unlocks a me (CountedCall call) = ends_sync a me call
unlocks a me _ = begins_async a me (a.batch me)

-- a store of 0 to flags: a CPU that holds a call gives it up
abbrev pub releases : CallState → ℕ → ℕ → Option Holding → CallState
releases a me id (Some h) = given_up a me id
releases a me id None = unlocks a me (a.running me)

-- what a step on each kind of word tells

abbrev pub flags_told : CallState → ℕ → ℕ → Act → Option ℕ → Option ℕ → CallState
flags_told a me id act.Load (Some found) put = if found % 2 == 1 then a else confirms a me id
flags_told a me id act.Store found (Some n) = if n == 0 then releases a me id (a.held me) else locked a me id n
flags_told a me id _ found put = a

abbrev pub head_told : CallState → ℕ → ℕ → Act → Option ℕ → CallState
head_told a me to act.Cas (Some n) = appended a me to (a.held me)
head_told a me to act.Swap put = takes a me
head_told a me to _ put = a

abbrev pub intr_told : CallState → ℕ → ℕ → Act → CallState
intr_told a me to act.Store = sends a me to
intr_told a me to act.Swap = accepts a me
intr_told a me to _ = a

abbrev pub hand_told : CallState → ℕ → Option ℕ → CallState
hand_told a me (Some n) = if nat_lt 1 n then begins_sync a me (a.batch me) else a
hand_told a me None = a

abbrev pub held_told : CallState → ℕ → (ℕ → Holding → Holding) → Option ℕ → CallState
held_told a me f (Some n) = holds_with a me (f n)
held_told a me f None = a

abbrev pub told : CallState → ℕ → Act → Word → Option ℕ → Option ℕ → CallState
told a me act (Flags id) found put = flags_told a me id act found put
told a me act (Func id) found put = held_told a me with_func put
told a me act (Info id) found put = held_told a me with_info put
told a me act (Queued from to) found put = held_told a me (λ n. with_count to) put
told a me act (Head to) found put = head_told a me to act put
told a me act (Intr to) found put = intr_told a me to act
told a me act (Hand cpu) found put = hand_told a me put
told a me act (Ran by from) found put = counts a me (a.running me)
told a me act (Next id) found put = links a me put (a.held me)
told a me act _ found put = a

-- the calls after a step that was seen
abbrev pub tells : CallState → Seen → CallState
tells a seen = told a seen.cpu seen.act seen.word seen.found seen.put

-- the calls after all of these
abbrev pub tells_all : CallState → List Seen → CallState
tells_all a [] = a
tells_all a (seen ∷ rest) = tells_all (tells a seen) rest

-- the calls after a step, where one was seen
abbrev pub tells_if : CallState → Option Seen → CallState
tells_if a None = a
tells_if a (Some seen) = tells a seen
