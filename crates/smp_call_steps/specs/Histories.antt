-- The queue history and the tally law: what was sent is what was queued, in order, and what ran is the drain order of
-- the batches.
use Rattle.std.specs.Prelude.{◌≡◌, ℕ, ◌+◌, ◌%◌, ◌^◌, ◌==◌, ◌&&◌, Bool, true, false, if◌then◌else◌, Option, Some, None, List, [], ◌∷◌, ◌++◌, length}
use Rattle.smp_words.specs.Size.{owner}
use Rattle.smp_call_steps.specs.Order.{order}
use Rattle.smp_call_steps.specs.State.{Holding, Running, Nothing, SyncCall, CountedCall, AsyncCall, Sending}
use Rattle.smp_call_steps.specs.Names.{Call}
pub use Rattle.smp_call_steps.specs.Lists.{calls_to, calls_from, running_call}

-- a call with its mark: whether it was queued into an empty queue
pub record Marked : Type 0 where
  pub call : Call
  pub is_first : Bool

abbrev pub mark : Bool → Call → Marked
mark is_first call = record { call = call; is_first = is_first }

abbrev pub others_marked : List Call → List Marked
others_marked [] = []
others_marked (call ∷ rest) = mark false call ∷ others_marked rest

-- the calls of one batch or queue, the first marked
abbrev pub marked : List Call → List Marked
marked [] = []
marked (call ∷ rest) = mark true call ∷ others_marked rest

-- the calls of all batches, one batch after the other
abbrev pub batches_marked : List (List Call) → List Marked
batches_marked [] = []
batches_marked (batch ∷ rest) = marked batch ++ batches_marked rest

-- all that was ever queued for a CPU: the batches that it has taken, then its queue
abbrev pub history_of : List (List Call) → List Call → List Marked
history_of taken queue = batches_marked taken ++ marked queue

-- the calls that went to this CPU, with their marks
abbrev pub sent_to : ℕ → List Sending → List Marked
sent_to cpu [] = []
sent_to cpu (s ∷ rest) = if s.to == cpu then mark s.is_first s.call ∷ sent_to cpu rest else sent_to cpu rest

-- the marked calls of this source
abbrev pub marked_from : ℕ → List Marked → List Marked
marked_from source [] = []
marked_from source (m ∷ rest) = if owner m.call.id == source then m ∷ marked_from source rest else marked_from source rest

-- each batch in drain order, one batch after the other
abbrev pub orders : List (List Call) → List Call
orders [] = []
orders (batch ∷ rest) = order batch ++ orders rest

-- the queue history
pub record Recorded (sent : ℕ → List Sending) (taken : ℕ → List (List Call)) (queue : ℕ → List Call) (ran : ℕ → List Call) (running : ℕ → Running)
    (batch : ℕ → List Call) : Type 0 where
  -- what a source has sent to a CPU is what was queued there from that source, with the same marks, in order
  pub in_order : (source cpu : ℕ) → sent_to cpu (sent source) ≡ marked_from source (history_of (taken cpu) (queue cpu))
  -- what ran, what runs and what is left is the drain order of the batches
  pub drained : (cpu : ℕ) → ran cpu ++ (running_call (running cpu) ++ batch cpu) ≡ orders (taken cpu)

-- one more, while a counted call is held for this CPU
abbrev pub one_held : Option Holding → ℕ → ℕ
one_held None cpu = 0
one_held (Some h) cpu = if h.is_counted && h.to == cpu then 1 else 0

-- the SYNC call that is counted and has not ended
abbrev pub counted_call : Running → List Call
counted_call Nothing = []
counted_call (SyncCall call) = []
counted_call (CountedCall call) = call ∷ []
counted_call (AsyncCall call) = []

-- the tally law
pub record Tallied (queued ran_words : ℕ → ℕ → ℕ) (sent : ℕ → List Sending) (held : ℕ → Option Holding) (ran : ℕ → List Call)
    (running : ℕ → Running) : Type 0 where
  pub queued_are : (source cpu : ℕ) → queued source cpu ≡ (length (sent_to cpu (sent source)) + one_held (held source) cpu) % 2 ^ 64
  pub ran_are : (cpu source : ℕ) → ran_words cpu source ≡ length (calls_from source (ran cpu ++ counted_call (running cpu))) % 2 ^ 64
