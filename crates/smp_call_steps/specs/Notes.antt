-- What a step says of the calls, beside the functions that run.
use Rattle.std.specs.Prelude.{◌≡◌, ◌≢◌, ◌⊎◌, ℕ, Bool, true, false, Option, Some, None, [], ◌∷◌, ◌++◌, length}
use Rattle.smp_words.specs.Put.{put}
use Rattle.smp_call_steps.specs.Calls.{CallState, is_nil}
use Rattle.smp_call_steps.specs.Premises.{HandlesNothing}
use Rattle.smp_call_steps.specs.Words.{last_batch}
use Rattle.smp_call_steps.specs.Names.{Call, Word, Intr, Hand, Flags, Note}
use Rattle.smp_call_steps.specs.Names.place
use Rattle.smp_call_steps.specs.Names.note

-- whether the note says that a call is queued
abbrev pub is_queued : Option Note → Bool
is_queued (Some note.Owed) = true
is_queued (Some note.Queued) = true
is_queued _ = false

-- what is said of a call that joins a queue: an interrupt is owed where that was empty
abbrev pub queued_note : Bool → Note
queued_note true = note.Owed
queued_note false = note.Queued

-- the step queues nothing
pub record QueuesNone (a b : CallState) (said : Option Note) : Type 0 where
  pub same : b.sent ≡ a.sent
  pub says : is_queued said ≡ false

-- the CPU queues the call that it holds, and says whether that queue was empty
pub record QueuesIt (a b : CallState) (me : ℕ) (said : Option Note) : Type 0 where
  pub call : Call
  pub to : ℕ
  pub queued : b.queue ≡ put a.queue to (a.queue to ++ call ∷ [])
  pub sent : b.sent ≡ put a.sent me (a.sent me ++ record { call = call; to = to; is_first = is_nil (a.queue to) } ∷ [])
  pub says : said ≡ Some (queued_note (is_nil (a.queue to)))

-- what a step queues is one of these
abbrev pub QueueGoes : CallState → CallState → ℕ → Option Note → Type 0
QueueGoes a b me said = QueuesNone a b said ⊎ QueuesIt a b me said

-- What a note says of the word of its step, and of the calls before and after it.
abbrev pub NoteMeans : CallState → CallState → ℕ → Word → Note → Type 0
NoteMeans a b me (Flags id) note.Busy = a.place id ≢ place.Free
NoteMeans a b me (Flags id) note.Locked = a.place id ≢ place.Free
NoteMeans a b me (Flags id) note.Done = (b.place id ≡ place.Free) × (b.confirmed me id ≡ true)
NoteMeans a b me (Flags id) note.NoCpu = (b.place id ≡ place.Free) × (b.confirmed me id ≡ true)
NoteMeans a b me (Flags id) note.Contended = (b.place id ≡ place.Free) × (b.held me ≡ None)
NoteMeans a b me (Intr to) note.Sent = (b.pending to ≡ true) × (b.owes me to ≡ false)
NoteMeans a b me (Hand cpu) note.Idle = (cpu ≡ me) × HandlesNothing b me
NoteMeans a b me (Hand cpu) (note.Handled n) = (cpu ≡ me) × HandlesNothing b me × (n ≡ length (last_batch (b.taken me)))
NoteMeans a b me _ note.Owed = Unit {0}
NoteMeans a b me _ note.Queued = Unit {0}
NoteMeans a b me _ (note.Call source func info) = Unit {0}
NoteMeans a b me _ _ = ⊥

-- the note of a step, if it has one
abbrev pub SaidMeans : CallState → CallState → ℕ → Word → Option Note → Type 0
SaidMeans a b me word None = Unit {0}
SaidMeans a b me word (Some said) = NoteMeans a b me word said
