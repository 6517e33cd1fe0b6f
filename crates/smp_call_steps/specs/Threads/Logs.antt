-- What a CPU's log says of the state of the calls, what it has seen of heads, and its number of steps.
use Rattle.std.specs.Prelude.{◌≡◌, ℕ, ◌+◌, ◌≤◌, true, Option, Some, None, List, [], ◌∷◌, ◌++◌, length}
use Rattle.smp_words.specs.Put.{put}
use Rattle.smp_words.specs.Access.{word_of, seen_of}
use Rattle.smp_call_steps.specs.Calls.{CallState, tells}
use Rattle.smp_call_steps.specs.Threads.Known.{Sees, MayStep, known_access, known_tells}
use Rattle.smp_call_steps.specs.Shows.{Shows}
use Rattle.smp_call_steps.specs.Stages.{ControlValue}
use Rattle.smp_call_steps.specs.Names.{Call, Word, Head, Intr, Access, Load, Swap, Exchange, Stage, Handle, Logged, HeadSeen}
use Rattle.smp_call_steps.specs.Names.logged
use Rattle.smp_call_steps.specs.Names.head
use Rattle.smp_call_steps.specs.declared.known.KnownCalls.{KnownCalls}

-- no call has joined a queue, and no interrupt has become pending
pub record SendsNothing (a b : CallState) : Type 0 where
  pub queues : (cpu : ℕ) → length (b.queue cpu) ≤ length (a.queue cpu)
  pub pending : (cpu : ℕ) → b.pending cpu ≡ true → a.pending cpu ≡ true

-- this CPU has an interrupt pending, and no call has joined a queue
pub record SendsInterrupt (a b : CallState) (to : ℕ) : Type 0 where
  pub queues : b.queue ≡ a.queue
  pub pending : b.pending ≡ put a.pending to true

-- one call has joined this CPU's queue, and no interrupt has become pending
pub record SendsCall (a b : CallState) (to : ℕ) : Type 0 where
  pub call : Call
  pub queues : b.queue ≡ put a.queue to (a.queue to ++ call ∷ [])
  pub pending : b.pending ≡ a.pending

-- what is logged, if anything, is what was sent
abbrev pub Sends : Option Logged → CallState → CallState → Type 0
Sends None a b = SendsNothing a b
Sends (Some (logged.Queued to)) a b = SendsCall a b to
Sends (Some (logged.Interrupted to)) a b = SendsInterrupt a b to

-- a log and what is logged next, if anything
abbrev pub log_with : Option Logged → List Logged → List Logged
log_with None log = log
log_with (Some x) log = log ++ x ∷ []

-- what a CPU counted when it last sent something, and what it counts now, where that is sent
abbrev pub sent_with : Option Logged → ℕ → ℕ → ℕ
sent_with None now before = before
sent_with (Some x) now before = now

-- by each step that a CPU may make its log grows by what the step has sent, and by nothing else; and where the step has sent
-- something, its number of steps and of takes of its interrupt word is kept. No step notes a direct call
abbrev pub LogsTell : Type 0
LogsTell = (a : CallState) (at : Word → ℕ) (control : ℕ → ControlValue) (v : KnownCalls) → Shows a at control → Sees a control v →
    (stage : Stage) → MayStep v stage → (access : Access) → known_access v stage ≡ access →
    let seen = seen_of v.number access (at (word_of access)) None in
    let after = known_tells (a.queue v.number) v seen in
    (sent : Option Logged) × (after.log ≡ log_with sent v.log) × Sends sent a (tells a seen) × (after.sent_at ≡ sent_with sent after.steps v.sent_at)
    × (after.asked_at ≡ sent_with sent (length v.part.asked) v.asked_at) × (after.direct ≡ v.direct)

-- what a step sees of a head, by its access and the number that it finds
abbrev pub head_in : Access → ℕ → Option HeadSeen
head_in (Load (Head to)) found = Some (head.Loaded found)
head_in (Exchange (Head to) expected number) found = Some (head.Exchanged expected found)
head_in _ found = None

-- what was seen of heads and what is seen next, if anything
abbrev pub heads_and : Option HeadSeen → List HeadSeen → List HeadSeen
heads_and None heads = heads
heads_and (Some x) heads = heads ++ x ∷ []

-- by each step that a CPU may make, what it has seen of heads grows by what the step finds in a head, with what an exchange
-- expects there, and by nothing else
abbrev pub HeadsTell : Type 0
HeadsTell = (v : KnownCalls) (stage : Stage) → MayStep v stage → (found : ℕ) (queue : List Call) →
    let seen = seen_of v.number (known_access v stage) found None in
    (known_tells queue v seen).heads ≡ heads_and (head_in (known_access v stage) found) v.heads

-- how many steps outside handle there are after one at this stage
abbrev pub counted_at : Stage → ℕ → ℕ
counted_at (Handle stage) n = n
counted_at stage n = n + 1

-- for each take of the interrupt word the steps outside handle before it, after this access too
abbrev pub takes_and : Access → ℕ → List ℕ → List ℕ
takes_and (Swap (Intr cpu) n) steps takes = takes ++ steps ∷ []
takes_and _ steps takes = takes

-- each step that a CPU may make outside handle is counted once, and no step of handle is; and each take of its interrupt word is
-- listed with the number of those before it
abbrev pub StepsCount : Type 0
StepsCount = (v : KnownCalls) (stage : Stage) → MayStep v stage → (found : ℕ) (queue : List Call) →
    let seen = seen_of v.number (known_access v stage) found None in
    ((known_tells queue v seen).steps ≡ counted_at stage v.steps)
    × ((known_tells queue v seen).asked_after ≡ takes_and (known_access v stage) v.steps v.asked_after)
