-- A step's log is what it has sent.
use Rattle.std.proofs.Common.{◌≡◌, ℕ, Option, Some, None, List, length}
use Rattle.std.proofs.Common.{ap, ◌∙◌, refl, arith}
use Rattle.smp_words.specs.Access.{act_of, word_of, seen_of}
use Rattle.smp_call_steps.specs.{CallState, Holding}
use Rattle.smp_call_steps.specs.{appended, told, Sees, MayStep, known_access}
use Rattle.smp_call_steps.specs.{known_tells, log_after, sent_after}
use Rattle.smp_call_steps.specs.{SendsNothing, SendsCall, Sends, log_with, sent_with, LogsTell, ControlValue, Word, Head, Intr}
use Rattle.smp_call_steps.specs.{Act, Stage, Logged}
use Rattle.smp_call_steps.specs.Shows.{Shows}
use Rattle.smp_call_steps.proofs.Knows.Restages.{aims_held}
use Rattle.smp_call_steps.specs.declared.known.KnownCalls.{KnownCalls}
use Rattle.smp_call_steps.specs.act
use Rattle.smp_call_steps.specs.logged

-- a CPU holds a call
abbrev IsHeld : Option Holding → Type 0
IsHeld None = ⊥
IsHeld (Some h) = Unit {0}

-- a word in which a step sends nothing
abbrev IsElse : Word → Type 0
IsElse (Head to) = ⊥
IsElse (Intr to) = ⊥
IsElse _ = Unit {0}

module _ (a : CallState) (me : ℕ) where
  quiet : (b : CallState) → b.queue ≡ a.queue → b.pending ≡ a.pending → SendsNothing a b
  quiet b q p = search arith

  quiet_else : (kind : Act) (w : Word) (found put : Option ℕ) → IsElse w → SendsNothing a (told a me kind w found put)
  quiet_else kind x found put e = search (quiet, arith)

  log_else : (kind : Act) (w : Word) (put : Option ℕ) (log : List Logged) → IsElse w → log_after kind w put log ≡ log
  log_else x w put log e = search arith

  sent_else : (kind : Act) (w : Word) (put : Option ℕ) → IsElse w → (now before : ℕ) → sent_after kind w put now before ≡ before
  sent_else x w put e now before = search arith

  sends_call : (to : ℕ) (held : Option Holding) → IsHeld held → SendsCall a (appended a me to held) to
  sends_call to (Some h) holds = record { call = h.call; queues = refl; pending = refl }
  sends_call to None holds = absurd holds

  -- a step on this word logs what it sends
  abbrev Logs : Act → Word → Option ℕ → Option ℕ → List Logged → Type 0
  Logs kind w found put log = (sent : Option Logged) × (log_after kind w put log ≡ log_with sent log) × Sends sent a (told a me kind w found put)
      × ((now before : ℕ) → sent_after kind w put now before ≡ sent_with sent now before)

  head_logs : (kind : Act) (to : ℕ) (found put : Option ℕ) (log : List Logged) → (kind ≡ act.Cas → IsHeld (a.held me)) → Logs kind (Head to) found put log
  head_logs act.Cas to found (Some n) log holds = (Some (logged.Queued to), refl, sends_call to (a.held me) (holds refl), λ _ _. refl)
  head_logs act.Swap to found put log holds = search arith
  head_logs _ to found put log holds = (None, refl, quiet a refl refl, λ _ _. refl)

  intr_logs : (kind : Act) (to : ℕ) (found put : Option ℕ) (log : List Logged) → Logs kind (Intr to) found put log
  intr_logs act.Store to found put log = (Some (logged.Interrupted to), refl, record { queues = refl; pending = refl }, λ _ _. refl)
  intr_logs act.Swap to found put log = search arith
  intr_logs _ to found put log = (None, refl, quiet a refl refl, λ _ _. refl)

  step_logs : (kind : Act) (w : Word) (found put : Option ℕ) (log : List Logged) → (kind ≡ act.Cas → IsHeld (a.held me)) → Logs kind w found put log
  step_logs kind (Head to) found put log holds = head_logs kind to found put log holds
  step_logs kind (Intr to) found put log holds = intr_logs kind to found put log
  step_logs kind w found put log holds = (None, log_else kind w put log tt, quiet_else kind w found put tt, sent_else kind w put tt)

-- at a compare-exchange a CPU holds the call that it queues
module _ {a : CallState} {at : Word → ℕ} {control : ℕ → ControlValue} {v : KnownCalls} (s : Shows a at control) (sees : Sees a control v) where
  holds_at : (st : Stage) → MayStep v st → act_of (known_access v st) ≡ act.Cas → IsHeld (a.held v.number)
  holds_at x aims e = search (aims_held, arith)

pub logs_tell : LogsTell
logs_tell a at control v s sees st aims access is =
    let seen = seen_of v.number access (at (word_of access)) None in
    let t = step_logs a v.number seen.act seen.word seen.found seen.put v.log (λ e. holds_at s sees st aims (ap act_of is ∙ e)) in
    (t.0, t.1, t.2, t.3 (known_tells (a.queue v.number) v seen).steps v.sent_at, t.3 (length v.part.asked) v.asked_at, refl)
