-- The state of the calls. It has lists, sets and places; it has no heads, links, flags, retries or reversal.
use Rattle.std.specs.Prelude.{ℕ, Bool, true, false, Option, None, List, []}
use Rattle.smp_call_steps.specs.Names.{Call, RecPlace}
use Rattle.smp_call_steps.specs.Names.place
pub use Rattle.smp_call_steps.specs.declared.known.Sending.{Sending}
pub use Rattle.smp_call_steps.specs.declared.known.Running.{Running}
pub use Rattle.smp_call_steps.specs.declared.known.Running.TheVariants.{Nothing, SyncCall, CountedCall, AsyncCall}

-- the call that a CPU holds, where it goes once that was counted
pub record Holding : Type 0 where
  pub call : Call
  pub to : ℕ
  pub is_counted : Bool

-- the state of the calls
pub record CallState : Type 0 where
  -- where each record is: in exactly one place
  pub place : ℕ → RecPlace
  -- of each CPU, as all that follows: the call that it holds
  pub held : ℕ → Option Holding
  -- what it last stored as the link of the record that it holds, since the lock
  pub linked : ℕ → Option ℕ
  -- the calls queued for it, oldest first
  pub queue : ℕ → List Call
  -- the batches that it has taken, each as it stood in the queue
  pub taken : ℕ → List (List Call)
  -- what is left to run of the last batch
  pub batch : ℕ → List Call
  -- the call that it runs
  pub running : ℕ → Running
  -- the calls that have ended
  pub ran : ℕ → List Call
  -- the calls that it has queued
  pub sent : ℕ → List Sending
  -- the CPUs to which it owes an interrupt
  pub owes : ℕ → ℕ → Bool
  -- whether an interrupt is pending for it
  pub pending : ℕ → Bool
  -- whether it has accepted an interrupt and not yet taken its queue
  pub accepted : ℕ → Bool
  -- for each swap of its interrupt word, whether an interrupt was pending
  pub asked : ℕ → List Bool
  -- its records whose last call it has seen confirmed
  pub confirmed : ℕ → ℕ → Bool

-- at first
abbrev pub no_calls : CallState
no_calls = record {
  place = λ _. place.Free;
  held = λ _. None;
  linked = λ _. None;
  queue = λ _. [];
  taken = λ _. [];
  batch = λ _. [];
  running = λ _. Nothing;
  ran = λ _. [];
  sent = λ _. [];
  owes = λ _ _. false;
  pending = λ _. false;
  accepted = λ _. false;
  asked = λ _. [];
  confirmed = λ _ _. true;
}
