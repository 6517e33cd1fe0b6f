-- The headline, of stops: when the function of a rendezvous runs, and when the label table is lawful.
use Rattle.std.specs.Prelude.{◌≡◌, ◌≢◌, ℕ, ◌≤◌, true, false, Some, List}
use Rattle.smp_labels.specs.Law.{IsLawful}
use Rattle.smp_stop_steps.specs.Names.{has, One, Work, Word, DISABLE_IRQ}
use Rattle.smp_stop_steps.specs.{Labels.Change, Labels.Whole, Labels.Patches, Labels.labels_in, State.StopState, State.StopCall, State.Calls, Standings.acked}

-- A CPU runs the function of this source's rendezvous: it has entered it, and has not acknowledged RUN; or it makes a patch. A stop
-- of kind One is no rendezvous.
pub data RunsFunctionOf (p : StopState) (s c : ℕ) : Type 0 where
  has_entered : (call : StopCall) → p.calling c ≡ Calls call → p.now.inside c ≡ Some s → (p.now.stop s).work.kind ≢ One → RunsFunctionOf p s c
  makes_patch : (work : Work) (count : ℕ) (made rest : List Change) → p.now.patching ≡ Patches c work count made rest → p.now.inside c ≡ Some s
      → RunsFunctionOf p s c

-- a CPU has acknowledged disabled interrupts in this source's stop, and they are off
pub record IsDisabled (p : StopState) (s c : ℕ) : Type 0 where
  pub acknowledged : DISABLE_IRQ ≤ acked ((p.now.stop s).standing c)
  pub off : p.now.irq c ≡ false

-- FUNCTION: it runs on an active CPU of the mask, and only while each CPU of the mask is disabled
pub record RunsDisabled (p : StopState) (s c : ℕ) : Type 0 where
  pub member : has (p.now.stop s).work.mask c ≡ true
  pub active : has (p.now.stop s).work.active c ≡ true
  pub disabled : (d : ℕ) → has (p.now.stop s).work.mask d ≡ true → IsDisabled p s d

abbrev pub RunDisabled : StopState → Type 0
RunDisabled p = (s c : ℕ) → RunsFunctionOf p s c → RunsDisabled p s c

-- LAWFUL: while nobody makes a patch, each site jumps just where its key and its branch differ
abbrev pub IsLawfulElse : StopState → (Word → ℕ) → Type 0
IsLawfulElse p at = p.now.patching ≡ Whole → IsLawful (labels_in at)
