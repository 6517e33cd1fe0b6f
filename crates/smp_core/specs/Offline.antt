-- CPUs that are not online.
use Rattle.std.specs.Prelude.{◌≡◌, ◌⊎◌, ℕ, ◌<◌, true, false, Option, Some, None, List, []}
use Rattle.smp_mask.specs.Mask.{has}
use Rattle.smp_words.specs.Layout.{number_in}
use Rattle.smp_words.specs.Size.{cpus}
use Rattle.smp_words.specs.declared.word.Word.TheVariants.{Head, Intr}
use Rattle.smp_call_steps.specs.Calls.{CallState, no_calls}
use Rattle.smp_call_steps.specs.Threads.Parts.{part_of}
use Rattle.smp_call_steps.specs.Stages.{ControlValue}
use Rattle.smp_call_steps.specs.Value.{ValuesShow, control_of}
use Rattle.smp_call_steps.specs.declared.known.Running.TheVariants.{Nothing}
use Rattle.smp_call_steps.specs.declared.post.PostStage.TheVariants as post
use Rattle.smp_call_steps.specs.declared.stage.Stage.{Stage}
use Rattle.smp_call_steps.specs.declared.stage.Stage.TheVariants.{Send, Post}

-- where a CPU is at such a stage, what it queues or sends goes to a CPU that is online
abbrev pub AimsOnline : ℕ → Option Stage → Type 0
AimsOnline online (Some (Send to)) = has online to ≡ true
AimsOnline online (Some (Post p post.LoadFlags)) = p.is_online ≡ true → has online p.to ≡ true
AimsOnline online (Some (Post p stage)) = has online p.to ≡ true
AimsOnline online _ = Unit {0}

-- the words and the stages show some calls, and each CPU aims at CPUs that are online; one that is not online is outside a
-- command, its head is nil and its interrupt word 0, and its part of the calls is that of no calls
pub record IsApart (online : ℕ) (words : List ℕ) (controls : List ControlValue) : Type 0 where
  pub calls : CallState
  pub shown : ValuesShow calls words controls
  pub aims : (cpu : ℕ) → AimsOnline online (control_of controls cpu).stage
  pub outside : (cpu : ℕ) → has online cpu ≡ false → (control_of controls cpu).stage ≡ None
  pub quiet : (cpu : ℕ) → has online cpu ≡ false → (number_in words (Head cpu) ≡ 0) × (number_in words (Intr cpu) ≡ 0)
  pub idle : (cpu : ℕ) → has online cpu ≡ false → part_of calls cpu ≡ part_of no_calls cpu

-- nothing is queued, pending, accepted, held, taken or run at a CPU; it has sent nothing, has looked for no interrupt and owes nobody one
pub record HasDoneNothing (a : CallState) (cpu : ℕ) : Type 0 where
  pub queue : a.queue cpu ≡ []
  pub pending : a.pending cpu ≡ false
  pub accepted : a.accepted cpu ≡ false
  pub held : a.held cpu ≡ None
  pub taken : a.taken cpu ≡ []
  pub batch : a.batch cpu ≡ []
  pub running : a.running cpu ≡ Nothing
  pub ran : a.ran cpu ≡ []
  pub sent : a.sent cpu ≡ []
  pub asked : a.asked cpu ≡ []
  pub owes : (to : ℕ) → to < cpus → a.owes cpu to ≡ false

-- CPUs that are not online have done nothing
abbrev pub AreIdle : ℕ → CallState → Type 0
AreIdle online a = (cpu : ℕ) → has online cpu ≡ false → HasDoneNothing a cpu

-- a CPU's queue is empty, or it has an interrupt pending or accepted, or a CPU that is online owes it one
abbrev pub IsSeenTo : ℕ → CallState → ℕ → Type 0
IsSeenTo online a cpu = (a.queue cpu ≡ []) ⊎ ((a.pending cpu ≡ true) ⊎ ((a.accepted cpu ≡ true)
    ⊎ ((source : ℕ) × (has online source ≡ true) × (a.owes source cpu ≡ true))))

-- the words and the stages show calls that keep all laws, in which CPUs that are not online have done nothing, and each CPU that
-- has a queue is seen to, by its interrupt or by a CPU that is online
pub record LeavesOffline (online : ℕ) (words : List ℕ) (controls : List ControlValue) : Type 0 where
  pub calls : CallState
  pub shown : ValuesShow calls words controls
  pub nothing : AreIdle online calls
  pub seen_to : (cpu : ℕ) → cpu < cpus → IsSeenTo online calls cpu
