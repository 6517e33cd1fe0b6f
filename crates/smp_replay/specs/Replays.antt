-- What a call of `replay_script` reads and writes.
use Rattle.std.specs.Prelude.{◌≡◌, ℕ, Bool, true, false, List, Ok}
use Rattle.smp_script.specs.declared.mode.Mode.TheVariants.{Replay}
use Rattle.smp_script.specs.Script.{Script, script_of}
use Rattle.smp_script.specs.Transforms.{HasFault, Transforming, Transforms}
use Rattle.smp_replay.specs.Output.{replay_of}
use Rattle.smp_script.specs.declared.outcome.Outcome.{Outcome}
use Rattle.smp_script.specs.declared.outcome.Outcome.TheVariants.{Done, Stopped}

-- how a replay ended
abbrev pub outcome_of : Bool → Outcome
outcome_of true = Stopped
outcome_of false = Done

-- The text is a lawful script, this is its output, and an event of it was refused or none.
pub record IsReplayed (text out : List ℕ) (ending : Outcome) : Type 0 where
  pub script : Script
  pub lawful : script_of Replay text ≡ Ok script
  pub printed : out ≡ (replay_of script).text
  pub ended : ending ≡ outcome_of (replay_of script).stopped

-- What a call of `replay_script` did, by its answer: what was read is a script, and what was written is its output.
abbrev pub Replays : Transforming Outcome
Replays = Transforms 65536 IsReplayed (HasFault Replay)
