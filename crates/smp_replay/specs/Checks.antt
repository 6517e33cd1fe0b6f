-- What a call of `check_steps` finds.
use Rattle.std.specs.Prelude.{◌≡◌, ℕ, List, MatchOption, Result, Ok, Err, string_bytes}
use Rattle.smp_mask.specs.declared.error.SmpError.{SmpError}
use Rattle.smp_script.specs.Faults.{Fails}
use Rattle.smp_script.specs.Script.{Script, script_of}
use Rattle.smp_script.specs.declared.mode.Mode.TheVariants.{Replay}
use Rattle.smp_replay.specs.Difference.{DiffersFirst}
use Rattle.smp_replay.specs.Output.{replay_of}
use Rattle.smp_replay.specs.declared.check.Checked.{Checked}

-- The text is a lawful script, what is printed is its output, and a trace is the same or differs from it first there.
pub record HasChecked {A : Type 0} (text trace : List ℕ) (c : Checked A) : Type 0 where
  pub script : Script
  pub lawful : script_of Replay text ≡ Ok script
  pub printed : string_bytes c.printed ≡ (replay_of script).text
  pub found : MatchOption c.difference ((replay_of script).text ≡ trace) (DiffersFirst (replay_of script).text trace)

abbrev pub Checks : {A : Type 0} → List ℕ → List ℕ → Result (Checked A) SmpError → Type 0
Checks text trace (Ok c) = HasChecked text trace c
-- the text is no lawful script, and this is its first fault, or there was no memory
Checks text trace (Err e) = Fails e (script_of Replay text)
