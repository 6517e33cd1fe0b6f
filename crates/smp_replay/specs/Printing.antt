-- What a call of `print_script` finds.
use Rattle.std.specs.Prelude.{◌≡◌, ℕ, List, Result, Ok, Err, string_bytes}
use Rattle.smp_mask.specs.declared.error.SmpError.{SmpError}
use Rattle.smp_script.specs.Faults.{Fails}
use Rattle.smp_script.specs.Script.{Script, script_of}
use Rattle.smp_script.specs.declared.mode.Mode.TheVariants.{Replay}
use Rattle.smp_replay.specs.Output.{replay_of}
use Rattle.smp_replay.specs.declared.playback.Printed.{Printed}

-- The text is a lawful script, what is printed is its output, and an event of it was refused or none.
pub record HasPrinted {A : Type 0} (text : List ℕ) (p : Printed A) : Type 0 where
  pub script : Script
  pub lawful : script_of Replay text ≡ Ok script
  pub printed : string_bytes p.text ≡ (replay_of script).text
  pub ended : p.stopped ≡ (replay_of script).stopped

abbrev pub PrintsReplay : {A : Type 0} → List ℕ → Result (Printed A) SmpError → Type 0
PrintsReplay text (Ok p) = HasPrinted text p
-- the text is no lawful script, and this is its first fault, or there was no memory
PrintsReplay text (Err e) = Fails e (script_of Replay text)
