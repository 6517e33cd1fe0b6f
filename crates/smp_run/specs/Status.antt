-- The status of the program.
use Rattle.std.specs.Prelude.{ℕ, Result, Ok, Err}
use Rattle.smp_script.specs.declared.outcome.Outcome.{Outcome}
use Rattle.smp_script.specs.declared.outcome.Outcome.TheVariants.{Done}
use Rattle.smp_run.specs.declared.status.Refusal.{Refusal}
use Rattle.smp_run.specs.declared.status.Refusal.TheVariants.{Usage}

-- 0 where a script was done, 2 for words that are none of this program, else 1
abbrev pub status_of : Result Outcome Refusal → ℕ
status_of (Ok Done) = 0
status_of (Err Usage) = 2
status_of _ = 1
