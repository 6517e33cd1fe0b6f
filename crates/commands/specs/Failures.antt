-- Why a call has failed.
use Rattle.std.specs.Prelude.{None}
use Rattle.smp_mask.specs.declared.error.SmpError.{SmpError}
use Rattle.smp_mask.specs.declared.error.SmpError.TheVariants as errors
use Rattle.commands.specs.declared.failure.Failure.{Failure}
use Rattle.commands.specs.declared.failure.Failure.TheVariants as failures

-- why a call has failed that reads from memory: no reader of it fails
abbrev pub failure_of : SmpError → Failure
failure_of (errors.BadScript line cause) = failures.Fault (record { line = line; cause = cause })
failure_of (errors.StreamFailed side) = failures.Unwritten None
failure_of errors.BadArgument = failures.NoWord
failure_of _ = failures.NoMemory
