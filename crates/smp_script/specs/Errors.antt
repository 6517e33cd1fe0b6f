-- The numbers of errors.
use Rattle.std.specs.Prelude.{ℕ}
use Rattle.smp_mask.specs.declared.error.SmpError.{SmpError}
use Rattle.smp_mask.specs.declared.error.SmpError.TheVariants as errors

-- the number of an error
abbrev pub error_number : SmpError → ℕ
error_number errors.NoCpu = 1
error_number errors.Busy = 2
error_number errors.NoStopper = 3
error_number errors.BadArgument = 4
error_number errors.Contended = 5
error_number errors.NoMemory = 6
error_number errors.Stale = 7
error_number errors.SlotBusy = 8
error_number (errors.BadScript line cause) = 9
error_number errors.IdleStep = 10
error_number (errors.BadMask position) = 11
error_number (errors.StreamFailed side) = 12
error_number (errors.KeyRange edge) = 13
