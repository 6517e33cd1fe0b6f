-- The numbers that C gets.
use Rattle.std.specs.Prelude.{ℤ, pos, negsuc, Bool, if◌then◌else◌, Result, Ok, Err}
use Rattle.smp_mask.specs.declared.error.SmpError.{SmpError}
use Rattle.smp_mask.specs.declared.error.SmpError.TheVariants as error

-- the handle is closed; a function of the CPU is out; none is out
abbrev pub closed : ℤ
closed = negsuc 19

abbrev pub inside : ℤ
inside = negsuc 20

abbrev pub outside : ℤ
outside = negsuc 21

-- the number of an error: that of its name, below 0
abbrev pub number_of : SmpError → ℤ
number_of error.NoCpu = negsuc 0
number_of error.Busy = negsuc 1
number_of error.NoStopper = negsuc 2
number_of error.BadArgument = negsuc 3
number_of error.Contended = negsuc 4
number_of error.NoMemory = negsuc 5
number_of error.Stale = negsuc 6
number_of error.SlotBusy = negsuc 7
number_of (error.BadScript line cause) = negsuc 8
number_of error.IdleStep = negsuc 9
number_of (error.BadMask position) = negsuc 10
number_of (error.StreamFailed side) = negsuc 11
number_of (error.KeyRange edge) = negsuc 12

-- 0, or the number of an error
abbrev pub status_of : Result Unit SmpError → ℤ
status_of (Ok u) = pos 0
status_of (Err e) = number_of e

-- 1 for yes, 0 for no
abbrev pub bit_of : Bool → ℤ
bit_of b = if b then pos 1 else pos 0

abbrev pub yes_of : Result Bool SmpError → ℤ
yes_of (Ok b) = bit_of b
yes_of (Err e) = number_of e
