-- The first fault of a script: its line, and what is wrong there.
use Rattle.std.specs.Prelude.{◌≡◌, ℕ, Result, Ok, Err}
use Rattle.smp_mask.specs.declared.error.Cause.{Cause}
use Rattle.smp_mask.specs.declared.error.SmpError.{SmpError}
use Rattle.smp_mask.specs.declared.error.SmpError.TheVariants as errors

-- a line's number and what is wrong there
abbrev pub Fault : Type 0
Fault = ℕ × Cause

-- the same with the number of the line
abbrev pub at_line : {A : Type 0} → ℕ → Result A Cause → Result A Fault
at_line n (Ok x) = Ok x
at_line n (Err cause) = Err (n, cause)

-- what an error says of reading: all but want of memory is its first fault
abbrev pub Fails : {Y : Type 0} → SmpError → Result Y Fault → Type 0
Fails errors.NoMemory read = Unit {0}
Fails (errors.BadScript n cause) read = read ≡ Err (n, cause)
Fails _ read = ⊥

-- what a function returned, seen by view, is what reading gives, unless memory ran out
abbrev pub Gives : {X Y : Type 0} → (X → Y) → Result X SmpError → Result Y Fault → Type 0
Gives view (Ok x) read = read ≡ Ok (view x)
Gives view (Err e) read = Fails e read
