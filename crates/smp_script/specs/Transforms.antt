-- A text that is read, what is made of it, and what is written of that.
use Rattle.std.specs.Prelude.{◌≡◌, ℕ, Bool, true, List, Option, Result, Ok, Err, Vec}
use Rattle.std.specs.Io.KnownBytes.{Appends}
use Rattle.smp_mask.specs.declared.error.SmpError.{SmpError}
use Rattle.smp_mask.specs.declared.error.SmpError.TheVariants as errors
use Rattle.smp_mask.specs.declared.error.Side.TheVariants as sides
use Rattle.smp_script.specs.Faults.{Fault}
use Rattle.smp_script.specs.Script.{script_of}
use Rattle.smp_script.specs.Streams.{GaveUpTo, TookFront, IsWriteError}
use Rattle.smp_script.specs.declared.mode.Mode.{Mode}

-- a text is no script of this kind, and this is its first fault
abbrev pub HasFault : Mode → List ℕ → Fault → Type 0
HasFault mode text fault = script_of mode text ≡ Err fault

-- this is made of a text, and so it ends; or the text has this fault, or memory ran out
abbrev pub Makes : {A E : Type 0} → (List ℕ → List ℕ → E → Type 0) → (List ℕ → Fault → Type 0) → List ℕ → Result (Vec ℕ A × E) SmpError → Type 0
Makes IsMade IsFault text (Ok (out, ending)) = IsMade text out.items ending
Makes IsMade IsFault text (Err (errors.BadScript n cause)) = IsFault text (n, cause)
Makes IsMade IsFault text (Err errors.NoMemory) = Unit {0}
Makes IsMade IsFault text (Err _) = ⊥

-- a refusal is passed on, and nothing is written; else all that was made is written, or the writer failed and took a front of it
abbrev pub WritesMade : {A E : Type 0} → Option (List ℕ) → Option (List ℕ) → Type 0 → Bool → Result (Vec ℕ A × E) SmpError → Result E SmpError → Type 0
WritesMade held holds same writer (Err refusal) result = (result ≡ Err refusal) × same
WritesMade held holds same writer (Ok (out, ending)) (Ok end) = Appends held holds out.items × (end ≡ ending)
WritesMade held holds same writer (Ok (out, ending)) (Err e) = TookFront held holds out.items × IsWriteError writer e

-- What was read is a text of which this is made, it was written, and so it ends.
pub record Wrote {E : Type 0} (most : ℕ) (IsMade : List ℕ → List ℕ → E → Type 0) (before after held holds : Option (List ℕ)) (ending : E) : Type 0 where
  pub text : List ℕ
  pub out : List ℕ
  pub read : GaveUpTo most before after text
  pub made : IsMade text out ending
  pub written : Appends held holds out

-- What was read is a text of which this is made, and the writer took a front of it.
pub record WroteFront {E : Type 0} (most : ℕ) (IsMade : List ℕ → List ℕ → E → Type 0) (before after held holds : Option (List ℕ)) : Type 0 where
  pub text : List ℕ
  pub out : List ℕ
  pub ending : E
  pub read : GaveUpTo most before after text
  pub made : IsMade text out ending
  pub written : TookFront held holds out

-- What was read is a text with this fault.
pub record Refused (most : ℕ) (IsFault : List ℕ → Fault → Type 0) (before after : Option (List ℕ)) (fault : Fault) : Type 0 where
  pub text : List ℕ
  pub read : GaveUpTo most before after text
  pub first : IsFault text fault

-- what is said of a call that reads and writes, by its answer: of what the reader has left and what the writer has, before and after,
-- where known; whether the writer is as it was; and whether the reader and the writer have failed
abbrev pub Transforming : Type 0 → Type 1
Transforming E = Option (List ℕ) → Option (List ℕ) → Option (List ℕ) → Option (List ℕ) → Type 0 → Bool → Bool → Result E SmpError → Type 0

-- What a call did that reads a text of at most so many bytes, and writes what is made of it.
abbrev pub Transforms : {E : Type 0} → ℕ → (List ℕ → List ℕ → E → Type 0) → (List ℕ → Fault → Type 0) → Transforming E
Transforms most IsMade IsFault before after held holds same reader writer (Ok ending) = Wrote most IsMade before after held holds ending
Transforms most IsMade IsFault before after held holds same reader writer (Err (errors.BadScript n cause)) =
    Refused most IsFault before after (n, cause) × same
Transforms most IsMade IsFault before after held holds same reader writer (Err (errors.StreamFailed sides.Read)) = (reader ≡ true) × same
Transforms most IsMade IsFault before after held holds same reader writer (Err (errors.StreamFailed sides.Write)) =
    WroteFront most IsMade before after held holds × (writer ≡ true)
Transforms most IsMade IsFault before after held holds same reader writer (Err errors.NoMemory) = same
Transforms most IsMade IsFault before after held holds same reader writer (Err _) = ⊥
