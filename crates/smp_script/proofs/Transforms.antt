-- What was read, what was made of it and what was written, put together.
use Rattle.std.proofs.Common.{ℕ, Bool, List, Option, Result, Ok, Err}
use Rattle.std.specs.Prelude.{Vec}
use Rattle.smp_mask.specs.declared.error.SmpError.{SmpError}
use Rattle.smp_mask.specs.declared.error.SmpError.TheVariants as errors
use Rattle.smp_mask.specs.declared.error.Side.TheVariants as sides
use Rattle.smp_script.specs.Faults.{Fault}
use Rattle.smp_script.specs.Streams.{GaveUpTo}
use Rattle.smp_script.specs.Transforms.{Makes, Transforms, WritesMade}

module _ {A E : Type 0} {most : ℕ} {before after : Option (List ℕ)} {text : List ℕ} (IsMade : List ℕ → List ℕ → E → Type 0)
    (IsFault : List ℕ → Fault → Type 0) (held holds : Option (List ℕ)) (same : Type 0) (reader writer : Bool) (gave : GaveUpTo most before after text) where
  pub transformed : (made : Result (Vec ℕ A × E) SmpError) (result : Result E SmpError) → Makes IsMade IsFault text made
      → WritesMade held holds same writer made result → Transforms most IsMade IsFault before after held holds same reader writer result
  transformed (Ok (out, ending)) (Ok end) m (appends, e) = record { text = text; out = out.items; read = gave; made = rw e m; written = appends }
  transformed (Ok (out, ending)) (Err (errors.StreamFailed sides.Write)) m (front, failed) =
      (record { text = text; out = out.items; ending = ending; read = gave; made = m; written = front }, failed)
  transformed (Err (errors.BadScript n cause)) result m (e, s) = rw e (record { text = text; read = gave; first = m }, s)
  transformed (Err errors.NoMemory) result m (e, s) = rw e s
  transformed _ _ m w = search
