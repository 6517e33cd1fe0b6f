-- Steps that were made.
use Rattle.trace_laws.proofs.Names.{Bool, Err, Ok, Reason, Result, StateValue, false, if_low, if◌then◌else◌, ltb-true, nat_lt, refl, true, ℕ}
use Rattle.trace_laws.proofs.Names.{◌<◌, ◌>>=◌, ◌≡◌}
use Rattle.trace_model.specs.declared.reason.Reason.TheVariants as reason

-- both halves of a step were made
pub both_made : {A B : Type 0} (first : Result A Reason) (next : A → Result B Reason) (b : B) → (first >>= next) ≡ Ok b
    → (a : A) × ((first ≡ Ok a) × (next a ≡ Ok b))
both_made (Ok a) next b e = (a, (refl, e))
both_made (Err why) next b e = absurd cc

-- a test was passed
pub passed : {A : Type 0} (test : Bool) (made : Result A Reason) (why : Reason) (a : A) → (if test then made else Err why) ≡ Ok a → (test ≡ true) ×
    (made ≡ Ok a)
passed true made why a e = (refl, e)
passed false made why a e = absurd cc

-- a test was not passed
pub failed : {A : Type 0} (test : Bool) (made : Result A Reason) (why : Reason) (a : A) → (if test then Err why else made) ≡ Ok a → (test ≡ false) ×
    (made ≡ Ok a)
failed true made why a e = absurd cc
failed false made why a e = (refl, e)

-- an event in a stop, or of keys or sites, was made: its CPU is below 32
pub low_event : (cpu : ℕ) (made : Result StateValue Reason) (t : StateValue) → if_low cpu made ≡ Ok t → (cpu < 32) × (made ≡ Ok t)
low_event cpu made t e = let p = passed (nat_lt cpu 32) made reason.NoSuchWork t e in (ltb-true cpu 32 p.0, p.1)
