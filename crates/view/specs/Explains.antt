-- What a call of `explain_script` reads and writes.
use Rattle.std.specs.Prelude.{◌≡◌, ℕ, ◌-◌, List, [], ◌∷◌, ◌++◌, Option, option_map, slice_get, Result, Ok, Err, codes}
use Rattle.std.specs.Fmt.{decimal}
use Rattle.smp_script.specs.Faults.{Fault}
use Rattle.smp_script.specs.Lines.{Line}
use Rattle.smp_script.specs.Script.{Script, script_of}
use Rattle.smp_script.specs.Transforms.{Transforming, Transforms}
use Rattle.smp_script.specs.declared.outcome.Outcome.{Outcome}
use Rattle.smp_script.specs.declared.outcome.Outcome.TheVariants.{Done, Stopped}
use Rattle.view.specs.Kinds.{mode_of}

-- the text of line n, counted from 1; number 0 is taken as 1
abbrev pub text_at : List Line → ℕ → Option (List ℕ)
text_at lines n = option_map (λ l. l.text) (slice_get lines (n - 1))

-- how an explanation ends: `Done` exactly where a script is lawful
abbrev pub ending_for : Result Script Fault → Outcome
ending_for (Ok script) = Done
ending_for (Err fault) = Stopped

abbrev pub no_fault_text : List ℕ
no_fault_text = codes "no fault" ++ 10 ∷ []

-- a text that begins with `line`, this number and a space
pub record SaysLine (n : ℕ) (out : List ℕ) : Type 0 where
  pub more : List ℕ
  pub is : out ≡ codes "line " ++ decimal n ++ codes " " ++ more

-- what is said: that a lawful script has no fault, else the line of the first fault, and more
abbrev pub IsSaid : Result Script Fault → List ℕ → Type 0
IsSaid (Ok script) out = out ≡ no_fault_text
IsSaid (Err fault) out = SaysLine fault.0 out

-- What is said of a text, and the ending: `Done` exactly where the text is a lawful script of its kind.
pub record IsExplained (text out : List ℕ) (ending : Outcome) : Type 0 where
  pub said : IsSaid (script_of (mode_of text) text) out
  pub ended : ending ≡ ending_for (script_of (mode_of text) text)

-- a fault is explained, and never a refusal
abbrev pub NeverFaults : List ℕ → Fault → Type 0
NeverFaults text fault = ⊥

-- What a call of `explain_script` did, by its answer: what was read is some text, and what was written is what is said of it.
abbrev pub Explains : Transforming Outcome
Explains = Transforms 65536 IsExplained NeverFaults
