-- What is to be proved of each step of a CPU.
use Rattle.std.proofs.Common.{ℕ}
use Rattle.smp_words.specs.Put.{put}
use Rattle.smp_words.specs.Access.{at_after, word_of, seen_of}
use Rattle.smp_call_steps.specs.{CallState, tells, ControlValue, access_of, outcome_of, control_after, Word, Stage}
use Rattle.smp_call_steps.specs.Shows.{Shows}

-- after a step of me at this stage, the words show the calls that the step tells
abbrev pub StepShows : CallState → (Word → ℕ) → (ℕ → ControlValue) → ℕ → Stage → Type 0
StepShows a at control me stage =
    let access = access_of at me stage in
    let found = at (word_of access) in
    Shows (tells a (seen_of me access found (outcome_of (control me).drain stage found).note)) (at_after at access)
    (put control me (control_after (control me) stage found))
