-- Answers of stop functions where a command begins, and after a step of a stop half.
use Rattle.std.specs.{Int.w32, Prelude.slice_set}
use Rattle.std.proofs.Common.{◌≡◌, ℕ, ℤ, ◌<◌, Option, Some, None, List, length, rules, FitsSigned, arith}
use Rattle.std.proofs.lemmas.Int.{to_z-of_z}
use Rattle.smp_words.proofs.Puts.{at_test}
use Rattle.smp_words.specs.Commands.{FitsCommand}
use Rattle.smp_stop_steps.specs.{Command, AnswersAreTaken, BeginsWith, HasI32Answers, IsI32Word, StageFits, VisitFits, StopControlValue, answer_word, in_visit}
use Rattle.smp_stop_steps.specs.{stop_first, stop_control_of, Advance, Complete, Visit, CompletionStage, RoundStage}
use Rattle.smp_stop_steps.proofs.TheMachine.Values.{stop_controls_by_cpu}

-- the word of an i32
word_fits : (answer : ℤ) → FitsSigned w32 answer → IsI32Word (answer_word answer)
word_fits answer f = search rules

-- a command with an answer begins with its word
begins_with : (answer : ℤ) → FitsSigned w32 answer → (x : Option Visit) (v : Visit) → x ≡ Some v →
    BeginsWith answer (in_visit x (λ w. Advance w (RoundStage.Look (answer_word answer))))
    × BeginsWith answer (in_visit x (λ w. Complete w (CompletionStage.LoadFunc (answer_word answer))))
begins_with answer f None v e = cc
begins_with answer f (Some w) v e = search (word_fits, to_z-of_z, arith)

pub answers_are_taken : AnswersAreTaken
answers_are_taken c v answer e f = begins_with answer f c.visit v e

-- the first stage of a command with an answer has the word of an i32
pub first_fits : (c : StopControlValue) (x : Command) → VisitFits c.visit → FitsCommand x → StageFits (stop_first c x)
first_fits c x k f = search (c.visit, word_fits, arith)

-- where one CPU stands anew, with answers of i32s
pub answers_set : (controls : List StopControlValue) (me : ℕ) (new : StopControlValue) → me < length controls →
    ((cpu : ℕ) → HasI32Answers (stop_control_of controls cpu)) → HasI32Answers new →
    (cpu : ℕ) → HasI32Answers (stop_control_of (slice_set controls me new) cpu)
answers_set controls me new low all h cpu = search (stop_controls_by_cpu, at_test, arith)
