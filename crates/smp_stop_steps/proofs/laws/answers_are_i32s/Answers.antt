use Rattle.smp_stop_steps.proofs.{Steps.AnswerWords.keeps_answers, TheMachine.Answered.answers_are_taken}
use Rattle.smp_stop_steps.proofs.laws.answers_are_i32s.Goals as goal

pub returns-clause-steps : goal.returns-clause-steps
returns-clause-steps c u at words control me answers stage e = keeps_answers u at words control me answers stage e

pub returns-clause-commands : goal.returns-clause-commands
returns-clause-commands c control v answer e fits = answers_are_taken control v answer e fits
