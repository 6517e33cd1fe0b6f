use Rattle.std.proofs.Common.{ℕ, ◌≡◌, ◌≢◌, true, IfOk, [], ◌∷◌, ap, subst}
use Rattle.smp_words.specs.declared.call.Class.TheVariants.{Sync}
use Rattle.smp_calls.specs.Ended.{HaveEnded}
use Rattle.smp_calls.specs.Records.{call_by, single_record}
use Rattle.smp_machine.specs.MachineCpu.{MachineCpuValue}
use Rattle.smp_machine.proofs.hearing.single.Goals as goal

pub returns-clause-ended : goal.returns-clause-ended
returns-clause-ended g c =
    subst (λ (n : ℕ). IfOk c.call_single-answer.result (λ _. c.args.call.wait ≡ true → c.args.call.dst ≢ n →
    HaveEnded c.call_single-answer.new.me (λ _. call_by n (single_record true) Sync c.args.call.func c.args.call.info) (c.args.call.dst ∷ [])))
    (ap (λ (p : MachineCpuValue). p.calls.number) c.me.view_is) c.call_single-answer.ensures.ended
