use Rattle.std.proofs.Common.{ℕ, ◌≡◌, true, ap, subst}
use Rattle.smp_mask.specs.Mask.{members}
use Rattle.smp_words.specs.declared.call.Class.TheVariants.{Sync}
use Rattle.smp_calls.specs.Ended.{HaveEnded}
use Rattle.smp_calls.specs.Records.{many_call}
use Rattle.smp_machine.specs.MachineCpu.{MachineCpuValue}
use Rattle.smp_machine.proofs.hearing.many.Goals as goal

pub returns-clause-ended : goal.returns-clause-ended
returns-clause-ended g c =
    subst (λ (n : ℕ). c.args.call.wait ≡ true → HaveEnded c.call_many-called.new.me (many_call n Sync c.args.call.func c.args.call.info)
    (members c.call_many-called.result))
    (ap (λ (p : MachineCpuValue). p.calls.number) c.me.view_is) c.call_many-called.ensures.ended
