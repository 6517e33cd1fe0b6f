use Rattle.std.proofs.Common.{ℕ, refl, subst}
use Rattle.smp_words.specs.Limits.{AreLimits}
use Rattle.smp_machine.proofs.StopWorks.{one_begins}
use Rattle.smp_machine.proofs.stop_work.one_work.Goals as goal

pub returns-clause-begins : goal.returns-clause-begins
returns-clause-begins g c =
    let on = c.online.ensures in
    one_begins c.args.table.now c.args.dst c.args.func c.args.arg _
    record { kind = refl; mask = c.only-mask.ensures; active = refl; func_is = refl; arg_is = refl }
    (subst (λ (m : ℕ). AreLimits c.args.table.now.nr m) on.value on.limits) c.requires
