use Rattle.std.proofs.Common.{ℕ, refl, subst}
use Rattle.smp_words.specs.Limits.{AreLimits}
use Rattle.smp_multi.specs.Names.{Multi}
use Rattle.smp_machine.proofs.StopWorks.{all_begins}
use Rattle.smp_machine.proofs.stop_work.machine_work.Goals as goal

pub returns-clause-begins : goal.returns-clause-begins
returns-clause-begins g c =
    let mask = c.online-mask.ensures in
    all_begins c.args.table.now (record { kind = Multi; mask = c.online-mask.result; active = c.match-active.active; func = c.args.func; arg = c.args.arg })
    refl
    mask.value (subst (λ (m : ℕ). AreLimits c.args.table.now.nr m) mask.value mask.limits)
