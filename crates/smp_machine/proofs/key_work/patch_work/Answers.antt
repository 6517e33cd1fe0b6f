use Rattle.std.proofs.Common.{ℕ, None, refl, subst}
use Rattle.smp_words.specs.Limits.{AreLimits}
use Rattle.smp_machine.specs.Stops.{IsActive}
use Rattle.smp_machine.proofs.StopWorks.{patch_begins}
use Rattle.smp_machine.proofs.key_work.patch_work.Goals as goal

pub returns-clause-begins : goal.returns-clause-begins
returns-clause-begins g c =
    let on = c.online-mask.ensures in
    patch_begins c.args.table.now c.args.k c.args.change _ record {
      kind = refl;
      mask = on.value;
      active = subst (λ (m : ℕ). IsActive m None c.first_of.result) on.value c.first_of.ensures;
      func_is = refl;
      arg_is = c.word.ensures;
    }
    (subst (λ (m : ℕ). AreLimits c.args.table.now.nr m) on.value on.limits) c.requires
