use Rattle.std.proofs.Common.{ℕ, Bool, ◌||◌, ◌==◌, ap, ◌∙◌, refl, subst}
use Rattle.smp_mask.specs.Mask.{has}
use Rattle.smp_words.specs.Limits.{AreLimits}
use Rattle.smp_machine.proofs.StopWorks.{two_begins}
use Rattle.smp_machine.proofs.stop_work.two_work.Goals as goal

pub returns-clause-begins : goal.returns-clause-begins
returns-clause-begins g c =
    let on = c.online-online.ensures in
    two_begins c.args.table.now c.args.a c.args.b c.args.func c.args.arg _
    record {
      kind = refl;
      mask = λ x. c.or.ensures x ∙ (ap (λ (b : Bool). b || has c.only.result x) (c.only-active.ensures x)
          ∙ ap (λ (b : Bool). x == c.args.a || b) (c.only.ensures x));
      active = c.only-active.ensures;
      func_is = refl;
      arg_is = refl;
    }
    (subst (λ (m : ℕ). AreLimits c.args.table.now.nr m) on.value on.limits) c.requires.a c.requires.b
