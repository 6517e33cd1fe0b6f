-- The answers that the CPUs have filled are all that there are.
use Rattle.std.proofs.Common.{List, ap, drop, length, subst, sym, ◌∙◌}
use Rattle.std.proofs.lemmas.List.{take_at}
use Rattle.smp_run.specs.Driven.{AreJoined}
use Rattle.smp_run.specs.declared.answer.Answer.{Answer}
use Rattle.smp_run.proofs.Running.{are_driven}
use Rattle.smp_run.proofs.launch.run_all.Goals as goal

pub gather_all-requires-clause-back : goal.gather_all-requires-clause-back
gather_all-requires-clause-back g c =
    are_driven _ _ (λ h. h.answers.items) (λ p call q led. ap (λ (v : _). v.items) led) _ _ c.args.machine.now c.args.crew.now.lines.now _
    c.in-Ok.back.items c.in-Ok.ensures.back

pub returns : goal.returns
returns g c =
    let m = c.args.machine.now in let lines = c.args.crew.now.lines.now in let last = c.in_ok-last.last in let filled = c.gather_all.new.answers in
    let rest = drop (length filled) c.args.answers.items in let joined : AreJoined m lines last filled = c.in_ok-last.ensures in
    subst (λ (xs : List Answer). AreJoined m lines last xs) (sym (take_at filled rest c.args.answers.len (joined.answered.sized ∙ sym c.requires.sized))) joined
