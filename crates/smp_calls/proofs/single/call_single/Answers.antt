use Rattle.std.proofs.Common.{Bool, subst}
use Rattle.smp_calls.specs.Families.{CallsOne}
use Rattle.smp_calls.proofs.Ended.{one_ended}
use Rattle.smp_calls.proofs.single.call_single.Goals as goal

pub returns-clause-ended : goal.returns-clause-ended
returns-clause-ended g c waited other =
    one_ended g.H.Handler.leads c.args.me.now c.args.handler.now c.call_there.new.me c.call_there.new.handler c.args.dst c.args.func c.args.info
    (subst (λ (b : Bool). CallsOne g.H.Handler.leads c.args.me.now c.args.handler.now c.call_there.new.me c.call_there.new.handler c.args.dst c.args.func
    c.args.info b) waited c.call_there.ensures.called)
    c.is_shown.ensures
