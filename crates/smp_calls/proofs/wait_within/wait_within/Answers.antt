use Rattle.std.proofs.Common.{ℕ, sym, ◌∙◌, subst, rules, arith}
use Rattle.smp_calls.proofs.Polling.{Asks, asks_start, asks_more, asks_end}
use Rattle.smp_calls.proofs.wait_within.wait_within.Goals as goal

pub loop-cpu-init : goal.loop-cpu-init
loop-cpu-init g c =
    subst (λ (left : ℕ). Asks g.H.Handler.leads c.args.me.now c.args.handler.now c.args.me.now c.args.handler.now c.args.called left c.args.called
    c.args.called c.args.polls c.args.polls) (sym (c.into_iter-cpu-iterator.ensures.into_iter_gives ∙ c.iter-cpu-items.ensures))
    (asks_start g.H.Handler.leads c.args.me.now c.args.handler.now c.args.called c.args.polls)

pub loop-cpu-preserved : goal.loop-cpu-preserved
loop-cpu-preserved g c =
    let next = c.in-Some.ensures.steps in
    let e = c.poll_until-done.ensures in
    asks_more g.H.Handler.leads c.args.called c.loop-cpu.cpu-iterator c.next.new.self c.in-Some.cpu c.many_record.result c.loop-cpu.answered c.loop-cpu.silent
    c.without_unless-answered.result c.without_unless-silent.result c.args.polls c.loop-cpu.left c.poll_until-done.result.1 c.poll_until-done.result.0
    c.loop-cpu.invariant next.0 next.1.0 next.1.1 c.many_record.ensures (search rules) e.left e.locked e.turns e.apart e.polled e.fewer e.at_once
    c.without_unless-answered.ensures.kept c.without_unless-answered.ensures.out c.without_unless-silent.ensures.kept c.without_unless-silent.ensures.out

pub returns : goal.returns
returns g c =
    asks_end g.H.Handler.leads c.args.called c.loop-cpu.cpu-iterator c.loop-cpu.answered c.loop-cpu.silent c.args.polls c.loop-cpu.left c.loop-cpu.invariant
    c.in-None.ensures.steps.0.0 (λ x h. omega (arith, c.requires.limits.below x (c.requires.online x h), c.requires.limits.within))
