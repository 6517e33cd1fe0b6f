use Rattle.std.proofs.Common.{◌≡◌, None}
use Rattle.smp_machine.specs.Own.{own_of}
use Rattle.smp_machine.specs.Works.{Works}
use Rattle.smp_machine.proofs.key.collect_quietly.Given as goal

abbrev pub invariant-loop : goal.invariant-loop
invariant-loop g l = record {
  works : Works g.H.Handler.leads g.F.StopFunc.leads l.fn.me l.fn.handler l.fn.run l.me l.handler l.run (own_of l.fn.me);
  outside : l.me.stops.inside ≡ None;
  read : l.me.stops.part.readings ≡ l.fn.me.stops.part.readings;
  passes : l.me.passes ≡ l.fn.me.passes;
}
