use Rattle.std.proofs.Common.{◌≡◌, ℕ, List}
use Rattle.smp_calls.proofs.Passes.{Passed}
use Rattle.smp_machine.specs.Own.{own_of, with_put}
use Rattle.smp_machine.specs.Stops.{item, AreShown}
use Rattle.smp_machine.specs.Works.{Works}
use Rattle.smp_machine.proofs.stop.put_to_all.Given as goal

abbrev pub invariant-loop-cpu : goal.invariant-loop-cpu
invariant-loop-cpu g l = record {
  xs : List ℕ;
  passed : Passed l.work.mask l.cpu-iterator xs;
  works : Works g.H.Handler.leads g.F.StopFunc.leads l.fn.me l.fn.handler l.fn.run l.me l.handler l.run
      (with_put (item l.fn.me.stops.number l.work) xs (own_of l.fn.me));
  stops : l.me.stops ≡ l.fn.me.stops;
  shown : AreShown xs l.me.passes;
}
