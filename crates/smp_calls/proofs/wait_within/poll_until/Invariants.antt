use Rattle.std.proofs.Common.{◌≤◌}
use Rattle.smp_calls.proofs.Polling.{Polling}
use Rattle.smp_calls.proofs.wait_within.poll_until.Given as goal

abbrev pub invariant-loop-made : goal.invariant-loop-made
invariant-loop-made g l = Polling g.H.Handler.leads l.fn.k l.fn.me l.fn.handler l.me l.handler l.made × (l.made ≤ l.polls)
