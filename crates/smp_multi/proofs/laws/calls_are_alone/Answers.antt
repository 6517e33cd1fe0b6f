use Rattle.std.proofs.Common.{subst}
use Rattle.smp_multi.specs.CallLaws.{CallsAlone}
use Rattle.smp_multi.proofs.Calls.{calls_alone}
use Rattle.smp_multi.proofs.laws.calls_are_alone.Goals as goal

pub returns : goal.returns
returns c = subst CallsAlone c.answering.view_is (calls_alone _ _ _ _ _ _ _ c.answering.invariant)
