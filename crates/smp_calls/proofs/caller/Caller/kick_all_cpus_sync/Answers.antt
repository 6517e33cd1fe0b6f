use Rattle.std.proofs.Common.{refl}
use Rattle.smp_calls.proofs.caller.Caller.kick_all_cpus_sync.Goals as goal

pub returns-clause-ended : goal.returns-clause-ended
returns-clause-ended g c = c.smp_call_function.ensures.ended refl
