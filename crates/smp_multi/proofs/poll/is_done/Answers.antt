use Rattle.std.proofs.Common.{refl, ◌∙◌}
use Rattle.smp_multi.proofs.Polling.{ready_done, known_done}
use Rattle.smp_multi.proofs.poll.is_done.Goals as goal

pub load-requires : goal.load-requires
load-requires c = ready_done _ _ c.args.number c.requires

pub returns-clause-known : goal.returns-clause-known
returns-clause-known c = c.load.ensures.known ∙ known_done _ _ c.args.number c.load.result c.requires _ refl
