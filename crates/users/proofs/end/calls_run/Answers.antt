use Rattle.users.proofs.Ending.{last_back}
use Rattle.users.proofs.end.calls_run.Goals as goal

pub shutdown-requires : goal.shutdown-requires
shutdown-requires g c = last_back _ c.pop.new.self.items c.in-Some.last (rw c.in-Some.ensures.items at c.requires)
