use Rattle.smp_queue.proofs.Together.{runs_what_is_sent, turned}
use Rattle.smp_queue.proofs.laws.parts_agree.Goals as goal

pub returns : goal.returns
returns c one other t = (runs_what_is_sent one other t, runs_what_is_sent other one (turned one other t))
