use Rattle.std.proofs.Common.{arith}
use Rattle.smp_queue.proofs.Audits.Showing.{is_shown}
use Rattle.smp_queue.proofs.cpu.CallCpu.is_shown.Goals as goal

pub returns : goal.returns
returns c = search (is_shown, arith)
