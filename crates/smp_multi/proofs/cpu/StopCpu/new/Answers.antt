use Rattle.std.proofs.Common.{ap}
use Rattle.smp_multi.specs.Cpu.{cpu_of}
use Rattle.smp_multi.specs.Names.{KnownStops}
use Rattle.smp_multi.proofs.cpu.StopCpu.new.Goals as goal

pub returns : goal.returns
returns c = ap (λ (v : KnownStops). cpu_of (record { table = c.args.seat.table; known = v })) c.requires.fresh
