use Rattle.std.proofs.Common.{◌<◌, ◌^◌, length, arith}
use Rattle.smp_script.proofs.Reader.FieldLists.{fields_short}
use Rattle.trace_judge.proofs.head.cpus_at.Goals as goal

pub read_cpus-requires : goal.read_cpus-requires
read_cpus-requires g c =
    let short : length c.in_ok-line.line.now < 2 ^ 32 = omega (arith, c.in_ok-line.ensures.short) in
    rw c.as_slice.ensures.value (fields_short c.in_ok-line.line.now _ short c.in-Ok.ensures)
