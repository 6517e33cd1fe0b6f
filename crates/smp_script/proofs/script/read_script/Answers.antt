use Rattle.std.proofs.Common.{arith}
use Rattle.smp_script.proofs.Reader.FieldLists.{fields_short}
use Rattle.smp_script.proofs.script.read_script.Goals as goal

pub read_whole_cpus-requires-clause-short : goal.read_whole_cpus-requires-clause-short
read_whole_cpus-requires-clause-short g c =
    rw c.as_slice-2.ensures.value (fields_short c.in_ok-second.second.now _ (omega (arith, c.in_ok-first.ensures.shorter.1, c.in_ok-second.ensures.shorter.0))
    c.in-Ok-fields.ensures)
