use Rattle.smp_run.proofs.Readings.{key_more}
use Rattle.smp_run.proofs.reading.read_key.Goals as goal

pub returns : goal.returns
returns g c =
    key_more c.args.machine.now c.args.me.now c.read_key.new.me c.args.k c.in-Ok.on c.requires.seated c.in-Ok.ensures.answers
    c.read_key.ensures.calls c.read_key.ensures.passes
