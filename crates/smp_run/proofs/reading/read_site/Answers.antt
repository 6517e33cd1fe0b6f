use Rattle.smp_run.proofs.Readings.{site_more}
use Rattle.smp_run.proofs.reading.read_site.Goals as goal

pub returns : goal.returns
returns g c =
    site_more c.args.machine.now c.args.me.now c.read_site.new.me c.args.i c.in-Ok.kind c.requires.seated c.in-Ok.ensures.answers
    c.read_site.ensures.calls c.read_site.ensures.passes
