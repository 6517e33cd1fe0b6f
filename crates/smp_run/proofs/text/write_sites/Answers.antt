use Rattle.smp_run.specs.Text.{site_text}
use Rattle.smp_run.proofs.Numbering.{none_written, more_written_at}
use Rattle.smp_run.proofs.text.write_sites.Goals as goal

pub loop-i-init : goal.loop-i-init
loop-i-init g c = none_written site_text 0 c.args.sites.now _

pub loop-i-preserved : goal.loop-i-preserved
loop-i-preserved g c = more_written_at site_text c.loop-i.i c.args.sites.now _ _ _ _ c.loop-i-test.true c.loop-i.invariant c.in_ok-write_site.ensures
