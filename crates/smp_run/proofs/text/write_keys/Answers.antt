use Rattle.smp_run.specs.Text.{key_text}
use Rattle.smp_run.proofs.Numbering.{none_written, more_written_at}
use Rattle.smp_run.proofs.text.write_keys.Goals as goal

pub loop-k-init : goal.loop-k-init
loop-k-init g c = none_written key_text 0 c.args.keys.now _

pub loop-k-preserved : goal.loop-k-preserved
loop-k-preserved g c = more_written_at key_text c.loop-k.k c.args.keys.now _ _ _ _ c.loop-k-test.true c.loop-k.invariant c.in_ok-write_key.ensures
