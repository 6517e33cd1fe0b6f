use Rattle.std.proofs.Common.{◌+◌, refl}
use Rattle.smp_run.specs.Text.{line_text}
use Rattle.smp_run.proofs.Numbering.{none_written, more_written}
use Rattle.smp_run.proofs.text.write_answers.Goals as goal

pub loop-at-init : goal.loop-at-init
loop-at-init g c = none_written line_text c.args.first c.args.answers.now _

pub loop-at-preserved : goal.loop-at-preserved
loop-at-preserved g c = more_written line_text c.args.first c.loop-at.at (c.args.first + c.loop-at.at) c.args.answers.now c.index-answers-at.result _ _ _
    c.loop-at-test.true
    c.index-answers-at.is refl c.loop-at.invariant c.in_ok-write_line.ensures
