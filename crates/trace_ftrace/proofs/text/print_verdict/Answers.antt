use Rattle.std.proofs.Common.{rules}
use Rattle.trace_ftrace.specs.KeptView.{kept_value}
use Rattle.trace_ftrace.specs.SourceView.{source_value}
use Rattle.trace_ftrace.specs.ToldView.{telling_value}
use Rattle.trace_ftrace.proofs.ThinPrinting.{prints_thin}
use Rattle.trace_ftrace.proofs.text.print_verdict.Goals as goal

pub returns : goal.returns
returns g c text same =
    prints_thin c.said.result (source_value c.source_of-source.result) c.args.asked.order text c.args.thin.now c.args.asked.slow
    (kept_value c.args.reading.now.kept) (telling_value c.args.reading.now.telling) c.args.verdict.now (search rules) c.requires same c.said.ensures
