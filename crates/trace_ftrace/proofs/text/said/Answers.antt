use Rattle.std.proofs.Common.{sym}
use Rattle.trace_ftrace.proofs.Printing.{prints_seen}
use Rattle.trace_ftrace.specs.SourceView.{source_value}
use Rattle.trace_ftrace.proofs.text.said.Goals as goal

pub returns-in-Ok : goal.returns-in-Ok
returns-in-Ok g c =
    prints_seen (source_value c.args.source.now) c.in-Ok.bytes c.ruling_of.result c.args.verdict.now (sym c.in-None.ensures) c.in-Ok.ensures
    c.ruling_of.ensures
