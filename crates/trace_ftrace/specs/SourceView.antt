-- A text and what is read of it, as those of the definitions.
use Rattle.trace_ftrace.specs.NamesView.{names_value}
use Rattle.trace_ftrace.specs.Text.{SourceValue}
use Rattle.trace_ftrace.specs.declared.verdict_text.Source.{Source}

abbrev pub source_value : Source → SourceValue
source_value s = record {
  text = s.text.now;
  names = names_value s.names;
  marks = s.marks.now;
  offline = s.offline;
  told = s.told.now;
  order = s.order;
  slow = s.slow;
}
