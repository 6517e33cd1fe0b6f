use Rattle.std.proofs.Common.{ap, ◌∙◌}
use Rattle.trace_ftrace.specs.KeptView.{kept_value}
use Rattle.trace_ftrace.specs.ToldView.{telling_value}
use Rattle.trace_page.specs.TracePages.{kernel_page, shown}
use Rattle.trace_page.proofs.page.page_of_kernel.Goals as goal

pub returns-in-Ok-told_page : goal.returns-in-Ok-told_page
returns-in-Ok-told_page g c = record {
  said = c.in-Ok.printed.0;
  printed = c.in-Ok.ensures;
  kept = kept_value c.in-Ok-read_told.reading.kept;
  telling = telling_value c.in-Ok-read_told.reading.telling;
  read = c.in-Ok-read_told.ensures;
  page = c.in-Ok-told_page.ensures
      ∙ ap (λ told. kernel_page c.args.text.now (shown told) c.as_slice.result.now) c.as_slice-told.ensures.value
      ∙ ap (λ said. kernel_page c.args.text.now (shown c.in-Ok-read_told.reading.telling.told.items) said) c.as_slice.ensures.value;
}
