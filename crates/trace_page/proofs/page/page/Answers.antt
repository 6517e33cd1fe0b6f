use Rattle.std.proofs.Common.{rules}
use Rattle.trace_page.specs.TracePages.{page_of}
use Rattle.trace_page.proofs.page.page.Goals as goal

pub returns : goal.returns
unfolding page_of
returns g c = rw (
  c.in_ok-push_script.ensures,
  c.in_ok-push_escaped.ensures,
  c.in_ok-extend_from_slice-2.ensures.items,
  c.as_bytes.ensures.value,
  c.in_ok-extend_from_slice.ensures.items,
  c.in_ok-push_front.ensures,
  c.new-out.ensures.items,
) (search rules)
