use Rattle.std.proofs.Common.{rules}
use Rattle.view.proofs.page.page.Goals as goal

pub returns : goal.returns
returns g c = rw (
  c.in_ok-push_foot.ensures,
  c.in_ok-push_events.ensures,
  c.new-out.ensures.items,
  c.as_bytes.ensures.value,
  c.as_bytes-2.ensures.value,
  c.in_ok-events.ensures,
  c.in_ok-marked.ensures,
) (search rules)
