use Rattle.std.proofs.Common.{rules}
use Rattle.trace_ftrace.proofs.ThinLines.{left_out, feeds_more, feeds_same, feeds_within}
use Rattle.trace_ftrace.proofs.thin_text.ThinText.add_byte.Goals as goal

pub overflow_add-self : goal.overflow_add-self
overflow_add-self g c = search (rules, feeds_within)

pub returns-in_ok-push-clause-numbered : goal.returns-in_ok-push-clause-numbered
returns-in_ok-push-clause-numbered g c = search (rules, feeds_more)

pub returns-in_ok-push-2-clause-numbered : goal.returns-in_ok-push-2-clause-numbered
returns-in_ok-push-2-clause-numbered g c = search (rules, feeds_same)

pub returns-else-has-clause-same : goal.returns-else-has-clause-same
returns-else-has-clause-same g c = search (rules, left_out)
