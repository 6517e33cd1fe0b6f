use Rattle.std.proofs.Common.{length, refl}
use Rattle.trace_ftrace.proofs.Orders.{rules_lawful}
use Rattle.trace_ftrace.proofs.ordered.judge_in_order.Goals as goal

pub returns-in-Ok-goes_steps : goal.returns-in-Ok-goes_steps
returns-in-Ok-goes_steps g c =
    rules_lawful c.lawful.result c.args.marks.now c.args.told.now c.in-Ok.steps.items c.as_slice-slice.result.now (length c.as_slice-slice.result.now)
    c.in-Ok-open_in_order.state c.goes_steps.new.state c.in-Ok.ensures c.in-Ok-open_in_order.ensures c.as_slice-slice.ensures.value
    c.in-Ok-goes_steps.ensures refl c.lawful.ensures
