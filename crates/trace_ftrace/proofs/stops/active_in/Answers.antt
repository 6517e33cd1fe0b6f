use Rattle.std.proofs.Common.{◌≡◌, ap, ◌∙◌, arith}
use Rattle.trace_model.specs.Ending.{joined_if, mask_below}
use Rattle.trace_model.proofs.Masks.{none_below, one_below}
use Rattle.trace_ftrace.specs.Stops.{active_in, is_active}
use Rattle.trace_ftrace.proofs.stops.active_in.Goals as goal

pub loop-cpu-init : goal.loop-cpu-init
loop-cpu-init c = none_below _ _ c.empty-active.ensures

pub loop-cpu-preserved : goal.loop-cpu-preserved
loop-cpu-preserved c =
    one_below _ c.loop-cpu.cpu c.loop-cpu.active c.joined_if-active.result c.loop-cpu.invariant
    (c.joined_if-active.ensures ∙ ap (λ b. joined_if b c.loop-cpu.active c.loop-cpu.cpu) c.is_active.ensures)

pub returns : goal.returns
unfolding active_in
returns c = let end : c.loop-cpu.cpu ≡ 32 = omega arith in c.loop-cpu.invariant ∙ ap (mask_below (is_active c.args.mask c.args.bits)) end
