use Rattle.std.proofs.Common.{◌≡◌, ap, ◌∙◌, arith}
use Rattle.trace_model.specs.Ending.{joined_if, mask_below, waiting, waits}
use Rattle.trace_model.proofs.Masks.{none_below, one_below}
use Rattle.trace_model.proofs.stop.Stop.waiting.Goals as goal

pub loop-cpu-init : goal.loop-cpu-init
loop-cpu-init c = none_below _ _ c.empty-mask.ensures

pub loop-cpu-preserved : goal.loop-cpu-preserved
loop-cpu-preserved c =
    one_below _ c.loop-cpu.cpu c.loop-cpu.mask c.joined_if-mask.result c.loop-cpu.invariant
    (c.joined_if-mask.ensures ∙ ap (λ b. joined_if b c.loop-cpu.mask c.loop-cpu.cpu) c.waits.ensures)

pub returns : goal.returns
unfolding waiting
returns c = let end : c.loop-cpu.cpu ≡ 32 = omega arith in c.loop-cpu.invariant ∙ ap (mask_below (waits c.args.self.now)) end
