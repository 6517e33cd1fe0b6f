use Rattle.std.proofs.Common.{◌≡◌, ap, ◌∙◌, arith}
use Rattle.trace_page.specs.Grids.{lanes_below}
use Rattle.trace_page.proofs.grid.lanes_of.Goals as goal

pub returns-clause-lanes : goal.returns-clause-lanes
returns-clause-lanes g c = let end : c.loop-cpu.cpu ≡ 512 = omega arith in c.loop-cpu.invariant.0 ∙ ap (lanes_below c.args.events.now) end
