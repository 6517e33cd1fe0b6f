use Rattle.std.proofs.Common.{◌∙◌, arith}
use Rattle.std.proofs.lemmas.Iterator.Consumers.{YieldsList-at, YieldsList-turn, YieldsList-end}
use Rattle.smp_mask.specs.declared.mask.TheConstants.{NR_CPUS}
use Rattle.smp_mask.proofs.Members.{road, members_fit}
use Rattle.smp_core_tests.proofs.tests.masks.counted.Goals as goal

pub overflow_add-count : goal.overflow_add-count
overflow_add-count c =
    let from = YieldsList-at (c.into_iter-cpu-iterator.ensures.into_iter_gives ∙ c.iter-cpu-items.ensures) (road c.args.mask) in
    let turn = YieldsList-turn from c.loop-cpu.yielded _ c.loop-cpu.yielded_by _ _ c.in-Some.cpu c.in-Some.is c.next.ensures.steps in
    omega (arith, turn.0, c.loop-cpu.invariant, members_fit c.args.mask NR_CPUS)

pub returns : goal.returns
returns c =
    let from = YieldsList-at (c.into_iter-cpu-iterator.ensures.into_iter_gives ∙ c.iter-cpu-items.ensures) (road c.args.mask) in
    let ended = YieldsList-end from c.loop-cpu.yielded _ c.loop-cpu.yielded_by _ _ c.in-None.is c.next.ensures.steps in
    c.loop-cpu.invariant ∙ ended.1
