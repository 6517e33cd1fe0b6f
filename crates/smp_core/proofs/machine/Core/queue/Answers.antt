use Rattle.std.proofs.Common.{◌∙◌}
use Rattle.smp_words.specs.Layout.{number_in}
use Rattle.smp_call_steps.specs.Words.{nexts_in}
use Rattle.smp_call_steps.specs.Value.{ValuesShow, control_of}
use Rattle.smp_call_steps.specs.Queues.{HasChain}
use Rattle.smp_call_steps.proofs.State.QueueChains.{queue_chain, queue_read}
use Rattle.smp_core.proofs.machine.Core.queue.Goals as goal
use Rattle.smp_words.specs.declared.word.Word.TheVariants.{Head}

pub chain-requires-clause-chained : goal.chain-requires-clause-chained
chain-requires-clause-chained g c =
    let items = c.self.inside.words.items in
    let h : HasChain (nexts_in (number_in items)) (number_in items (Head c.args.cpu)) =
    queue_chain c.self.invariant.table.calls (number_in items) (control_of c.self.inside.controls.items) c.args.cpu c.self.invariant.table.shown in
    rw (c.read.ensures, c.deref.ensures.value, c.deref-2.ensures.value) h

pub returns-clause-calls : goal.returns-clause-calls
returns-clause-calls g c is_online calls shown =
    let items = c.self.inside.words.items in
    let inside : ValuesShow calls items c.self.inside.controls.items = rw (← c.self.view_is) at shown in
    c.chain.ensures ∙ rw (c.read.ensures, c.deref.ensures.value, c.deref-2.ensures.value)
    (queue_read calls (number_in items) (control_of c.self.inside.controls.items) c.args.cpu inside)
