use Rattle.std.proofs.Common.{ℕ, ap, ◌∙◌}
use Rattle.smp_words.specs.Layout.{number_in}
use Rattle.smp_words.specs.Size.{records}
use Rattle.smp_call_steps.specs.{nexts_in, chain_in, control_of, leads_through}
use Rattle.smp_call_steps.proofs.State.Places.{in_queue}
use Rattle.smp_call_steps.proofs.State.QueueChains.{queue_chain, queue_read}
use Rattle.smp_call_steps.proofs.place.is_queued.Goals as goal

pub is_on_chain-requires-clause-chained : goal.is_on_chain-requires-clause-chained
is_on_chain-requires-clause-chained c =
    rw c.read.ensures (queue_chain c.requires.table.calls (number_in c.args.words.now) (control_of c.args.controls.now) c.args.cpu c.requires.table.shown)

pub returns-clause-calls : goal.returns-clause-calls
returns-clause-calls c calls shown =
    let at = number_in c.args.words.now in
    let control = control_of c.args.controls.now in
    let whole = ap (chain_in (nexts_in at) records) c.read.ensures ∙ queue_read calls at control c.args.cpu shown in
    in_queue shown c.args.cpu c.args.id (chain_in (nexts_in at) records c.read.result) c.is_on_chain.result whole c.is_on_chain.ensures

pub returns-clause-told : goal.returns-clause-told
returns-clause-told c = c.is_on_chain.ensures ∙ ap (λ (link : ℕ). leads_through c.args.words.now link c.args.id) c.read.ensures
