use Rattle.std.proofs.Common.{ℕ, ap, subst}
use Rattle.smp_queue.specs.{KnownCalls, heard}
use Rattle.smp_queue.proofs.Handling.Passing.{ran_still}
use Rattle.smp_queue.proofs.Handling.Running.{ran_one}
use Rattle.smp_queue.proofs.handle.run_one.Goals as goal

pub end_call-requires-clause-counts : goal.end_call-requires-clause-counts
end_call-requires-clause-counts g c =
    ran_still c.args.counts.now c.args.seat.now.known c.begin_call-begun.new.seat.known c.requires.counts
    (ap (λ (u : KnownCalls). u.part.ran) c.begin_call-begun.ensures.gives.known)

pub returns-clause-run : goal.returns-clause-run
returns-clause-run g c =
    let begun = c.begin_call-begun.ensures.gives in
    let ended = c.end_call.ensures in
    ran_one g.H.Handler.leads c.args.context.words.shared.now.table_id c.args.seat.now c.begin_call-begun.new.seat c.end_call.new.seat c.go_on.new.seat
    c.args.place c.go_on.result c.end_call.new.counts c.args.handler.now c.call.new.self
    c.requires.at.table_is begun ended.at.table_is ended.known ended.counts c.go_on.ensures.at
    (subst (λ (n : ℕ). g.H.Handler.leads c.args.handler.now (heard n c.args.place.call.func c.args.place.call.info) c.call.new.self) c.owner_of.ensures
    c.call.ensures)
