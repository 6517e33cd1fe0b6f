use Rattle.std.proofs.Common.{inl}
use Rattle.smp_run.proofs.Stays.{stays_quiet}
use Rattle.smp_run.proofs.calls.poll.Goals as goal

pub returns-clause-stays : goal.returns-clause-stays
returns-clause-stays g c =
    let call = c.poll in
    stays_quiet _ _ c.args.seat.now call.new.self (inl (_, call.ensures.works, call.ensures.outside)) call.ensures.same c.requires.rest
