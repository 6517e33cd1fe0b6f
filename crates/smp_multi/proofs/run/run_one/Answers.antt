use Rattle.smp_multi.proofs.Calls.{one_answered}
use Rattle.smp_multi.proofs.run.run_one.Goals as goal

pub returns-clause-known : goal.returns-clause-known
returns-clause-known g c =
    one_answered c.args.seat.now.known c.begin_one-number_of_func.new.seat.known c.answer_one.new.seat.known c.args.slot _ _
    c.begin_one-number_of_func.ensures.known c.answer_one.ensures.known
