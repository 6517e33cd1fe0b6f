use Rattle.smp_queue.proofs.Handling.Passing.{given_is, serves_now}
use Rattle.smp_queue.proofs.serve.hand_out.Goals as goal

pub invariant_of-result : goal.invariant_of-result
invariant_of-result c =
    let begun = c.begin_call-begun.ensures in (
      serves_now c.args.words.shared.now.table_id c.args.inside.seat c.begin_call-begun.new.seat c.args.place c.args.inside.number c.args.queued c.args.ran
          c.requires.at.table_is c.requires.kept begun.gives,
      begun.of,
    )

pub returns : goal.returns
returns c =
    let begun = c.begin_call-begun.ensures.gives in (
      c.begin_call-begun.new.seat.known.part.batch,
      begun.batch,
      given_is c.args.words.shared.now.table_id c.args.inside.seat c.begin_call-begun.new.seat c.args.place c.requires.at.table_is begun,
    )
