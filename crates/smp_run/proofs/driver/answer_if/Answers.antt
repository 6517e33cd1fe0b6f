use Rattle.std.proofs.Common.{◌∙◌, [], refl, sym}
use Rattle.smp_run.proofs.Making.{line_of_other, made_same}
use Rattle.smp_run.proofs.driver.answer_if.Goals as goal

pub returns-else-cpu-number-clause-made : goal.returns-else-cpu-number-clause-made
returns-else-cpu-number-clause-made g c =
    let me = c.args.seat.now.cpu in (
      [],
      line_of_other c.args.seat.now.machine me.calls.number c.in-Do.cpu c.in-Do.count c.in-Do.request c.args.line.now c.args.answer.now c.in-Do.is
          (λ own. c.if-cpu-number.false (own ∙ sym c.number.ensures.number)),
      made_same me me refl,
    )
