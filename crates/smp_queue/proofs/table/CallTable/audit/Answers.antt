use Rattle.std.proofs.Common.{subst}
use Rattle.smp_queue.specs.{IfDrained, HasRowsOf}
use Rattle.smp_queue.proofs.Audits.Closed.{last_seat, last_view, last_closes, drained_equal, drained_rows, drained_zeros, drained_run}
use Rattle.smp_queue.proofs.table.CallTable.audit.Goals as goal

pub returns-clause-audited : goal.returns-clause-audited
returns-clause-audited g c =
    let words = c.close-words.result in
    let e = c.close-words.ensures in
    record {
      words = words;
      closes = e;
      answers = c.audit-audit.ensures;
      drained = drained_run c.args.self c.args.last words c.audit-audit.result e c.audit-audit.ensures;
    }

pub returns-clause-equal : goal.returns-clause-equal
returns-clause-equal g c =
    let words = c.close-words.result in
    drained_equal _ _ words c.audit-audit.result (last_closes c.args.self c.args.last words c.close-words.ensures) c.audit-audit.ensures

pub returns-clause-rows : goal.returns-clause-rows
returns-clause-rows g c =
    let words = c.close-words.result in
    let e = c.close-words.ensures in
    subst (λ last. IfDrained c.audit-audit.result (HasRowsOf last)) (last_view c.args.self c.args.last words e)
    (drained_rows _ (last_seat c.args.self c.args.last words e) words c.audit-audit.result e.within
    (last_closes c.args.self c.args.last words e) c.audit-audit.ensures)

pub returns-clause-zeros : goal.returns-clause-zeros
returns-clause-zeros g c =
    let words = c.close-words.result in
    drained_zeros _ _ words c.audit-audit.result (last_closes c.args.self c.args.last words c.close-words.ensures) c.audit-audit.ensures
