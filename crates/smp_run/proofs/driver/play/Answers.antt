use Rattle.smp_run.proofs.Running.{made_back}
use Rattle.smp_run.proofs.driver.play.Goals as goal

pub returns-clause-answered : goal.returns-clause-answered
returns-clause-answered g c =
    let back = c.into_parts-cpu in
    (made_back c.args.lines.now (λ h. h.answers.items) c.args.machine.now c.args.seat.cpu _ _ c.new-at.result c.make_lines.new.seat back.result.0 back.result.1
    c.new-at.ensures c.make_lines.ensures.makes back.ensures.parts.0 back.ensures.parts.1).answered

pub returns-clause-sent : goal.returns-clause-sent
returns-clause-sent g c =
    let back = c.into_parts-cpu in
    (made_back c.args.lines.now (λ h. h.answers.items) c.args.machine.now c.args.seat.cpu _ _ c.new-at.result c.make_lines.new.seat back.result.0 back.result.1
    c.new-at.ensures c.make_lines.ensures.makes back.ensures.parts.0 back.ensures.parts.1).sent

pub returns-clause-played : goal.returns-clause-played
returns-clause-played g c =
    let back = c.into_parts-cpu in
    (made_back c.args.lines.now (λ h. h.answers.items) c.args.machine.now c.args.seat.cpu _ _ c.new-at.result c.make_lines.new.seat back.result.0 back.result.1
    c.new-at.ensures c.make_lines.ensures.makes back.ensures.parts.0 back.ensures.parts.1).played
