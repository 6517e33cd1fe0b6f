use Rattle.std.proofs.Common.{sym}
use Rattle.trace_judge.proofs.Judging.{judges_end, judges_fault}
use Rattle.trace_judge.proofs.body.lines.Goals as goal

pub returns-in-Err : goal.returns-in-Err
returns-in-Err g c = judges_fault _ _ _ _ _ _ _ _ c.in-Err.why _ _ c.loop-next.invariant.0 c.in-Some.ensures.lines (sym c.in-Err.ensures.used)

pub returns-in-Err-line : goal.returns-in-Err-line
returns-in-Err-line g c =
    judges_end _ _ _ _ _ _ _ _ _ c.in-Err-line.why _ c.line.new.state _ c.loop-next.invariant.0 c.in-Some.ensures.lines (sym c.in-Ok.ensures.used)
    c.in-Err-line.ensures.goes
