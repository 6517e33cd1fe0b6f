use Rattle.std.proofs.Common.{rules, ◌≡◌, ◌-◌, None, sym, ap, arith, option_map}
use Rattle.std.specs.List.{slice_get}
use Rattle.smp_script.specs.Lines.{lines_of}
use Rattle.view.proofs.LinesOn.{first_left, one_on, past_end}
use Rattle.view.proofs.fault.line_text.Goals as goal

pub loop-line-preserved : goal.loop-line-preserved
loop-line-preserved c =
    (search rules, (search rules, one_on _ _ _ _ _ _ c.loop-line.invariant.1.1 c.in_ok-rest.ensures.lines (omega arith)))

pub returns-in_err-rest : goal.returns-in_err-rest
returns-in_err-rest c =
    let none : slice_get (lines_of c.args.text.now) (c.args.line - 1) ≡ None =
    past_end _ _ _ _ c.loop-line.invariant.1.1 c.in_err-rest.ensures.lines (omega arith) in
    rw none (search rules)

pub returns-in_err-found : goal.returns-in_err-found
returns-in_err-found c =
    let none : slice_get (lines_of c.args.text.now) (c.args.line - 1) ≡ None =
    past_end _ _ _ _ c.loop-line.invariant.1.1 c.in_err-found.ensures.lines (omega arith) in
    rw none (search rules)

pub returns : goal.returns
returns c =
    sym (ap (option_map (λ l. l.text)) (first_left _ _ (c.args.line - 1) _ _ _ c.loop-line.invariant.1.1 c.in_ok-found.ensures.lines (omega arith)))
