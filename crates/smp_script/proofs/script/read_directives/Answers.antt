use Rattle.smp_script.proofs.Names.{[], arith, refl, sym, ◌∙◌, lines_of}
use Rattle.std.proofs.lemmas.Result.{err_from_is_err_and}
use Rattle.smp_script.proofs.Reader.Directives.{too_many, is_cut, is_bad, is_of_another, is_past, goes_on, ends}
use Rattle.smp_script.proofs.Spelled.Readings.{lines_ok}
use Rattle.smp_script.proofs.script.read_directives.Goals as goal

pub returns-then-line-gt-MAX_LINES-clause-value : goal.returns-then-line-gt-MAX_LINES-clause-value
returns-then-line-gt-MAX_LINES-clause-value g c = too_many _ _ c.loop-next.invariant.stands c.in-Some.ensures.lines c.if-line-gt-MAX_LINES.true

pub returns-then-not-next-clause-value : goal.returns-then-not-next-clause-value
returns-then-not-next-clause-value g c = is_cut _ _ c.loop-next.invariant.stands c.in-Some.ensures.lines c.if-line-gt-MAX_LINES.false c.if-not-next.true

pub returns-in_err-directive-clause-value : goal.returns-in_err-directive-clause-value
returns-in_err-directive-clause-value g c =
    let p = err_from_is_err_and c.from_residual.result c.from_residual.ensures.1 in
    rw (p.1, p.2) (is_bad _ _ c.loop-next.invariant.stands c.in-Some.ensures.lines c.if-line-gt-MAX_LINES.false c.if-not-next.false _
    c.in_err-directive.ensures)

pub returns-then-shares-clause-value : goal.returns-then-shares-clause-value
returns-then-shares-clause-value g c =
    is_of_another _ _ c.loop-next.invariant.stands c.in-Some.ensures.lines c.if-line-gt-MAX_LINES.false c.if-not-next.false _ c.in_ok-directive.ensures
    (rw (← c.as_slice.ensures.value) (sym c.shares.ensures ∙ c.if-shares.true))

pub returns-then-more-events-clause-value : goal.returns-then-more-events-clause-value
returns-then-more-events-clause-value g c =
    is_past _ _ c.loop-next.invariant.stands c.in-Some.ensures.lines c.if-line-gt-MAX_LINES.false c.if-not-next.false _ c.in_ok-directive.ensures
    (rw (← c.as_slice.ensures.value) (sym c.shares.ensures ∙ c.if-shares.false)) (omega (arith, c.events-more.ensures))

pub loop-next-preserved : goal.loop-next-preserved
loop-next-preserved g c =
    let s = goes_on _ _ c.loop-next.invariant.stands c.in-Some.ensures.lines c.if-line-gt-MAX_LINES.false c.if-not-next.false _ c.in_ok-directive.ensures
    (rw (← c.as_slice.ensures.value) (sym c.shares.ensures ∙ c.if-shares.false)) (omega (arith, c.events-more.ensures)) in
    record { stands = rw (c.events-more.ensures, c.in-Ok.ensures.items) s; short = omega (arith, c.in-Some.ensures.shorter, c.loop-next.invariant.short) }

pub returns-clause-value : goal.returns-clause-value
returns-clause-value g c = ends c.loop-next.invariant.stands c.in_default.ensures.lines

pub returns-clause-events : goal.returns-clause-events
returns-clause-events g c = omega (arith, c.loop-next.invariant.stands.total, c.loop-next.invariant.stands.events)

pub returns-clause-lawful : goal.returns-clause-lawful
returns-clause-lawful g c =
    let e = ends c.loop-next.invariant.stands c.in_default.ensures.lines in
    (lines_ok c.args.setting.now c.args.first 0 [] (lines_of c.args.body.now) c.args.body.now c.loop-next.found.items refl
    (omega (arith, c.requires.first)) (omega arith) e).fit
