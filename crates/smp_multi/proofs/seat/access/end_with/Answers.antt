use Rattle.std.proofs.Common.{ℕ, arith, ap, subst, sym, ◌∙◌, Some}
use Rattle.smp_stop_steps.specs.Threads.Known.{carrying}
use Rattle.smp_stop_steps.specs.Threads.KnownAfter.{known_told}
use Rattle.smp_words.specs.Access.{one_less}
use Rattle.smp_multi.specs.Names.{KnownStops, StopSeatView}
use Rattle.smp_multi.specs.Names.act
use Rattle.smp_multi.specs.Rule.{known}
use Rattle.smp_multi.specs.Seat.{Ends}
use Rattle.smp_multi.proofs.Carrying.{sub_keeps}
use Rattle.smp_multi.proofs.Cells.{cell_below}
use Rattle.smp_multi.proofs.Keeps.{answered_allowed, ends_same, seat_on}
use Rattle.smp_multi.proofs.seat.access.end_with.Goals as goal

pub cell-requires : goal.cell-requires
cell-requires g c = c.requires.ends.able.cell

pub answer-found-requires : goal.answer-found-requires
answer-found-requires g c =
    let r = c.requires.ends.able in
    let low = cell_below c.args.word c.cell.result c.cell.ensures in
    let w = r.sized in (
      ap (λ d. d.table) c.seat.view_is ∙ r.table_is,
      omega arith,
      answered_allowed _ _ _ _ c.seat.invariant.is c.seat.invariant.online g.N.Answer.answer c.args.word c.cell.result c.cell.ensures
          (ends_same _ _ _ _ (ap (λ d. d.known) c.seat.view_is)
          (r.can, subst (λ (x : ℕ). Ends c.args.seat.now.known x r.can.move) (sym c.requires.picks) c.requires.ends.ends)) r.fits,
    )

pub invariant_of-seat : goal.invariant_of-seat
invariant_of-seat g c =
    seat_on _ _ _ (c.answer-found.ensures.2.1 c.args.word c.cell.ensures).1 c.answer-found.ensures.2.0 c.requires.fits
    (sub_keeps (carrying g.N.Answer.answer (known c.seat.inside.raw.me.0)) c.args.word c.answer-found.result _ ∙ c.requires.picks)

pub returns-clause-known : goal.returns-clause-known
returns-clause-known g c =
    let n = c.answer-found.result in
    let told = (c.answer-found.ensures.2.1 c.args.word c.cell.ensures).1 in
    ap (λ (s : StopSeatView). known s) told
    ∙ (ap (λ (x : ℕ). known_told (carrying x (known c.seat.inside.raw.me.0)) act.Sub c.args.word (Some n) (Some (one_less n))) c.requires.picks
    ∙ ap (λ (v : KnownStops). known_told (carrying c.args.answer v) act.Sub c.args.word (Some n) (Some (one_less n))) (ap (λ d. d.known) c.seat.view_is))
