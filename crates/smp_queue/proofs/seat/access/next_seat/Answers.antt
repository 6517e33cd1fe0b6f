use Rattle.std.proofs.Common.{arith, ap, ◌∙◌}
use Rattle.smp_queue.specs.{seat_made}
use Rattle.smp_queue.specs.Names.{New}
use Rattle.smp_queue.proofs.TheRule.Keeps.{splits, fresh_seat_is}
use Rattle.smp_queue.proofs.TheRule.Seating.{come_next}
use Rattle.smp_queue.proofs.seat.access.next_seat.Goals as goal

pub split-raw-requires : goal.split-raw-requires
split-raw-requires c =
    let come = c.requires.come in
    let number = c.requires.number in
    let next = come_next c.args.words.shared.now.key come number.1 number.2 in
    (c.requires.table.0, omega arith, splits _ _ come.0 c.args.n _ come.1 next come.2 number.0 number.2)

pub invariant_of-result : goal.invariant_of-result
invariant_of-result c =
    let come = c.requires.come in
    let number = c.requires.number in
    fresh_seat_is _ _ c.args.n number.0 number.2 ((λ i. (c.split-raw.ensures.made.1 i).0) ∙ (ap seat_made come.1
    ∙ ap (λ n. New n c.args.words.shared.now.key) (come_next c.args.words.shared.now.key come number.1 number.2)))

pub returns-clause-maker : goal.returns-clause-maker
returns-clause-maker c =
    let come = c.requires.come in
    let next = come_next c.args.words.shared.now.key come c.requires.number.1 c.requires.number.2 in
    search (next, arith)

pub returns-clause-seat : goal.returns-clause-seat
returns-clause-seat c =
    let come = c.requires.come in
    let next = come_next c.args.words.shared.now.key come c.requires.number.1 c.requires.number.2 in
    search (next, arith)
