use Rattle.std.proofs.Common.{ap, ◌∙◌, cond}
use Rattle.smp_stop_steps.specs.Threads.Known.{stepped}
use Rattle.smp_multi.specs.Names.{KnownStops}
use Rattle.smp_multi.specs.Places.{entered, missed}
use Rattle.smp_multi.proofs.enter.enter.Goals as goal

pub returns-then-take_bit-clause-known : goal.returns-then-take_bit-clause-known
returns-then-take_bit-clause-known c =
    let k = c.take_bit.ensures.known in
    let v = c.args.seat.now.known in
    let known = k.1 ∙ ap (λ b. cond b (entered c.args.slot k.0 v) (missed c.args.slot v)) c.if-take_bit.true in
    let visit =
    c.load_visit.ensures.visit k.0 record
    { table_is = c.take_bit.ensures.table; sized = c.requires.free.seated.sized; low = c.requires.low; seat_is = ap (λ (v : KnownStops). v.seat) known } in
    (k.0, c.load_visit.ensures.known ∙ ap (stepped 3) known, k.2 c.if-take_bit.true, visit)
