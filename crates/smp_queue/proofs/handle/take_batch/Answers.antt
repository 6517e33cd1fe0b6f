use Rattle.std.proofs.Common.{◌∙◌}
use Rattle.smp_queue.proofs.Handling.Entering.{has_taken_batch}
use Rattle.smp_queue.proofs.handle.take_batch.Goals as goal

pub returns : goal.returns
returns c =
    let k = c.take-newest.ensures.known in
    let r = c.reverse-oldest.ensures in
    let h =
    has_taken_batch c.args.words.shared.now.table_id c.args.seat.now c.take-newest.new.seat c.reverse-oldest.new.seat c.go_on-first.new.seat
    k.0 c.take-newest.result c.reverse-oldest.result.0 c.go_on-first.result
    c.requires.at c.take-newest.ensures.at.table_is k.1 r.at r.known c.go_on-first.ensures.at in
    (k.0, r.calls ∙ h.0, h.1)
