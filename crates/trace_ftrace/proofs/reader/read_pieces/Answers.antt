use Rattle.trace_ftrace.proofs.reader.read_pieces.Goals as goal

pub returns-in-Ok : goal.returns-in-Ok
returns-in-Ok g c =
    let taken = c.in_ok-give_all.ensures in
    (taken.0, taken.1, taken.2, c.in-Ok.ensures c.args.skip taken.0 (taken.3.1 c.args.skip c.new-pieces.ensures.read))
