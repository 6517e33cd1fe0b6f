use Rattle.trace_ftrace.proofs.reader.ThinTextTakesPieces.take.Goals as goal

pub returns-in-Ok : goal.returns-in-Ok
returns-in-Ok g c first text taken = (c.in-Ok.ensures.numbered, λ lines is. c.in-Ok.ensures.kept lines text (taken.1 lines is))
