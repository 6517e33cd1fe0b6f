use Rattle.trace_ftrace.specs.PiecesView.{pieces_value}
use Rattle.trace_ftrace.proofs.ReadPieces.{reads_fault}
use Rattle.trace_ftrace.proofs.pieces.Pieces.finish.Goals as goal

pub returns-in-Some : goal.returns-in-Some
returns-in-Some g c skip text h =
    reads_fault g.row.A.Denot skip text (pieces_value c.args.self) c.in-Some.why h c.requires.1 c.if-is_long.false c.in-Some.is
