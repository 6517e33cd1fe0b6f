-- What is kept of pieces, as that of the definitions.
use Rattle.trace_ftrace.specs.KeptView.{kept_value}
use Rattle.trace_ftrace.specs.Pieces.{PiecesValue}
use Rattle.trace_ftrace.specs.declared.pieces.Pieces.{Pieces}

abbrev pub pieces_value : {A : Type 0} → Pieces A → PiecesValue
pieces_value p = record {
  skip = p.skip;
  kept = kept_value p.kept;
  number = p.number;
  part = p.part.items;
  bytes = p.bytes;
  is_long = p.is_long;
  fault = p.fault;
}
