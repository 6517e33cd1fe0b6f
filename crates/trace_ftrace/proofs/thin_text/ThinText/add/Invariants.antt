use Rattle.std.proofs.Common.{◌≡◌, ◌++◌, length}
use Rattle.trace_ftrace.specs.ThinText.{HaveSame, IsNumbered}
use Rattle.trace_ftrace.proofs.thin_text.ThinText.add.Given as goal

abbrev pub invariant-loop-rest : goal.invariant-loop-rest
invariant-loop-rest g l = IsNumbered l.self × (l.self.lines ≡ l.initial.self.lines)
    × HaveSame l.initial.self.lines (l.initial.self.text.items ++ l.fn.piece) (l.self.text.items ++ l.rest)

abbrev pub decreases-loop-rest : goal.decreases-loop-rest
decreases-loop-rest g l = length l.rest
