use Rattle.std.proofs.Common.{◌≡◌, ◌++◌, map, length}
use Rattle.smp_script.specs.Lines.{fields_of}
use Rattle.trace_ftrace.specs.Words.{words_of}
use Rattle.trace_ftrace.proofs.words.words.Given as goal

abbrev pub invariant-loop-part : goal.invariant-loop-part
invariant-loop-part g l = map (λ w. w.now) l.found.items ++ words_of (fields_of l.rest) ≡ words_of (fields_of l.fn.line)

abbrev pub decreases-loop-part : goal.decreases-loop-part
decreases-loop-part g l = length l.rest
