use Rattle.smp_script.proofs.Names.{◌≡◌, ◌++◌, map, length, parts_of}
use Rattle.smp_script.proofs.line.parts.Given as goal

abbrev pub invariant-loop-part : goal.invariant-loop-part
invariant-loop-part g l = map (λ s. s.now) l.found.items ++ parts_of l.mark l.rest ≡ parts_of l.mark l.fn.text

abbrev pub decreases-loop-part : goal.decreases-loop-part
decreases-loop-part g l = length l.rest
