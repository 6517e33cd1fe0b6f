-- CPUs at the end of a program.
use Rattle.std.specs.Prelude.{List}
use Rattle.std.specs.List.{AllByRecursion}
use Rattle.smp_machine.specs.MachineCpu.{MachineValue, IsAt}
use Rattle.smp_machine.specs.declared.crew.Played.{Played}

-- each of them is of this machine
abbrev pub AreAt : {H F A : Type 0} → MachineValue → List (Played H F A) → Type 0
AreAt {H = H} {F = F} {A = A} m back = AllByRecursion (λ (p : Played H F A). IsAt m p.cpu) back
