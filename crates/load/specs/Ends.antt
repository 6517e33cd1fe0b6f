-- CPUs at the end of a torture.
use Rattle.std.specs.Prelude.{◌≡◌, ℕ, ◌<◌, ◌↔◌, true, List, [], ◌∷◌, map}
use Rattle.smp_mask.specs.Mask.{has, members}
use Rattle.smp_machine.specs.MachineCpu.{MachineValue, IsAt}
use Rattle.smp_machine.specs.declared.crew.Played.{Played}
use Rattle.load.specs.declared.torture.report.Report.{Report}

-- each of them is of this machine
abbrev pub AreAt : {H F A : Type 0} → MachineValue → List (Played H F A) → Type 0
AreAt m [] = Unit {0}
AreAt m (p ∷ ps) = IsAt m p.cpu × AreAt m ps

-- their numbers
abbrev pub returned : {H F A : Type 0} → List (Played H F A) → List ℕ
returned back = map (λ p. p.cpu.calls.number) back

-- the CPUs whose reports these are
abbrev pub reported : List Report → List ℕ
reported reports = map (λ r. r.number) reports

-- a set has the CPUs below n, and no others
abbrev pub AreFirst : ℕ → ℕ → Type 0
AreFirst n mask = (c : ℕ) → (has mask c ≡ true) ↔ (c < n)

-- each CPU below n has one report, in their order, and no other has any
abbrev pub HasEach : ℕ → List Report → Type 0
HasEach n reports = (mask : ℕ) → AreFirst n mask → reported reports ≡ members mask
