-- When a CPU looks at its own interrupt word: only while its interrupts are on.
use Rattle.std.specs.Prelude.{◌≡◌, ℕ, ◌+◌, Bool, true, List, [], ◌∷◌, ◌++◌, length, ⊤}
use Rattle.smp_machine.specs.MachineCpu.{MachineCpuValue, on_at}

-- a look of a CPU: at its own interrupt word, which a handler may follow, or at its stop, which shows this phase
pub data Look : Type 0 where
  AtWord : Look
  AtPhase : ℕ → Look

-- the phases that were seen, in order
abbrev pub phases : List Look → List ℕ
phases [] = []
phases (AtWord ∷ more) = phases more
phases (AtPhase p ∷ more) = p ∷ phases more

-- for each look at the word, how many looks at phases were made by then: this many before the first look
abbrev pub heard_after : ℕ → List Look → List ℕ
heard_after n [] = []
heard_after n (AtWord ∷ more) = n ∷ heard_after n more
heard_after n (AtPhase p ∷ more) = heard_after (n + 1) more

-- whether interrupts are on after these looks, where they were so before
abbrev pub on_after : Bool → List Look → Bool
on_after on [] = on
on_after on (AtWord ∷ more) = on_after on more
on_after on (AtPhase p ∷ more) = on_after (on_at p) more

-- they are on at each look at the word
abbrev pub AreHeardOn : Bool → List Look → Type 0
AreHeardOn on [] = ⊤
AreHeardOn on (AtWord ∷ more) = (on ≡ true) × AreHeardOn on more
AreHeardOn on (AtPhase p ∷ more) = AreHeardOn (on_at p) more

-- The looks that a CPU has made since, in order: those at phases are its part's, those at its interrupt word are as many as its
-- part of the calls has and as were noted, each with the number of looks at phases by then, and interrupts were on at each of them.
pub record HearsOn (old new : MachineCpuValue) : Type 0 where
  pub looks : List Look
  pub phases_are : new.stops.part.looks ≡ old.stops.part.looks ++ phases looks
  pub heard_are : new.heard_at ≡ old.heard_at ++ heard_after (length old.stops.part.looks) looks
  pub asked_are : length new.calls.part.asked ≡ length old.calls.part.asked + length (heard_after (length old.stops.part.looks) looks)
  pub on : AreHeardOn old.stops.irq looks
  pub irq_is : new.stops.irq ≡ on_after old.stops.irq looks
