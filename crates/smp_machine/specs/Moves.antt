-- A CPU's own moves at the gate, at its own stop and at keys, as the calls of a machine leave them.
use Rattle.std.specs.List.{AllByRecursion, filter}
use Rattle.std.specs.Prelude.{◌≡◌, ℕ, Bool, true, false, List, [], ◌∷◌, ◌++◌}
use Rattle.smp_multi.specs.Names.{OwnMove, Work}
use Rattle.smp_multi.specs.Nudges.{turn_at, StaysOn}
use Rattle.smp_machine.specs.declared.stop.Holds.{Holds}
use Rattle.smp_machine.specs.declared.stop.Holds.TheVariants.{UntilQueued, UntilDone}
use Rattle.smp_stop_steps.specs.declared.known.OwnMove.TheVariants.{Busy, Took, Gave, Began, NotDone, Collected, Found, Lost}

-- a try of the gate that has found a holder, and a look at done that has found it not set, only say that the CPU waits
abbrev pub tells : OwnMove → Bool
tells Busy = false
tells NotDone = false
tells _ = true

-- the others, in order
abbrev pub told : List OwnMove → List OwnMove
told moves = filter tells moves

-- a stop of one CPU, or of two: the gate is given up before the result is collected
abbrev pub short_stop : Work → ℕ → List OwnMove
short_stop work word = Took ∷ Began work ∷ Gave ∷ Collected word ∷ []

-- a stop of all CPUs: it is held until then
abbrev pub long_stop : Work → ℕ → List OwnMove
long_stop work word = Took ∷ Began work ∷ Collected word ∷ Gave ∷ []

-- by how long the gate is held
abbrev pub stop_moves : Holds → Work → ℕ → List OwnMove
stop_moves UntilDone = long_stop
stop_moves UntilQueued = short_stop

-- a patch, after these moves, by which the gate was taken: it is held until the result is collected
abbrev pub patch_after : List OwnMove → Work → ℕ → List OwnMove
patch_after first work word = first ++ Began work ∷ Collected word ∷ Gave ∷ []

-- tries to nudge key k that were lost, at these counts
abbrev pub lost_tries : ℕ → List ℕ → List OwnMove
lost_tries k [] = []
lost_tries k (count ∷ more) = Found k count ∷ Lost k ∷ lost_tries k more

-- looks at key k up to one that has found this count: at each before it the key would have stayed on, but the try was lost
pub record Looks (k : ℕ) (up : Bool) (count : ℕ) (moves : List OwnMove) : Type 0 where
  pub lost : List ℕ
  pub stay : AllByRecursion (StaysOn up) lost
  pub are : moves ≡ lost_tries k lost ++ Found k count ∷ []

-- the moves of a change of a count by one up to its last look, by whether it has taken the gate: it takes that only after a look that
-- has found the key about to turn, and then looks again
abbrev pub LooksUpTo : ℕ → Bool → ℕ → Bool → List OwnMove → Type 0
LooksUpTo k up count false moves = Looks k up count moves
LooksUpTo k up count true moves = (first again : List OwnMove) × Looks k up (turn_at up) first × Looks k up count again × (moves ≡ first ++ Took ∷ again)

-- the same with the gate taken before, after these moves
abbrev pub LooksFrom : List OwnMove → ℕ → Bool → ℕ → Bool → List OwnMove → Type 0
LooksFrom first k up count gate moves = (gate ≡ true) × ((again : List OwnMove) × Looks k up count again × (moves ≡ first ++ again))

-- the gate is given up, where it was taken
abbrev pub gave_if : Bool → List OwnMove
gave_if true = Gave ∷ []
gave_if false = []
