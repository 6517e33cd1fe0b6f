-- The states of the stops to which steps lead that CPUs may make, where at first no stop was begun.
use Rattle.std.specs.Prelude.{◌≡◌, ℕ, true, None, List, [], ◌∷◌}
use Rattle.smp_stop_steps.specs.Names.{has, word_of, at_after, seen_of, Access, Seen, Word}
use Rattle.smp_stop_steps.specs.Threads.Known.{KnownStops, Sees, AreTold, setup_in}
use Rattle.smp_stop_steps.specs.Threads.Moves.{Move, MayStep, known_access}
use Rattle.smp_stop_steps.specs.{Premises.MaySee, Seats.StopRole, Seats.Free, Shows.StopShows, Sources.Source, Sources.Shut, State.Setup, State.StopState}
use Rattle.smp_stop_steps.specs.State.{no_stops}

-- what is seen of this access of a CPU, which finds what is in its word
abbrev pub seen_there : (Word → ℕ) → ℕ → Access → Seen
seen_there at cpu access = seen_of cpu access (at (word_of access)) None

-- the step is made by one of the CPUs online, which may make it where the stops and the words are these
abbrev pub IsAllowed : Setup → StopState → (Word → ℕ) → ℕ → Access → Type 0
IsAllowed u p at cpu access = let seen = seen_there at cpu access in (u.online cpu ≡ true) × MaySee p cpu seen.act seen.word seen.found seen.put

-- each of these steps may be made where those before it lead, and it tells the stops, and makes the words, to which it leads
abbrev pub Lead : Setup → StopState → (Word → ℕ) → List (ℕ × Access) → StopState → (Word → ℕ) → Type 0
Lead u p at [] q to = (q ≡ p) × (to ≡ at)
Lead u p at (step ∷ rest) q to = (next : StopState) × IsAllowed u p at step.0 step.1 × AreTold u step.0 p next (seen_there at step.0 step.1)
    × Lead u next (at_after at step.1) rest q to

-- some steps that may be made, of any CPUs in any order, lead to these stops and words from words that show no stop begun
pub record IsReached (u : Setup) (p : StopState) (at : Word → ℕ) : Type 0 where
  pub opening : Word → ℕ
  pub opens : StopShows u no_stops opening (λ _. Free) (λ _. Shut)
  pub steps : List (ℕ × Access)
  pub lead : Lead u no_stops opening steps p at

-- from stops and words that are reached, a step that an online CPU may make by what it knows leads to such
abbrev pub MovesReach : Type 0
MovesReach = (p : StopState) (at : Word → ℕ) (seat : ℕ → StopRole) (source : ℕ → Source) (v : KnownStops)
    → StopShows (setup_in v.setting) p at seat source → Sees p seat source v → has v.setting.online v.number ≡ true → (m : Move) → MayStep v m →
    let access = known_access v m in
    (q : StopState) → AreTold (setup_in v.setting) v.number p q (seen_there at v.number access)
    → IsReached (setup_in v.setting) p at → IsReached (setup_in v.setting) q (at_after at access)
