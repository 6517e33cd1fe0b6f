-- Who is to store done.
use Rattle.std.specs.Prelude.{◌≡◌, ℕ, true}
use Rattle.smp_stop_steps.specs.Names.{Word, Slot, Field}
use Rattle.smp_stop_steps.specs.{Callings.HasCompleted, Seats.StopRole, Seats.Closes, Shows.StopShows, Sources.Source, State.Setup, State.StopState, Stop.Last}

-- this CPU, and no other, is before its store of done in this slot: the last to complete, and it has completed
pub record IsLast (p : StopState) (seat : ℕ → StopRole) (s c : ℕ) : Type 0 where
  pub ending : (p.now.stop s).ending ≡ Last c
  pub completed : HasCompleted ((p.now.stop s).standing c)
  pub closes : seat c ≡ Closes s
  pub alone : (d : ℕ) → seat d ≡ Closes s → d ≡ c

-- the last to complete has completed, and has not stored done
abbrev pub IsLastOf : StopState → ℕ → ℕ → Type 0
IsLastOf p s c = ((p.now.stop s).ending ≡ Last c) × HasCompleted ((p.now.stop s).standing c)

abbrev pub HasLast : StopState → (Word → ℕ) → Type 0
HasLast p at = (s : ℕ) → (p.now.stop s).is_open ≡ true → at (Slot s Field.Todo) ≡ 0 → at (Slot s Field.Done) ≡ 0 → (c : ℕ) × IsLastOf p s c

-- where a stop is open with nothing left to do and done still 0, there is one such CPU
abbrev pub IsClosing : StopState → (Word → ℕ) → (ℕ → StopRole) → Type 0
IsClosing p at seat = (s : ℕ) → (p.now.stop s).is_open ≡ true → at (Slot s Field.Todo) ≡ 0 → at (Slot s Field.Done) ≡ 0 → (c : ℕ) × IsLast p seat s c

abbrev pub LastStoresDone : Type 0
LastStoresDone = (u : Setup) (p : StopState) (at : Word → ℕ) (seat : ℕ → StopRole) (source : ℕ → Source) → StopShows u p at seat source → IsClosing p at seat
