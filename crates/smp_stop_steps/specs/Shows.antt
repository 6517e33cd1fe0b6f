-- What holds between the stops, the words of the stop table, and where each CPU is, between any two steps.
use Rattle.std.specs.Prelude.{◌≡◌, ℕ, ◌+◌, Option, Some, None}
use Rattle.smp_stop_steps.specs.Names.{Word, Gate, Slot, Key}
use Rattle.smp_stop_steps.specs.{State.Setup, State.IsSetup, State.StopState, Callings.IsCalling, Callings.AreClosing, Seats.StopRole, Sources.Source}
use Rattle.smp_stop_steps.specs.{Sources.SourceShows, Past.HasPast, Present.PresentShows, Present.OwnsKey, KeyCounts.CountShows}

-- the holder of the gate + 1, or 0
abbrev pub gate_word : Option ℕ → ℕ
gate_word None = 0
gate_word (Some c) = c + 1

pub record StopShows (u : Setup) (p : StopState) (at : Word → ℕ) (seat : ℕ → StopRole) (source : ℕ → Source) : Type 0 where
  pub setup : IsSetup u
  -- the words show the stops, the phase law and the label law
  pub present : PresentShows u p.now at seat
  pub gate : at Gate ≡ gate_word p.gate
  -- the functions that run, and their answers
  pub callings : (c : ℕ) → IsCalling c (seat c) (p.calling c)
  -- who is to store done
  pub closing : AreClosing p.now seat
  pub sources : (s : ℕ) → SourceShows u p.gate (p.now.stop s) (λ f. at (Slot s f)) s (source s)
  -- the results of stops
  pub past : (s : ℕ) → HasPast (p.now.stop s) (p.begun s) (p.collected s) (λ c. p.answers c s)
  -- a source that has patched a key knows it
  pub owns : (s : ℕ) → OwnsKey u.first p.now (λ k. at (Key k)) s
  -- the count law
  pub counts : (k : ℕ) → CountShows u.cpus p.nudged p.patched k (at (Key k))

-- of this what the headline rests on: where each CPU is, and what the words of slots, of labels and of functions show of it
pub record AreAtSeats (u : Setup) (p : StopState) (at : Word → ℕ) : Type 0 where
  pub seat : ℕ → StopRole
  pub present : PresentShows u p.now at seat
  pub callings : (c : ℕ) → IsCalling c (seat c) (p.calling c)
