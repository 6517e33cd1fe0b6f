-- What each kind of access tells: what the CPU knows after it, which is its part of some stops that some words show.
use Rattle.std.specs.Int.Bits.{bit_and}
use Rattle.std.specs.Prelude.{◌≡◌, ℕ, ◌==◌, if◌then◌else◌, Some, None}
use Rattle.atomic_table.specs.Table.{Me, Step}
use Rattle.smp_words.specs.Access.{one_less}
use Rattle.smp_multi.specs.Lives.{StopMoment, Lives}
use Rattle.smp_stop_steps.specs.Threads.Known.{carrying}
use Rattle.smp_stop_steps.specs.Threads.KnownAfter.{known_told, known_entering}
use Rattle.smp_stop_steps.specs.Threads.Moves.{Can, entering}
use Rattle.smp_multi.specs.Names.{Word, Sub, StopSeatView, Cpu}
use Rattle.smp_multi.specs.Names.act
use Rattle.smp_multi.specs.Cells.{cell_of}
use Rattle.smp_multi.specs.Rule.{known}
use Rattle.smp_multi.specs.Seat.{Ends}

module _ {S : Type 0} where
  abbrev pub AfterLoad : Step S → Me S StopSeatView → ℕ → Me S StopSeatView → Type 0
  AfterLoad st m n m' = let v = known m.0 in (w : Word) → cell_of w ≡ Some st.word → StopMoment v w n × (m'.0 ≡ Cpu (known_told v act.Load w (Some n) None))

  abbrev pub AfterStore : Step S → Me S StopSeatView → ℕ → Me S StopSeatView → Type 0
  AfterStore st m n m' = let v = known m.0 in (w : Word) → cell_of w ≡ Some st.word → m'.0 ≡ Cpu (known_told v act.Store w None (Some st.first))

  abbrev pub AfterExchange : Step S → Me S StopSeatView → ℕ → Me S StopSeatView → Type 0
  AfterExchange st m n m' = let v = known m.0 in (w : Word) → cell_of w ≡ Some st.word
      → StopMoment v w n × (m'.0 ≡ Cpu (known_told v act.Cas w (Some n) (if n == st.first then Some st.second else None)))

  abbrev pub AfterSubtract : Step S → Me S StopSeatView → ℕ → Me S StopSeatView → Type 0
  AfterSubtract st m n m' = let v = known m.0 in (w : Word) → cell_of w ≡ Some st.word
      → StopMoment v w n × (m'.0 ≡ Cpu (known_told v act.Sub w (Some n) (Some (one_less n))))

  -- by a step with which a function, a patch or a stop ends, and from which on the CPU carries the answer
  abbrev pub AfterAnswer : ℕ → Step S → Me S StopSeatView → ℕ → Me S StopSeatView → Type 0
  AfterAnswer answer st m n m' = let v = known m.0 in (w : Word) → cell_of w ≡ Some st.word
      → ((c : Can v (Sub w)) × Ends v answer c.move) × (m'.0 ≡ Cpu (known_told (carrying answer v) act.Sub w (Some n) (Some (one_less n))))

  -- the work of the stop that is entered is that of the stops at that moment
  abbrev pub AfterMask : Step S → Me S StopSeatView → ℕ → Me S StopSeatView → Type 0
  AfterMask st m n m' = let v = known m.0 in (w : Word) → cell_of w ≡ Some st.word
      → (t : StopMoment v w n) × (m'.0 ≡ Cpu (known_entering (entering t.stops w) v act.And w (Some n) (Some (bit_and n st.first))))

  abbrev pub loaded : Step S → Me S StopSeatView → ℕ → Me S StopSeatView → Type 0
  loaded st m n m' = Lives (known m'.0) × AfterLoad st m n m'

  abbrev pub stored : Step S → Me S StopSeatView → ℕ → Me S StopSeatView → Type 0
  stored st m n m' = Lives (known m'.0) × AfterStore st m n m'

  abbrev pub exchanged : Step S → Me S StopSeatView → ℕ → Me S StopSeatView → Type 0
  exchanged st m n m' = Lives (known m'.0) × AfterExchange st m n m'

  abbrev pub subtracted : Step S → Me S StopSeatView → ℕ → Me S StopSeatView → Type 0
  subtracted st m n m' = Lives (known m'.0) × AfterSubtract st m n m'

  abbrev pub answered : ℕ → Step S → Me S StopSeatView → ℕ → Me S StopSeatView → Type 0
  answered answer st m n m' = Lives (known m'.0) × AfterAnswer answer st m n m'

  abbrev pub masked : Step S → Me S StopSeatView → ℕ → Me S StopSeatView → Type 0
  masked st m n m' = Lives (known m'.0) × AfterMask st m n m'

  -- a kind of step that no CPU makes
  abbrev pub not_made : Step S → Me S StopSeatView → ℕ → Me S StopSeatView → Type 0
  not_made st m n m' = ⊥
