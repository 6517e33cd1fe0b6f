-- What each kind of access tells: what the CPU knows after it, which is its part of some calls that some words show.
use Rattle.std.specs.Prelude.{◌≡◌, ℕ, ◌==◌, if◌then◌else◌, Some, None}
use Rattle.atomic_table.specs.Table.{Me, Step}
use Rattle.smp_call_steps.specs.Threads.Known.{known_told, known_taking, CallMoment}
use Rattle.smp_queue.specs.Names.{Word, CallSeatView, Cpu, KnownCalls}
use Rattle.smp_queue.specs.Names.act
use Rattle.smp_queue.specs.Cells.{cell_of}
use Rattle.smp_queue.specs.Rule.{known, SeatInvariant}

-- a CPU sits at words by which this number is in this cell
abbrev pub SitsWith : KnownCalls → ℕ → ℕ → Type 0
SitsWith v cell n = (s : SeatInvariant v) × ((w : Word) → cell_of w ≡ Some cell → s.lives.at w ≡ n)

module _ {S : Type 0} where
  abbrev pub AfterLoad : Step S → Me S CallSeatView → ℕ → Me S CallSeatView → Type 0
  AfterLoad st m n m' = let v = known m.0 in (w : Word) → cell_of w ≡ Some st.word → CallMoment v w n × (m'.0 ≡ Cpu (known_told v act.Load w (Some n) None))

  abbrev pub AfterStore : Step S → Me S CallSeatView → ℕ → Me S CallSeatView → Type 0
  AfterStore st m n m' = let v = known m.0 in (w : Word) → cell_of w ≡ Some st.word → m'.0 ≡ Cpu (known_told v act.Store w None (Some st.first))

  abbrev pub AfterExchange : Step S → Me S CallSeatView → ℕ → Me S CallSeatView → Type 0
  AfterExchange st m n m' = let v = known m.0 in (w : Word) → cell_of w ≡ Some st.word
      → m'.0 ≡ Cpu (known_told v act.Cas w (Some n) (if n == st.first then Some st.second else None))

  -- the queue that a swap of the head takes is that of the calls at that moment
  abbrev pub AfterSwap : Step S → Me S CallSeatView → ℕ → Me S CallSeatView → Type 0
  AfterSwap st m n m' = let v = known m.0 in (w : Word) → cell_of w ≡ Some st.word
      → (t : CallMoment v w n) × (m'.0 ≡ Cpu (known_taking (t.lives.calls.queue v.number) v act.Swap w (Some n) (Some st.first)))

  abbrev pub loaded : Step S → Me S CallSeatView → ℕ → Me S CallSeatView → Type 0
  loaded st m n m' = SeatInvariant (known m'.0) × AfterLoad st m n m'

  -- what is stored is in the words right after it
  abbrev pub stored : Step S → Me S CallSeatView → ℕ → Me S CallSeatView → Type 0
  stored st m n m' = (SeatInvariant (known m'.0) × AfterStore st m n m') × SitsWith (known m'.0) st.word st.first

  abbrev pub exchanged : Step S → Me S CallSeatView → ℕ → Me S CallSeatView → Type 0
  exchanged st m n m' = SeatInvariant (known m'.0) × AfterExchange st m n m'

  abbrev pub swapped : Step S → Me S CallSeatView → ℕ → Me S CallSeatView → Type 0
  swapped st m n m' = SeatInvariant (known m'.0) × AfterSwap st m n m'

  -- a kind of step that no CPU makes
  abbrev pub not_made : Step S → Me S CallSeatView → ℕ → Me S CallSeatView → Type 0
  not_made st m n m' = ⊥
