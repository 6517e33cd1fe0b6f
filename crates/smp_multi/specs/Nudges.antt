-- A nudge of a key's count: what its load finds, and what it leaves of its CPU.
use Rattle.std.specs.Prelude.{◌≡◌, ◌≢◌, ℕ, ◌+◌, Bool, if◌then◌else◌, Result, Ok, Err, slice_index_or, slice_set}
use Rattle.smp_mask.specs.declared.error.Edge.{Edge}
use Rattle.smp_mask.specs.declared.error.Edge.TheVariants.{Full, Zero}
use Rattle.smp_mask.specs.declared.error.SmpError.{SmpError}
use Rattle.smp_mask.specs.declared.error.SmpError.TheVariants as error
use Rattle.smp_stop_steps.specs.Threads.Known.{noting, stepped}
use Rattle.smp_multi.specs.Lives.{StopMoment}
use Rattle.smp_stop_steps.specs.State.{unmoved}
use Rattle.smp_multi.specs.Names.{Key, KnownStops, StopPart, Moved}
use Rattle.smp_multi.specs.Names.own
use Rattle.smp_multi.specs.Cpu.{CpuValue, makes, moves_on}
use Rattle.smp_multi.specs.Laws.{FindsCount}
use Rattle.smp_multi.specs.Reads.{HasKey, ReadsOneTable}
pub use Rattle.smp_multi.specs.Reads.{loads_known, loads_count}
use Rattle.smp_multi.specs.declared.nudge.Nudge.{Nudge}
use Rattle.smp_multi.specs.declared.nudge.Nudge.TheVariants.{Done, Lost, Stop}

-- the count at which a key can't go up, or down, and the one at which that would turn it on, or off
abbrev pub edge_at : Bool → ℕ
edge_at up = if up then 65535 else 0

abbrev pub turn_at : Bool → ℕ
turn_at up = if up then 0 else 1

abbrev pub end_of : Bool → Edge
end_of up = if up then Full else Zero

-- at any other count a key stays on
abbrev pub StaysOn : Bool → ℕ → Type 0
StaysOn up count = (count ≢ edge_at up) × (count ≢ turn_at up)

-- one more of a CPU's own moves of key k, up or down
abbrev pub moved_more : Bool → Moved → Moved
moved_more up m = if up then record m { up = m.up + 1 } else record m { down = m.down + 1 }

abbrev pub nudge_more : Bool → ℕ → StopPart → StopPart
nudge_more up k part = record part { nudged = slice_set part.nudged k (moved_more up (slice_index_or part.nudged k unmoved)) }

-- a CPU that has moved a count by one, at its exchange
abbrev pub nudged_known : Bool → ℕ → KnownStops → KnownStops
nudged_known up k v = stepped 1 (record v { part = nudge_more up k v.part })

abbrev pub nudged : Bool → ℕ → CpuValue → CpuValue
nudged up k c = makes 1 (record c { part = nudge_more up k c.part })

-- one whose exchange of a key has found another count
abbrev pub lost_known : ℕ → KnownStops → KnownStops
lost_known k v = stepped 1 (noting (own.Lost k) v)

abbrev pub loses_key : ℕ → CpuValue → CpuValue
loses_key k c = makes 1 (moves_on (own.Lost k) c)

-- what a nudge does, as its CPU knows it: it loads a count, and where that stays on it exchanges it, unless another has
-- changed it meanwhile
abbrev pub NudgeKnown : ℕ → Bool → KnownStops → KnownStops → Result Nudge SmpError → Type 0
NudgeKnown k up old new (Ok Done) = (count : ℕ) × StopMoment old (Key k) count × StaysOn up count × StopMoment (loads_known k count old) (Key k) count
    × (new ≡ nudged_known up k (loads_known k count old))
NudgeKnown k up old new (Ok Lost) = (count other : ℕ) × StopMoment old (Key k) count × StaysOn up count × StopMoment (loads_known k count old) (Key k) other
    × (other ≢ count) × (new ≡ lost_known k (loads_known k count old))
NudgeKnown k up old new (Ok Stop) = (count : ℕ) × StopMoment old (Key k) count × (count ≡ turn_at up) × (new ≡ loads_known k count old)
NudgeKnown k up old new (Err (error.KeyRange e)) = (count : ℕ) × StopMoment old (Key k) count × (count ≡ edge_at up) × (e ≡ end_of up) × (new ≡ loads_known k
    count old)
NudgeKnown k up old new (Err _) = ⊥

-- the load of a nudge has found this count
pub record LoadsCount (old : CpuValue) (k count : ℕ) : Type 0 where
  pub key : HasKey old k
  pub finds : FindsCount old k count
  pub reads : ReadsOneTable (loads_count k count old)

-- try_key: Done moves the count that it has loaded, Lost finds another there, Stop has found one that would turn the key,
-- and E13 the end of the range
abbrev pub NudgeAnswers : ℕ → Bool → CpuValue → CpuValue → Result Nudge SmpError → Type 0
NudgeAnswers k up old new (Ok Done) = (count : ℕ) × LoadsCount old k count × StaysOn up count × FindsCount (loads_count k count old) k count
    × (new ≡ nudged up k (loads_count k count old))
NudgeAnswers k up old new (Ok Lost) = (count other : ℕ) × LoadsCount old k count × StaysOn up count × FindsCount (loads_count k count old) k other
    × (other ≢ count) × (new ≡ loses_key k (loads_count k count old))
NudgeAnswers k up old new (Ok Stop) = (count : ℕ) × LoadsCount old k count × (count ≡ turn_at up) × (new ≡ loads_count k count old)
NudgeAnswers k up old new (Err (error.KeyRange e)) = (count : ℕ) × LoadsCount old k count × (count ≡ edge_at up) × (e ≡ end_of up) × (new ≡ loads_count k
    count old)
NudgeAnswers k up old new (Err error.BadArgument) = (¬ (HasKey old k)) × (new ≡ old)
NudgeAnswers k up old new (Err _) = ⊥
