-- Stops of one moment, and the CPUs that are parts of them.
use Rattle.std.specs.Prelude.{◌≡◌, ℕ, ◌+◌, ◌≤◌, Some, All, List, [], ◌∷◌}
use Rattle.atomic_table.specs.Table.{Me}
use Rattle.atomic_table.specs.Seated.{TableId}
use Rattle.smp_stop_steps.specs.Threads.Known.{Sees, setup_in}
use Rattle.smp_stop_steps.specs.Reached.{IsReached}
use Rattle.smp_stop_steps.specs.Shows.{StopShows}
use Rattle.smp_stop_steps.specs.State.{StopState}
use Rattle.smp_multi.specs.Names.{Cpu, KnownStops, StopRole, StopSeatView, StopSetting, Source, Word}
use Rattle.smp_multi.specs.Rule.{known as known_of}
use Rattle.smp_multi.specs.Cpu.{CpuValue, Inside, cpu_of}

-- some words and seats that show some stops, which are reached
pub record StopsNow (k : StopSetting) : Type 0 where
  pub stops : StopState
  pub at : Word → ℕ
  pub reached : IsReached (setup_in k) stops at
  pub seat : ℕ → StopRole
  pub source : ℕ → Source
  pub shown : StopShows (setup_in k) stops at seat source

-- a CPU's value is what a CPU knows that knows its part of these stops
pub record IsPartOf {k : StopSetting} (now : StopsNow k) (c : CpuValue) : Type 0 where
  pub known : KnownStops
  pub sees : Sees now.stops now.seat now.source known
  pub view : c ≡ cpu_of (record { table = c.table; known = known })

-- what two CPUs know is their parts of the same stops
pub record KnowTogether (v w : KnownStops) : Type 0 where
  pub now : StopsNow v.setting
  pub one : Sees now.stops now.seat now.source v
  pub other : Sees now.stops now.seat now.source w
  pub setting : v.setting ≡ w.setting

-- the values of two CPUs are their parts of the same stops
pub record AreTogether (c d : CpuValue) : Type 0 where
  pub now : StopsNow c.setting
  pub one : IsPartOf now c
  pub other : IsPartOf now d
  pub setting : c.setting ≡ d.setting

-- Of two values alone: CPUs in the stop of one source are in the same work, and neither has acknowledged more than one phase more
-- than the other.
pub record IsLevelWith (x y : Inside) : Type 0 where
  pub work : x.work ≡ y.work
  pub ahead : x.acked ≤ y.acked + 1
  pub behind : y.acked ≤ x.acked + 1

abbrev pub AreInStep : CpuValue → CpuValue → Type 0
AreInStep c d = (x y : Inside) → c.inside ≡ Some x → d.inside ≡ Some y → x.slot ≡ y.slot → IsLevelWith x y

-- and while the one is in the stop of the other, this is what the other has pending
abbrev pub WaitsFor : CpuValue → CpuValue → Type 0
WaitsFor c d = (x : Inside) → c.inside ≡ Some x → x.slot ≡ d.number → d.pending ≡ Some x.work

-- seats that are looked at together: their table and, of each, the name under which another one stands in its place, and what its
-- CPU knows
pub record SeatsValue : Type 0 where
  pub table : TableId
  pub seats : List (TableId × KnownStops)

abbrev pub seats_of : List (TableId × (ℕ × Me (Unit {0}) StopSeatView)) → List (TableId × KnownStops)
seats_of [] = []
seats_of (m ∷ ms) = (m.0, known_of m.1.1.0) ∷ seats_of ms

abbrev pub AreCpuSeats : List (TableId × (ℕ × Me (Unit {0}) StopSeatView)) → Type 0
AreCpuSeats [] = Unit {0}
AreCpuSeats (m ∷ ms) = (m.1.1.0 ≡ Cpu (known_of m.1.1.0)) × AreCpuSeats ms

-- what all these CPUs know is their parts of these stops
abbrev pub SeeAll : {k : StopSetting} → StopsNow k → List (TableId × KnownStops) → Type 0
SeeAll now [] = Unit {0}
SeeAll {k} now (m ∷ ms) = (Sees now.stops now.seat now.source m.1 × (m.1.setting ≡ k)) × SeeAll now ms

pub record KnowAllTogether (ms : List (TableId × KnownStops)) : Type 0 where
  pub setting : StopSetting
  pub now : StopsNow setting
  pub parts : SeeAll now ms

-- CPUs that are looked at together: their table, and each CPU's value behind the name of the table at which it stands meanwhile
pub record CrowdValue : Type 0 where
  pub table : TableId
  pub cpus : List (TableId × CpuValue)

abbrev pub cpus_at : TableId → List (TableId × KnownStops) → List (TableId × CpuValue)
cpus_at table [] = []
cpus_at table (m ∷ ms) = (m.0, cpu_of (record { table = table; known = m.1 })) ∷ cpus_at table ms

abbrev pub values : List (TableId × CpuValue) → List CpuValue
values [] = []
values (m ∷ ms) = m.1 ∷ values ms

abbrev pub crowd_of : SeatsValue → CrowdValue
crowd_of s = record { table = s.table; cpus = cpus_at s.table s.seats }

-- these values are their CPUs' parts of these stops, and all are of one setting
abbrev pub ArePartsOf : {k : StopSetting} → StopsNow k → List CpuValue → Type 0
ArePartsOf now [] = Unit {0}
ArePartsOf {k} now (c ∷ cs) = (IsPartOf now c × (c.setting ≡ k)) × ArePartsOf now cs

-- the values of all these CPUs are their parts of the same stops
pub record AreAllTogether (cs : List CpuValue) : Type 0 where
  pub setting : StopSetting
  pub now : StopsNow setting
  pub parts : ArePartsOf now cs

-- any two of these values are in step, and the one waits for the other where it is in its stop
abbrev pub AllAreInStep : List CpuValue → Type 0
AllAreInStep cs = All (λ c. All (λ d. AreInStep c d) cs) cs

abbrev pub AllWaitFor : List CpuValue → Type 0
AllWaitFor cs = All (λ c. All (λ d. WaitsFor c d) cs) cs
