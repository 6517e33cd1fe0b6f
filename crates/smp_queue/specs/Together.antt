-- Calls of one moment, and the CPUs that are parts of them.
use Rattle.std.specs.Prelude.{◌≡◌, ℕ, ◌++◌, All, List, [], ◌∷◌}
use Rattle.atomic_table.specs.Table.{Me}
use Rattle.atomic_table.specs.Seated.{TableId}
use Rattle.smp_call_steps.specs.Calls.{CallState}
use Rattle.smp_call_steps.specs.Histories.{calls_from, calls_to, running_call}
use Rattle.smp_call_steps.specs.Threads.Known.{Sees}
use Rattle.smp_call_steps.specs.Order.{IsPrefix, of_class}
use Rattle.smp_call_steps.specs.Reached.{IsReached}
use Rattle.smp_call_steps.specs.Shows.{Shows}
use Rattle.smp_call_steps.specs.Stages.{ControlValue}
use Rattle.smp_queue.specs.Names.{Class, KnownCalls, CallSeatView, CallSetting, Word}
use Rattle.smp_queue.specs.Rule.{known}
use Rattle.smp_queue.specs.Seat.{IsCpuSeat}
use Rattle.smp_queue.specs.Cpu.{CpuValue, cpu_in, cpu_of}

-- some words and stages that show some calls, which are reached with these words
pub record CallsNow : Type 0 where
  pub calls : CallState
  pub at : Word → ℕ
  pub reached : IsReached calls at
  pub controls : ℕ → ControlValue
  pub shown : Shows calls at controls

-- a CPU's value is its part of these calls
abbrev pub IsPartOf : CallState → CpuValue → Type 0
IsPartOf calls c = c ≡ cpu_in c.table c.setting calls c

-- what two CPUs know is their parts of the same calls
pub record KnowTogether (v w : KnownCalls) : Type 0 where
  pub now : CallsNow
  pub one : Sees now.calls now.controls v
  pub other : Sees now.calls now.controls w
  pub setting : v.setting ≡ w.setting

-- the values of two CPUs are their parts of the same calls
pub record AreTogether (c d : CpuValue) : Type 0 where
  pub now : CallsNow
  pub one : IsPartOf now.calls c
  pub other : IsPartOf now.calls d
  pub setting : c.setting ≡ d.setting

-- Of two values alone: in each class, the calls of the one that have begun on the other are the first of those that the one has sent
-- to it. So each of them begins at most once, on its target, in the order in which it was sent.
abbrev pub RunsWhatIsSent : CpuValue → CpuValue → Type 0
RunsWhatIsSent source target = (class : Class) →
    IsPrefix (of_class class (calls_from source.number (target.part.ran ++ running_call target.part.running)))
    (of_class class (calls_to target.number source.part.sent))

-- seats that are looked at together: their table and, of each, the name under which another one stands in its place, and what its
-- CPU knows
pub record SeatsValue : Type 0 where
  pub table : TableId
  pub seats : List (TableId × KnownCalls)

abbrev pub seats_of : List (TableId × (ℕ × Me (Unit {0}) CallSeatView)) → List (TableId × KnownCalls)
seats_of [] = []
seats_of (m ∷ ms) = (m.0, known m.1.1.0) ∷ seats_of ms

abbrev pub AreCpuSeats : List (TableId × (ℕ × Me (Unit {0}) CallSeatView)) → Type 0
AreCpuSeats [] = Unit {0}
AreCpuSeats (m ∷ ms) = IsCpuSeat m.1.1.0 × AreCpuSeats ms

-- what all these CPUs know is their parts of these calls
abbrev pub SeeAll : CallsNow → CallSetting → List (TableId × KnownCalls) → Type 0
SeeAll now k [] = Unit {0}
SeeAll now k (m ∷ ms) = (Sees now.calls now.controls m.1 × (m.1.setting ≡ k)) × SeeAll now k ms

pub record KnowAllTogether (ms : List (TableId × KnownCalls)) : Type 0 where
  pub now : CallsNow
  pub setting : CallSetting
  pub parts : SeeAll now setting ms

-- CPUs that are looked at together: their table, and each CPU's value behind the name of the table at which it stands meanwhile
pub record CrowdValue : Type 0 where
  pub table : TableId
  pub cpus : List (TableId × CpuValue)

abbrev pub cpus_at : TableId → List (TableId × KnownCalls) → List (TableId × CpuValue)
cpus_at table [] = []
cpus_at table (m ∷ ms) = (m.0, cpu_of (record { table = table; known = m.1 })) ∷ cpus_at table ms

abbrev pub values : List (TableId × CpuValue) → List CpuValue
values [] = []
values (m ∷ ms) = m.1 ∷ values ms

abbrev pub crowd_of : SeatsValue → CrowdValue
crowd_of s = record { table = s.table; cpus = cpus_at s.table s.seats }

-- these values are their CPUs' parts of these calls, and all are of one setting
abbrev pub ArePartsOf : CallState → CallSetting → List CpuValue → Type 0
ArePartsOf calls k [] = Unit {0}
ArePartsOf calls k (c ∷ cs) = (IsPartOf calls c × (c.setting ≡ k)) × ArePartsOf calls k cs

-- the values of all these CPUs are their parts of the same calls
pub record AreAllTogether (cs : List CpuValue) : Type 0 where
  pub now : CallsNow
  pub setting : CallSetting
  pub parts : ArePartsOf now.calls setting cs

-- of any two of these values, the one runs what the other sends
abbrev pub AllRunWhatIsSent : List CpuValue → Type 0
AllRunWhatIsSent cs = All (λ c. All (λ d. RunsWhatIsSent c d) cs) cs
