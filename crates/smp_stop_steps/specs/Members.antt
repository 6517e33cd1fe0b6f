-- What a begin is refused for, said of the members of its masks and of its numbers.
use Rattle.std.specs.Prelude.{◌≡◌, ℕ, ◌<◌, ◌^◌, Bool, true, false, ◌==◌, Option, Some, None}
use Rattle.smp_mask.specs.Mask.{IsLeast}
use Rattle.smp_stop_steps.specs.Names.{has, SmpError, Kind, One, Multi, Patch, Work, cpus}
use Rattle.smp_stop_steps.specs.{Sources.IsPatchWork, Start.begin_refusal, declared.start.Terms.Terms}

-- a stop of kind One is of one CPU, and a patch is one by the least of the CPUs online
abbrev pub HasItsCpus : (ℕ → Bool) → ℕ → Work → Kind → Type 0
HasItsCpus online keys work One = (c : ℕ) × (c < cpus) × ((d : ℕ) → d < cpus → has work.mask d ≡ (d == c))
HasItsCpus online keys work Multi = Unit {0}
HasItsCpus online keys work Patch = (first : ℕ) × IsLeast online first × IsPatchWork online first keys work

-- the gate is held, and the work has a CPU, and those of its kind
pub record FitsMembers (holds : Type 0) (online : ℕ → Bool) (keys : ℕ) (work : Work) : Type 0 where
  pub gate : holds
  pub some : (c : ℕ) × (c < cpus) × (has work.mask c ≡ true)
  pub kind : HasItsCpus online keys work work.kind

-- E8 where the own stop is open; else E4 where the gate is not held or the work is none; else E3 where it has a CPU that is
-- not online
abbrev pub BeginRefuses : Type 0 → (ℕ → Bool) → ℕ → Work → Bool → Option SmpError → Type 0
BeginRefuses holds online keys work is_open None =
    (is_open ≡ false) × FitsMembers holds online keys work × ((c : ℕ) → has work.mask c ≡ true → online c ≡ true)
BeginRefuses holds online keys work is_open (Some SmpError.SlotBusy) = is_open ≡ true
BeginRefuses holds online keys work is_open (Some SmpError.BadArgument) = (is_open ≡ false) × (FitsMembers holds online keys work → ⊥)
BeginRefuses holds online keys work is_open (Some SmpError.NoStopper) =
    (is_open ≡ false) × FitsMembers holds online keys work × ((c : ℕ) × (has work.mask c ≡ true) × (online c ≡ false))
BeginRefuses holds online keys work is_open (Some _) = ⊥

-- so each begin is refused, where some of at most 32 CPUs are online: what `begin_refusal` computes is pinned by this
abbrev pub BeginsByMembers : Type 0
BeginsByMembers = (t : Terms) (work : Work) (is_open : Bool) → t.online < 2 ^ 32 → (c : ℕ) → has t.online c ≡ true →
    BeginRefuses (t.holds_gate ≡ true) (has t.online) t.keys work is_open (begin_refusal t work is_open)
