-- Where a source is with its own stop.
use Rattle.std.specs.Prelude.{◌≡◌, ◌≢◌, ℕ, ◌<◌, ◌^◌, Bool, true, false, ◌==◌, Option, Some, ◌≤◌}
use Rattle.smp_stop_steps.specs.Names.{has, Field, Kind, One, Multi, Patch, Work}
use Rattle.smp_stop_steps.specs.{Stop.Stop, Stop.Ended, Counts.mask_weight, Slots.IsStored, State.Setup}
pub use Rattle.smp_stop_steps.specs.declared.known.Source.{Source}
pub use Rattle.smp_stop_steps.specs.declared.known.Source.TheVariants.{Shut, Drafts, Owns, Collects}

-- a patch is of all online CPUs, its function runs on the first of them, and it makes one of the four changes to a key's count
pub record IsPatchWork (online : ℕ → Bool) (front keys : ℕ) (work : Work) : Type 0 where
  pub all : (c : ℕ) → has work.mask c ≡ online c
  pub first : (c : ℕ) → has work.active c ≡ (c == front)
  pub key : work.func < keys
  pub change : work.arg ≤ 3

-- a stop of kind One is of one CPU
abbrev pub IsOfKind : Setup → Work → Kind → Type 0
IsOfKind u work One = mask_weight u.cpus work.mask ≡ 1
IsOfKind u work Multi = Unit {0}
IsOfKind u work Patch = IsPatchWork u.online u.first u.keys work

-- a work that begin takes: its CPUs are online, and there are some
pub record IsWork (u : Setup) (work : Work) : Type 0 where
  pub online : (c : ℕ) → has work.mask c ≡ true → u.online c ≡ true
  pub below : (c : ℕ) → has work.mask c ≡ true → c < u.cpus
  pub some : mask_weight u.cpus work.mask ≢ 0
  pub kind : IsOfKind u work work.kind
  pub func : work.func < 2 ^ 16

-- what the first k stores tell of the work
pub record IsDrafted (k : ℕ) (told work : Work) : Type 0 where
  pub kind : 0 < k → told.kind ≡ work.kind
  pub mask : 1 < k → told.mask ≡ work.mask
  pub active : 2 < k → told.active ≡ work.active
  pub func : 3 < k → told.func ≡ work.func
  pub arg : 4 < k → told.arg ≡ work.arg

-- a source with fields stored: its slot is closed, and no other CPU touches it
pub record DraftShows (u : Setup) (gate : Option ℕ) (stop : Stop) (word : Field → ℕ) (s : ℕ) (work : Work) (k : ℕ) : Type 0 where
  pub shut : stop.is_open ≡ false
  pub holds : gate ≡ Some s
  pub is_work : IsWork u work
  pub stored : IsStored u.cpus word work k
  pub told : IsDrafted k stop.work work

-- a source with its stop open
pub record OwnerShows (u : Setup) (stop : Stop) (work : Work) : Type 0 where
  pub is_open : stop.is_open ≡ true
  pub work_is : stop.work ≡ work
  pub is_work : IsWork u work

abbrev pub SourceShows : Setup → Option ℕ → Stop → (Field → ℕ) → ℕ → Source → Type 0
SourceShows u gate stop word s Shut = stop.is_open ≡ false
SourceShows u gate stop word s (Drafts work k) = DraftShows u gate stop word s work k
SourceShows u gate stop word s (Owns work) = OwnerShows u stop work
SourceShows u gate stop word s (Collects work) = OwnerShows u stop work × (stop.ending ≡ Ended)
