-- What a change of a key makes of its CPU.
use Rattle.std.specs.Prelude.{◌≡◌, ◌≢◌, ◌⊎◌, ℕ, ℤ, ◌<◌, ◌≤◌, Bool, true, false, if◌then◌else◌, None}
use Rattle.std.specs.Prelude.{List, [], ◌∷◌, ◌++◌}
use Rattle.smp_labels.specs.Keys.{change_word, is_on}
use Rattle.smp_labels.specs.declared.keys.Change.{Change}
use Rattle.smp_labels.specs.declared.keys.Change.TheVariants.{Off, On}
use Rattle.smp_mask.specs.declared.error.SmpError.{SmpError}
use Rattle.smp_mask.specs.declared.error.SmpError.TheVariants as error
use Rattle.smp_queue.specs.declared.handler.Heard.{Heard}
use Rattle.smp_multi.specs.Names.{Work, Patch, Reading}
use Rattle.smp_multi.specs.Cpu.{TableValue, CpuValue}
use Rattle.smp_multi.specs.declared.func.Called.{Called}
use Rattle.smp_stop_steps.specs.declared.known.OwnMove.TheVariants.{Took, Found, Gave}
use Rattle.smp_machine.specs.Moves.{patch_after}
use Rattle.smp_machine.specs.Own.{own_of, with_gate, with_moves}
use Rattle.smp_machine.specs.MachineCpu.{MachineCpuValue}
use Rattle.smp_machine.specs.Stops.{IsActive, HasStopped}
use Rattle.smp_machine.specs.Works.{Works}

-- the change that turns a key on or off
abbrev pub state_of : Bool → Change
state_of on = if on then On else Off

-- the patch that makes this change of a key: of all online CPUs, by the first of them
pub record IsPatchOf (t : TableValue) (k : ℕ) (change : Change) (work : Work) : Type 0 where
  pub kind : work.kind ≡ Patch
  pub mask : work.mask ≡ t.setting.online
  pub active : IsActive t.setting.online None work.active
  pub func_is : work.func ≡ k
  pub arg_is : work.arg ≡ change_word change

-- a reading is among those of a CPU since its interrupts last went on
abbrev pub Reads : CpuValue → Reading → Type 0
Reads c r = (before : List Reading) × (after : List Reading) × (c.part.readings ≡ before ++ r ∷ after)

-- a CPU has polled, has found while it held the gate that key k is on or off as it is to be, and has made no stop
pub record KeyStands {H F : Type 0} (hears : H → Heard → H → Type 0) (runs : F → Called → F → Type 0) (k : ℕ) (on : Bool) (old : MachineCpuValue)
    (h : H) (f : F) (new : MachineCpuValue) (h' : H) (f' : F) : Type 0 where
  pub count : ℕ
  pub same : is_on count ≡ on
  pub works : Works hears runs old h f new h' f' (with_moves (Took ∷ Found k count ∷ Gave ∷ []) (with_gate false (own_of old)))

-- a CPU has found while it held the gate that key k is not so, and has made one stop then, with a patch that turns the key so
pub record TurnsKey {H F : Type 0} (hears : H → Heard → H → Type 0) (runs : F → Called → F → Type 0) (t : TableValue) (k : ℕ) (on : Bool)
    (old : MachineCpuValue) (h : H) (f : F) (new : MachineCpuValue) (h' : H) (f' : F) : Type 0 where
  pub work : Work
  pub patch : IsPatchOf t k (state_of on) work
  pub count : ℕ
  pub other : is_on count ≢ on
  pub answer : ℤ
  pub stopped : HasStopped hears runs (patch_after (Took ∷ Found k count ∷ [])) work old h f new h' f' answer

-- what a call that turns a key on or off leaves, by its answer: whether it has turned it
abbrev pub Sets : {H F : Type 0} → (H → Heard → H → Type 0) → (F → Called → F → Type 0) → TableValue → ℕ → Bool
    → MachineCpuValue → H → F → MachineCpuValue → H → F → Bool → Type 0
Sets hears runs t k on old h f new h' f' false = KeyStands hears runs k on old h f new h' f'
Sets hears runs t k on old h f new h' f' true = TurnsKey hears runs t k on old h f new h' f'

-- a change of a key is refused with E4 where a work is in hand, or there is no such key
abbrev pub RefusesKey : TableValue → MachineCpuValue → ℕ → SmpError → Type 0
RefusesKey t old k error.BadArgument = (old.stops.inside ≢ None) ⊎ (t.setting.labels.keys ≤ k)
RefusesKey t old k _ = ⊥

-- it is not
pub record MayChange (t : TableValue) (old : MachineCpuValue) (k : ℕ) : Type 0 where
  pub free : old.stops.inside ≡ None
  pub key : k < t.setting.labels.keys
