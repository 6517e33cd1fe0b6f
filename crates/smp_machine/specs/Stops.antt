-- What a stop call makes of its CPU.
use Rattle.std.specs.Prelude.{◌≡◌, ◌≢◌, ◌⊎◌, ℕ, ℤ, ◌==◌, ◌||◌, ◌&&◌, true, false, Option, Some, None}
use Rattle.std.specs.Prelude.{List, [], ◌∷◌, length}
use Rattle.smp_mask.specs.Mask.{has, members, IsLeast}
use Rattle.smp_mask.specs.declared.error.SmpError.{SmpError}
use Rattle.smp_mask.specs.declared.error.SmpError.TheVariants as error
use Rattle.smp_queue.specs.declared.handler.Heard.{Heard}
use Rattle.smp_calls.specs.Queued.{is_in}
use Rattle.smp_stop_steps.specs.Start.{begin_refusal}
use Rattle.smp_stop_steps.specs.declared.start.Terms.{Terms}
use Rattle.smp_multi.specs.Names.{Work, One, Multi}
use Rattle.smp_multi.specs.Answers.{IsWholeWord, answer_in}
use Rattle.smp_multi.specs.Cpu.{TableValue}
use Rattle.smp_multi.specs.Polls.{IsLastResult}
use Rattle.smp_multi.specs.declared.func.Called.{Called}
use Rattle.smp_machine.specs.declared.work_queue.Item.{Item}
use Rattle.smp_machine.specs.Passes.{PassesValue, PutIsShown}
use Rattle.smp_machine.specs.MachineCpu.{MachineCpuValue}
use Rattle.smp_multi.specs.Names.{OwnMove}
use Rattle.smp_stop_steps.specs.declared.known.OwnMove.TheVariants.{Took, Began, Collected}
use Rattle.smp_machine.specs.Own.{Own, own_of, with_gate, with_begun, with_put, with_collected, with_moves}
use Rattle.smp_machine.specs.Works.{Works}

-- what a refusal of begin depends on, at a CPU that holds the gate
abbrev pub terms_at_gate : TableValue → Terms
terms_at_gate t = record {
  nr = t.nr;
  online = t.setting.online;
  keys = t.setting.labels.keys;
  sites = length t.setting.labels.entries;
  holds_gate = true;
}

-- a work that a CPU may begin that holds the gate and has no stop to collect
abbrev pub MayBegin : TableValue → Work → Type 0
MayBegin t work = begin_refusal (terms_at_gate t) work false ≡ None

-- the item by which a source queues a work
abbrev pub item : ℕ → Work → Item
item source work = record { slot = source; work = work }

-- a stop of this work was begun with the gate held, queued once for each CPU of its mask, in order, with the gate still held, and
-- collected with this result word, by these moves; the gate is not the CPU's then
abbrev pub with_stop : (Work → ℕ → List OwnMove) → ℕ → Work → ℕ → Own → Own
with_stop moves source work word o =
    with_moves (moves work word) (with_gate false (with_collected word (with_put (item source work) (members work.mask) (with_begun work (with_gate true o)))))

-- the law of the queues: what this source has put into each of these queues are its items of all that were taken there,
-- and then those that are there, in order
abbrev pub AreShown : List ℕ → PassesValue → Type 0
AreShown cpus p = (c : ℕ) → is_in c cpus ≡ true → PutIsShown p c

-- a CPU that was in no stop has collected its own stop, whose function has this answer, and is in none
pub record HasCollected {H F : Type 0} (hears : H → Heard → H → Type 0) (runs : F → Called → F → Type 0) (old : MachineCpuValue) (h : H) (f : F)
    (new : MachineCpuValue) (h' : H) (f' : F) (answer : ℤ) : Type 0 where
  pub word : ℕ
  pub answer_is : answer ≡ answer_in word
  pub whole : IsWholeWord answer word
  pub works : Works hears runs old h f new h' f' (with_moves (Collected word ∷ []) (with_collected word (own_of old)))
  pub result : IsLastResult new.stops word
  pub outside : new.stops.inside ≡ None

-- the gate was taken, and a stop of this work begun, and queued once for each CPU of its mask
abbrev pub with_queued : ℕ → Work → Own → Own
with_queued source work o = with_moves (Took ∷ Began work ∷ []) (with_put (item source work) (members work.mask) (with_begun work (with_gate true o)))

-- a CPU that was in no stop has made a stop of this work by these moves, with this answer, and is in none. Its works were queued
-- once for each CPU of the mask
pub record HasStopped {H F : Type 0} (hears : H → Heard → H → Type 0) (runs : F → Called → F → Type 0)
    (moves : Work → ℕ → List OwnMove) (work : Work)
    (old : MachineCpuValue) (h : H) (f : F) (new : MachineCpuValue) (h' : H) (f' : F) (answer : ℤ) : Type 0 where
  pub word : ℕ
  pub answer_is : answer ≡ answer_in word
  pub whole : IsWholeWord answer word
  pub works : Works hears runs old h f new h' f' (with_stop moves old.stops.number work word (own_of old))
  pub result : IsLastResult new.stops word
  pub shown : AreShown (members work.mask) new.passes
  pub outside : new.stops.inside ≡ None

-- the work of a stop of one CPU
pub record IsOneWork (dst func arg : ℕ) (work : Work) : Type 0 where
  pub kind : work.kind ≡ One
  pub mask : (c : ℕ) → has work.mask c ≡ (c == dst)
  pub active : work.active ≡ work.mask
  pub func_is : work.func ≡ func
  pub arg_is : work.arg ≡ arg

-- the work of a stop of two CPUs, of which the first is active
pub record IsTwoWork (a b func arg : ℕ) (work : Work) : Type 0 where
  pub kind : work.kind ≡ Multi
  pub mask : (c : ℕ) → has work.mask c ≡ (c == a || c == b)
  pub active : (c : ℕ) → has work.active c ≡ (c == a)
  pub func_is : work.func ≡ func
  pub arg_is : work.arg ≡ arg

-- the active CPUs: those handed in, else the first one online
abbrev pub IsActive : ℕ → Option ℕ → ℕ → Type 0
IsActive online None active = (first : ℕ) × IsLeast (λ c. has online c) first × ((c : ℕ) → has active c ≡ (c == first))
IsActive online (Some mask) active = active ≡ mask

-- of the CPUs that are active in such a stop this one alone is online
abbrev pub IsActiveAlone : ℕ → Option ℕ → ℕ → Type 0
IsActiveAlone online None me = IsLeast (λ c. has online c) me
IsActiveAlone online (Some mask) me = (c : ℕ) → (has mask c && has online c) ≡ (c == me)

-- the work of a stop of all online CPUs
pub record IsMachineWork (t : TableValue) (func arg : ℕ) (active : Option ℕ) (work : Work) : Type 0 where
  pub kind : work.kind ≡ Multi
  pub mask : work.mask ≡ t.setting.online
  pub active_is : IsActive t.setting.online active work.active
  pub func_is : work.func ≡ func
  pub arg_is : work.arg ≡ arg

-- refused: nothing has changed, no handler and no stop function has run
pub record RefusedStill {H F : Type 0} (old : MachineCpuValue) (h : H) (f : F) (new : MachineCpuValue) (h' : H) (f' : F) : Type 0 where
  pub kept : new ≡ old
  pub handler_kept : h' ≡ h
  pub func_kept : f' ≡ f

-- why a stop of one CPU, or of two, is refused: E4 first, then E3
abbrev pub RefusesOne : TableValue → MachineCpuValue → ℕ → SmpError → Type 0
RefusesOne t old dst error.BadArgument = old.stops.inside ≢ None
RefusesOne t old dst error.NoStopper = (old.stops.inside ≡ None) × (has t.setting.online dst ≡ false)
RefusesOne t old dst _ = ⊥

abbrev pub RefusesTwo : TableValue → MachineCpuValue → ℕ → ℕ → SmpError → Type 0
RefusesTwo t old a b error.BadArgument = (old.stops.inside ≢ None) ⊎ (a ≡ b)
RefusesTwo t old a b error.NoStopper = (old.stops.inside ≡ None) × (a ≢ b) × ((has t.setting.online a ≡ false) ⊎ (has t.setting.online b ≡ false))
RefusesTwo t old a b _ = ⊥
