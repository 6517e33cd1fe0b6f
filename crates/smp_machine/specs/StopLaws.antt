-- What the definitions of stops, polls and queues come to, in words that do not use them.
use Rattle.std.specs.Prelude.{filter, ◌≡◌, ◌≢◌, ◌⊎◌, ◌↔◌, ℕ, ℤ, pos, ◌<◌, ◌==◌, ◌||◌, ◌&&◌, true, false, if◌then◌else◌, Option}
use Rattle.std.specs.Prelude.{Some, None, ◌≤◌, List, [], ◌∷◌, ◌++◌, length}
use mathlib.Core.Option.{some}
use lib.ListN.{get_elem?}
use Rattle.smp_mask.specs.Mask.{has}
use Rattle.smp_mask.specs.declared.error.SmpError.{SmpError}
use Rattle.smp_mask.specs.declared.error.SmpError.TheVariants as error
use Rattle.smp_words.specs.Size.{cpus}
use Rattle.smp_queue.specs.Cpu.{CpuValue as CallCpuValue}
use Rattle.smp_queue.specs.declared.handler.Heard.{Heard}
use Rattle.smp_multi.specs.Answers.{answer_in}
use Rattle.smp_multi.specs.Cpu.{TableValue, CpuValue as StopCpuValue, Inside, is_in}
use Rattle.smp_multi.specs.Names.{OwnMove, Work, One, Multi}
use Rattle.smp_multi.specs.Polls.{HasAnsweredItself}
use Rattle.smp_multi.specs.declared.func.Called.{Called}
use Rattle.smp_machine.specs.declared.work_queue.Item.{Item}
use Rattle.smp_machine.specs.declared.work_queue.Knows.{Knows}
use Rattle.smp_machine.specs.declared.work_queue.PutNote.{PutNote}
use Rattle.smp_machine.specs.declared.work_queue.Knows.TheVariants.{Takes, Puts}
use Rattle.smp_machine.specs.Own.{Own}
use Rattle.smp_machine.specs.Passes.{PassesValue, put_to}
use Rattle.smp_machine.specs.MachineCpu.{MachineCpuValue}
use Rattle.smp_machine.specs.Keys.{RefusesKey}
use Rattle.smp_machine.specs.Served.{Service, IsLookedAt, attempts_for, is_entered}
use Rattle.smp_machine.specs.Stops.{item, HasStopped, IsOneWork, IsTwoWork, IsMachineWork, RefusesOne, RefusesTwo}
use Rattle.smp_machine.specs.Takes.{TakesFront, EntersFront}
use Rattle.smp_machine.specs.WorkQueue.{IsInOrder}
use Rattle.smp_machine.specs.Works.{Works}

-- a stop of one CPU is of that CPU alone, which is active, and no rendezvous
pub record IsOfOne (dst func arg : ℕ) (work : Work) : Type 0 where
  pub kind : work.kind ≡ One
  pub mask : (c : ℕ) → (has work.mask c ≡ true) ↔ (c ≡ dst)
  pub active : (c : ℕ) → (has work.active c ≡ true) ↔ (c ≡ dst)
  pub calls : (work.func ≡ func) × (work.arg ≡ arg)

-- a stop of two is a rendezvous of these two, and the first alone is active
pub record IsOfTwo (a b func arg : ℕ) (work : Work) : Type 0 where
  pub kind : work.kind ≡ Multi
  pub mask : (c : ℕ) → (has work.mask c ≡ true) ↔ ((c ≡ a) ⊎ (c ≡ b))
  pub active : (c : ℕ) → (has work.active c ≡ true) ↔ (c ≡ a)
  pub calls : (work.func ≡ func) × (work.arg ≡ arg)

-- this CPU alone of these is in a mask: the first of them
pub record IsFirstAlone (online mask : ℕ) : Type 0 where
  pub first : ℕ
  pub online_is : has online first ≡ true
  pub least : (c : ℕ) → has online c ≡ true → first ≤ c
  pub alone : (c : ℕ) → (has mask c ≡ true) ↔ (c ≡ first)

-- a stop of the machine is a rendezvous of all CPUs that are online; active are those that are named, or the first that is online
pub record IsOfAll (t : TableValue) (func arg : ℕ) (active : Option ℕ) (work : Work) : Type 0 where
  pub kind : work.kind ≡ Multi
  pub mask : (c : ℕ) → (has work.mask c ≡ true) ↔ (has t.setting.online c ≡ true)
  pub first : active ≡ None → IsFirstAlone t.setting.online work.active
  pub named : (these : ℕ) → active ≡ Some these → (c : ℕ) → (has work.active c ≡ true) ↔ (has these c ≡ true)
  pub calls : (work.func ≡ func) × (work.arg ≡ arg)

-- the works of the three stops
pub record WorksAreOfTheirCpus : Type 0 where
  pub one : (dst func arg : ℕ) (work : Work) → IsOneWork dst func arg work → IsOfOne dst func arg work
  pub two : (a b func arg : ℕ) (work : Work) → IsTwoWork a b func arg work → IsOfTwo a b func arg work
  pub all : (t : TableValue) (func arg : ℕ) (active : Option ℕ) (work : Work) → IsMachineWork t func arg active work
      → IsOfAll t func arg active work

-- a stop has begun one work, and collected its result, which is its answer; it has put the work once into the queue of each
-- CPU of its mask, and nothing else anywhere
pub record StopsOnce (work : Work) (old new : MachineCpuValue) (answer : ℤ) : Type 0 where
  pub begun : new.stops.part.begun ≡ old.stops.part.begun ++ work ∷ []
  pub word : ℕ
  pub collected : new.stops.part.collected ≡ old.stops.part.collected ++ word ∷ []
  pub answer_is : answer ≡ answer_in word
  pub put : (c : ℕ) → c < cpus → c < length old.passes.put
      → put_to new.passes c ≡ put_to old.passes c ++ (if has work.mask c then item old.stops.number work ∷ [] else [])

-- each stop does so
abbrev pub StopsAreMadeOnce : {H F : Type 0} → (H → Heard → H → Type 0) → (F → Called → F → Type 0) → Type 0
StopsAreMadeOnce {H} {F} hears runs = (moves : Work → ℕ → List OwnMove) (work : Work) (old new : MachineCpuValue) (h h' : H) (f f' : F) (answer : ℤ)
    → HasStopped hears runs moves work old h f new h' f' answer → StopsOnce work old new answer

-- it is answered what it has answered to its own stop itself
abbrev pub AnswersItself : StopCpuValue → ℤ → Type 0
AnswersItself c answer = (own : ℕ) × HasAnsweredItself c own × (answer ≡ answer_in own)

-- what it has answered to its own stop itself is not 0 only where this answer is not
abbrev pub HearsItself : StopCpuValue → ℤ → Type 0
HearsItself c answer = (own : ℕ) × HasAnsweredItself c own × (own ≢ 0 → answer ≢ pos 0)

-- a stop that stops its caller too is not answered 0 where this has answered other than 0; and a stop of the caller alone is
-- answered just what this has answered
pub record StopsAgreeWithOwn {H F : Type 0} (hears : H → Heard → H → Type 0) (runs : F → Called → F → Type 0) : Type 0 where
  pub agrees : (moves : Work → ℕ → List OwnMove) (work : Work) (old new : MachineCpuValue) (h h' : H) (f f' : F) (answer : ℤ)
      → HasStopped hears runs moves work old h f new h' f' answer → has work.mask old.stops.number ≡ true → HearsItself new.stops answer
  pub alone : (moves : Work → ℕ → List OwnMove) (work : Work) (old new : MachineCpuValue) (h h' : H) (f f' : F) (answer : ℤ)
      (dst func arg : ℕ) → IsOneWork dst func arg work → dst ≡ old.stops.number
      → HasStopped hears runs moves work old h f new h' f' answer → AnswersItself new.stops answer

-- a CPU has sent no call and made no direct call, and owes, has confirmed and has logged what it had
pub record SendsNothing (old new : CallCpuValue) : Type 0 where
  pub sent : new.part.sent ≡ old.part.sent
  pub owes : new.part.owes ≡ old.part.owes
  pub confirmed : new.part.confirmed ≡ old.part.confirmed
  pub log : new.log ≡ old.log
  pub direct : new.direct ≡ old.direct

-- a CPU that polls, waits for the gate or for a stop sends no call
abbrev pub PollsSendNothing : {H F : Type 0} → (H → Heard → H → Type 0) → (F → Called → F → Type 0) → Type 0
PollsSendNothing {H} {F} hears runs = (old new : MachineCpuValue) (h h' : H) (f f' : F) (own : Own) → Works hears runs old h f new h' f' own
    → SendsNothing old.calls new.calls

-- In a queue that keeps its rule: what a source knows to have put are the items of its own slot, in order, of all that the
-- taker knows to have taken, and then of those still there.
abbrev pub QueuesKeepOrder : Type 0
QueuesKeepOrder = (items taken put : List Item) (notes : List PutNote) (views : List Knows) (source next at to : ℕ) → IsInOrder items views
    → get_elem? views at ≡ some (Takes next taken) → get_elem? views to ≡ some (Puts source put notes)
    → put ≡ filter (λ x. x.slot == source) (taken ++ items)

-- what is taken comes behind what was taken before; the taker knows it of a queue that keeps its rule; and it enters the stop of
-- the source by whom the work was put, which is for it. A work of a source that is online is dropped only after one look, in vain
pub record WorksAreTaken : Type 0 where
  pub taken : (old new : PassesValue) (x : Item) → TakesFront old new (Some x) → new.taken ≡ old.taken ++ x ∷ []
  pub known : (old new : PassesValue) (x : Item) → TakesFront old new (Some x)
      → (items : List Item) × (views : List Knows) × (next at : ℕ) × IsInOrder items views × (get_elem? views at ≡ some (Takes next new.taken))
  pub entered : (t : TableValue) (old new : StopCpuValue) (x : Item) (slot : ℕ) → EntersFront t old new (Some x) (Some slot)
      → (stop : Inside) × (new.inside ≡ Some stop) × (stop.slot ≡ x.slot) × (has stop.work.mask old.number ≡ true)
  pub dropped : (t : TableValue) (old new : StopCpuValue) (x : Item) → EntersFront t old new (Some x) None → has old.setting.online x.slot ≡ true
      → (new.inside ≡ None) × (new.attempts ≡ old.attempts ++ record { slot = x.slot; entered = false } ∷ [])
  pub looked_at : (online : ℕ) (s : Service) → IsLookedAt online s → has online s.item.slot ≡ true
      → attempts_for (s ∷ []) ≡ record { slot = s.item.slot; entered = is_entered s.fate } ∷ []

-- which refusal stops and changes of keys answer: E4 where a work is in hand or the argument is not taken, and else E3 where a CPU
-- of the stop is not online
pub record RefusalsAreInOrder : Type 0 where
  pub one : (t : TableValue) (old : MachineCpuValue) (dst : ℕ) (e : SmpError) → RefusesOne t old dst e
      → (is_in old.stops.inside ≡ true → e ≡ error.BadArgument)
      × (is_in old.stops.inside ≡ false → (e ≡ error.NoStopper) × (has t.setting.online dst ≡ false))
  pub two : (t : TableValue) (old : MachineCpuValue) (a b : ℕ) (e : SmpError) → RefusesTwo t old a b e
      → ((is_in old.stops.inside || a == b) ≡ true → e ≡ error.BadArgument)
      × ((is_in old.stops.inside || a == b) ≡ false → (e ≡ error.NoStopper) × ((has t.setting.online a && has t.setting.online b) ≡ false))
  pub key : (t : TableValue) (old : MachineCpuValue) (k : ℕ) (e : SmpError) → RefusesKey t old k e
      → (e ≡ error.BadArgument) × ((is_in old.stops.inside ≡ true) ⊎ (t.setting.labels.keys ≤ k))
