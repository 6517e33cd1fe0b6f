-- A CPU that has come to call the function of its stop, and has not answered.
use Rattle.std.specs.Prelude.{◌≡◌, ℕ, ◌<◌, Bool, true}
use Rattle.atomic_table.specs.Seated.{TableId}
use Rattle.smp_mask.specs.Mask.{has}
use Rattle.smp_words.specs.Size.{cpus}
use Rattle.smp_stop_steps.specs.Threads.Known.{stepped}
use Rattle.smp_stop_steps.specs.Threads.KnownAfter.{looked_known}
use Rattle.smp_stop_steps.specs.Sits.{IsLoaded, OwnsIf}
use Rattle.smp_words.specs.declared.phase.TheConstants.{DISABLE_IRQ, RUN}
use Rattle.smp_stop_steps.specs.declared.stage.Visit.{Visit}
use Rattle.smp_multi.specs.Names.{Kind, One, Multi, Patch, In, Rests, KnownStops, Calls}
use Rattle.smp_multi.specs.Cpu.{call_with}
use Rattle.smp_multi.specs.Lives.{Lives}
use Rattle.smp_multi.specs.Places.{work_in}
use Rattle.smp_multi.specs.Rounds.{AloneWhile, AtRun, AtTurn}
use Rattle.smp_multi.specs.Running.{IsItsCall, calls_now}
use Rattle.smp_multi.specs.Seat.{SeatValue}
use Rattle.smp_multi.specs.Turns.{TurnAnswers, no_call}
use Rattle.smp_multi.specs.declared.turn.Go.{Go}
use Rattle.smp_multi.specs.declared.turn.Go.TheVariants.{Over, Call}

-- a turn is over, in which no function was called; or the CPU has looked at RUN, and is to call this function of its Multi stop
abbrev pub Goes : TableId → KnownStops → SeatValue → Visit → Go → Type 0
Goes t old new v (Over x turn) = AtTurn t new x x.acked Rests × TurnAnswers no_call old new.known v x tt tt turn
Goes t old new v (Call func arg) = AtRun t new v Multi × (new.known ≡ stepped 3 (calls_now (looked_known RUN old))) × IsItsCall new.known func arg

-- where its seat is: in a stop of one CPU; or active at RUN of a Multi stop, which it has not acknowledged, while every CPU of the mask has its
-- interrupts off
abbrev pub SitsAtCall : Kind → Visit → KnownStops → Type 0
SitsAtCall One v k = k.seat ≡ In v.slot (work_in k.seat) 0 0 Rests
SitsAtCall Multi v k = (v.acked ≡ DISABLE_IRQ) × (has v.active k.number ≡ true) × (k.seat ≡ In v.slot (work_in k.seat) v.acked RUN Rests) × AloneWhile k v.slot
SitsAtCall Patch v k = ⊥

-- what it keeps until it answers
pub record IsAnswering (k : KnownStops) (number : ℕ) (v : Visit) (holds is_open : Bool) (func arg : ℕ) : Type 0 where
  pub number_is : k.number ≡ number
  pub below : number < cpus
  pub online : has k.setting.online number ≡ true
  pub low : v.slot < cpus
  pub loaded : IsLoaded v (work_in k.seat)
  pub sits : SitsAtCall v.kind v k
  pub call : IsItsCall k func arg
  pub begun : k.part.calling ≡ Calls (call_with (work_in k.seat) 0)
  pub holds_is : holds ≡ k.part.holds
  pub owns : OwnsIf is_open k.source
  pub lives : Lives k
