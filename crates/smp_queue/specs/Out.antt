-- What a CPU's value says of running threads while a call of it is out.
use Rattle.std.specs.Prelude.{◌≡◌, ℕ, ◌<◌, ◌≤◌, true, false}
use Rattle.smp_mask.specs.Mask.{has}
use Rattle.smp_call_steps.specs.Calls.{CallState, no_calls}
use Rattle.smp_call_steps.specs.Threads.Parts.{part_of}
use Rattle.smp_call_steps.specs.Reached.{IsReached}
use Rattle.smp_call_steps.specs.Shows.{Shows}
use Rattle.smp_call_steps.specs.Stages.{ControlValue}
use Rattle.smp_queue.specs.Names.{Word}
use Rattle.smp_queue.specs.Cpu.{cpu_in}
use Rattle.smp_queue.specs.Laws.{HasNothingToTake}
use Rattle.smp_queue.specs.Serving.{ShowsOut, running_as}
use Rattle.smp_queue.specs.ServingValue.{ServingValue}

-- Some words show calls that are reached and keep all laws, of which this value is one CPU's part, and in which it runs this call.
-- By these words the record of a SYNC call is locked and the handling word names it, and the record of an ASYNC call is free. The
-- CPU is one of its table and online; CPUs that its table does not have, or that are not online, have done nothing and have
-- nothing to take.
pub record IsShownOut (s : ServingValue) : Type 0 where
  pub calls : CallState
  pub at : Word → ℕ
  pub reached : IsReached calls at
  pub controls : ℕ → ControlValue
  pub shown : Shows calls at controls
  pub below : s.cpu.number < s.cpu.setting.nr
  pub online : has s.cpu.setting.online s.cpu.number ≡ true
  pub absent : (cpu : ℕ) → s.cpu.setting.nr ≤ cpu → part_of calls cpu ≡ part_of no_calls cpu
  pub offline : (cpu : ℕ) → has s.cpu.setting.online cpu ≡ false → part_of calls cpu ≡ part_of no_calls cpu
  pub quiet : (cpu : ℕ) → has s.cpu.setting.online cpu ≡ false → HasNothingToTake calls cpu
  pub running : calls.running s.cpu.number ≡ running_as s.call
  pub out : ShowsOut s.call.class at s.cpu.number s.call
  pub view : s.cpu ≡ cpu_in s.cpu.table s.cpu.setting calls s.cpu
