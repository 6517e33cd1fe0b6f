-- Each step of handle keeps what the words show of the calls, and what is seen of it tells the calls after it.
use Rattle.std.proofs.Common.{◌≡◌, ℕ, Some}
use Rattle.smp_call_steps.specs.{CallState, ControlValue, Word, HandleStage, Handle}
use Rattle.smp_call_steps.specs.Shows.{Shows}
use Rattle.smp_call_steps.proofs.Steps.StepShows.{StepShows}
use Rattle.smp_call_steps.proofs.Steps.Entering.{enter_step, accept_step, leave_idle_step, leave_step}
use Rattle.smp_call_steps.proofs.Steps.Taking.{take_step}
use Rattle.smp_call_steps.proofs.Steps.Relinking.{reverse_store_step, unlink_step}
use Rattle.smp_call_steps.proofs.Steps.Loading.{reverse_load_step, load_next_step, load_flags_step, load_func_step, load_info_step, async_next_step}
use Rattle.smp_call_steps.proofs.Steps.Loading.{async_func_step, async_info_step}
use Rattle.smp_call_steps.proofs.Steps.Beginning.{begin_sync_step, begin_async_step}
use Rattle.smp_call_steps.proofs.Steps.Ending.{count_sync_step, end_sync_step, count_async_step}
use Rattle.smp_call_steps.specs.handle

ruleset handle_steps = (
  accept_step,
  leave_idle_step,
  take_step,
  reverse_load_step,
  reverse_store_step,
  load_next_step,
  load_flags_step,
  load_func_step,
  load_info_step,
  unlink_step,
  begin_sync_step,
  count_sync_step,
  end_sync_step,
  async_next_step,
  async_func_step,
  async_info_step,
  begin_async_step,
  count_async_step,
  leave_step,
)

pub handle_step : (a : CallState) (at : Word → ℕ) (control : ℕ → ControlValue) (me : ℕ) → Shows a at control → (stage : HandleStage)
    → (control me).stage ≡ Some (Handle stage) → StepShows a at control me (Handle stage)
handle_step a at control me s handle.Enter e = enter_step me s e
handle_step a at control me s _ e = search handle_steps
