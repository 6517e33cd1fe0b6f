-- Each step of a CPU keeps what the words show of the calls, and what was seen of it tells the calls after it.
use Rattle.std.proofs.Common.{◌≡◌, ℕ, Some}
use Rattle.smp_call_steps.specs.{CallState, ControlValue, Word, Stage, Send, Done, Post, Handle}
use Rattle.smp_call_steps.specs.Shows.{Shows}
use Rattle.smp_call_steps.proofs.Steps.StepShows.{StepShows}
use Rattle.smp_call_steps.proofs.Steps.Posting.{post_step, send_step, done_step}
use Rattle.smp_call_steps.proofs.Steps.Handles.{handle_step}

-- any step of any CPU
pub step_shown : (a : CallState) (at : Word → ℕ) (control : ℕ → ControlValue) (me : ℕ) → Shows a at control → (st : Stage) → (control me).stage ≡ Some st
    → StepShows a at control me st
step_shown a at control me s (Send to) e = send_step me s to e
step_shown a at control me s (Done id) e = done_step me s id e
step_shown a at control me s (Post p st) e = post_step me s p st e
step_shown a at control me s (Handle st) e = handle_step a at control me s st e
