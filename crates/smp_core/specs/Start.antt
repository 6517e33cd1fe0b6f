-- When a command of either half may start, and the core once it has.
use Rattle.std.specs.Prelude.{ℕ, if◌then◌else◌, Option, Some, None, slice_set}
use Rattle.smp_mask.specs.Mask.{has}
use Rattle.smp_mask.specs.declared.error.SmpError.{SmpError}
use Rattle.smp_mask.specs.declared.error.SmpError.TheVariants as error
use Rattle.smp_core.specs.Value.{CoreValue}
use Rattle.smp_call_steps.specs.Value.{control_of}
use Rattle.smp_stop_steps.specs.Start.{stop_refusal, stop_started}
use Rattle.smp_stop_steps.specs.Value.{stop_control_of}
use Rattle.smp_words.specs.declared.command.Command.{Command}
use Rattle.smp_call_steps.specs.Start.{command_refusal, first_stage, control_at}

-- the answer to a CPU that is inside a command, else this one
abbrev pub busy_or : {A : Type 0} → Option A → Option SmpError → Option SmpError
busy_or (Some stage) refusal = Some error.Busy
busy_or None refusal = refusal

-- the first refusal, else the second
abbrev pub or_else : Option SmpError → Option SmpError → Option SmpError
or_else (Some refused) second = Some refused
or_else None second = second

-- the own refusals of a command of either half
abbrev pub own_refusal : CoreValue → ℕ → Command → Option SmpError
own_refusal core cpu c = or_else (command_refusal core.nr core.online cpu c) (stop_refusal core.stops cpu c)

-- why a command may not start; none where it may
abbrev pub refusal_of : CoreValue → ℕ → Command → Option SmpError
refusal_of core cpu c =
    if has core.online cpu then busy_or (control_of core.controls cpu).stage (busy_or (stop_control_of core.stops.controls cpu).stage (own_refusal core cpu c))
    else Some error.NoCpu

-- the core with the CPU at the beginning of a command
abbrev pub started : CoreValue → ℕ → Command → CoreValue
started core cpu c = record core {
  controls = slice_set core.controls cpu (control_at (control_of core.controls cpu) (first_stage core.online cpu c));
  stops = stop_started core.stops cpu c;
}
