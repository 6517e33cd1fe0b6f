-- What contracts see of where CPUs are, and what a table of words shows.
use Rattle.std.specs.Prelude.{ℕ, None, List, slice_index_or}
use Rattle.smp_call_steps.specs.Drains.{no_drain}
use Rattle.smp_call_steps.specs.Stages.{ControlValue}
use Rattle.smp_words.specs.Layout.{number_in}
use Rattle.smp_call_steps.specs.Calls.{CallState}
use Rattle.smp_call_steps.specs.Shows.{Shows}

-- a CPU outside a command
abbrev pub outside : ControlValue
outside = record { stage = None; drain = no_drain }

-- where a CPU is; outside where there is no such CPU
abbrev pub control_of : List ControlValue → ℕ → ControlValue
control_of controls cpu = slice_index_or controls cpu outside

-- these words and controls show these calls
abbrev pub ValuesShow : CallState → List ℕ → List ControlValue → Type 0
ValuesShow a words controls = Shows a (number_in words) (control_of controls)
