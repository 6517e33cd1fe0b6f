-- What the call half of every machine keeps.
use Rattle.std.specs.Prelude.{◌≡◌, ℕ, List, length}
use Rattle.smp_words.specs.Size.{cpus, table_size}
use Rattle.smp_call_steps.specs.Stages.{ControlValue}
use Rattle.smp_call_steps.specs.Value.{ValuesShow}
use Rattle.smp_call_steps.specs.Calls.{CallState}

-- the table is whole, each CPU has a control, and they show some calls
pub record IsTable (words : List ℕ) (controls : List ControlValue) : Type 0 where
  pub words_sized : length words ≡ table_size
  pub controls_sized : length controls ≡ cpus
  pub calls : CallState
  pub shown : ValuesShow calls words controls
