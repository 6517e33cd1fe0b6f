-- A new core.
use Rattle.std.specs.Prelude.{ℕ, [], replicate}
use Rattle.smp_words.specs.Size.{cpus, table_size}
use Rattle.smp_labels.specs.Labels.{Labels}
use Rattle.smp_core.specs.Value.{CoreValue}
use Rattle.smp_call_steps.specs.Value.{outside}
use Rattle.smp_stop_steps.specs.New.{new_stops}

-- no keys and no sites
abbrev pub no_labels : Labels
no_labels = record { keys = 0; entries = [] }

-- a core with no calls and no stops
abbrev pub new_core : ℕ → ℕ → Labels → CoreValue
new_core nr online labels = record {
  nr = nr;
  online = online;
  words = replicate table_size 0;
  controls = replicate cpus outside;
  stops = new_stops nr online labels;
}
