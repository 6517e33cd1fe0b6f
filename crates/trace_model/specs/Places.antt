-- Where a record is.
use Rattle.std.specs.Prelude.{ℕ, Bool, false, ◌==◌}
use Rattle.trace_model.specs.declared.call.Place.{Place}
use Rattle.trace_model.specs.declared.call.Place.TheVariants.{Batch}

-- it is in the batch of a CPU
abbrev pub is_batch : Place → ℕ → Bool
is_batch (Batch d) cpu = d == cpu
is_batch _ cpu = false
