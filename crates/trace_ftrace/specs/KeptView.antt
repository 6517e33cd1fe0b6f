-- What is kept, as that of the definitions.
use Rattle.std.specs.Prelude.{map}
use Rattle.trace_ftrace.specs.declared.kept.Kept.{Kept}
use Rattle.trace_ftrace.specs.Kept.{KeptValue}

abbrev pub kept_value : {A : Type 0} → Kept A → KeptValue
kept_value k = record { names = map (λ n. n.items) k.names.items; marks = k.marks.items; times = k.times; first = k.first; offline = k.offline }
