-- Names, as those of the definitions.
use Rattle.std.specs.Prelude.{map}
use Rattle.trace_ftrace.specs.declared.names.Names.{Names}
use Rattle.trace_ftrace.specs.Names.{NamesValue}

abbrev pub names_value : Names → NamesValue
names_value n = record { addresses = n.addresses.now; functions = map (λ f. f.now) n.functions.now }
