-- What is told, as that of the definitions.
use Rattle.trace_ftrace.specs.declared.told.Telling.{Telling}
use Rattle.trace_ftrace.specs.Telling.{TellingValue}

abbrev pub telling_value : {A : Type 0} → Telling A → TellingValue
telling_value t = record {
  addresses = t.addresses;
  told = t.told.items;
  running = t.running;
  cpus = t.cpus;
  stops = t.stops.items;
  inside = t.inside;
  alone = t.alone;
}
