-- The state of the model before the first event.
use Rattle.std.specs.Prelude.{ℕ, List, replicate, None}
use Rattle.smp_labels.specs.declared.words.LabelWords.{LabelWords}
use Rattle.trace_model.specs.declared.call.Place.{Place}
use Rattle.trace_model.specs.declared.call.Place.TheVariants.{Free}
use Rattle.trace_model.specs.declared.without.Setting.{Setting}
use Rattle.trace_model.specs.Cpu.{fresh_cpu}
use Rattle.trace_model.specs.State.{StateValue}
use Rattle.trace_model.specs.Stop.{closed}

-- this number of records that are free
unfoldable pub places_free : ℕ → List Place
places_free n = replicate n Free

-- nothing is queued, and no stop is open
unfoldable pub opening : Setting → LabelWords → StateValue
opening setting words = record {
  setting = setting;
  cpus = replicate 512 fresh_cpu;
  places = places_free 65536;
  gate = None;
  stops = replicate 64 (closed setting.online);
  words = words;
}
