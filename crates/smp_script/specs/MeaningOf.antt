-- A `Script` of the program as its meaning.
use Rattle.smp_script.specs.Script.{Script}
use Rattle.smp_script.specs.declared.script.Script.{Script as TheScript}

abbrev pub meaning_of : {A : Type 0} → TheScript A → Script
meaning_of s = record { version = s.version; nr = s.nr; online = s.online; labels = s.labels; directives = s.directives.items }
