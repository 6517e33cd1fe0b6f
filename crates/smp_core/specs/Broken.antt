-- A core that shows nothing: each word is 1, and no CPU is inside a command.
use Rattle.std.specs.Prelude.{[], replicate}
use Rattle.smp_words.specs.Size.{table_size}
use Rattle.smp_core.specs.New.{new_core, no_labels}
use Rattle.smp_core.specs.Value.{CoreValue}

abbrev pub all_ones : CoreValue
all_ones = record (new_core 1 1 no_labels) { words = replicate table_size 1; controls = [] }
