-- What contracts see of a core.
use Rattle.std.specs.Prelude.{ℕ, Option, Some, None, List}
use Rattle.smp_call_steps.specs.Stages.{ControlValue}
use Rattle.smp_words.specs.Layout.{number_of}
use Rattle.smp_call_steps.specs.Calls.{CallState}
use Rattle.smp_stop_steps.specs.Table.{stop_number_of}
use Rattle.smp_stop_steps.specs.Value.{StopsValue}
use Rattle.smp_words.specs.declared.word.Word.{Word}
use Rattle.smp_call_steps.specs.Value.{ValuesShow}

-- the number of CPUs, those online, the words, where each CPU is, and the stop half
pub record CoreValue : Type 0 where
  pub nr : ℕ
  pub online : ℕ
  pub words : List ℕ
  pub controls : List ControlValue
  pub stops : StopsValue

-- the core shows these calls
abbrev pub Shown : CallState → CoreValue → Type 0
Shown a core = ValuesShow a core.words core.controls

-- the first, else the second
abbrev pub first_of : Option ℕ → Option ℕ → Option ℕ
first_of (Some n) second = Some n
first_of None second = second

-- the number in a word of either table, where there is such a word
abbrev pub word_in : CoreValue → Word → Option ℕ
word_in core word = first_of (number_of core.words word) (stop_number_of core.stops.table word)
