-- The words of a stop table are those that have a number there.
use Rattle.std.specs.Prelude.{◌≡◌, ℕ, Bool, true, false, Option, Some, None}
use Rattle.smp_words.specs.StopLayout.{stop_index_of}
use Rattle.smp_stop_steps.specs.{Names.Word, Table.StopWords, Table.stop_number_of}

abbrev pub is_there : Option ℕ → Bool
is_there None = false
is_there (Some n) = true

-- a table has a word exactly where the word has a number
abbrev pub WordsHaveNumbers : Type 0
WordsHaveNumbers = (t : StopWords) (w : Word) → is_there (stop_number_of t w) ≡ is_there (stop_index_of w)
