-- The words of a label table by their numbers.
use Rattle.std.specs.Prelude.{slice_index}
use Rattle.smp_labels.specs.declared.words.LabelWords.{LabelWords}
use Rattle.smp_labels.specs.Law.{Table}

-- the words by their numbers
abbrev pub table_of : LabelWords → Table
table_of words = record { key = slice_index words.keys; entry = slice_index words.entries; site = slice_index words.sites }
