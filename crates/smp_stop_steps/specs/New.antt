-- A stop half as it is made.
use Rattle.std.specs.Prelude.{ℕ, ◌-◌, List, ◌++◌, length, map, replicate}
use Rattle.smp_labels.specs.{Entries.entry_word, Labels.Labels, Labels.first_site}
use Rattle.smp_words.specs.declared.size.TheConstants.{SLOT_WORDS}
use Rattle.smp_stop_steps.specs.{Names.MOST_KEYS, Names.MOST_SITES, Names.cpus, Stages.stop_outside, Table.StopWords, Value.StopsValue}

-- the words of a stop table with a free gate, free slots, and all keys off
abbrev pub new_stop_words : Labels → StopWords
new_stop_words labels = let unused : List ℕ = replicate (MOST_SITES - length labels.entries) 0 in
    record {
      gate = 0;
      slots = replicate SLOT_WORDS 0;
      keys = replicate MOST_KEYS 0;
      entries = map entry_word labels.entries ++ unused;
      sites = map first_site labels.entries ++ unused;
    }

-- a stop half in which nothing was begun
abbrev pub new_stops : ℕ → ℕ → Labels → StopsValue
new_stops nr online labels = record { nr = nr; online = online; labels = labels; table = new_stop_words labels; controls = replicate cpus stop_outside }
