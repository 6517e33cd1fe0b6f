-- What contracts are to see of the stop half of a machine, and the stops that it shows.
use Rattle.std.specs.Prelude.{◌≡◌, ℕ, zero, suc, ◌<◌, ◌≤◌, ◌==◌, if◌then◌else◌, List, length, map, slice_index_or}
use Rattle.smp_labels.specs.{Entries.entry_word, Labels.Labels}
use Rattle.smp_words.specs.declared.size.TheConstants.{SLOT_WORDS}
use Rattle.smp_stop_steps.specs.Names.{has, MOST_KEYS, MOST_SITES, cpus, Gate}
use Rattle.smp_stop_steps.specs.{State.Setup, State.StopState, Carries.CarriesIn, Seats.StopRole, Sources.Source, Sources.Shut, Shows.StopShows}
use Rattle.smp_stop_steps.specs.{Stages.StopControlValue, Stages.stop_outside, Sits.ControlFits, Table.StopWords, Table.stop_number}

-- the least member of a mask below k, or k where there is none
unfoldable pub first_below : ℕ → ℕ → ℕ
first_below mask zero = zero
first_below mask (suc k) = let first = first_below mask k in if first == k then (if has mask k then k else suc k) else first

-- how many CPUs there are and those online, the labels, the words, and where each CPU is
pub record StopsValue : Type 0 where
  pub nr : ℕ
  pub online : ℕ
  pub labels : Labels
  pub table : StopWords
  pub controls : List StopControlValue

abbrev pub setup_of : ℕ → Labels → Setup
setup_of online labels = record {
  cpus = cpus;
  online = has online;
  first = first_below online cpus;
  keys = labels.keys;
  entries = map entry_word labels.entries;
}

-- where a CPU is; outside where there is no such CPU
abbrev pub stop_control_of : List StopControlValue → ℕ → StopControlValue
stop_control_of controls cpu = slice_index_or controls cpu stop_outside

-- a table has all words
pub record IsStopTable (t : StopWords) : Type 0 where
  pub slots : length t.slots ≡ SLOT_WORDS
  pub keys : length t.keys ≡ MOST_KEYS
  pub entries : length t.entries ≡ MOST_SITES
  pub sites : length t.sites ≡ MOST_SITES

-- these words and controls show these stops: there are seats and sources of which each stage says where they are
pub record StopsShow (u : Setup) (p : StopState) (t : StopWords) (controls : List StopControlValue) : Type 0 where
  pub seat : ℕ → StopRole
  pub source : ℕ → Source
  pub shows : StopShows u p (stop_number t) seat source
  pub sits : (cpu : ℕ) → cpu < u.cpus → ControlFits u cpu (stop_number t Gate) (stop_control_of controls cpu) (seat cpu) (source cpu)
  pub carries : (cpu : ℕ) → cpu < u.cpus → CarriesIn (stop_control_of controls cpu) (p.calling cpu)
  pub shut : (cpu : ℕ) → u.cpus ≤ cpu → source cpu ≡ Shut

abbrev pub StopShown : StopState → StopsValue → Type 0
StopShown p v = StopsShow (setup_of v.online v.labels) p v.table v.controls
