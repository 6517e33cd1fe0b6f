-- The keys and sites of the model, and what a patch is to store.
use Rattle.std.specs.Prelude.{ℕ, ◌+◌, ◌-◌, ◌^◌, ◌/◌, ◌%◌, Bool, true, false, not, ◌&&◌, ◌||◌, ◌==◌, nat_le, nat_lt, min, if◌then◌else◌}
use Rattle.std.specs.Prelude.{slice_index_or, slice_set}
use Rattle.std.specs.Prelude.{Option, Some, None, Result, Ok, Err}
use Rattle.smp_labels.specs.declared.patch.Place.{Place}
use Rattle.smp_labels.specs.declared.patch.Place.TheVariants.{Key, Site}
use Rattle.smp_labels.specs.declared.words.LabelWords.{LabelWords}
use Rattle.smp_labels.specs.Keys.{change_of, count_after, is_on}
use Rattle.smp_labels.specs.Kinds.{kind_of, kind_word, xor}
use Rattle.trace_model.specs.declared.reason.Reason.{Reason}
use Rattle.trace_model.specs.declared.reason.Reason.TheVariants as reason
use Rattle.trace_model.specs.declared.stop.Patch.{Patch}
use Rattle.trace_model.specs.declared.stop.Stop.{Stop}
use Rattle.trace_model.specs.Stop.{first_from}

-- the count of a key, the word of a site, and its entry
abbrev pub count_at : LabelWords → ℕ → ℕ
count_at words key = slice_index_or words.keys key 0

abbrev pub site_at : LabelWords → ℕ → ℕ
site_at words site = slice_index_or words.sites site 0

-- the key and the branch that an entry word has
abbrev pub entry_in : ℕ → Option (ℕ × Bool)
entry_in word = if word == 0 then None else Some ((word - 1) / 2, (word - 1) % 2 == 1)

abbrev pub entry_of : LabelWords → ℕ → Option (ℕ × Bool)
entry_of words site = entry_in (slice_index_or words.entries site 0)

abbrev pub is_of_key : Option (ℕ × Bool) → ℕ → Bool
is_of_key None key = false
is_of_key (Some entry) key = entry.0 == key

-- the number of a key; a number above 32 bits is of none
abbrev pub key_number : ℕ → ℕ
key_number key = min key (2 ^ 32 - 1)

-- the site is of the key
abbrev pub is_site : LabelWords → ℕ → ℕ → Bool
is_site words key site = is_of_key (entry_of words site) key

-- the first site of a key from this one on
abbrev pub site_from : LabelWords → ℕ → ℕ → Option ℕ
site_from words key from = first_from (is_site words key) from (16 - from)

-- what a patch is to store that takes a count to another one, or finds it at the end of its range
abbrev pub patch_to : ℕ → Option ℕ → Patch
patch_to old (Some count) =
    record { count = count; counts = not (count == old); turns = xor (is_on count) (is_on old); from = 0; at_edge = false }
patch_to old None = record { count = old; counts = false; turns = false; from = 0; at_edge = true }

abbrev pub patch_for : LabelWords → ℕ → ℕ → Patch
patch_for words key change = patch_to (count_at words key) (count_after (change_of change) (count_at words key))

abbrev pub patch_or : Option Patch → Patch → Patch
patch_or (Some patch) other = patch
patch_or None other = other

-- what is left of the patch of a stop; by the count as it is, where that is not known yet
abbrev pub patch_now : LabelWords → Stop → Patch
patch_now words stop = patch_or stop.patch (patch_for words (key_number stop.task.func) stop.task.arg)

-- a site takes the kind that its key's state and its branch give
abbrev pub site_store : ℕ → Bool → Option (ℕ × Bool) → Option (Place × ℕ)
site_store site on None = None
site_store site on (Some entry) = Some (Site site, kind_word (kind_of on entry.1))

abbrev pub site_front : LabelWords → Bool → Option ℕ → Option (Place × ℕ)
site_front words on None = None
site_front words on (Some site) = site_store site on (entry_of words site)

-- the next store of a patch: its key's count, then its sites, ascending
abbrev pub front_of : LabelWords → ℕ → Patch → Option (Place × ℕ)
front_of words key patch =
    if patch.counts then Some (Key (key_number key), patch.count)
    else (if patch.turns then site_front words (is_on patch.count) (site_from words key patch.from) else None)

-- why an event is none, where this store is the next
abbrev pub to_be_at : Place → ℕ → Reason
to_be_at (Key key) word = reason.KeyToBe key word
to_be_at (Site site) word = reason.SiteToBe site (not (word == 0))

abbrev pub to_be : Place × ℕ → Reason
to_be store = to_be_at store.0 store.1

-- what is left of a patch once that store is made
abbrev pub popped : Patch → Place → Patch
popped patch (Key key) = record patch { counts = false }
popped patch (Site site) = record patch { from = min (site + 1) (2 ^ 32 - 1) }

-- a store
abbrev pub stored : Place → ℕ → LabelWords → LabelWords
stored (Key key) word words = record words { keys = slice_set words.keys key word }
stored (Site site) word words = record words { sites = slice_set words.sites site word }

-- a key and a site read so
abbrev pub read_key : LabelWords → ℕ → Bool → Result (Unit {0}) Reason
read_key words key on = if xor (is_on (count_at words key)) on then Err (reason.KeyIs key (is_on (count_at words key))) else Ok tt

abbrev pub is_jump : ℕ → Bool
is_jump word = not (word == 0)

abbrev pub read_site : LabelWords → ℕ → Bool → Result (Unit {0}) Reason
read_site words site jumps = if xor (is_jump (site_at words site)) jumps then Err (reason.SiteIs site (is_jump (site_at words site))) else Ok tt

-- a count may go up where it is 1 or more and below the most, and down where it is 2 or more
abbrev pub may_nudge : Bool → ℕ → Bool
may_nudge true count = not (count == 0) && nat_lt count 65535
may_nudge false count = nat_le 2 count

abbrev pub nudged_count : Bool → ℕ → ℕ
nudged_count true count = count + 1
nudged_count false count = count - 1

-- a count is changed by one outside a patch
abbrev pub nudged : ℕ → Bool → LabelWords → Result LabelWords Reason
nudged key up words =
    if may_nudge up (count_at words key) then Ok (stored (Key key) (nudged_count up (count_at words key)) words)
    else Err (reason.CountIs key (count_at words key))
