-- The shapes that a line may have, field by field. Its words and the number of its fields tell which one it has.
use Rattle.std.specs.Prelude.{ℕ, ◌-◌, ◌^◌, Bool, true, false, not, ◌&&◌, ◌||◌, ◌==◌, if◌then◌else◌, List, [], ◌∷◌, map, length, find, Option, codes}
use Rattle.std.specs.Str.{bytes_eq}
use Rattle.std.specs.List.{list_all}
use Rattle.smp_labels.specs.declared.words.TheConstants.{MOST_KEYS}
use Rattle.smp_script.specs.declared.mode.Mode.{Mode}
use Rattle.smp_script.specs.declared.mode.Mode.TheVariants.{Replay, Run}
use Rattle.smp_script.specs.declared.setting.Setting.{Setting}
use Rattle.smp_script.specs.Labels.{is_item, items_of}
use Rattle.smp_script.specs.Modes.{mode_text}
use Rattle.smp_script.specs.Versions.{version_text}
use Rattle.smp_script.specs.declared.version.Version.TheVariants.{One, Two}

-- what a field has to be: that word, one of these words, a number from one to another, a number of 32 bits that may have a
-- minus sign, a list of CPUs below a limit or `-`, the same or `none`, the mask of the CPUs online, below a limit too, the
-- number of one of these CPUs, or the items of the labels
pub data Form : Type 0 where
  word : List ℕ → Form
  words : List (List ℕ) → Form
  number : ℕ → ℕ → Form
  signed : Form
  cpu_list : ℕ → Form
  active : ℕ → Form
  online : ℕ → Form
  member : ℕ → Form
  items : Form

-- a number of this number of bits
abbrev pub bits : ℕ → Form
bits n = number 0 (2 ^ n - 1)

-- `1` or `2`
abbrev pub versions : Form
versions = words (version_text One ∷ version_text Two ∷ [])

-- `smp`, the version, and the kind of script
abbrev pub title : Mode → List Form
title mode = word (codes "smp") ∷ versions ∷ word (mode_text mode) ∷ []

-- `cpus NR MASK`
abbrev pub cpus : ℕ → List Form
cpus limit = word (codes "cpus") ∷ number 1 limit ∷ online limit ∷ []

-- `labels KEYS ITEMS`
abbrev pub labels : List Form
labels = word (codes "labels") ∷ number 0 MOST_KEYS ∷ items ∷ []

-- `sync` or `async`
abbrev pub class : Form
class = words (codes "sync" ∷ codes "async" ∷ [])

-- `one`, `multi` or `patch`
abbrev pub kind : Form
kind = words (codes "one" ∷ codes "multi" ∷ codes "patch" ∷ [])

-- `start CPU post K DST CLASS FUNC INFO TRIES`
abbrev pub post : List Form
post = word (codes "start") ∷ bits 32 ∷ word (codes "post") ∷ bits 32 ∷ bits 32 ∷ class ∷ bits 16 ∷ bits 64 ∷ bits 32 ∷ []

-- `start CPU begin KIND MASK ACTIVE FUNC ARG`
abbrev pub begin : ℕ → List Form
begin limit = word (codes "start") ∷ bits 32 ∷ word (codes "begin") ∷ kind ∷ cpu_list limit ∷ cpu_list limit ∷ bits 16 ∷ bits 64 ∷ []

-- `up` or `down`
abbrev pub way : Form
way = words (codes "up" ∷ codes "down" ∷ [])

-- `start CPU nudge K WAY`
abbrev pub nudge : List Form
nudge = word (codes "start") ∷ bits 32 ∷ word (codes "nudge") ∷ bits 32 ∷ way ∷ []

-- the commands with a number
abbrev pub with_number : List (List ℕ)
with_number = codes "send" ∷ codes "done" ∷ codes "enter" ∷ codes "key" ∷ codes "site" ∷ []

-- `start CPU NAME N`
abbrev pub numbered : List Form
numbered = word (codes "start") ∷ bits 32 ∷ words with_number ∷ bits 32 ∷ []

-- the commands with an answer
abbrev pub with_answer : List (List ℕ)
with_answer = codes "advance" ∷ codes "runone" ∷ []

-- `start CPU NAME RET`
abbrev pub answered : List Form
answered = word (codes "start") ∷ bits 32 ∷ words with_answer ∷ signed ∷ []

-- the commands with no argument
abbrev pub with_none : List (List ℕ)
with_none = codes "handle" ∷ codes "gate" ∷ codes "ungate" ∷ codes "finish" ∷ codes "poll" ∷ []

-- `start CPU NAME`
abbrev pub bare : List Form
bare = word (codes "start") ∷ bits 32 ∷ words with_none ∷ []

-- `step CPU N`
abbrev pub step : List Form
step = word (codes "step") ∷ bits 32 ∷ number 1 10000 ∷ []

-- `show`
abbrev pub show : List Form
show = word (codes "show") ∷ []

-- what a line of a replay may ask for, where CPUs have to be below the limit
abbrev pub replay_requests : ℕ → List (List Form)
replay_requests limit = post ∷ begin limit ∷ nudge ∷ numbered ∷ answered ∷ bare ∷ step ∷ show ∷ []

-- `wait` or `nowait`
abbrev pub wait : Form
wait = words (codes "wait" ∷ codes "nowait" ∷ [])

-- `all`, `even` or `odd`
abbrev pub which : Form
which = words (codes "all" ∷ codes "even" ∷ codes "odd" ∷ [])

-- `on` or `off`
abbrev pub switch : Form
switch = words (codes "on" ∷ codes "off" ∷ [])

-- FUNC INFO, and FUNC ARG
abbrev pub func_info : List Form
func_info = bits 16 ∷ bits 64 ∷ []

abbrev pub func_arg : List Form
func_arg = bits 16 ∷ number 0 2147483647 ∷ []

-- the operations: each name, and what comes behind it, where CPUs have to be below the limit
abbrev pub operations : ℕ → List (List ℕ × List Form)
operations limit =
    (codes "sync", bits 32 ∷ func_info)
    ∷ (codes "async", bits 32 ∷ func_info)
    ∷ (codes "user", number 0 1 ∷ bits 32 ∷ func_info)
    ∷ (codes "any", wait ∷ cpu_list limit ∷ func_info)
    ∷ (codes "many", wait ∷ cpu_list limit ∷ func_info)
    ∷ (codes "cond", which ∷ wait ∷ cpu_list limit ∷ func_info)
    ∷ (codes "one", bits 32 ∷ func_arg)
    ∷ (codes "two", bits 32 ∷ bits 32 ∷ func_arg)
    ∷ (codes "machine", active limit ∷ func_arg)
    ∷ (codes "set", bits 32 ∷ switch ∷ [])
    ∷ (codes "inc", bits 32 ∷ [])
    ∷ (codes "dec", bits 32 ∷ [])
    ∷ []

-- `do CPU N NAME` and what comes behind it, where the CPU has to be one of those online
abbrev pub operation : ℕ → List ℕ × List Form → List Form
operation cpus op = word (codes "do") ∷ member cpus ∷ number 1 10000 ∷ word op.0 ∷ op.1

-- what a line may ask for
abbrev pub mode_requests : Mode → ℕ → ℕ → List (List Form)
mode_requests Replay limit cpus = replay_requests limit
mode_requests Run limit cpus = map (operation cpus) (operations limit)

abbrev pub requests : Setting → List (List Form)
requests s = mode_requests s.mode s.limit s.online

-- the shapes of line n
abbrev pub shapes_of : Setting → ℕ → List (List Form)
shapes_of s n =
    if n == 1 then title s.mode ∷ []
    else (if n == 2 then cpus s.limit ∷ [] else (if n == 3 then labels ∷ requests s else requests s))

-- the field is one of these words
abbrev pub is_one_of : List (List ℕ) → List ℕ → Bool
is_one_of [] field = false
is_one_of (w ∷ ws) field = bytes_eq field w || is_one_of ws field

-- the words of the field are right: it is the word or one of those that it has to be, or each of the items; else it is not
-- empty
abbrev pub has_word : Form → List ℕ → Bool
has_word (word w) field = bytes_eq field w
has_word (words ws) field = is_one_of ws field
has_word items field = list_all is_item (items_of field)
has_word _ field = not (length field == 0)

-- as many fields as the shape has, and the words right
abbrev pub has_shape : List (List ℕ) → List Form → Bool
has_shape [] [] = true
has_shape (field ∷ fields) (form ∷ forms) = has_shape fields forms && has_word form field
has_shape _ _ = false

-- the shape of line n with these fields
abbrev pub shape_of : Setting → ℕ → List (List ℕ) → Option (List Form)
shape_of s n fields = find (has_shape fields) (shapes_of s n)
