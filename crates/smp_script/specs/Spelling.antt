-- The lawful scripts by how they are written: a script has one text, but for those of its masks.
use Rattle.std.specs.Prelude.{◌≡◌, ℕ, ℤ, pos, negsuc, ◌+◌, ◌<◌, ◌≤◌, ◌^◌, Bool, true, not, ◌&&◌, ◌==◌, if◌then◌else◌, List, [], ◌∷◌, ◌++◌, length, map, sum_by}
use Rattle.std.specs.Prelude.{Option, Some, None, codes, Ok}
use Rattle.std.specs.Fmt.{decimal, signed_decimal}
use Rattle.std.specs.List.{AllByRecursion, join_with_byte, list_all}
use Rattle.smp_mask.specs.ListText.{list_text}
use Rattle.smp_mask.specs.Mask.{has}
use Rattle.smp_words.specs.declared.call.Class.{Class}
use Rattle.smp_words.specs.declared.call.Class.TheVariants.{Sync, Async}
use Rattle.smp_words.specs.declared.command.Command.{Command}
use Rattle.smp_words.specs.declared.command.Command.TheVariants.{Post, Send, Done, Handle, Gate, Ungate, Begin, Enter, Advance, RunOne, Finish, Poll, Key, Site}
use Rattle.smp_words.specs.declared.command.Command.TheVariants.{Nudge}
use Rattle.smp_words.specs.declared.work.Kind.{Kind}
use Rattle.smp_words.specs.declared.work.Kind.TheVariants.{One, Multi, Patch}
use Rattle.smp_labels.specs.Labels.{AreLabels, Labels}
use Rattle.smp_labels.specs.declared.entries.Entry.{Entry}
use Rattle.smp_script.specs.declared.directive.Directive.{Directive}
use Rattle.smp_script.specs.declared.directive.Directive.TheVariants.{Start, Step, Show, Do}
use Rattle.smp_script.specs.declared.mode.Mode.{Mode}
use Rattle.smp_script.specs.declared.mode.Mode.TheVariants.{Replay, Run}
use Rattle.smp_script.specs.declared.request.Request.{Request}
use Rattle.smp_script.specs.declared.request.Request.TheVariants as request
use Rattle.smp_script.specs.declared.request.Which.{Which}
use Rattle.smp_script.specs.declared.request.Which.TheVariants.{All, Even, Odd}
use Rattle.smp_script.specs.Keys.{AreApart}
use Rattle.smp_script.specs.Modes.{mode_text}
use Rattle.smp_script.specs.Versions.{limit_of, version_text}
use Rattle.smp_script.specs.Fields.{mask_of}
use Rattle.smp_script.specs.Script.{Script, are_online, events_of, first_line}

abbrev pub class_text : Class → List ℕ
class_text Sync = codes "sync"
class_text Async = codes "async"

abbrev pub kind_text : Kind → List ℕ
kind_text One = codes "one"
kind_text Multi = codes "multi"
kind_text Patch = codes "patch"

abbrev pub way_text : Bool → List ℕ
way_text up = if up then codes "up" else codes "down"

-- a mask, as Display prints it, but `-` where it is empty
abbrev pub mask_text : ℕ → List ℕ
mask_text mask = if mask == 0 then codes "-" else list_text mask

-- the texts of the masks of a command that has two
pub record Masks : Type 0 where
  pub mask : List ℕ
  pub active : List ℕ

-- the canonical ones
abbrev pub masks_of : Command → Masks
masks_of (Begin work) = record { mask = mask_text work.mask; active = mask_text work.active }
masks_of _ = record { mask = []; active = [] }

-- a command's name and its arguments, with these texts for its masks
abbrev pub command_words : Masks → Command → List (List ℕ)
command_words masks (Post number dst class func info tries) =
    codes "post" ∷ decimal number ∷ decimal dst ∷ class_text class ∷ decimal func ∷ decimal info ∷ decimal tries ∷ []
command_words masks (Send dst) = codes "send" ∷ decimal dst ∷ []
command_words masks (Done number) = codes "done" ∷ decimal number ∷ []
command_words masks Handle = codes "handle" ∷ []
command_words masks Gate = codes "gate" ∷ []
command_words masks Ungate = codes "ungate" ∷ []
command_words masks (Begin work) =
    codes "begin" ∷ kind_text work.kind ∷ masks.mask ∷ masks.active ∷ decimal work.func ∷ decimal work.arg ∷ []
command_words masks (Enter slot) = codes "enter" ∷ decimal slot ∷ []
command_words masks (Advance answer) = codes "advance" ∷ signed_decimal answer ∷ []
command_words masks (RunOne answer) = codes "runone" ∷ signed_decimal answer ∷ []
command_words masks Finish = codes "finish" ∷ []
command_words masks Poll = codes "poll" ∷ []
command_words masks (Key key) = codes "key" ∷ decimal key ∷ []
command_words masks (Site site) = codes "site" ∷ decimal site ∷ []
command_words masks (Nudge key up) = codes "nudge" ∷ decimal key ∷ way_text up ∷ []

abbrev pub wait_text : Bool → List ℕ
wait_text wait = if wait then codes "wait" else codes "nowait"

abbrev pub which_text : Which → List ℕ
which_text All = codes "all"
which_text Even = codes "even"
which_text Odd = codes "odd"

abbrev pub switch_text : Bool → List ℕ
switch_text on = if on then codes "on" else codes "off"

-- the mask of a stop's active CPUs has this text, and no mask another
abbrev pub active_text : List ℕ → Option ℕ → List ℕ
active_text text None = codes "none"
active_text text (Some mask) = text

-- an operation's name and what comes behind it, with these texts for its masks
abbrev pub request_words : Masks → Request → List (List ℕ)
request_words masks (request.Single wait dst func info) =
    (if wait then codes "sync" else codes "async") ∷ decimal dst ∷ decimal func ∷ decimal info ∷ []
request_words masks (request.User user dst func info) = codes "user" ∷ decimal user ∷ decimal dst ∷ decimal func ∷ decimal info ∷ []
request_words masks (request.Any wait mask func info) = codes "any" ∷ wait_text wait ∷ masks.mask ∷ decimal func ∷ decimal info ∷ []
request_words masks (request.Many wait mask func info) = codes "many" ∷ wait_text wait ∷ masks.mask ∷ decimal func ∷ decimal info ∷ []
request_words masks (request.Cond which wait mask func info) =
    codes "cond" ∷ which_text which ∷ wait_text wait ∷ masks.mask ∷ decimal func ∷ decimal info ∷ []
request_words masks (request.One dst func arg) = codes "one" ∷ decimal dst ∷ decimal func ∷ decimal arg ∷ []
request_words masks (request.Two a b func arg) = codes "two" ∷ decimal a ∷ decimal b ∷ decimal func ∷ decimal arg ∷ []
request_words masks (request.Machine active func arg) =
    codes "machine" ∷ active_text masks.active active ∷ decimal func ∷ decimal arg ∷ []
request_words masks (request.Set key on) = codes "set" ∷ decimal key ∷ switch_text on ∷ []
request_words masks (request.Inc key) = codes "inc" ∷ decimal key ∷ []
request_words masks (request.Dec key) = codes "dec" ∷ decimal key ∷ []

-- the words of a line
abbrev pub directive_words : Masks → Directive → List (List ℕ)
directive_words masks (Start cpu command) = codes "start" ∷ decimal cpu ∷ command_words masks command
directive_words masks (Step cpu count) = codes "step" ∷ decimal cpu ∷ decimal count ∷ []
directive_words masks Show = codes "show" ∷ []
directive_words masks (Do cpu count request) = codes "do" ∷ decimal cpu ∷ decimal count ∷ request_words masks request

-- the canonical texts of a request's masks
abbrev pub requested_masks : Request → Masks
requested_masks (request.Any wait mask func info) = record { mask = mask_text mask; active = [] }
requested_masks (request.Many wait mask func info) = record { mask = mask_text mask; active = [] }
requested_masks (request.Cond which wait mask func info) = record { mask = mask_text mask; active = [] }
requested_masks (request.Machine (Some mask) func arg) = record { mask = []; active = mask_text mask }
requested_masks _ = record { mask = []; active = [] }

-- and of a line's
abbrev pub line_masks : Directive → Masks
line_masks (Start cpu command) = masks_of command
line_masks (Do cpu count request) = requested_masks request
line_masks _ = record { mask = []; active = [] }

-- words with a space between each two, and a line feed; then the rest
unfoldable pub line_before : List (List ℕ) → List ℕ → List ℕ
line_before words rest = join_with_byte 32 words ++ 10 ∷ rest

-- the lines that ask for something, each with these texts for its masks
unfoldable pub spelled_lines : List (Masks × Directive) → List ℕ
spelled_lines [] = []
spelled_lines (l ∷ ls) = line_before (directive_words l.0 l.1) (spelled_lines ls)

-- an item of the labels
abbrev pub item_text : Entry → List ℕ
item_text entry = decimal entry.key ++ 58 ∷ (if entry.branch then codes "1" else codes "0")

-- all of them, with a comma between each two
abbrev pub items_text : List Entry → List ℕ
items_text [] = codes "-"
items_text (e ∷ es) = join_with_byte 44 (map item_text (e ∷ es))

-- the labels line, where there is one, and the rest
abbrev pub labels_before : Option Labels → List ℕ → List ℕ
labels_before None rest = rest
labels_before (Some labels) rest = line_before (codes "labels" ∷ decimal labels.keys ∷ items_text labels.entries ∷ []) rest

-- a script of that kind, with this text for its mask, and these lines
abbrev pub spelled : Mode → List ℕ → List (Masks × Directive) → Script → List ℕ
spelled mode mask lines script =
    line_before (codes "smp" ∷ version_text script.version ∷ mode_text mode ∷ [])
    (line_before (codes "cpus" ∷ decimal script.nr ∷ mask ∷ []) (labels_before script.labels (spelled_lines lines)))

-- a number of 32 bits with a sign
abbrev pub IsAnswer : ℤ → Type 0
IsAnswer (pos n) = n < 2 ^ 31
IsAnswer (negsuc n) = n < 2 ^ 31

-- the numbers of a command fit their fields
abbrev pub CommandFits : Command → Type 0
CommandFits (Post number dst class func info tries) = (number < 2 ^ 32) × (dst < 2 ^ 32) × (func < 2 ^ 16) × (info < 2 ^ 64) × (tries < 2 ^ 32)
CommandFits (Send dst) = dst < 2 ^ 32
CommandFits (Done number) = number < 2 ^ 32
CommandFits (Begin work) = (work.func < 2 ^ 16) × (work.arg < 2 ^ 64)
CommandFits (Enter slot) = slot < 2 ^ 32
CommandFits (Advance answer) = IsAnswer answer
CommandFits (RunOne answer) = IsAnswer answer
CommandFits (Key key) = key < 2 ^ 32
CommandFits (Site site) = site < 2 ^ 32
CommandFits (Nudge key up) = key < 2 ^ 32
CommandFits _ = Unit {0}

-- the numbers of a request fit their fields
abbrev pub RequestFits : Request → Type 0
RequestFits (request.Single wait dst func info) = (dst < 2 ^ 32) × (func < 2 ^ 16) × (info < 2 ^ 64)
RequestFits (request.User user dst func info) = (user ≤ 1) × (dst < 2 ^ 32) × (func < 2 ^ 16) × (info < 2 ^ 64)
RequestFits (request.Any wait mask func info) = (func < 2 ^ 16) × (info < 2 ^ 64)
RequestFits (request.Many wait mask func info) = (func < 2 ^ 16) × (info < 2 ^ 64)
RequestFits (request.Cond which wait mask func info) = (func < 2 ^ 16) × (info < 2 ^ 64)
RequestFits (request.One dst func arg) = (dst < 2 ^ 32) × (func < 2 ^ 16) × (arg < 2 ^ 31)
RequestFits (request.Two a b func arg) = (a < 2 ^ 32) × (b < 2 ^ 32) × (func < 2 ^ 16) × (arg < 2 ^ 31)
RequestFits (request.Machine active func arg) = (func < 2 ^ 16) × (arg < 2 ^ 31)
RequestFits (request.Set key on) = key < 2 ^ 32
RequestFits (request.Inc key) = key < 2 ^ 32
RequestFits (request.Dec key) = key < 2 ^ 32

-- a line is of that kind of script, and its numbers fit; a request's CPU is one of those online
abbrev pub DirectiveFits : Mode → ℕ → Directive → Type 0
DirectiveFits Replay online (Start cpu command) = (cpu < 2 ^ 32) × CommandFits command
DirectiveFits Replay online (Step cpu count) = (cpu < 2 ^ 32) × (1 ≤ count) × (count ≤ 10000)
DirectiveFits Replay online Show = Unit {0}
DirectiveFits Run online (Do cpu count request) = (cpu < 2 ^ 32) × (has online cpu ≡ true) × (1 ≤ count) × (count ≤ 10000) × RequestFits request
DirectiveFits _ online _ = ⊥

-- the labels, where there are some, fit a table
abbrev pub LabelsFit : Option Labels → Type 0
LabelsFit None = Unit {0}
LabelsFit (Some labels) = AreLabels labels.keys labels.entries

-- no byte of the text is c
abbrev pub lacks : ℕ → List ℕ → Bool
lacks c text = list_all (λ b. not (b == c)) text

-- a text that may be a field: not empty, with no space and no line feed
abbrev pub is_field : List ℕ → Bool
is_field text = not (length text == 0) && (lacks 32 text && lacks 10 text)

-- this is a text of that mask, as a field, with CPUs below the limit
pub record IsMaskText (limit : ℕ) (text : List ℕ) (mask : ℕ) : Type 0 where
  pub field : is_field text ≡ true
  pub reads : mask_of limit text ≡ Ok mask

-- these are texts of a command's masks, where it has some
abbrev pub SpellMasks : ℕ → Masks → Command → Type 0
SpellMasks limit masks (Begin work) = IsMaskText limit masks.mask work.mask × IsMaskText limit masks.active work.active
SpellMasks limit masks _ = Unit {0}

-- these are texts of a request's masks, where it has some
abbrev pub SpellRequest : ℕ → Masks → Request → Type 0
SpellRequest limit masks (request.Any wait mask func info) = IsMaskText limit masks.mask mask
SpellRequest limit masks (request.Many wait mask func info) = IsMaskText limit masks.mask mask
SpellRequest limit masks (request.Cond which wait mask func info) = IsMaskText limit masks.mask mask
SpellRequest limit masks (request.Machine (Some mask) func arg) = IsMaskText limit masks.active mask
SpellRequest limit masks _ = Unit {0}

-- and of a line's
abbrev pub SpellLine : ℕ → Masks × Directive → Type 0
SpellLine limit (masks, Start cpu command) = SpellMasks limit masks command
SpellLine limit (masks, Do cpu count request) = SpellRequest limit masks request
SpellLine limit _ = Unit {0}

-- the text is that of the script of that kind, which is within the limits of its version, with this text for its mask, and these
-- lines
pub record IsSpelling (mode : Mode) (mask : List ℕ) (lines : List (Masks × Directive)) (script : Script) (text : List ℕ) : Type 0 where
  pub text_is : text ≡ spelled mode mask lines script
  pub mask_is : IsMaskText (limit_of script.version) mask script.online
  pub lines_are : map (λ l. l.1) lines ≡ script.directives
  pub masks_are : AllByRecursion (SpellLine (limit_of script.version)) lines
  pub some : 1 ≤ script.nr
  pub within : script.nr ≤ limit_of script.version
  pub online : are_online script.nr script.online ≡ true
  pub labels : LabelsFit script.labels
  pub fit : AllByRecursion (DirectiveFits mode script.online) script.directives
  pub keys : AreApart script.directives
  pub bytes : length text ≤ 65536
  pub count : first_line script.labels + length script.directives ≤ 2001
  pub events : sum_by events_of script.directives ≤ 100000

-- the lines as Display prints their masks
abbrev pub canonical_lines : List Directive → List (Masks × Directive)
canonical_lines directives = map (λ d. (line_masks d, d)) directives

-- the canonical text of a script of that kind: its masks as Display prints them
abbrev pub canonical_text : Mode → Script → List ℕ
canonical_text mode script = spelled mode (list_text script.online) (canonical_lines script.directives) script

-- the masks of a command are sets of CPUs below the limit
abbrev pub HasSets : ℕ → Command → Type 0
HasSets limit (Begin work) = (work.mask < 2 ^ limit) × (work.active < 2 ^ limit)
HasSets limit _ = Unit {0}

-- so are those of a request
abbrev pub RequestHasSets : ℕ → Request → Type 0
RequestHasSets limit (request.Any wait mask func info) = mask < 2 ^ limit
RequestHasSets limit (request.Many wait mask func info) = mask < 2 ^ limit
RequestHasSets limit (request.Cond which wait mask func info) = mask < 2 ^ limit
RequestHasSets limit (request.Machine (Some mask) func arg) = mask < 2 ^ limit
RequestHasSets limit _ = Unit {0}

-- and those of a line
abbrev pub LineHasSets : ℕ → Directive → Type 0
LineHasSets limit (Start cpu command) = HasSets limit command
LineHasSets limit (Do cpu count request) = RequestHasSets limit request
LineHasSets limit _ = Unit {0}

-- a script of that kind within the limits of its version
pub record IsLawful (mode : Mode) (script : Script) : Type 0 where
  pub some : 1 ≤ script.nr
  pub within : script.nr ≤ limit_of script.version
  pub is_set : script.online < 2 ^ limit_of script.version
  pub online : are_online script.nr script.online ≡ true
  pub labels : LabelsFit script.labels
  pub fit : AllByRecursion (DirectiveFits mode script.online) script.directives
  pub keys : AreApart script.directives
  pub are_sets : AllByRecursion (LineHasSets (limit_of script.version)) script.directives
  pub bytes : length (canonical_text mode script) ≤ 65536
  pub count : first_line script.labels + length script.directives ≤ 2001
  pub events : sum_by events_of script.directives ≤ 100000
