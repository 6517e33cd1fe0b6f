-- What a line asks for, and which spellings are read as which command of a replay. A wrong word is seen first, then the
-- fields are read from left to right.
use Rattle.std.specs.Prelude.{ℕ, ℤ, Bool, not, ◌==◌, if◌then◌else◌, List, [], ◌∷◌, length, codes, Result, Ok, Err}
use Rattle.std.specs.List.{list_all}
use Rattle.std.specs.Str.{bytes_eq}
use Rattle.smp_mask.specs.declared.error.Cause.{Cause}
use Rattle.smp_mask.specs.declared.error.Cause.TheVariants.{Word}
use Rattle.smp_words.specs.declared.command.Command.{Command}
use Rattle.smp_words.specs.declared.command.Command.TheVariants.{Post, Send, Done, Handle, Gate, Ungate, Begin, Enter, Advance, RunOne, Finish, Poll, Key, Site}
use Rattle.smp_words.specs.declared.command.Command.TheVariants.{Nudge}
use Rattle.smp_script.specs.declared.directive.Directive.{Directive}
use Rattle.smp_script.specs.declared.directive.Directive.TheVariants.{Start, Step, Show}
use Rattle.smp_script.specs.declared.mode.Mode.{Mode}
use Rattle.smp_script.specs.declared.mode.Mode.TheVariants.{Replay, Run}
use Rattle.smp_script.specs.declared.setting.Setting.{Setting}
use Rattle.smp_script.specs.Lines.{fields_of}
use Rattle.smp_script.specs.Requests.{do_of}
use Rattle.smp_script.specs.Numbers.{number_in, signed_of}
use Rattle.smp_words.specs.FirstFault.{◌>>=◌}
use Rattle.smp_script.specs.Fields.{word16, word32, word64, class_of, kind_of, mask_of, way_of}

-- `start CPU post K DST CLASS FUNC INFO TRIES`
unfoldable pub start_post : List ℕ → List ℕ → List ℕ → List ℕ → List ℕ → List ℕ → List ℕ → Result Directive Cause
start_post cpu k dst class func info tries = do
  as_class ← class_of class
  c ← word32 cpu
  number ← word32 k
  to ← word32 dst
  f ← word16 func
  i ← word64 info
  n ← word32 tries
  Ok (Start c (Post number to as_class f i n))

-- a post by its arguments
abbrev pub posts_of : List ℕ → List (List ℕ) → Result Directive Cause
posts_of cpu (k ∷ dst ∷ class ∷ func ∷ info ∷ tries ∷ []) = start_post cpu k dst class func info tries
posts_of cpu _ = Err Word

-- `start CPU begin KIND MASK ACTIVE FUNC ARG`, where the CPUs of the masks are below the limit
unfoldable pub start_begin : ℕ → List ℕ → List ℕ → List ℕ → List ℕ → List ℕ → List ℕ → Result Directive Cause
start_begin limit cpu kind mask active func arg = do
  as_kind ← kind_of kind
  c ← word32 cpu
  m ← mask_of limit mask
  a ← mask_of limit active
  f ← word16 func
  n ← word64 arg
  Ok (Start c (Begin (record { kind = as_kind; mask = m; active = a; func = f; arg = n })))

-- a begin by its arguments
abbrev pub begins_of : ℕ → List ℕ → List (List ℕ) → Result Directive Cause
begins_of limit cpu (kind ∷ mask ∷ active ∷ func ∷ arg ∷ []) = start_begin limit cpu kind mask active func arg
begins_of limit cpu _ = Err Word

-- a command with no arguments, by its name
abbrev pub bare_of : List ℕ → Result Command Cause
bare_of name =
    if bytes_eq name (codes "handle") then Ok Handle
    else (if bytes_eq name (codes "gate") then Ok Gate
    else (if bytes_eq name (codes "ungate") then Ok Ungate
    else (if bytes_eq name (codes "finish") then Ok Finish
    else (if bytes_eq name (codes "poll") then Ok Poll else Err Word))))

-- `start CPU NAME`
abbrev pub start_bare : List ℕ → List ℕ → Result Directive Cause
start_bare cpu name = do
  command ← bare_of name
  c ← word32 cpu
  Ok (Start c command)

abbrev pub two_numbers : List ℕ → List ℕ → Result (ℕ × ℕ) Cause
two_numbers first second = do
  a ← word32 first
  b ← word32 second
  Ok (a, b)

-- `start CPU NAME N`, with the command that the number makes
abbrev pub start_number : (ℕ → Command) → List ℕ → List ℕ → Result Directive Cause
start_number command cpu number = two_numbers cpu number >>= λ p. Ok (Start p.0 (command p.1))

-- `start CPU NAME RET`, with the command that the answer makes
abbrev pub start_answer : (ℤ → Command) → List ℕ → List ℕ → Result Directive Cause
start_answer command cpu answer = do
  c ← word32 cpu
  r ← signed_of answer
  Ok (Start c (command r))

-- a command with an answer
abbrev pub start_answered : List ℕ → List ℕ → List ℕ → Result Directive Cause
start_answered cpu name answer =
    if bytes_eq name (codes "advance") then start_answer Advance cpu answer
    else (if bytes_eq name (codes "runone") then start_answer RunOne cpu answer else Err Word)

-- a command with one argument
abbrev pub start_one : List ℕ → List ℕ → List ℕ → Result Directive Cause
start_one cpu name argument =
    if bytes_eq name (codes "send") then start_number Send cpu argument
    else (if bytes_eq name (codes "done") then start_number Done cpu argument
    else (if bytes_eq name (codes "enter") then start_number Enter cpu argument
    else (if bytes_eq name (codes "key") then start_number Key cpu argument
    else (if bytes_eq name (codes "site") then start_number Site cpu argument
    else start_answered cpu name argument))))

-- `start CPU nudge K WAY`
abbrev pub start_nudge : List ℕ → List ℕ → List ℕ → Result Directive Cause
start_nudge cpu key way = do
  up ← way_of way
  p ← two_numbers cpu key
  Ok (Start p.0 (Nudge p.1 up))

-- a command with two arguments
abbrev pub start_two : List ℕ → List ℕ → List ℕ → List ℕ → Result Directive Cause
start_two cpu name first second = if bytes_eq name (codes "nudge") then start_nudge cpu first second else Err Word

-- a command with two arguments at most
abbrev pub start_short : List ℕ → List ℕ → List (List ℕ) → Result Directive Cause
start_short cpu name [] = start_bare cpu name
start_short cpu name (argument ∷ []) = start_one cpu name argument
start_short cpu name (first ∷ second ∷ []) = start_two cpu name first second
start_short cpu name _ = Err Word

-- a command by its name and its arguments
abbrev pub command_of : ℕ → List ℕ → List ℕ → List (List ℕ) → Result Directive Cause
command_of limit cpu name arguments =
    if bytes_eq name (codes "post") then posts_of cpu arguments
    else (if bytes_eq name (codes "begin") then begins_of limit cpu arguments else start_short cpu name arguments)

-- what comes after `start`
abbrev pub start_of : ℕ → List (List ℕ) → Result Directive Cause
start_of limit (cpu ∷ name ∷ arguments) = command_of limit cpu name arguments
start_of limit _ = Err Word

-- `step CPU N`
abbrev pub step_of : List ℕ → List ℕ → Result Directive Cause
step_of cpu count = do
  c ← word32 cpu
  n ← number_in 1 10000 count
  Ok (Step c n)

-- what comes after `step`
abbrev pub steps_of : List (List ℕ) → Result Directive Cause
steps_of (cpu ∷ count ∷ []) = step_of cpu count
steps_of _ = Err Word

-- nothing comes after `show`
abbrev pub show_of : List (List ℕ) → Result Directive Cause
show_of [] = Ok Show
show_of _ = Err Word

-- `start ..`, `step ..` or `show`
abbrev pub replay_line : ℕ → List ℕ → List (List ℕ) → Result Directive Cause
replay_line limit word rest =
    if bytes_eq word (codes "start") then start_of limit rest
    else (if bytes_eq word (codes "step") then steps_of rest else (if bytes_eq word (codes "show") then show_of rest else Err Word))

-- `do ..`
abbrev pub run_line : ℕ → ℕ → List ℕ → List (List ℕ) → Result Directive Cause
run_line limit online word rest = if bytes_eq word (codes "do") then do_of limit online rest else Err Word

-- a line of that kind of script
abbrev pub mode_line : Mode → ℕ → ℕ → List ℕ → List (List ℕ) → Result Directive Cause
mode_line Replay limit online word rest = replay_line limit word rest
mode_line Run limit online word rest = run_line limit online word rest

-- a line, by its first word and what follows
abbrev pub directive_of : Setting → List (List ℕ) → Result Directive Cause
directive_of s [] = Err Word
directive_of s (word ∷ rest) = mode_line s.mode s.limit s.online word rest

-- no field is empty
abbrev pub are_whole : List (List ℕ) → Bool
are_whole fields = list_all (λ f. not (length f == 0)) fields

-- the same where no field is empty
abbrev pub whole_directive : Setting → List (List ℕ) → Result Directive Cause
whole_directive s fields = if are_whole fields then directive_of s fields else Err Word

-- what a line asks for
unfoldable pub line_directive : Setting → List ℕ → Result Directive Cause
line_directive s text = whole_directive s (fields_of text)
