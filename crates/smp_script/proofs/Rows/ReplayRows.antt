-- The rows of a replay: what its lines ask for, by their shapes.
use Rattle.smp_script.proofs.Names.{◌≡◌, ℕ, ℤ, ◌≤◌, false, List, [], ◌∷◌, Result, codes, refl, arith, inl, inr, AllByRecursion, bytes_eq, cases_Bool, Cause}
use Rattle.smp_script.proofs.Names.{Class, Sync, Async, Post, Send, Done, Handle, Gate, Ungate, Begin, Enter, Advance, RunOne, Finish, Poll, Key, Site, Nudge}
use Rattle.smp_script.proofs.Names.{Kind, OneKind, Multi, Patch, Directive, Start, Step, Show, begins_of, command_of, posts_of, replay_line, show_of}
use Rattle.smp_script.proofs.Names.{start_begin, start_of, start_post, steps_of, answered, bare, begin, numbered, nudge, post, show, step, NR_CPUS, Replay}
use Rattle.smp_words.specs.declared.command.Command.{Command}
use Rattle.smp_script.proofs.Rows.Forms.{Known}
use Rattle.smp_script.proofs.Rows.Words.{AreWords, masked_twice, plain}
use Rattle.smp_script.proofs.Texts.Decimals.{value_of_decimal}
use Rattle.smp_script.proofs.Rows.Rows.{◌⨾◌, IsRow, Row, are_rows, by_text, cond_bind, cond_same, read_rows}
use Rattle.smp_script.proofs.Spelled.ReadParts.{same_word}

abbrev pub class_in : List ℕ → Class
class_in = by_text ((codes "sync", Sync) ∷ []) Async

abbrev pub kind_in : List ℕ → Kind
kind_in = by_text ((codes "one", OneKind) ∷ (codes "multi", Multi) ∷ []) Patch

abbrev pub number_command : List ℕ → ℕ → Command
number_command = by_text ((codes "send", Send) ∷ (codes "done", Done) ∷ (codes "enter", Enter) ∷ (codes "key", Key) ∷ []) Site

abbrev pub answer_command : List ℕ → ℤ → Command
answer_command = by_text ((codes "advance", Advance) ∷ []) RunOne

abbrev pub bare_command : List ℕ → Command
bare_command = by_text ((codes "handle", Handle) ∷ (codes "gate", Gate) ∷ (codes "ungate", Ungate) ∷ (codes "finish", Finish) ∷ []) Poll

-- the rows, where CPUs of masks have to be below the limit
abbrev pub replay_rows : ℕ → List (Row Directive)
replay_rows limit = record { forms = post; make = λ start cpu name k dst class func info tries. Start cpu (Post k dst (class_in class) func info tries) }
    ∷ record {
      forms = begin limit;
      make = λ start cpu name kind mask active func arg.
          Start cpu (Begin (record { kind = kind_in kind; mask = mask; active = active; func = func; arg = arg }));
    }
    ∷ record { forms = nudge; make = λ start cpu name key way. Start cpu (Nudge key (bytes_eq way (codes "up"))) }
    ∷ record { forms = numbered; make = λ start cpu name n. Start cpu (number_command name n) }
    ∷ record { forms = answered; make = λ start cpu name answer. Start cpu (answer_command name answer) }
    ∷ record { forms = bare; make = λ start cpu name. Start cpu (bare_command name) }
    ∷ record { forms = step; make = λ name cpu count. Step cpu count }
    ∷ record { forms = show; make = λ name. Show }
    ∷ []

-- a line is read by its row
abbrev ByRow : ℕ → List (List ℕ) → Result Directive Cause → Type 0
ByRow limit fields read = read ≡ read_rows (replay_rows limit) fields

post_same : (limit : ℕ) (cpu : List ℕ) (arguments : List (List ℕ)) → ByRow limit (codes "start" ∷ cpu ∷ codes "post" ∷ arguments) (posts_of cpu arguments)
unfolding start_post
post_same limit cpu (k ∷ dst ∷ class ∷ func ∷ info ∷ tries ∷ []) = simp cond_bind
post_same limit cpu _ = refl

begin_same : (limit : ℕ) (cpu : List ℕ) (arguments : List (List ℕ))
    → ByRow limit (codes "start" ∷ cpu ∷ codes "begin" ∷ arguments) (begins_of limit cpu arguments)
unfolding start_begin
begin_same limit cpu (kind ∷ mask ∷ active ∷ func ∷ arg ∷ []) = simp cond_bind
begin_same limit cpu _ = simp cond_same

short_same : (limit : ℕ) (cpu name : List ℕ) (arguments : List (List ℕ)) → bytes_eq name (codes "post") ≡ false → bytes_eq name (codes "begin") ≡ false
    → ByRow limit (codes "start" ∷ cpu ∷ name ∷ arguments) (command_of limit cpu name arguments)
short_same limit cpu name (a ∷ b ∷ []) no_post no_begin = simp (no_post, no_begin, cond_bind)
short_same limit cpu name _ no_post no_begin = simp (no_post, no_begin, cond_bind, cond_same)

start_same : (limit : ℕ) (rest : List (List ℕ)) → ByRow limit (codes "start" ∷ rest) (start_of limit rest)
start_same limit (cpu ∷ name ∷ arguments) = elim (cases_Bool (bytes_eq name (codes "post"))) [
  | inl is ↦ rw (same_word name (codes "post") is) (post_same limit cpu arguments)
  | inr no_post ↦ elim (cases_Bool (bytes_eq name (codes "begin"))) [
    | inl is ↦ rw (same_word name (codes "begin") is) (begin_same limit cpu arguments)
    | inr no_begin ↦ short_same limit cpu name arguments no_post no_begin
  ]
]
start_same limit _ = simp cond_same

steps_same : (limit : ℕ) (rest : List (List ℕ)) → ByRow limit (codes "step" ∷ rest) (steps_of rest)
steps_same limit (cpu ∷ count ∷ []) = refl
steps_same limit _ = simp cond_same

show_same : (limit : ℕ) (rest : List (List ℕ)) → ByRow limit (codes "show" ∷ rest) (show_of rest)
show_same limit [] = refl
show_same limit _ = simp cond_same

-- the fields of a line
pub replay_same : (limit : ℕ) (word : List ℕ) (rest : List (List ℕ)) → ByRow limit (word ∷ rest) (replay_line limit word rest)
replay_same limit word rest = elim (cases_Bool (bytes_eq word (codes "start"))) [
  | inl is ↦ rw (same_word word (codes "start") is) (start_same limit rest)
  | inr no_start ↦ elim (cases_Bool (bytes_eq word (codes "step"))) [
    | inl is ↦ rw (same_word word (codes "step") is) (steps_same limit rest)
    | inr no_step ↦ elim (cases_Bool (bytes_eq word (codes "show"))) [
      | inl is ↦ rw (same_word word (codes "show") is) (show_same limit rest)
      | inr no_show ↦ simp (no_start, no_step, no_show, cond_same)
    ]
  ]
]

-- what the rows make are such lines
pub replay_are : (limit mask : ℕ) → AllByRecursion (IsRow (AreWords Replay limit mask)) (replay_rows limit)
replay_are limit mask = are_rows (AreWords Replay limit mask) (replay_rows limit) (omega arith) (
    search (plain, arith)
    ⨾ (λ cpu a b. (λ text m read other o reads. search (masked_twice 4 5 text m other o, arith))
    ⨾ (λ text m read other o reads. search (masked_twice 4 5 text m other o, arith))
    ⨾ (λ text m read other o reads. search (masked_twice 4 5 text m other o, arith)) ⨾ tt)
    ⨾ search (plain, arith) ⨾ search (plain, arith) ⨾ search (plain, arith) ⨾ search (plain, arith) ⨾ search (plain, value_of_decimal, arith)
    ⨾ search (plain, arith) ⨾ tt)

pub replay_known : (limit : ℕ) → limit ≤ NR_CPUS → AllByRecursion (λ row. AllByRecursion Known row.forms) (replay_rows limit)
replay_known limit few = assumption
