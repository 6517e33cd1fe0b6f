-- Words and notes as they are printed.
use Rattle.std.specs.Prelude.{ℕ, ◌<◌, ◌^◌, Bool, true, false, List, ◌++◌, codes}
use Rattle.std.specs.Fmt.{decimal, signed_decimal}
use Rattle.smp_words.specs.declared.field.Field.{Field}
use Rattle.smp_words.specs.declared.field.Field.TheVariants as fields
use Rattle.smp_words.specs.declared.word.Word.{Word}
use Rattle.smp_words.specs.declared.word.Word.TheVariants as words
use Rattle.smp_words.specs.declared.seen.Note.{Note}
use Rattle.smp_words.specs.declared.seen.Note.TheVariants as notes
use Rattle.smp_script.specs.Spelling.{IsAnswer}

-- a name with one number, and with two
abbrev pub named : List ℕ → ℕ → List ℕ
named name i = name ++ decimal i

abbrev pub named_pair : List ℕ → ℕ → ℕ → List ℕ
named_pair name i j = name ++ decimal i ++ codes "." ++ decimal j

-- the name of a field
abbrev pub field_text : Field → List ℕ
field_text fields.Kind = codes "kind"
field_text fields.Mask = codes "mask"
field_text fields.Active = codes "active"
field_text fields.Func = codes "func"
field_text fields.Arg = codes "arg"
field_text fields.State = codes "state"
field_text fields.Ack = codes "ack"
field_text fields.Roll = codes "roll"
field_text fields.Todo = codes "todo"
field_text fields.Result = codes "result"
field_text fields.Done = codes "done"

-- the name of a word
abbrev pub word_text : Word → List ℕ
word_text (words.Head cpu) = named (codes "head.") cpu
word_text (words.Intr cpu) = named (codes "intr.") cpu
word_text (words.Hand cpu) = named (codes "hand.") cpu
word_text (words.Queued from to) = named_pair (codes "queued.") from to
word_text (words.Ran by from) = named_pair (codes "ran.") by from
word_text (words.Flags id) = named (codes "flags.") id
word_text (words.Func id) = named (codes "func.") id
word_text (words.Info id) = named (codes "info.") id
word_text (words.Next id) = named (codes "next.") id
word_text words.Gate = codes "gate"
word_text (words.Slot slot field) = codes "slot." ++ decimal slot ++ codes "." ++ field_text field
word_text (words.Key key) = named (codes "key.") key
word_text (words.Entry site) = named (codes "entry.") site
word_text (words.Site site) = named (codes "site.") site

-- what a site has
abbrev pub site_text : Bool → List ℕ
site_text true = codes "JMP"
site_text false = codes "NOP"

-- what a step says
abbrev pub note_text : Note → List ℕ
note_text notes.Busy = codes "E2"
note_text notes.NoCpu = codes "E1"
note_text notes.Owed = codes "owed"
note_text notes.Queued = codes "queued"
note_text notes.Contended = codes "E5"
note_text notes.Sent = codes "sent"
note_text notes.Done = codes "done"
note_text notes.Locked = codes "locked"
note_text notes.Idle = codes "idle"
note_text (notes.Call source func info) = codes "call " ++ decimal source ++ codes " " ++ decimal func ++ codes " " ++ decimal info
note_text (notes.Handled count) = codes "handled " ++ decimal count
note_text notes.Gate = codes "gate"
note_text notes.Taken = codes "taken"
note_text notes.Open = codes "open"
note_text notes.Begun = codes "begun"
note_text notes.Stale = codes "E7"
note_text notes.Entered = codes "entered"
note_text notes.Same = codes "same"
note_text (notes.Moved phase) = codes "moved " ++ decimal phase
note_text (notes.Run func arg) = codes "run " ++ decimal func ++ codes " " ++ decimal arg
note_text notes.Ran = codes "ran"
note_text notes.Left = codes "left"
note_text notes.Finished = codes "finished"
note_text notes.Pending = codes "pending"
note_text (notes.Result result) = codes "result " ++ signed_decimal result
note_text notes.On = codes "on"
note_text notes.Off = codes "off"
note_text notes.Nop = codes "NOP"
note_text notes.Jmp = codes "JMP"
note_text notes.KeyRange = codes "E13"
note_text notes.Stop = codes "stop"
note_text notes.Lost = codes "lost"

-- the numbers of a note fit their types
abbrev pub NoteFits : Note → Type 0
NoteFits (notes.Call source func info) = (source < 2 ^ 32) × (func < 2 ^ 16) × (info < 2 ^ 64)
NoteFits (notes.Handled count) = count < 2 ^ 32
NoteFits (notes.Moved phase) = phase < 2 ^ 32
NoteFits (notes.Run func arg) = (func < 2 ^ 16) × (arg < 2 ^ 64)
NoteFits (notes.Result result) = IsAnswer result
NoteFits _ = Unit {0}
