-- Functions of a number or of a word, with one value put in another's place.
use Rattle.std.specs.Prelude.{ℕ, Bool, true, false, ◌==◌, ◌&&◌, cond}
use Rattle.smp_words.specs.declared.word.Word.{Word}
use Rattle.smp_words.specs.declared.field.Field.{Field}
use Rattle.smp_words.specs.declared.field.Field.TheVariants as field
use Rattle.smp_words.specs.declared.word.Word.TheVariants.{Head, Intr, Hand, Queued, Ran, Flags, Func, Info, Next, Gate, Slot, Key, Entry, Site}

-- f with v at i
abbrev pub put : {A : Type 0} → (ℕ → A) → ℕ → A → ℕ → A
put f i v j = cond (j == i) v (f j)

-- the place of a field in its slot
abbrev pub place_of : Field → ℕ
place_of field.Kind = 0
place_of field.Mask = 1
place_of field.Active = 2
place_of field.Func = 3
place_of field.Arg = 4
place_of field.State = 5
place_of field.Ack = 6
place_of field.Roll = 7
place_of field.Todo = 8
place_of field.Result = 9
place_of field.Done = 10

-- whether two fields are one and the rest holds; of two fields it computes to false
abbrev pub same_field : Field → Field → Bool → Bool
same_field f g rest = cond (place_of f == place_of g) rest false

-- whether two names are one; of two kinds it computes to false
abbrev pub same_word : Word → Word → Bool
same_word (Head a) (Head b) = a == b
same_word (Intr a) (Intr b) = a == b
same_word (Hand a) (Hand b) = a == b
same_word (Queued a x) (Queued b y) = a == b && x == y
same_word (Ran a x) (Ran b y) = a == b && x == y
same_word (Flags a) (Flags b) = a == b
same_word (Func a) (Func b) = a == b
same_word (Info a) (Info b) = a == b
same_word (Next a) (Next b) = a == b
same_word Gate Gate = true
same_word (Slot s f) (Slot t g) = same_field f g (s == t)
same_word (Key a) (Key b) = a == b
same_word (Entry a) (Entry b) = a == b
same_word (Site a) (Site b) = a == b
same_word _ _ = false

-- the words by name, with n in one of them
abbrev pub put_word : (Word → ℕ) → Word → ℕ → Word → ℕ
put_word at w n u = cond (same_word u w) n (at u)
