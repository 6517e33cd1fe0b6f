-- The fields of an event, by their names.
use Rattle.std.specs.Prelude.{ℕ, nat_lt, ◌==◌, ◌&&◌, ◌||◌, if◌then◌else◌, List, [], ◌∷◌, Option, Some, None, Result, Ok, Err, codes}
use Rattle.std.specs.Str.{bytes_eq}
use Rattle.smp_words.specs.FirstFault.{◌>>=◌}
use Rattle.smp_script.specs.Lines.{parts_of}
use Rattle.trace_ftrace.specs.Numbers.{number_of}
use Rattle.trace_ftrace.specs.Options.{◌>>?◌, first_of}
use Rattle.trace_ftrace.specs.Words.{front_of, two_of}
use Rattle.trace_ftrace.specs.declared.wrong.Wrong.{Wrong}
use Rattle.trace_ftrace.specs.declared.wrong.Wrong.TheVariants as wrong

-- a text, or the other where there is none
abbrev pub or_text : List ℕ → Option (List ℕ) → List ℕ
or_text text None = text
or_text text (Some other) = other

-- a value without the comma behind it
abbrev pub without_comma : List ℕ → List ℕ
without_comma value = or_text value (front_of 44 value)

-- the value in a word, where that is the field of this name
abbrev pub value_if : List ℕ → Option (List ℕ × List ℕ) → Option (List ℕ)
value_if name None = None
value_if name (Some (found, value)) = if bytes_eq found name then Some (without_comma value) else None

unfoldable pub value_of : List ℕ → List ℕ → Option (List ℕ)
value_of name word = value_if name (two_of (parts_of 61 word))

-- the value of the first field of this name
abbrev pub field_of : List ℕ → List (List ℕ) → Option (List ℕ)
field_of name [] = None
field_of name (w ∷ ws) = first_of (value_of name w) (field_of name ws)

-- what is behind `0x`
abbrev pub past_prefix : List ℕ → List ℕ
past_prefix [] = []
past_prefix (a ∷ []) = a ∷ []
past_prefix (a ∷ b ∷ bs) = if a == 48 && b == 120 then bs else a ∷ b ∷ bs

-- an address, or another number in hexadecimal
unfoldable pub address_of : List ℕ → Option ℕ
address_of text = if bytes_eq text (codes "(nil)") || bytes_eq text (codes "(null)") then Some 0 else number_of 16 (past_prefix text)

-- the name of a function, without an offset behind it
abbrev pub symbol_in : Option (List ℕ × List ℕ) → List ℕ → List ℕ
symbol_in None text = text
symbol_in (Some (name, offset)) text = name

unfoldable pub symbol_of : List ℕ → List ℕ
symbol_of text = symbol_in (two_of (parts_of 43 text)) text

-- what has to be there
abbrev pub needed : {A : Type 0} → Option A → Result A Wrong
needed None = Err wrong.Field
needed (Some x) = Ok x

unfoldable pub needed_address : List ℕ → List (List ℕ) → Result ℕ Wrong
needed_address name fields = needed (field_of name fields >>? address_of)

-- a CPU that there can be
abbrev pub cpu_below : ℕ → Result ℕ Wrong
cpu_below cpu = if nat_lt cpu 512 then Ok cpu else Err wrong.Cpu

abbrev pub cpu_if : Option ℕ → Result ℕ Wrong
cpu_if None = Err wrong.Field
cpu_if (Some cpu) = cpu_below cpu

unfoldable pub needed_cpu : List ℕ → List (List ℕ) → Result ℕ Wrong
needed_cpu name fields = cpu_if (field_of name fields >>? number_of 10)

-- one that stops can have
abbrev pub low_cpu : ℕ → Result ℕ Wrong
low_cpu cpu = if nat_lt cpu 32 then Ok cpu else Err wrong.Cpu

unfoldable pub needed_low_cpu : List ℕ → List (List ℕ) → Result ℕ Wrong
needed_low_cpu name fields = needed_cpu name fields >>= low_cpu

-- the function of an event
unfoldable pub needed_symbol : List (List ℕ) → Result (List ℕ) Wrong
needed_symbol fields = needed (field_of (codes "func") fields >>? λ text. Some (symbol_of text))
