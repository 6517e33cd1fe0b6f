-- What a reader gave, what a writer took of a text, and what an error says of its device.
use Rattle.std.specs.Prelude.{◌≡◌, ℕ, ◌+◌, ◌<◌, ◌≤◌, ◌⊎◌, Bool, true, List, length, take, Option}
use Rattle.std.specs.Io.KnownBytes.{Appends, Consumes, IsAtEnd}
use Rattle.smp_mask.specs.declared.error.SmpError.{SmpError}
use Rattle.smp_mask.specs.declared.error.SmpError.TheVariants as errors
use Rattle.smp_mask.specs.declared.error.Side.TheVariants as sides

-- The reader gave this text, and then its end, or the text is longer than it may be, by one byte at most.
pub record GaveUpTo (most : ℕ) (before after : Option (List ℕ)) (text : List ℕ) : Type 0 where
  pub bytes : Consumes before after text
  pub last : IsAtEnd after ⊎ (most < length text)
  pub limit : length text ≤ most + 1

-- the same of a script
abbrev pub Gave : Option (List ℕ) → Option (List ℕ) → List ℕ → Type 0
Gave = GaveUpTo 65536

-- The writer took the front of this text, from its first byte on, and nothing else.
pub record TookFront (before after : Option (List ℕ)) (text : List ℕ) : Type 0 where
  pub count : ℕ
  pub written : Appends before after (take count text)

-- want of memory, or E12 where the reader has failed
abbrev pub IsReadError : Bool → SmpError → Type 0
IsReadError failed errors.NoMemory = Unit {0}
IsReadError failed (errors.StreamFailed sides.Read) = failed ≡ true
IsReadError failed _ = ⊥

-- E12 where the writer has failed
abbrev pub IsWriteError : Bool → SmpError → Type 0
IsWriteError failed (errors.StreamFailed sides.Write) = failed ≡ true
IsWriteError failed _ = ⊥
