-- Line 2 of a trace: how many CPUs there are, and which of them are online.
use Rattle.std.specs.Prelude.{ℕ, ◌-◌, Bool, true, false, ◌&&◌, ◌==◌, nat_lt, if◌then◌else◌, List, [], ◌∷◌, Option, Some, None, Result, Ok, Err, codes}
use Rattle.std.specs.Str.{bytes_eq}
use Rattle.smp_mask.specs.Reading.{mask_of_text}
use Rattle.smp_mask.specs.declared.error.Cause.{Cause}
use Rattle.smp_mask.specs.declared.error.Cause.TheVariants.{Mask, Range, Word}
use Rattle.smp_mask.specs.declared.error.SmpError.{SmpError}
use Rattle.smp_words.specs.FirstFault.{◌>>=◌}
use Rattle.smp_script.specs.Commands.{are_whole}
use Rattle.smp_script.specs.Fields.{word32}
use Rattle.smp_script.specs.Script.{whole_cpus}

-- all CPUs below 32
abbrev pub or_none : Result ℕ SmpError → ℕ
or_none (Ok mask) = mask
or_none (Err why) = 0

unfoldable pub every_cpu : ℕ
every_cpu = or_none (mask_of_text 32 (codes "0-31"))

-- how many CPUs there are, where these are more than 32
abbrev pub if_many : Result ℕ Cause → Option ℕ
if_many (Ok nr) = if nat_lt 32 nr then Some nr else None
if_many (Err why) = None

abbrev pub many_of : List (List ℕ) → Option ℕ
many_of (word ∷ nr ∷ rest) = if_many (word32 nr)
many_of _ = None

-- a list is `0-LAST`, that of all CPUs of this number
abbrev pub is_last : ℕ → Result ℕ Cause → Bool
is_last nr (Ok last) = last == nr - 1
is_last nr (Err why) = false

abbrev pub is_all : ℕ → List ℕ → Bool
is_all nr (nought ∷ dash ∷ last) = (nought == 48) && (dash == 45) && is_last nr (word32 last)
is_all nr _ = false

-- all of more than 32 CPUs are online
abbrev pub all_in : ℕ → List ℕ → Result (ℕ × ℕ) Cause
all_in nr mask = if nat_lt 512 nr then Err Range else (if is_all nr mask then Ok (nr, every_cpu) else Err Mask)

abbrev pub all_of : ℕ → List (List ℕ) → Result (ℕ × ℕ) Cause
all_of nr (word ∷ number ∷ mask ∷ []) = if bytes_eq word (codes "cpus") then all_in nr mask else Err Word
all_of nr _ = Err Word

abbrev pub whole_all : ℕ → List (List ℕ) → Result (ℕ × ℕ) Cause
whole_all nr fields = if are_whole fields then all_of nr fields else Err Word

-- `cpus NR MASK` of at most 32 CPUs
abbrev pub few_of : List (List ℕ) → Result (ℕ × ℕ) Cause
few_of fields = whole_cpus 32 fields >>= λ table. Ok (32, table.1)

-- what line 2 of a version tells: 32 or more CPUs, and those below 32 that are online
abbrev pub cpus_with : Option ℕ → List (List ℕ) → Result (ℕ × ℕ) Cause
cpus_with (Some nr) fields = whole_all nr fields
cpus_with None fields = few_of fields

abbrev pub cpus_told : Bool → List (List ℕ) → Result (ℕ × ℕ) Cause
cpus_told true fields = cpus_with (many_of fields) fields
cpus_told false fields = few_of fields
