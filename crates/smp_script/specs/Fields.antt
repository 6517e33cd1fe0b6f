-- What one field may be.
use Rattle.std.specs.Prelude.{ℕ, Bool, true, false, nat_lt, if◌then◌else◌, List, codes, Result, Ok, Err}
use Rattle.std.specs.List.{list_all}
use Rattle.std.specs.Str.{bytes_eq}
use Rattle.smp_mask.specs.declared.error.Cause.{Cause}
use Rattle.smp_mask.specs.declared.error.Cause.TheVariants.{Word, Mask}
use Rattle.smp_mask.specs.declared.error.SmpError.{SmpError}
use Rattle.smp_mask.specs.declared.mask.TheConstants.{NR_CPUS}
use Rattle.smp_mask.specs.Mask.{members}
use Rattle.smp_mask.specs.Reading.{mask_of_text}
use Rattle.smp_words.specs.declared.call.Class.{Class}
use Rattle.smp_words.specs.declared.call.Class.TheVariants.{Sync, Async}
use Rattle.smp_words.specs.declared.work.Kind.{Kind}
use Rattle.smp_words.specs.declared.work.Kind.TheVariants.{One, Multi, Patch}
use Rattle.smp_script.specs.Numbers.{number_in}

-- the numbers of 16, 32 and 64 bits
abbrev pub word16 : List ℕ → Result ℕ Cause
word16 text = number_in 0 65535 text

abbrev pub word32 : List ℕ → Result ℕ Cause
word32 text = number_in 0 4294967295 text

abbrev pub word64 : List ℕ → Result ℕ Cause
word64 text = number_in 0 18446744073709551615 text

-- `sync` or `async`
abbrev pub class_of : List ℕ → Result Class Cause
class_of text = if bytes_eq text (codes "sync") then Ok Sync else (if bytes_eq text (codes "async") then Ok Async else Err Word)

-- `one`, `multi` or `patch`
abbrev pub kind_of : List ℕ → Result Kind Cause
kind_of text =
    if bytes_eq text (codes "one") then Ok One
    else (if bytes_eq text (codes "multi") then Ok Multi else (if bytes_eq text (codes "patch") then Ok Patch else Err Word))

-- `up` or `down`: whether it is `up`
abbrev pub way_of : List ℕ → Result Bool Cause
way_of text = if bytes_eq text (codes "up") then Ok true else (if bytes_eq text (codes "down") then Ok false else Err Word)

-- all CPUs of the mask are below the limit
abbrev pub stays_below : ℕ → ℕ → Bool
stays_below limit mask = list_all (λ cpu. nat_lt cpu limit) (members mask)

-- a mask that was read, where all its CPUs are below the limit
abbrev pub or_mask : ℕ → Result ℕ SmpError → Result ℕ Cause
or_mask limit (Ok mask) = if stays_below limit mask then Ok mask else Err Mask
or_mask limit (Err error) = Err Mask

-- a CPU list of CPUs below the limit, where `-` is the empty mask
abbrev pub mask_of : ℕ → List ℕ → Result ℕ Cause
mask_of limit text = if bytes_eq text (codes "-") then Ok 0 else or_mask limit (mask_of_text NR_CPUS text)
