-- The versions of scripts, and how many CPUs each may speak of.
use Rattle.std.specs.Prelude.{ℕ, if◌then◌else◌, List, codes, Result, Ok, Err}
use Rattle.std.specs.Str.{bytes_eq}
use Rattle.smp_mask.specs.declared.error.Cause.{Cause}
use Rattle.smp_mask.specs.declared.error.Cause.TheVariants.{Word}
use Rattle.smp_script.specs.declared.version.Version.{Version}
use Rattle.smp_script.specs.declared.version.Version.TheVariants.{One, Two}

-- the word of a version in the first line
abbrev pub version_text : Version → List ℕ
version_text One = codes "1"
version_text Two = codes "2"

-- the CPUs of a script have numbers below this
abbrev pub limit_of : Version → ℕ
limit_of One = 8
limit_of Two = 32

-- the version of a word
abbrev pub version_of : List ℕ → Result Version Cause
version_of text = if bytes_eq text (version_text One) then Ok One else (if bytes_eq text (version_text Two) then Ok Two else Err Word)
