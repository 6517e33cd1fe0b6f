-- Why a text is not read.
use Rattle.std.proofs.Common.{Result, Err, refl}
use Rattle.smp_words.specs.FirstFault.{◌>>=◌}
use Rattle.trace_ftrace.specs.Kept.{KeptValue}
use Rattle.trace_ftrace.specs.Marks.{Keeps}
use Rattle.trace_ftrace.specs.Reading.{Reads}
use Rattle.trace_ftrace.specs.Telling.{TellingValue}
use Rattle.trace_ftrace.specs.declared.wrong.Refusal.{Refusal}
use Rattle.trace_ftrace.specs.declared.wrong.Refusal.TheVariants as refusal

-- what fails first is why the whole fails
pub fails : (A : Type 0) {S : Type 0} (why : Refusal) (s : S) (made : Result S Refusal) (more : S → Result (KeptValue × TellingValue) Refusal)
    → Keeps (Err why) s made → Reads {A = A} (Err why) (made >>= more)
fails A refusal.NoMemory s made more h = tt
fails A refusal.TooLong s made more h = rw h refl
fails A refusal.LongTrace s made more h = rw h refl
fails A refusal.Unplaced s made more h = rw h refl
fails A (refusal.Wrong line wrong) s made more h = rw h refl
