-- A core's queues and the places of its records, as they are read.
use Rattle.std.specs.Prelude.{ℕ, List, [], Option, Some, None, nat_lt, if◌then◌else◌}
use Rattle.smp_mask.specs.Mask.{has}
use Rattle.smp_words.specs.Size.{records}
use Rattle.smp_words.specs.Layout.{number_in}
use Rattle.smp_core.specs.Value.{CoreValue}
use Rattle.smp_call_steps.specs.Words.{nexts_in}
use Rattle.smp_words.specs.declared.word.Word.TheVariants.{Head}
use Rattle.smp_call_steps.specs.declared.place.RecPlace.{RecPlace}
use Rattle.smp_call_steps.specs.Queues.{chain_in}
use Rattle.smp_call_steps.specs.Whereabouts.{place_in}

-- the records of a CPU's queue, oldest first; none for a CPU that is not online
abbrev pub queue_in : CoreValue → ℕ → List ℕ
queue_in core cpu = if has core.online cpu then chain_in (nexts_in (number_in core.words)) records (number_in core.words (Head cpu)) else []

-- where a record is; none where there is no such record
abbrev pub place_of : CoreValue → ℕ → Option RecPlace
place_of core r = if nat_lt r records then Some (place_in core.words core.controls r) else None
