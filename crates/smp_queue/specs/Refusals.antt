-- What a post and a question for a record are refused for, by their numbers.
use Rattle.std.specs.Prelude.{◌≡◌, ◌≢◌, ◌⊎◌, ℕ, ◌<◌, ◌+◌, true, false}
use Rattle.smp_call_steps.specs.Refusals.{CarriesClass, CarriesTo}
use Rattle.smp_call_steps.specs.Start.{has_record}
use Rattle.smp_words.specs.declared.call.Class.{Class}
use Rattle.smp_queue.specs.Cpu.{CpuValue, misused}

-- the record may carry such a call, the post may try, and it is not to the own CPU
abbrev pub MayPost : ℕ → CpuValue → ℕ → ℕ → Class → ℕ → Type 0
MayPost nr c k to class tries = (CarriesClass k class ⊎ CarriesTo nr k to) × ((tries ≢ 0) × (to ≢ c.number))

-- a post is misuse just where it may not be made
abbrev pub MisuseIsOfTheNumbers : Type 0
MisuseIsOfTheNumbers = (nr : ℕ) (c : CpuValue) (k to : ℕ) (class : Class) (tries : ℕ) →
    (misused nr c k to class tries ≡ false → MayPost nr c k to class tries) × (misused nr c k to class tries ≡ true → MayPost nr c k to class tries → ⊥)

-- a CPU has twelve records, and a further one for each CPU from 8 on that there is
abbrev pub NamesARecord : ℕ → ℕ → Type 0
NamesARecord nr k = (k < 12) ⊎ ((k < 36) × (k < nr + 4))

abbrev pub RecordsAreThoseOfTheNumbers : Type 0
RecordsAreThoseOfTheNumbers = (nr k : ℕ) → (has_record nr k ≡ true → NamesARecord nr k) × (has_record nr k ≡ false → NamesARecord nr k → ⊥)
