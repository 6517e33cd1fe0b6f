-- The record for calls to a CPU that there is: its source has it, and it may carry such a call.
use Rattle.std.proofs.Common.{◌≡◌, ℕ, ◌+◌, ◌<◌, ◌≤◌, ◌⊎◌, true, false, inl, inr, refl, arith}
use Rattle.std.proofs.lemmas.Bool.{cases_lt, lt-ltb, le-ltb, ne_eqb, eq-eqb}
use Rattle.smp_mask.specs.Mask.{has}
use Rattle.smp_words.specs.Size.{cpus, records_of_one}
use Rattle.smp_call_steps.specs.Start.{has_record, fits_record}
use Rattle.smp_words.specs.Limits.{AreLimits}
use Rattle.smp_words.specs.declared.call.Class.{Class}
use Rattle.smp_queue.specs.Cpu.{CpuValue, misused}
use Rattle.smp_calls.specs.Records.{many_record, user_record, AreApart}

-- it is for calls of either class to this CPU
fits_many : (nr to : ℕ) (class : Class) → to < nr → fits_record nr (many_record to) to class ≡ true
fits_many nr to class below = search (cases_lt, lt-ltb, ne_eqb, eq-eqb, le-ltb, arith)

pub small_many : (to : ℕ) → to < cpus → many_record to < records_of_one
small_many to below = search (cases_lt, lt-ltb, le-ltb, arith)

-- a source has it, where the CPU is online, and a post to this CPU by it is not refused for its arguments
pub has_online : (nr online to : ℕ) → AreLimits nr online → has online to ≡ true → has_record nr (many_record to) ≡ true
has_online nr online to limits e = search (cases_lt, lt-ltb, le-ltb, limits.below to e, arith)

pub lawful_online : (nr online : ℕ) (c : CpuValue) (to : ℕ) (class : Class) → AreLimits nr online → has online to ≡ true → (to ≡ c.number → ⊥)
    → misused nr c (many_record to) to class 1 ≡ false
lawful_online nr online c to class limits e other = search (lt-ltb, small_many, ne_eqb, fits_many, limits.below to e, arith)

-- the records for calls to many are no others', and one for each destination
many_is : (to : ℕ) → ((to < 8) × (many_record to ≡ to + 2)) ⊎ ((8 ≤ to) × (many_record to ≡ to + 4))
many_is to = elim (cases_lt to 8) [ inl low ↦ inl (low, rw (lt-ltb to 8 low) refl) | inr high ↦ inr (high, rw (le-ltb to 8 high) refl) ]

same_many : (to other : ℕ) → many_record to ≡ many_record other → to ≡ other
same_many to other e = search (many_is, arith)

above_one : (to : ℕ) → 1 < many_record to
above_one to = elim (many_is to) [ inl a ↦ (let m = a.1 in omega arith) | inr a ↦ (let m = a.1 in omega arith) ]

no_users : (to u : ℕ) → u < 2 → many_record to ≡ user_record u → ⊥
no_users to u few e = search (many_is, arith)

pub are_apart : AreApart
are_apart = record { above = above_one; within = small_many; many = same_many; users = no_users }
