-- To whom a record belongs. The only proofs that know how records are numbered.
use Rattle.std.proofs.Common.{◌≡◌, ℕ, ◌+◌, ◌-◌, ◌*◌, ◌/◌, ◌<◌, ◌≤◌, refl, arith}
use Rattle.std.proofs.lemmas.Bool.{cases_lt, lt-ltb, le-ltb}
use Rattle.smp_words.specs.Size.{cpus, records, records_of_one, owner, record_of}
use Rattle.smp_words.specs.declared.size.TheConstants.{FIRST_OF_ONE, MORE_OF_ONE, FIRST_RECORDS}

-- the number of a first record of a source, and of a further one
pub near : (source k : ℕ) → k < FIRST_OF_ONE → record_of source k ≡ FIRST_OF_ONE * source + k
unfolding record_of
near source k l = rw (lt-ltb k FIRST_OF_ONE l) refl

pub far : (source k : ℕ) → FIRST_OF_ONE ≤ k → record_of source k ≡ FIRST_RECORDS + MORE_OF_ONE * source + (k - FIRST_OF_ONE)
unfolding record_of
far source k l = rw (le-ltb k FIRST_OF_ONE l) refl

pub owner_near : (id : ℕ) → id < FIRST_RECORDS → owner id ≡ id / FIRST_OF_ONE
unfolding owner
owner_near id l = rw (lt-ltb id FIRST_RECORDS l) refl

pub owner_far : (id : ℕ) → FIRST_RECORDS ≤ id → owner id ≡ (id - FIRST_RECORDS) / MORE_OF_ONE
unfolding owner
owner_far id l = rw (le-ltb id FIRST_RECORDS l) refl

pub owner-of_record : (source k : ℕ) → source < cpus → k < records_of_one → owner (record_of source k) ≡ source
owner-of_record source k s l = search (cases_lt, near, owner_near, far, owner_far, arith)

-- one source's records are as many as their local numbers
pub one_local : (source j k : ℕ) → j < records_of_one → k < records_of_one → record_of source j ≡ record_of source k → j ≡ k
one_local source j k b l e = search (cases_lt, near, far, arith)

pub record_of-below : (source k : ℕ) → source < cpus → k < records_of_one → record_of source k < records
record_of-below source k s l = search (cases_lt, near, far, arith)

pub owner-below : (id : ℕ) → id < records → owner id < cpus
owner-below id l = search (cases_lt, owner_near, owner_far, arith)
