-- What a CPU has counted of each source, with one call more.
use Rattle.std.proofs.Common.{◌≡◌, ◌≢◌, ℕ, ◌+◌, ◌%◌, ◌^◌, ◌==◌, ◌&&◌, cond, if◌then◌else◌, Option, List, [], ◌∷◌, ◌++◌, length}
use Rattle.std.proofs.Common.{length-append, refl, arith}
use Rattle.std.proofs.lemmas.Bool.{eq-eqb, ne_eqb}
use Rattle.smp_words.specs.Size.{owner}
use Rattle.smp_call_steps.specs.{Holding, Running, Sending, calls_from, counted_call, Tallied, Call}
use Rattle.smp_words.proofs.Puts.{at_test}

calls_from-push : (source : ℕ) (xs : List Call) (y : Call)
    → calls_from source (xs ++ y ∷ []) ≡ calls_from source xs ++ (if owner y.id == source then y ∷ [] else [])
calls_from-push source [] y = refl
calls_from-push source (x ∷ xs) y = search (calls_from-push source xs y, arith)

-- one more of its own source
pub count-same : (source : ℕ) (xs : List Call) (y : Call) → owner y.id ≡ source → length (calls_from source (xs ++ y ∷ [])) ≡ length (calls_from source xs) + 1
count-same source xs y e = search (calls_from-push, eq-eqb, length-append, arith)

-- and none of another
pub count-other : (source : ℕ) (xs : List Call) (y : Call) → owner y.id ≢ source → length (calls_from source (xs ++ y ∷ [])) ≡ length (calls_from source xs)
count-other source xs y ne = search (length-append, calls_from-push, ne_eqb, arith)

pub count_wraps : (n x y : ℕ) → n ≡ x % 2 ^ 64 → y ≡ x + 1 → (n + 1) % 2 ^ 64 ≡ y % 2 ^ 64
count_wraps n x y e f = omega arith

-- the tally law after a call was counted, by what its CPU has counted
pub tallied_more : (queued words : ℕ → ℕ → ℕ) (sent : ℕ → List Sending) (held : ℕ → Option Holding) (ran ran' : ℕ → List Call) (running running' : ℕ → Running)
    (me : ℕ) (call : Call) →
    ran' me ++ counted_call (running' me) ≡ (ran me ++ counted_call (running me)) ++ call ∷ [] →
    ((cpu : ℕ) → cpu ≢ me → ran' cpu ++ counted_call (running' cpu) ≡ ran cpu ++ counted_call (running cpu)) →
    Tallied queued words sent held ran running →
    Tallied queued (λ cpu source. cond (cpu == me && source == owner call.id) ((words me (owner call.id) + 1) % 2 ^ 64) (words cpu source))
    sent held ran' running'
tallied_more queued words sent held ran ran' running running' me call here others t = search (at_test, count_wraps, count-same, count-other, arith)

-- the tally law where each CPU has counted what it had counted
pub tallied_same : (queued words : ℕ → ℕ → ℕ) (sent : ℕ → List Sending) (held : ℕ → Option Holding) (ran ran' : ℕ → List Call) (running running' : ℕ → Running)
    →
    ((cpu : ℕ) → ran' cpu ++ counted_call (running' cpu) ≡ ran cpu ++ counted_call (running cpu)) → Tallied queued words sent held ran running
    → Tallied queued words sent held ran' running'
tallied_same queued words sent held ran ran' running running' same t = search arith
