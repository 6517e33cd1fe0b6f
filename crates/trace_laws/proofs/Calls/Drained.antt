-- What is run is what was queued, once all is drained.
use Rattle.trace_laws.proofs.Names.{Bool, Call, Current, Event, IsPermutation, IsPermutation-map, IsTrace, LabelWords, List, None, Option, Setting}
use Rattle.trace_laws.proofs.Names.{StateValue, [], append-nil, arith, cases_lt, cond, count_by, cpu_at, false, get_or, get_or_past, held}
use Rattle.trace_laws.proofs.Names.{id_of, length, over_with, queued, quiet_with, running, sum_by-IsPermutation, ℕ}
use Rattle.trace_laws.proofs.Names.{◌<◌, ◌≡◌}
use Rattle.std.proofs.lemmas.List.Sums.{sum_by_more_le}
use Rattle.std.specs.Prelude.{is_err}
use Rattle.trace_laws.proofs.Calls.ShownByTraces.{counts_are}
use Rattle.trace_laws.specs.{Drained.DrainedEquals, Drained.IsDrained}

none_passes : {X : Type 0} (p : X → Bool) (xs : List X) (i : ℕ) (d : X) → count_by p xs ≡ 0 → i < length xs → p (get_or xs i d) ≡ false
none_passes p xs i d none below =
    let h = sum_by_more_le (λ x. cond (p x) 1 0) xs i d below in
    search arith

idle_is : (current : Option Current) (batch : List Call) (accepted : Bool) → is_err (quiet_with (over_with current batch) accepted) ≡ false →
    (current ≡ None) × (batch ≡ [])
idle_is current batch accepted e = search arith

-- once all is drained, a CPU holds no call and runs none
drained_cpu : (t : StateValue) (cpu : ℕ) → IsDrained t → (held (cpu_at t cpu) ≡ []) × (running (cpu_at t cpu) ≡ [])
drained_cpu t cpu h1 = search (cases_lt, none_passes, get_or_past, idle_is, arith)

pub drained_equals : (u : Setting) (words : LabelWords) (es : List (ℕ × Event)) (t : StateValue) → IsTrace u words es t → (cpu : ℕ) → cpu < 512 →
    DrainedEquals u es t cpu
drained_equals u words es t run cpu below d =
    let c = counts_are u words es t run cpu below in
    let e = drained_cpu t cpu d in
    let h : held (cpu_at t cpu) ≡ [] = e.0 in
    let r : running (cpu_at t cpu) ≡ [] = e.1 in
    let whole : IsPermutation (queued cpu es) c.over = rw (h, r, append-nil, append-nil) at c.whole in
    record {
      ended = rw (← c.ends_are) (IsPermutation-map id_of (queued cpu es) c.over whole);
      counts = search (c.over, whole, c.ran_are, c.queued_are, sum_by-IsPermutation, arith);
    }
