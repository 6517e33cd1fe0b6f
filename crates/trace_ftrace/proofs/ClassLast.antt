-- The last mark that queues a record.
use Rattle.std.proofs.Common.{◌≡◌, ℕ, zero, suc, ◌<◌, ◌≤◌, ◌-◌, Bool, true, false, not, ◌||◌, ◌&&◌, if◌then◌else◌}
use Rattle.std.proofs.Common.{List, [], ◌∷◌, length, drop, get_or, set, Option, Some, None, refl, subst, arith}
use Rattle.trace_ftrace.specs.Kept.{behind_first, classed, has_queue, is_queue_of, is_told, sorted}
use Rattle.trace_ftrace.specs.declared.kept.Mark.{Mark}
use Rattle.trace_ftrace.specs.declared.sign.Sort.{Sort}

-- one of two is
or_true : (b : Bool) → (b || true) ≡ true
or_true true = refl
or_true false = refl

-- no mark queues the record
none_here : (here told : Bool) (m made : Mark) (ms : List Mark) (more : Bool) (later : Option (List Mark)) → (here || more) ≡ false
    → (if more then behind_first m later else (if here && not told then Some (made ∷ ms) else None)) ≡ None
none_here true told m made ms more later h = cc
none_here false told m made ms true later h = cc
none_here false told m made ms false later h = refl

pub none_queued : (cpu address : ℕ) (s : Sort) (ms : List Mark) → has_queue cpu address ms ≡ false → classed cpu address s ms ≡ None
none_queued cpu address s [] h = refl
none_queued cpu address s (m ∷ ms) h =
    none_here (is_queue_of cpu address m) (is_told m.sign) m (sorted s m) ms (has_queue cpu address ms) (classed cpu address s ms) h

-- a mark that is found where it is
has_here : (cpu address : ℕ) (ms : List Mark) (i : ℕ) (d : Mark) → i < length ms → is_queue_of cpu address (get_or ms i d) ≡ true
    → has_queue cpu address ms ≡ true
has_here cpu address [] i d h q = absurd (omega arith)
has_here cpu address (m ∷ ms) zero d h q = rw q refl
has_here cpu address (m ∷ ms) (suc i) d h q = rw (has_here cpu address ms i d (omega arith) q) (or_true (is_queue_of cpu address m))

-- it is of this sort from here on, when none behind it is one and its sort has not been told
classed_here : (cpu address : ℕ) (s : Sort) (ms : List Mark) (i : ℕ) (d : Mark) → i < length ms → has_queue cpu address (drop (suc i) ms) ≡ false
    → is_queue_of cpu address (get_or ms i d) ≡ true → is_told (get_or ms i d).sign ≡ false
    → classed cpu address s ms ≡ Some (set ms i (sorted s (get_or ms i d)))
classed_here cpu address s [] i d h n q t = absurd (omega arith)
classed_here cpu address s (m ∷ ms) zero d h n q t = rw (n, q, t)
classed_here cpu address s (m ∷ ms) (suc i) d h n q t =
    rw (has_here cpu address ms i d (omega arith) q, classed_here cpu address s ms i d (omega arith) n q t)

-- nothing is, when its sort has been told
told_here : (cpu address : ℕ) (s : Sort) (ms : List Mark) (i : ℕ) (d : Mark) → i < length ms → has_queue cpu address (drop (suc i) ms) ≡ false
    → is_queue_of cpu address (get_or ms i d) ≡ true → is_told (get_or ms i d).sign ≡ true → classed cpu address s ms ≡ None
told_here cpu address s [] i d h n q t = absurd (omega arith)
told_here cpu address s (m ∷ ms) zero d h n q t = rw (n, q, t)
told_here cpu address s (m ∷ ms) (suc i) d h n q t =
    rw (has_here cpu address ms i d (omega arith) q, told_here cpu address s ms i d (omega arith) n q t)

pub classed_at : (cpu address : ℕ) (s : Sort) (ms : List Mark) (at : ℕ) (d : Mark) → 0 < at → at ≤ length ms
    → has_queue cpu address (drop at ms) ≡ false → is_queue_of cpu address (get_or ms (at - 1) d) ≡ true
    → is_told (get_or ms (at - 1) d).sign ≡ false → classed cpu address s ms ≡ Some (set ms (at - 1) (sorted s (get_or ms (at - 1) d)))
classed_at cpu address s ms zero d o h n q t = absurd (omega arith)
classed_at cpu address s ms (suc i) d o h n q t =
    let e : suc i - 1 ≡ i = omega arith in
    let here = subst (λ (k : ℕ). is_queue_of cpu address (get_or ms k d) ≡ true) e q in
    rw e (classed_here cpu address s ms i d (omega arith) n here (subst (λ (k : ℕ). is_told (get_or ms k d).sign ≡ false) e t))

pub told_at : (cpu address : ℕ) (s : Sort) (ms : List Mark) (at : ℕ) (d : Mark) → 0 < at → at ≤ length ms
    → has_queue cpu address (drop at ms) ≡ false → is_queue_of cpu address (get_or ms (at - 1) d) ≡ true
    → is_told (get_or ms (at - 1) d).sign ≡ true → classed cpu address s ms ≡ None
told_at cpu address s ms zero d o h n q t = absurd (omega arith)
told_at cpu address s ms (suc i) d o h n q t =
    let e : suc i - 1 ≡ i = omega arith in
    let here = subst (λ (k : ℕ). is_queue_of cpu address (get_or ms k d) ≡ true) e q in
    told_here cpu address s ms i d (omega arith) n here (subst (λ (k : ℕ). is_told (get_or ms k d).sign ≡ true) e t)
