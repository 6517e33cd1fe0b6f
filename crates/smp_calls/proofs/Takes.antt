-- When a CPU has taken its interrupt word: one part of its way after another.
use Rattle.std.proofs.Common.{arith, ◌≡◌, ℕ, zero, suc, ◌+◌, ◌≤◌, List, [], ◌∷◌, ◌++◌, append_assoc, sym, ap, ◌∙◌}
use Rattle.std.proofs.lemmas.List.{append-nil}
use Rattle.smp_queue.specs.Cpu.{CpuValue, looks}
use Rattle.smp_calls.specs.Families.{Awaits}
use Rattle.smp_calls.specs.Turns.{AreSpaced, TakesApart, after_each}

apart_below : (low mid high : ℕ) (xs : List ℕ) → low ≤ mid → AreSpaced mid high xs → AreSpaced low high xs
apart_below low mid high [] l a = omega (arith, a)
apart_below low mid high (x ∷ xs) l a = (let first = a.0 in omega arith, a.1)

apart_append : (low mid high : ℕ) (xs ys : List ℕ) → AreSpaced low mid xs → AreSpaced mid high ys → AreSpaced low high (xs ++ ys)
apart_append low mid high [] ys l a = apart_below low mid high ys l a
apart_append low mid high (x ∷ xs) ys l a = (l.0, apart_append x mid high xs ys l.1 a)

after_each_apart : (steps n high : ℕ) → steps + n ≤ high → AreSpaced steps high (after_each steps n)
after_each_apart steps zero high l = omega arith
after_each_apart steps (suc n) high l = apart_append steps (steps + n) high (after_each steps n) ((steps + suc n) ∷ [])
    (after_each_apart steps n (steps + n) (omega arith)) (omega arith, omega arith)

pub takes_then : (old mid new : CpuValue) → TakesApart old mid → TakesApart mid new → TakesApart old new
takes_then old mid new f g = record {
  takes = f.takes ++ g.takes;
  takes_are = g.takes_are ∙ (ap (λ (xs : List ℕ). xs ++ g.takes) f.takes_are ∙ append_assoc old.asked_after f.takes g.takes);
  apart = apart_append old.steps mid.steps new.steps f.takes g.takes f.apart g.apart;
}

-- where it has taken it no more
pub takes_none : (old new : CpuValue) → new.asked_after ≡ old.asked_after → old.steps ≤ new.steps → TakesApart old new
takes_none old new same steps = record { takes = []; takes_are = same ∙ sym (append-nil old.asked_after); apart = steps }

-- a look, and one turn of handling
pub takes_turn : (now mid next : CpuValue) → mid ≡ looks now → next.steps ≡ mid.steps → next.asked_after ≡ mid.asked_after ++ mid.steps ∷ []
    → TakesApart now next
takes_turn now mid next e steps taken =
    let made : next.steps ≡ now.steps + 1 = steps ∙ ap (λ (c : CpuValue). c.steps) e in
    record {
      takes = (now.steps + 1) ∷ [];
      takes_are = taken ∙ ap (λ (c : CpuValue). c.asked_after ++ c.steps ∷ []) e;
      apart = (omega arith, omega arith);
    }

-- a wait
pub takes_waited : {H : Type 0} {k : ℕ} {old new : CpuValue} {before after : H} → Awaits k old before new after → TakesApart old new
takes_waited {old = old} {new} a = record {
  takes = after_each old.steps a.locked;
  takes_are = a.takes_are;
  apart = let s = a.steps_are in after_each_apart old.steps a.locked new.steps (omega arith);
}
