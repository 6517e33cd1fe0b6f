use Rattle.std.proofs.Common.{ℕ, ◌≡◌, List, [], ◌∷◌, ◌++◌, sym, ap, ◌∙◌, subst, arith}
use Rattle.smp_calls.specs.Turns.{AreSpaced, after_each}
use Rattle.smp_calls.proofs.laws.waits_handle_after_looks.Goals as goal

pub returns-clause-looks : goal.returns-clause-looks
returns-clause-looks g c k old new before after a steps none made =
    let are = a.steps_are in
    let two : a.locked ≡ 2 = omega (arith, are, steps, made) in
    a.takes_are ∙ (ap (λ (xs : List ℕ). xs ++ after_each old.steps a.locked) none ∙ (λ i. after_each (steps i) (two i)))

not_twice : (low high take : ℕ) → AreSpaced low high (take ∷ take ∷ []) → ⊥
not_twice low high take a = let again = a.1.0 in omega arith

pub returns-clause-apart : goal.returns-clause-apart
returns-clause-apart g c old new take a none twice =
    not_twice old.steps new.steps take (subst (λ (xs : List ℕ). AreSpaced old.steps new.steps xs)
    (sym (sym twice ∙ (a.takes_are ∙ ap (λ (xs : List ℕ). xs ++ a.takes) none))) a.apart)

pub returns-clause-spaced : goal.returns-clause-spaced
returns-clause-spaced g c = (
  (omega arith, (omega arith, omega arith)),
  λ a. let early = a.0 in omega arith,
  λ a. let again = a.1.0 in omega arith,
  λ a. let late = a.1 in omega arith,
)
