-- Sums over CPUs, with one CPU changed.
use Rattle.std.proofs.Common.{◌≡◌, ◌≢◌, ℕ, suc, zero, ◌+◌, ◌<◌, cond, refl, ap, arith, sym, ◌∙◌}
use mathlib.Core.Logic.{dite}
use mathlib.Core.Path.{fun_ext}
use Rattle.smp_words.proofs.Puts.{at_test}
use native.Mathlib.Decide.{ℕ_discrete}
use Rattle.smp_stop_steps.specs.{put, sum_below}

-- what is there already
pub put_own : {A : Type 0} (f : ℕ → A) (i : ℕ) (v : A) → f i ≡ v → put f i v ≡ f
put_own {A} f i v e = fun_ext (λ j. at_test j i (λ b. cond b v (f j) ≡ f j) (λ same. sym e ∙ ap f (sym same)) (λ _. refl))

pub sum_same : (f g : ℕ → ℕ) (n : ℕ) → ((j : ℕ) → j < n → g j ≡ f j) → sum_below g n ≡ sum_below f n
unfolding sum_below
sum_same f g zero same = refl
sum_same f g (suc n) same = let b = sum_same f g n (λ j l. same j (omega arith)) in omega arith

pub sum_put : (f g : ℕ → ℕ) (i n : ℕ) → i < n → ((j : ℕ) → j ≢ i → g j ≡ f j) → sum_below g n + f i ≡ sum_below f n + g i
unfolding sum_below
sum_put f g i zero l same = absurd (omega arith)
sum_put f g i (suc n) l same = dite (ℕ_discrete n i)
    (λ (e : n ≡ i). let b = sum_same f g n (λ j k. same j (omega arith)) in let c : f n ≡ f i = ap f e in let d : g n ≡ g i = ap g e in omega arith)
    (λ ne. let a = same n ne in let b = sum_put f g i n (omega arith) same in omega arith)

pub sum_zero : (f : ℕ → ℕ) (n : ℕ) → sum_below f n ≡ 0 → (c : ℕ) → c < n → f c ≡ 0
unfolding sum_below
sum_zero f zero e c l = absurd (omega arith)
sum_zero f (suc n) e c l = dite (ℕ_discrete n c)
    (λ (same : n ≡ c). let d : f n ≡ f c = ap f same in omega arith)
    (λ ne. sum_zero f n (omega arith) c (omega arith))
