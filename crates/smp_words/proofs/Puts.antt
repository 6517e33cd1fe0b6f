-- What holds of a function with one value put in another's place.
use Rattle.std.proofs.Common.{arith, ◌≡◌, ◌≢◌, ℕ, Bool, true, false, ◌==◌, cond, refl}
use Rattle.std.proofs.lemmas.Bool.{eqb-true, eqb-false}
use Rattle.smp_words.specs.Put.{put}

pub test_cases : (j i : ℕ) (P : Bool → Type 0) (b : Bool) → (j == i) ≡ b → (j ≡ i → P true) → (j ≢ i → P false) → P b
test_cases j i P true e here there = here (eqb-true j i e)
test_cases j i P false e here there = there (eqb-false j i e)

-- a fact on the test whether j is i
pub at_test : (j i : ℕ) (P : Bool → Type 0) → (j ≡ i → P true) → (j ≢ i → P false) → P (j == i)
at_test j i P here there = test_cases j i P (j == i) refl here there

pub test_here : {A : Type 0} (i : ℕ) (v x : A) → cond (i == i) v x ≡ v
test_here {A} i v x = at_test i i (λ b. cond b v x ≡ v) (λ _. refl) (λ ne. absurd (ne refl))

pub test_else : {A : Type 0} (j i : ℕ) (v x : A) → j ≢ i → cond (j == i) v x ≡ x
test_else {A} j i v x ne = at_test j i (λ b. cond b v x ≡ x) (λ e. absurd (ne e)) (λ _. refl)

pub put_same : {A : Type 0} (f : ℕ → A) (i : ℕ) (v : A) → put f i v i ≡ v
put_same f i v = test_here i v (f i)

pub put_other : {A : Type 0} (f : ℕ → A) (i : ℕ) (v : A) (j : ℕ) → j ≢ i → put f i v j ≡ f j
put_other f i v j ne = test_else j i v (f j) ne

pub put_all : {A : Type 0} (R : ℕ → A → Type 0) (f : ℕ → A) (i : ℕ) (v : A) → R i v → ((j : ℕ) → j ≢ i → R j (f j)) → (j : ℕ) → R j (put f i v j)
put_all {A} R f i v here others j = search (at_test, arith)

pub put_both : {A B : Type 0} (R : ℕ → A → B → Type 0) (f : ℕ → A) (g : ℕ → B) (i : ℕ) (v : A) (w : B) → R i v w → ((j : ℕ) → j ≢ i → R j (f j) (g j)) → (j : ℕ)
    → R j (put f i v j) (put g i w j)
put_both {A} {B} R f g i v w here others j = search (at_test, arith)
