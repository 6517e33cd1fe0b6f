-- Rows: the first values of a function, as a list.
use Rattle.std.proofs.Common.{◌≡◌, ℕ, zero, suc, ◌<◌, ◌∷◌, length, get_or, set, refl, ap, ◌∙◌, arith}
use Rattle.smp_words.specs.Put.{put}
use Rattle.smp_call_steps.specs.{row}
use Rattle.smp_words.proofs.Puts.{at_test, put_same, put_other}

pub row-at : {A : Type 0} (n i : ℕ) (f : ℕ → A) (d : A) → i < n → get_or (row n f) i d ≡ f i
unfolding row
row-at zero i f d l = absurd (omega arith)
row-at (suc n) zero f d l = refl
row-at {A} (suc n) (suc i) f d l = row-at n i (λ k. f (suc k)) d (omega arith)

row-same : {A : Type 0} (n : ℕ) (f g : ℕ → A) → ((k : ℕ) → f k ≡ g k) → row n f ≡ row n g
row-same n f g h = ap (row n) (λ i k. h k i)

put_suc : {A : Type 0} (f : ℕ → A) (i : ℕ) (x : A) (k : ℕ) → put f (suc i) x (suc k) ≡ put (λ k. f (suc k)) i x k
put_suc f i x k = search (at_test, put_same, put_other, arith)

pub row-put : {A : Type 0} (n i : ℕ) (f : ℕ → A) (x : A) → row n (put f i x) ≡ set (row n f) i x
unfolding row
row-put zero i f x = refl
row-put {A} (suc n) zero f x = search (put_same, row-same, put_other, arith)
row-put {A} (suc n) (suc i) f x =
    (λ j. put_other f (suc i) x zero (omega arith) j ∷
    (row-same n (λ k. put f (suc i) x (suc k)) (put (λ k. f (suc k)) i x) (put_suc f i x) ∙ row-put n i (λ k. f (suc k)) x) j)

-- the row of one CPU, with one value put in it
pub row_own : {A : Type 0} (n me i : ℕ) (f : ℕ → ℕ → A) (x : A) → row n (put f me (put (f me) i x) me) ≡ set (row n (f me)) i x
row_own n me i f x = ap (row n) (put_same f me (put (f me) i x)) ∙ row-put n i (f me) x

pub length-row : {A : Type 0} (n : ℕ) (f : ℕ → A) → length (row n f) ≡ n
unfolding row
length-row zero f = refl
length-row {A} (suc n) f = ap suc (length-row n (λ k. f (suc k)))
