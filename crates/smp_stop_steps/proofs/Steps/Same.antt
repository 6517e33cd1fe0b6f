-- A step that leaves a CPU's seat or its source as it was.
use Rattle.std.proofs.Common.{◌≡◌, ℕ, Bool, true, false, cond, sym, subst, refl, ap}
use Rattle.smp_words.proofs.{Puts.at_test, SameWords.same_word-true}
use Rattle.smp_stop_steps.specs.{put, put_word, same_word, Word, StopRole, StopShows, Source, Setup, StopState}

-- a put of what is there
put_kept : {A : Type 0} (f : ℕ → A) (i j : ℕ) → put f i (f i) j ≡ f j
put_kept {A} f i j = at_test j i (λ b. cond b (f i) (f j) ≡ f j) (λ e. ap f (sym e)) (λ _. refl)

pub put_same_fn : {A : Type 0} (f : ℕ → A) (i : ℕ) → put f i (f i) ≡ f
put_same_fn {A} f i = λ k j. put_kept f i j k

-- a number put where it is
pub word_same : (at : Word → ℕ) (w : Word) → put_word at w (at w) ≡ at
word_same at w = λ k x. go x (same_word x w) refl k
  where
    go : (x : Word) (b : Bool) → same_word x w ≡ b → cond b (at w) (at x) ≡ at x
    go x true e = ap at (sym (same_word-true x w e))
    go x false e = refl

module _ (u : Setup) (seat : ℕ → StopRole) (source : ℕ → Source) (me : ℕ) where
  -- a step that moves neither
  pub still : (p : StopState) (at : Word → ℕ) → StopShows u p at seat source → StopShows u p at (put seat me (seat me)) (put source me (source me))
  still p at shows = subst (λ x. StopShows u p at x (put source me (source me))) (sym (put_same_fn seat me))
      (subst (λ y. StopShows u p at seat y) (sym (put_same_fn source me)) shows)

  -- one that moves the CPU
  pub moved_seat : (p : StopState) (at : Word → ℕ) (x : StopRole) → StopShows u p at (put seat me x) source →
      StopShows u p at (put seat me x) (put source me (source me))
  moved_seat p at x shows = subst (λ y. StopShows u p at (put seat me x) y) (sym (put_same_fn source me)) shows

  -- one that moves its source
  pub moved_source : (p : StopState) (at : Word → ℕ) (y : Source) → StopShows u p at seat (put source me y) →
      StopShows u p at (put seat me (seat me)) (put source me y)
  moved_source p at y shows = subst (λ x. StopShows u p at x (put source me y)) (sym (put_same_fn seat me)) shows
