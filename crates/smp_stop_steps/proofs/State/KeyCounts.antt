-- The count law: a key's word is what all CPUs together have moved it.
use Rattle.std.proofs.Common.{◌≡◌, ◌≢◌, ℕ, ◌+◌, ◌-◌, ◌<◌, ap, ◌∙◌, arith}
use Rattle.smp_words.proofs.Puts.{at_test, put_same, put_other}
use Rattle.smp_stop_steps.specs.{put, put_word, moves, moved_by, ups, downs, CountShows, Moved, unmoved, Word, Key}
use Rattle.smp_stop_steps.proofs.Basics.Counts.{sum_put, sum_same}

-- at first
pub opened_count : (n k word : ℕ) → word ≡ 0 → CountShows n (λ _ _. unmoved) (λ _ _. unmoved) k word
opened_count n k word e = omega arith

module _ (n : ℕ) (f : ℕ → ℕ → Moved) (me k old new : ℕ) (low : me < n) where
  abbrev f' : ℕ → ℕ → Moved
  f' = moved_by f me k old new

  here : f' me k ≡ moves (f me k) old new
  here = ap (λ (g : ℕ → Moved). g k) (put_same f me (put (f me) k (moves (f me k) old new))) ∙ put_same (f me) k (moves (f me k) old new)

  others : (c : ℕ) → c ≢ me → f' c k ≡ f c k
  others c ne = ap (λ (g : ℕ → Moved). g k) (put_other f me (put (f me) k (moves (f me k) old new)) c ne)

  elsewhere : (j : ℕ) → j ≢ k → (c : ℕ) → f' c j ≡ f c j
  elsewhere j ne c = search (at_test, put_other, arith)

  up_moved : ups n f' k ≡ ups n f k + (new - old)
  up_moved = let s = sum_put (λ c. (f c k).up) (λ c. (f' c k).up) me n low (λ c ne. ap (λ (m : Moved). m.up) (others c ne)) in
      let g : (f' me k).up ≡ (f me k).up + (new - old) = ap (λ (m : Moved). m.up) here in
      omega arith

  down_moved : downs n f' k ≡ downs n f k + (old - new)
  down_moved = let s = sum_put (λ c. (f c k).down) (λ c. (f' c k).down) me n low (λ c ne. ap (λ (m : Moved). m.down) (others c ne)) in
      let g : (f' me k).down ≡ (f me k).down + (old - new) = ap (λ (m : Moved). m.down) here in
      omega arith

  up_stays : (j : ℕ) → j ≢ k → ups n f' j ≡ ups n f j
  up_stays j ne = sum_same (λ c. (f c j).up) (λ c. (f' c j).up) n (λ c l. ap (λ (m : Moved). m.up) (elsewhere j ne c))

  down_stays : (j : ℕ) → j ≢ k → downs n f' j ≡ downs n f j
  down_stays j ne = sum_same (λ c. (f c j).down) (λ c. (f' c j).down) n (λ c l. ap (λ (m : Moved). m.down) (elsewhere j ne c))

-- a step that puts a new count in a key's word, and whose CPU has moved it so
module _ (n : ℕ) (nudged patched : ℕ → ℕ → Moved) (at : Word → ℕ) (me k old new : ℕ)
    (low : me < n) (was : at (Key k) ≡ old) (h : (j : ℕ) → CountShows n nudged patched j (at (Key j))) where
  pub counts_nudged : (j : ℕ) → CountShows n (moved_by nudged me k old new) patched j (put_word at (Key k) new (Key j))
  counts_nudged j = search (at_test, up_moved, down_moved, up_stays, down_stays, arith)

  pub counts_patched : (j : ℕ) → CountShows n nudged (moved_by patched me k old new) j (put_word at (Key k) new (Key j))
  counts_patched j = search (at_test, up_moved, down_moved, up_stays, down_stays, arith)
