-- The lists of the past, over opening, completing and collecting.
use Rattle.std.proofs.Common.{◌≡◌, ◌≢◌, ℕ, Bool, true, false, cond, refl, ap, ◌∙◌, List, [], ◌∷◌, ◌++◌, arith}
use Rattle.std.proofs.lemmas.List.{append-nil}
use Rattle.smp_words.proofs.Puts.{at_test, put_all}
use Rattle.smp_stop_steps.specs.{put, IsResult, AllPast, PastShows, OnlyActiveAnswer, answer_now, answers_of, results_of, works_of, Outside, answer_of, closed}
use Rattle.smp_stop_steps.specs.{Standing, completed, opened, One, Work, has, Past.Past, Stop.Stop}

module _ (y : Past) where
  all_push : (xs : List Past) → AllPast xs → IsResult y.work.mask y.answer y.result → OnlyActiveAnswer y.work y.answer → AllPast (xs ++ y ∷ [])
  all_push [] h p a = ((p, a), tt)
  all_push (x ∷ xs) h p a = (h.0, all_push xs h.1 p a)

  works_push : (xs : List Past) → works_of (xs ++ y ∷ []) ≡ works_of xs ++ y.work ∷ []
  works_push [] = refl
  works_push (x ∷ xs) = ap (λ l. x.work ∷ l) (works_push xs)

  results_push : (xs : List Past) → results_of (xs ++ y ∷ []) ≡ results_of xs ++ y.result ∷ []
  results_push [] = refl
  results_push (x ∷ xs) = ap (λ l. x.result ∷ l) (results_push xs)

  answers_push : (c : ℕ) (xs : List Past) → answers_of c (xs ++ y ∷ []) ≡ answers_of c xs ++ cond (has y.work.mask c) (y.answer c ∷ []) []
  answers_push c [] = refl
  answers_push c (x ∷ xs) = ap (λ l. cond (has x.work.mask c) (x.answer c ∷ l) l) (answers_push c xs) ∙ split (has x.work.mask c)
    where
      split : (b : Bool) → cond b (x.answer c ∷ (answers_of c xs ++ cond (has y.work.mask c) (y.answer c ∷ []) []))
          (answers_of c xs ++ cond (has y.work.mask c) (y.answer c ∷ []) [])
          ≡ cond b (x.answer c ∷ answers_of c xs) (answers_of c xs) ++ cond (has y.work.mask c) (y.answer c ∷ []) []
      split b = search arith

-- a CPU goes elsewhere in its stop: with an answer only where it is active, or in a stop of one CPU
pub active_put : (stop : Stop) (me : ℕ) (to : Standing) → (stop.work.kind ≢ One → has stop.work.active me ≡ false → answer_of to ≡ 0) →
    OnlyActiveAnswer stop.work (λ c. answer_of (stop.standing c)) → OnlyActiveAnswer stop.work (λ c. answer_of (put stop.standing me to c))
active_put stop me to mine others many = search (put_all, stop.work.active, stop.standing, arith)

-- where nobody is in a stop, nobody has an answer
pub active_outside : (work : Work) (standing : ℕ → Standing) → ((c : ℕ) → standing c ≡ Outside) → OnlyActiveAnswer work (λ c. answer_of (standing c))
active_outside work standing out many c idle = ap answer_of (out c)

module _ (past : List Past) (stop : Stop) (begun : List Work) (collected : List ℕ) (answers : ℕ → List ℕ) (h : PastShows past stop begun collected answers)
  where
    -- open: what was begun grows by the work
    pub past_opens : (work : Work) → stop.is_open ≡ false → ((c : ℕ) → stop.standing c ≡ Outside) → PastShows past (opened stop work) (begun ++ work ∷ [])
        collected answers
    past_opens work shut out = search (append-nil, h.answers_are, work.mask, arith)

    -- complete: the answers of this CPU grow by its answer
    pub past_completes : (me a v found : ℕ) → answer_now (stop.standing me) ≡ [] →
        (stop.work.kind ≢ One → has stop.work.active me ≡ false → v ≡ 0) →
        PastShows past (completed stop me a v found) begun collected (put answers me (answers me ++ v ∷ []))
    past_completes me a v found none_ mine = search (active_put, at_test, append-nil, arith)

    -- collect: what was collected grows by a result of the answers of its mask
    pub past_collects : (result : ℕ) → stop.is_open ≡ true → IsResult stop.work.mask (λ c. answer_of (stop.standing c)) result →
        ((c : ℕ) → answer_now (stop.standing c) ≡ cond (has stop.work.mask c) (answer_of (stop.standing c) ∷ []) []) →
        PastShows (past ++ record { work = stop.work; answer = λ c. answer_of (stop.standing c); result = result } ∷ []) (closed stop) begun
        (collected ++ result ∷ []) answers
    past_collects result open_ is all = search (all_push, h.each, works_push, append-nil, results_push, h.answers_are, answers_push, arith)
