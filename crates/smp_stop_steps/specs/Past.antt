-- What was begun, answered and collected: the results of stops.
use Rattle.std.specs.Prelude.{◌≡◌, ◌≢◌, ℕ, false, cond, List, [], ◌∷◌, ◌++◌}
use Rattle.smp_stop_steps.specs.{Names.has, Names.One, Names.Work, Stop.Standing, Stop.Completed, Stop.Stop, Stop.answer_of, Laws.IsResult}

-- a stop that was collected: its work, what each CPU of its mask answered, and its result
pub record Past : Type 0 where
  pub work : Work
  pub answer : ℕ → ℕ
  pub result : ℕ

-- in a stop of several CPUs those that are not active answer 0
abbrev pub OnlyActiveAnswer : Work → (ℕ → ℕ) → Type 0
OnlyActiveAnswer work answer = work.kind ≢ One → (c : ℕ) → has work.active c ≡ false → answer c ≡ 0

-- the result of each is one of its answers, which are those of active CPUs
abbrev pub AllPast : List Past → Type 0
AllPast [] = Unit {0}
AllPast (x ∷ rest) = (IsResult x.work.mask x.answer x.result × OnlyActiveAnswer x.work x.answer) × AllPast rest

abbrev pub works_of : List Past → List Work
works_of [] = []
works_of (x ∷ rest) = x.work ∷ works_of rest

abbrev pub results_of : List Past → List ℕ
results_of [] = []
results_of (x ∷ rest) = x.result ∷ results_of rest

-- what a CPU answered, in the stops whose mask has it
abbrev pub answers_of : ℕ → List Past → List ℕ
answers_of c [] = []
answers_of c (x ∷ rest) = cond (has x.work.mask c) (x.answer c ∷ answers_of c rest) (answers_of c rest)

-- and in the stop that is open, once it has completed
abbrev pub answer_now : Standing → List ℕ
answer_now (Completed a v) = v ∷ []
answer_now _ = []

abbrev pub work_now : Stop → List Work
work_now stop = cond stop.is_open (stop.work ∷ []) []

-- the results of stops, of one source: the works begun are those collected and the open one, each result is one of the
-- answers of its own work, each CPU of its mask gave it exactly one, and in the open stop too only active CPUs answer
pub record PastShows (past : List Past) (stop : Stop) (begun : List Work) (collected : List ℕ) (answers : ℕ → List ℕ) : Type 0 where
  pub each : AllPast past
  pub begun_are : begun ≡ works_of past ++ work_now stop
  pub collected_are : collected ≡ results_of past
  pub answers_are : (c : ℕ) → answers c ≡ answers_of c past ++ answer_now (stop.standing c)
  pub active : OnlyActiveAnswer stop.work (λ c. answer_of (stop.standing c))

abbrev pub HasPast : Stop → List Work → List ℕ → (ℕ → List ℕ) → Type 0
HasPast stop begun collected answers = (past : List Past) × PastShows past stop begun collected answers
