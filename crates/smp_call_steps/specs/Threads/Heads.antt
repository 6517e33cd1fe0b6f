-- What a CPU finds in a head while it posts.
use Rattle.std.specs.Prelude.{◌≢◌, ℕ, ◌+◌, List, [], ◌∷◌, ◌++◌}
use Rattle.smp_call_steps.specs.Names.{HeadSeen}
use Rattle.smp_call_steps.specs.Names.head

-- the numbers that a post has found in its head: one by its load, and then one by each compare-exchange that it has lost
pub data Found : Type 0 where
  by_load : ℕ → Found
  by_exchange : Found → ℕ → Found

-- the last of them
abbrev pub last_found : Found → ℕ
last_found (by_load n) = n
last_found (by_exchange f n) = n

-- how many exchanges it has lost
abbrev pub times_lost : Found → ℕ
times_lost (by_load n) = 0
times_lost (by_exchange f n) = times_lost f + 1

-- what a CPU has seen of heads then: each exchange has expected the number that was found last
abbrev pub heads_with : List HeadSeen → Found → List HeadSeen
heads_with heads (by_load n) = heads ++ head.Loaded n ∷ []
heads_with heads (by_exchange f n) = heads_with heads f ++ head.Exchanged (last_found f) n ∷ []

-- the same with an exchange that has won, since it found the number that was found last
abbrev pub heads_won : List HeadSeen → Found → List HeadSeen
heads_won heads f = heads_with heads f ++ head.Exchanged (last_found f) (last_found f) ∷ []

-- each exchange that was lost has found another number than it expected
abbrev pub AreOthers : Found → Type 0
AreOthers (by_load n) = Unit {0}
AreOthers (by_exchange f n) = AreOthers f × (n ≢ last_found f)
