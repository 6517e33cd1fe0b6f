-- Calls by Linux's names: of each CPU of a mask, and of all.
use Rattle.std.proofs.Common.{arith, ◌≡◌, ℕ, ◌<◌, Bool, true, not, ◌&&◌, ◌||◌, ◌==◌}
use Rattle.std.proofs.lemmas.Bool.{cases_Bool}
use Rattle.smp_words.specs.Size.{cpus}
use Rattle.smp_mask.specs.Mask.{has}
use Rattle.smp_calls.specs.Rounds.{Picks}
use Rattle.smp_calls.specs.Targets.{is_target}

-- where each CPU that is asked says yes, all that are asked are called
pub each_is_called : (says : ℕ → Bool → Type 0) (asked : ℕ → Bool) (called : ℕ) → ((c : ℕ) (answer : Bool) → says c answer → answer ≡ true)
    → ((c : ℕ) → asked c ≡ true → c < cpus) → Picks says asked called → (c : ℕ) → has called c ≡ asked c
each_is_called says asked called agrees below picks c = search (cases_Bool, arith)

-- the online CPUs of all that are online are these, with this one or without
same_target : (there here : Bool) → ((there && there) && not here) || ((true && there) && here) ≡ there
same_target there here = search (cases_Bool, arith)

pub all_are_targets : (online this c : ℕ) → is_target online online this true c ≡ has online c
all_are_targets online this c = same_target (has online c) (c == this)
