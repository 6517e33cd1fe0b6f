-- CPUs at the end of a program.
use Rattle.std.proofs.Common.{ℕ, List, [], ◌∷◌, ◌++◌}
use Rattle.std.specs.List.{AllByRecursion}
use Rattle.smp_queue.specs.declared.handler.Heard.{Heard}
use Rattle.smp_multi.specs.declared.func.Called.{Called}
use Rattle.smp_machine.specs.Crews.{ArePlayed}
use Rattle.smp_machine.specs.Members.{AreFor}
use Rattle.smp_machine.specs.MachineCpu.{MachineValue}
use Rattle.smp_machine.specs.Seats.{SeatValue}
use Rattle.smp_machine.specs.declared.crew.Played.{Played}
use Rattle.users.specs.Ends.{AreAt}

-- what follows of each for its number holds of all
pub each_back : {X : Type 0} (P : ℕ → X → Type 0) (Q : X → Type 0) (ns : List ℕ) (xs : List X) → AreFor P ns xs → ((n : ℕ) (x : X) → P n x → Q x)
    → AllByRecursion Q xs
each_back P Q [] [] all h = tt
each_back P Q (n ∷ ns) (x ∷ xs) all h = (h n x all.0, each_back P Q ns xs all.1 h)
each_back P Q [] (x ∷ xs) all h = absurd all
each_back P Q (n ∷ ns) [] all h = absurd all

-- CPUs that have played their parts are of the machine
pub all_at : {H F A : Type 0} (hears : H → Heard → H → Type 0) (runs : F → Called → F → Type 0) (begins : ℕ → H → F → Type 0)
    (plays : SeatValue H F → SeatValue H F → Type 0) (leaves : ℕ → Type 0) (m : MachineValue) (numbers : List ℕ) (back : List (Played H F A))
    → ArePlayed hears runs begins plays leaves m numbers back → AreAt m back
all_at hears runs begins plays leaves m numbers back all = each_back _ _ numbers back all (λ n p h. h.at)

-- what holds of all holds of the last
pub last_back : {X : Type 0} (Q : X → Type 0) (before : List X) (x : X) → AllByRecursion Q (before ++ x ∷ []) → Q x
last_back Q [] x all = all.0
last_back Q (y ∷ ys) x all = last_back Q ys x all.1
