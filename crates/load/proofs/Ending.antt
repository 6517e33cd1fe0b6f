-- CPUs at the end of a torture.
use Rattle.std.proofs.Common.{◌≡◌, ℕ, Bool, true, false, List, [], ◌∷◌, ◌++◌, refl, sym, ap, ◌∙◌}
use Rattle.std.proofs.lemmas.List.{map-append}
use Rattle.smp_mask.specs.Mask.{has, members}
use Rattle.smp_mask.proofs.Sets.{same_members}
use Rattle.smp_queue.specs.declared.handler.Heard.{Heard}
use Rattle.smp_multi.specs.declared.func.Called.{Called}
use Rattle.smp_machine.specs.Crews.{ArePlayed}
use Rattle.smp_machine.specs.MachineCpu.{MachineValue, IsAt}
use Rattle.smp_machine.specs.Seats.{SeatValue}
use Rattle.smp_machine.specs.declared.crew.Played.{Played}
use Rattle.load.specs.Ends.{AreAt, AreFirst, returned}

-- CPUs that have played their parts are of the machine
pub all_at : {H F A : Type 0} (hears : H → Heard → H → Type 0) (runs : F → Called → F → Type 0) (begins : ℕ → H → F → Type 0)
    (plays : SeatValue H F → SeatValue H F → Type 0) (leaves : ℕ → Type 0) (m : MachineValue) (numbers : List ℕ) (back : List (Played H F A))
    → ArePlayed hears runs begins plays leaves m numbers back → AreAt m back
all_at hears runs begins plays leaves m [] [] all = tt
all_at hears runs begins plays leaves m (n ∷ ns) (p ∷ ps) all = (all.0.at, all_at hears runs begins plays leaves m ns ps all.1)
all_at hears runs begins plays leaves m [] (p ∷ ps) all = absurd all
all_at hears runs begins plays leaves m (n ∷ ns) [] all = absurd all

-- they are those of these numbers
pub all_returned : {H F A : Type 0} (hears : H → Heard → H → Type 0) (runs : F → Called → F → Type 0) (begins : ℕ → H → F → Type 0)
    (plays : SeatValue H F → SeatValue H F → Type 0) (leaves : ℕ → Type 0) (m : MachineValue) (numbers : List ℕ) (back : List (Played H F A))
    → ArePlayed hears runs begins plays leaves m numbers back → returned back ≡ numbers
all_returned hears runs begins plays leaves m [] [] all = refl
all_returned hears runs begins plays leaves m (n ∷ ns) (p ∷ ps) all =
    ap (λ k. k ∷ returned ps) all.0.number_is ∙ ap (λ ks. n ∷ ks) (all_returned hears runs begins plays leaves m ns ps all.1)
all_returned hears runs begins plays leaves m [] (p ∷ ps) all = absurd all
all_returned hears runs begins plays leaves m (n ∷ ns) [] all = absurd all

-- the last of them is
pub last_at : {H F A : Type 0} (m : MachineValue) (before : List (Played H F A)) (p : Played H F A) → AreAt m (before ++ p ∷ []) → IsAt m p.cpu
last_at m [] p all = all.0
last_at m (x ∷ xs) p all = last_at m xs p all.1

-- its number is the last of theirs
pub last_returned : {H F A : Type 0} (before : List (Played H F A)) (p : Played H F A)
    → returned (before ++ p ∷ []) ≡ returned before ++ p.cpu.calls.number ∷ []
last_returned before p = map-append (λ x. x.cpu.calls.number) before (p ∷ [])

-- two sets of the CPUs below n have the same members
same_bool : (p q : Bool) → (p ≡ true → q ≡ true) → (q ≡ true → p ≡ true) → p ≡ q
same_bool true q f g = sym (f refl)
same_bool false true f g = g refl
same_bool false false f g = refl

pub first_members : (n a b : ℕ) → AreFirst n a → AreFirst n b → members a ≡ members b
first_members n a b x y = ap members (same_members a b (λ c. same_bool (has a c) (has b c) (λ e. (y c).1 ((x c).0 e)) (λ e. (x c).1 ((y c).0 e))))
