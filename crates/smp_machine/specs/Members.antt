-- The CPUs of a machine before they begin, each with what was made for it.
use Rattle.std.specs.Prelude.{◌≡◌, ℕ, ◌≤◌, true, false, Option, Some, None, List, [], ◌∷◌}
use Rattle.smp_mask.specs.Mask.{has}
use Rattle.smp_machine.specs.MachineCpu.{MachineValue, BootValue, fresh_place, is_left}
use Rattle.smp_machine.specs.declared.member.Member.{Member}

-- the CPU of this number, which is online and has done nothing, with the handler and the stop function with which it begins
pub record IsMember {H F A : Type 0} (begins : ℕ → H → F → Type 0) (m : MachineValue) (number : ℕ) (x : Member H F A) : Type 0 where
  pub online : has m.calls.online number ≡ true
  pub fresh : x.cpu ≡ fresh_place m number
  pub made : begins number x.handler x.functions

-- each item is for the number at its place, and there are no others
abbrev pub AreFor : {X : Type 0} → (ℕ → X → Type 0) → List ℕ → List X → Type 0
AreFor P [] [] = Unit {0}
AreFor P (n ∷ ns) (x ∷ xs) = P n x × AreFor P ns xs
AreFor P _ _ = ⊥

-- the CPUs of these numbers, in this order
abbrev pub AreMembers : {H F A : Type 0} → (ℕ → H → F → Type 0) → MachineValue → List ℕ → List (Member H F A) → Type 0
AreMembers begins m numbers all = AreFor (λ n x. IsMember begins m n x) numbers all

-- the CPUs from a number on were not given out yet
pub record AreLeftFrom (m : MachineValue) (b : BootValue) (n : ℕ) : Type 0 where
  pub machine_is : b.machine ≡ m
  pub left : (cpu : ℕ) → n ≤ cpu → has m.calls.online cpu ≡ true → is_left b cpu ≡ true

-- the CPU of a number, where it is online
abbrev pub IsNext : {H F A : Type 0} → (ℕ → H → F → Type 0) → MachineValue → ℕ → Option (Member H F A) → Type 0
IsNext begins m n None = has m.calls.online n ≡ false
IsNext begins m n (Some x) = IsMember begins m n x
