-- Which CPUs a call to many is for.
use Rattle.std.specs.Prelude.{◌≡◌, ℕ, Bool, true, false, not, ◌&&◌, ◌||◌, ◌==◌, List, filter}
use Rattle.smp_mask.specs.Mask.{has, members, IsLeast}

-- the CPUs of the mask that are online, without this one, and with this one where it counts and the mask has it
abbrev pub is_target : ℕ → ℕ → ℕ → Bool → ℕ → Bool
is_target mask online this local c = ((has mask c && has online c) && not (c == this)) || ((local && has mask c) && c == this)

-- the members of a mask but this CPU, ascending: those that are called through their queues
abbrev pub remote : ℕ → ℕ → List ℕ
remote this mask = filter (λ c. not (c == this)) (members mask)

-- any CPU of the mask: this one where the mask has it, else the lowest that is online
pub record IsAny (mask online this cpu : ℕ) : Type 0 where
  pub own : has mask this ≡ true → cpu ≡ this
  pub lowest : has mask this ≡ false → IsLeast (λ c. has mask c && has online c) cpu

-- there is no such CPU
pub record HasNone (mask online this : ℕ) : Type 0 where
  pub not_own : has mask this ≡ false
  pub none_online : (c : ℕ) → (has mask c && has online c) ≡ false
