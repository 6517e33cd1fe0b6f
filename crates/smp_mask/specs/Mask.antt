-- A set of CPUs is the number that has bit c where CPU c is a member.
use Rattle.std.specs.Prelude.{◌≡◌, ℕ, zero, suc, ◌<◌, ◌≤◌, Bool, true, false, ◌==◌, List, [], ◌∷◌, ◌++◌, if◌then◌else◌, IsTrue, Option, MatchOption, IfSome}
use Rattle.std.specs.Iterator.{YieldsFirst}
use Rattle.std.specs.Int.{bit_at}
use Rattle.smp_mask.specs.declared.mask.TheConstants.{NR_CPUS}

-- whether a CPU is in the set
abbrev pub has : ℕ → ℕ → Bool
has mask cpu = bit_at mask cpu == 1

-- the members below k, ascending
unfoldable pub members_below : ℕ → ℕ → List ℕ
members_below mask zero = []
members_below mask (suc k) = members_below mask k ++ (if has mask k then k ∷ [] else [])

-- the members, ascending
abbrev pub members : ℕ → List ℕ
members mask = members_below mask NR_CPUS

-- the least number that passes
pub record IsLeast (passes : ℕ → Bool) (n : ℕ) : Type 0 where
  pub passing : IsTrue (passes n)
  pub least : (c : ℕ) → IsTrue (passes c) → n ≤ c

-- the least number that passes, or none where none does
abbrev pub FindsLeast : Option ℕ → (ℕ → Bool) → Type 0
FindsLeast found passes = MatchOption found ((c : ℕ) → passes c ≡ false) (λ n. IsLeast passes n)

-- the least of the members left came, and left the others; or none was left
abbrev pub TakesLeast : ℕ → Option ℕ → ℕ → Type 0
TakesLeast left came next = YieldsFirst members left came next × IfSome came (λ cpu. (cpu < NR_CPUS) × (has left cpu ≡ true))
