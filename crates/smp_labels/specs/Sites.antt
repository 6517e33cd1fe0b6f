-- Which sites of a lawful table jump, case by case.
use Rattle.std.specs.Prelude.{◌≡◌, ℕ, ◌+◌, ◌*◌, ◌<◌}
use Rattle.smp_labels.specs.Law.{IsLawful, Table}

-- the entry of site i has key k, and the branch 0 or 1; the key is off where its count is 0
pub record Jumps (t : Table) (i k : ℕ) : Type 0 where
  pub off : t.entry i ≡ 2 * k + 1 → t.key k ≡ 0 → t.site i ≡ 0
  pub on : t.entry i ≡ 2 * k + 1 → 0 < t.key k → t.site i ≡ 1
  pub branch_off : t.entry i ≡ 2 * k + 2 → t.key k ≡ 0 → t.site i ≡ 1
  pub branch_on : t.entry i ≡ 2 * k + 2 → 0 < t.key k → t.site i ≡ 0

abbrev pub SitesJump : Type 0
SitesJump = (t : Table) → IsLawful t → (i k : ℕ) → i < 16 → Jumps t i k
