-- Which sites of a lawful table jump, case by case.
use Rattle.std.proofs.Common.{◌≡◌, ℕ, ◌+◌, ◌*◌, ◌<◌, Bool, true, false, lt-ltb, ap, ◌∙◌, arith}
use Rattle.smp_labels.specs.Entries.{entry_at, entry_word}
use Rattle.smp_labels.specs.Keys.{is_on}
use Rattle.smp_labels.specs.Kinds.{kind_of, kind_word}
use Rattle.smp_labels.specs.Law.{IsLawful, Table, site_word}
use Rattle.smp_labels.specs.Sites.{Jumps}
use Rattle.smp_labels.proofs.Lawful.{entry_at-word}

module _ (t : Table) (l : IsLawful t) (i k : ℕ) (small : i < 16) where
  -- the word of a site with this entry, whose key is on or off
  site_is : (branch on : Bool) → t.entry i ≡ entry_word (record { key = k; branch = branch }) → is_on (t.key k) ≡ on →
      t.site i ≡ kind_word (kind_of on branch)
  site_is branch on e is =
      l.sites i small ∙ (ap (λ w. site_word t.key (entry_at w)) e ∙
      (ap (site_word t.key) (entry_at-word (record { key = k; branch = branch })) ∙ ap (λ b. kind_word (kind_of b branch)) is))

  plain : t.entry i ≡ 2 * k + 1 → t.entry i ≡ entry_word (record { key = k; branch = false })
  plain e = omega (arith, e)

  branched : t.entry i ≡ 2 * k + 2 → t.entry i ≡ entry_word (record { key = k; branch = true })
  branched e = omega (arith, e)

  pub jumps : Jumps t i k
  jumps = record {
    off = λ e none. site_is false false (plain e) (ap is_on none);
    on = λ e some. site_is false true (plain e) (lt-ltb 0 (t.key k) some);
    branch_off = λ e none. site_is true false (branched e) (ap is_on none);
    branch_on = λ e some. site_is true true (branched e) (lt-ltb 0 (t.key k) some);
  }
