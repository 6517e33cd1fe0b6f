-- Lemmas on the label law.
use Rattle.std.proofs.Common.{◌≡◌, ℕ, zero, suc, ◌+◌, ◌-◌, ◌*◌, ◌/◌, ◌%◌, ◌==◌, ◌<◌, Bool, true, false, Option, None, Some, cond, inl, inr, refl}
use Rattle.std.proofs.Common.{ne_eqb, add-one, arith}
use Rattle.std.proofs.lemmas.Bool.{cases_lt}
use Rattle.smp_labels.specs.declared.entries.Entry.{Entry}
use Rattle.smp_labels.specs.declared.words.TheConstants.{MOST_KEYS, MOST_SITES}
use Rattle.smp_labels.specs.Entries.{entry_word, entry_at}
use Rattle.smp_labels.specs.Law.{Table, site_word}

-- where no word follows a 0, none follows it further on
pub packed_by_steps : (entry : ℕ → ℕ) (n : ℕ) → ((j : ℕ) → j + 1 < n → entry j ≡ 0 → entry (j + 1) ≡ 0) → (i j : ℕ) → i < j → j < n → entry i ≡ 0 → entry j ≡ 0
packed_by_steps entry n step i zero before within ended = absurd (omega arith)
packed_by_steps entry n step i (suc j) before within ended = elim (cases_lt i j) [
  | inl further ↦ rw add-one at (step j (omega arith) (packed_by_steps entry n step i j further (omega arith) ended))
  | inr here ↦
      let same : i ≡ j = omega arith in
      rw add-one at (step j (omega arith) (rw same at ended))
]

entry_at_parts : (key : ℕ) (branch : Bool) → entry_at (2 * key + cond branch 1 0 + 1) ≡ Some (record { key = key; branch = branch })
entry_at_parts key true =
    let some : (2 * key + 1 + 1 == 0) ≡ false = ne_eqb _ 0 (λ e. omega arith) in
    let half : (2 * key + 1 + 1 - 1) / 2 ≡ key = omega arith in
    let bit : (2 * key + 1 + 1 - 1) % 2 ≡ 1 = omega arith in
    rw (some, half, bit) refl
entry_at_parts key false =
    let some : (2 * key + 0 + 1 == 0) ≡ false = ne_eqb _ 0 (λ e. omega arith) in
    let half : (2 * key + 0 + 1 - 1) / 2 ≡ key = omega arith in
    let bit : (2 * key + 0 + 1 - 1) % 2 ≡ 0 = omega arith in
    rw (some, half, bit) refl

-- a word is read as it was written
pub entry_at-word : (e : Entry) → entry_at (entry_word e) ≡ Some e
entry_at-word e = entry_at_parts e.key e.branch

-- a site's word speaks of the state of its own key alone
pub site_word_at : (a b : ℕ → ℕ) → ((k : ℕ) → a k ≡ b k) → (e : Option Entry) → site_word a e ≡ site_word b e
site_word_at a b same None = refl
site_word_at a b same (Some e) = rw (same e.key) refl

-- two tables have the same words
pub record AreAlike (a b : Table) : Type 0 where
  pub keys : (k : ℕ) → k < MOST_KEYS → b.key k ≡ a.key k
  pub entries : (i : ℕ) → i < MOST_SITES → b.entry i ≡ a.entry i
  pub sites : (i : ℕ) → i < MOST_SITES → b.site i ≡ a.site i
