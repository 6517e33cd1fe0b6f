-- The words of the model after a store of a patch, and which stores these are.
use Rattle.trace_laws.proofs.Names.{Bool, Key, LabelWords, None, Option, Patch, Place, Site, Some, arith, cases_eq, cond, count_at, eq-eqb, false, first_from}
use Rattle.trace_laws.proofs.Names.{get_or-set_other, get_or-set_same, is_on, key_number, kind_word, length, length-set, ne_eqb, refl, site_at}
use Rattle.trace_laws.proofs.Names.{site_word, stored, suc, true, zero, ℕ, ◌+◌, ◌<◌, ◌≡◌}
use Rattle.trace_laws.proofs.ReplayNames.{Word, front_of, label_word, put_word}
use Rattle.smp_labels.specs.{declared.kinds.SiteKind.SiteKind, declared.kinds.SiteKind.TheVariants.Jmp, declared.kinds.SiteKind.TheVariants.Nop}
use Rattle.smp_words.specs.declared.word.Word.TheVariants as word

-- the number that is found is in the range
found_below : (p : ℕ → Bool) (c n f : ℕ) → first_from p c n ≡ Some f → (f < c + n) × (0 < n)
unfolding first_from
found_below p c zero f e = absurd cc
found_below p c (suc more) f e = by_test (p c) e (found_below p (c + 1) more f)
  where
    by_test : (b : Bool) → cond b (Some c) (first_from p (c + 1) more) ≡ Some f
        → (first_from p (c + 1) more ≡ Some f → (f < c + 1 + more) × (0 < more)) → (f < c + suc more) × (0 < suc more)
    by_test true e later =
        let same : c ≡ f = first_same e in
        (omega (arith, same), omega arith)
      where
        first_same : Some c ≡ Some f → c ≡ f
        first_same z = cc
    by_test false e later =
        (omega (arith, ((later e).0)), omega arith)

kind_back : (k : SiteKind) → site_word (is_on (kind_word k)) ≡ kind_word k
kind_back Nop = refl
kind_back Jmp = refl

-- what a store of a patch is: its key's count, or the word of a site
abbrev pub IsStoreOf : ℕ → Place → ℕ → Type 0
IsStoreOf key (Key k) word = k ≡ key_number key
IsStoreOf key (Site i) word = (i < 16) × (site_word (is_on word) ≡ word)

-- a store, and its place and its word
abbrev store : Place → ℕ → Option (Place × ℕ)
store place word = Some (place, word)

abbrev place_in : Option (Place × ℕ) → Place
place_in None = Key 0
place_in (Some change) = change.0

abbrev word_in : Option (Place × ℕ) → ℕ
word_in None = 0
word_in (Some change) = change.1

pub front_is : (words : LabelWords) (key : ℕ) (patch : Patch) (place : Place) (word : ℕ) → front_of words key patch ≡ Some (place, word)
    → IsStoreOf key place word
front_is words key patch place word h1 = search (kind_back, found_below, arith)

-- it fits the lists of keys and sites
abbrev pub IsThere : Place → Type 0
IsThere (Key k) = k < 4
IsThere (Site i) = i < 16

pub stored_keys_are : (place : Place) (word : ℕ) (words : LabelWords) → length (stored place word words).keys ≡ length words.keys
stored_keys_are place word words = search (length-set, arith)

pub stored_sites_are : (place : Place) (word : ℕ) (words : LabelWords) → length (stored place word words).sites ≡ length words.sites
stored_sites_are place word words = search (length-set, arith)

module _ (words : LabelWords) (at : Word → ℕ) where
  pub stored_keys : (place : Place) (n : ℕ) → IsThere place → length words.keys ≡ 4 → ((key : ℕ) → count_at words key ≡ at (word.Key key)) → (key : ℕ)
      → count_at (stored place n words) key ≡ put_word at (label_word place) n (word.Key key)
  stored_keys place n h1 h2 h3 key = search (cases_eq, eq-eqb, get_or-set_same, ne_eqb, get_or-set_other, arith)

  pub stored_sites : (place : Place) (n : ℕ) → IsThere place → length words.sites ≡ 16 → ((site : ℕ) → site_at words site ≡ at (word.Site site)) → (site : ℕ)
      → site_at (stored place n words) site ≡ put_word at (label_word place) n (word.Site site)
  stored_sites place n h1 h2 h3 site = search (cases_eq, eq-eqb, get_or-set_same, ne_eqb, get_or-set_other, arith)
