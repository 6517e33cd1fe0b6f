-- Keys and sites where a store is made.
use Rattle.trace_laws.proofs.Names.{Bool, Key, LabelWords, List, None, Option, Patch, Place, Site, Some, and_parts, arith, cases_Bool, cases_eq}
use Rattle.trace_laws.proofs.Names.{cases_lt, count_at, entry_at, entry_of, eqb-false, eqb-true, false, first_from, get_or-set_other}
use Rattle.trace_laws.proofs.Names.{get_or-set_same, if◌then◌else◌, inl, inr, is_on, is_site, key_number, leb-true, length, lt-ltb}
use Rattle.trace_laws.proofs.Names.{may_nudge, min, nudged_count, patch_for, refl, set_past, site_from, site_store}
use Rattle.trace_laws.proofs.Names.{slice_index, slice_set, suc, sym, true, xor, zero, ℕ, ◌%◌, ◌+◌, ◌-◌, ◌/◌, ◌<◌, ◌==◌, ◌^◌, ◌∙◌, ◌≡◌, ◌≢◌, ◌≤◌, ◌⊎◌}
use Rattle.std.proofs.{lemmas.Bool.not-false, lemmas.Bool.not-true}
use Rattle.smp_labels.specs.Law.{site_word}
use Rattle.trace_model.specs.{Labels.front_of, Labels.is_of_key}
use Rattle.trace_laws.proofs.Stops.Ends.{first_none}

pub some_is : {X : Type 0} (x y : X) → Some x ≡ Some y → x ≡ y
some_is x y e = cc

-- a site has the kind of its key's state and its branch
abbrev pub SiteOk : LabelWords → ℕ → Type 0
SiteOk words i = slice_index words.sites i ≡ site_word (slice_index words.keys) (entry_at (slice_index words.entries i))

abbrev pub AllOk : LabelWords → Type 0
AllOk words = (i : ℕ) → i < 16 → SiteOk words i

-- All sites are so but those of a key from one on.
pub record Partial (words : LabelWords) (key : ℕ) (p : Patch) : Type 0 where
  pub on : is_on p.count ≡ is_on (count_at words key)
  pub sites : (i : ℕ) → i < 16 → (is_site words key i ≡ true → i < p.from) → SiteOk words i

-- sites stay so where no key turns on or off
pub ok_keys : (words : LabelWords) (keys : List ℕ) (i : ℕ) → ((k : ℕ) → is_on (slice_index keys k) ≡ is_on (slice_index words.keys k)) → SiteOk words i
    → SiteOk (record words { keys = keys }) i
ok_keys words keys i same ok = ok ∙ sym (search arith)

-- or where a key that is not the site's does
other_word : (none : Bool) (k : ℕ) (branch : Bool) (key : ℕ) (f g : ℕ → ℕ) → is_of_key (if none then None else Some (k, branch)) key ≡ false → ((j : ℕ) →
    j ≢ key → f j ≡ g j)
    → site_word f (if none then None else Some (record { key = k; branch = branch })) ≡ site_word g (if none then None else Some
    (record { key = k; branch = branch }))
other_word none k branch key f g other same = search (eqb-false, arith)

-- the word that a patch gives a site
turned_word : (none : Bool) (k : ℕ) (branch : Bool) (key site word : ℕ) (place : Place) (on : Bool) (f : ℕ → ℕ) →
    is_of_key (if none then None else Some (k, branch)) key ≡ true
    → site_store site on (if none then None else Some (k, branch)) ≡ Some (place, word) → on ≡ is_on (f key)
    → (place ≡ Site site) × (word ≡ site_word f (if none then None else Some (record { key = k; branch = branch })))
turned_word none k branch key site word place on f h1 h2 h3 = search (eqb-true, some_is, arith)

-- the first that passes
pub record IsFirst (passes : ℕ → Bool) (c more n : ℕ) : Type 0 where
  pub from : c ≤ n
  pub within : n < c + more
  pub passing : passes n ≡ true
  pub first : (k : ℕ) → c ≤ k → k < n → passes k ≡ false

first_by : (passes : ℕ → Bool) (c more n : ℕ) (test : Bool) → passes c ≡ test → (if test then Some c else first_from passes (c + 1) more) ≡ Some n
    → (first_from passes (c + 1) more ≡ Some n → IsFirst passes (c + 1) more n) → IsFirst passes c (suc more) n
first_by passes c more n test h1 h2 h3 = search (suc, cases_eq, arith)

pub first_is : (passes : ℕ → Bool) (c more n : ℕ) → first_from passes c more ≡ Some n → IsFirst passes c more n
unfolding first_from
first_is passes c zero n e = absurd cc
first_is passes c (suc more) n e = first_by passes c more n (passes c) refl e (λ f. first_is passes (c + 1) more n f)

pub site_is : (a b : ℕ) → Site a ≡ Site b → a ≡ b
site_is a b e = cc

pub site_stores : (site : ℕ) (on : Bool) (entry : Option (ℕ × Bool)) (next : Place × ℕ) → site_store site on entry ≡ Some next → next.0 ≡ Site site
site_stores site on entry next e = search (some_is, arith)

-- A patch turns a site next.
pub record TurnsNext (words : LabelWords) (key : ℕ) (p : Patch) (next : Place × ℕ) : Type 0 where
  pub site : ℕ
  pub counts : p.counts ≡ false
  pub turns : p.turns ≡ true
  pub found : site_from words key p.from ≡ Some site
  pub store : site_store site (is_on p.count) (entry_of words site) ≡ Some next

-- the next store of a patch: its key's count, or a site
pub front_is : (words : LabelWords) (key : ℕ) (p : Patch) (next : Place × ℕ) → front_of words key p ≡ Some next
    → ((p.counts ≡ true) × ((Key (key_number key), p.count) ≡ next)) ⊎ TurnsNext words key p next
front_is words key p next e = search (some_is, arith)

-- nothing is left of a patch
pub front_none : (words : LabelWords) (key : ℕ) (p : Patch) → front_of words key p ≡ None → (p.counts ≡ false) × (p.turns ≡ true →
    site_from words key p.from ≡ None)
front_none words key p e = search (first_is, arith)

not_true : (test : Bool) → test ≡ true → test ≡ false → ⊥
not_true test t f = cc

-- once nothing is left, each site has its kind
pub over_ok : (words : LabelWords) (key : ℕ) (p : Patch) → p.turns ≡ true → front_of words key p ≡ None → Partial words key p → AllOk words
over_ok words key p turns e part i low =
    let n = front_none words key p e in
    part.sites i low (λ is. elim (cases_lt i p.from) [
      | inl below ↦ below
      | inr past ↦ absurd (not_true (is_site words key i) is (first_none (is_site words key) p.from (16 - p.from) (n.1 turns) i past (omega arith)))
    ])

-- a site is turned
pub turned_site : (words : LabelWords) (key : ℕ) (p : Patch) (site word : ℕ) → length words.sites ≡ 16 → TurnsNext words key p (Site site, word) →
    Partial words key p
    → let q : Patch = record p { from = min (site + 1) (2 ^ 32 - 1) } in Partial (record words { sites = slice_set words.sites site word }) key q
turned_site words key p site word long t part =
    let named : Site site ≡ Site t.site = site_stores t.site (is_on p.count) (entry_of words t.site) (Site site, word) t.store in
    let same : site ≡ t.site = site_is site t.site named in
    let first = first_is (is_site words key) p.from (16 - p.from) t.site t.found in
    let w = slice_index words.entries t.site in
    let new = turned_word (w == 0) ((w - 1) / 2) ((w - 1) % 2 == 1) key t.site word (Site site) (is_on p.count)
    (slice_index words.keys) first.passing t.store part.on in
    record {
      on = part.on;
      sites = search (
        words.sites,
        new.1,
        words.keys,
        words.entries,
        same,
        part.sites,
        p.from,
        first.first,
        cases_eq,
        get_or-set_same,
        get_or-set_other,
        cases_lt,
        not_true,
        arith,
      );
    }

-- no key turns on or off where one gets a count that leaves it as it is
pub same_state : (keys : List ℕ) (key count : ℕ) → is_on count ≡ is_on (slice_index keys key) → (k : ℕ)
    → is_on (slice_index (slice_set keys key count) k) ≡ is_on (slice_index keys k)
same_state keys key count h1 k = search (cases_eq, cases_lt, get_or-set_same, set_past, get_or-set_other, arith)

-- a count that goes up or down by one leaves its key on
pub nudged_on : (up : Bool) (count : ℕ) → may_nudge up count ≡ true → is_on (nudged_count up count) ≡ is_on count
nudged_on up count e = search (and_parts, eqb-false, not-true, lt-ltb, leb-true, arith)

-- A patch that changes its key's count.
pub record Counts (words : LabelWords) (key : ℕ) (p : Patch) : Type 0 where
  pub from : p.from ≡ 0
  pub turns : p.turns ≡ xor (is_on p.count) (is_on (count_at words key))

pub partial_keys : (words : LabelWords) (keys : List ℕ) (key : ℕ) (p : Patch) → ((k : ℕ) → is_on (slice_index keys k) ≡ is_on (slice_index words.keys k))
    → Partial words key p → Partial (record words { keys = keys }) key p
partial_keys words keys key p h1 h2 = search (ok_keys, arith)

pub counts_is : (words : LabelWords) (key change : ℕ) → (patch_for words key change).counts ≡ true → Counts words key (patch_for words key change)
counts_is words key change e = search arith

xor_same : (a b : Bool) → false ≡ xor a b → a ≡ b
xor_same a b h1 = search arith

pub still : (words : LabelWords) (key change : ℕ) → (patch_for words key change).counts ≡ false → (patch_for words key change).turns ≡ true → ⊥
still words key change e t = search (eqb-true, not-false, arith)

-- its key's count is stored, and sites are to be turned, or not
pub set_turns : (words : LabelWords) (key : ℕ) (p : Patch) → AllOk words → key < length words.keys → Counts words key p
    → Partial (record words { keys = slice_set words.keys key p.count }) key (record p { counts = false })
set_turns words key p h1 h2 h3 = search (get_or-set_same, cases_Bool, other_word, get_or-set_other, arith)

pub set_rests : (words : LabelWords) (key : ℕ) (p : Patch) → AllOk words → Counts words key p → p.turns ≡ false →
    AllOk (record words { keys = slice_set words.keys key p.count })
set_rests words key p ok c none i low = search (xor_same, ok_keys, same_state, arith)
