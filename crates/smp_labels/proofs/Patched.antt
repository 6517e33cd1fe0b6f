-- A plan leads from a lawful table to the lawful table with its key changed.
use Rattle.std.proofs.Common.{◌≡◌, ◌≢◌, ℕ, zero, suc, ◌+◌, ◌-◌, ◌<◌, ◌==◌, nat_lt, eqb-true, ltb-true, Bool, true, false, not, cond, Option, None, Some, List}
use Rattle.std.proofs.Common.{[], ◌∷◌, ◌++◌, length, get_or, inl, inr, refl, sym, ap, subst, ◌∙◌, ne_eqb, eq-eqb, arith}
use Rattle.std.proofs.lemmas.Bool.{cases_eq, cases_lt}
use Rattle.std.proofs.lemmas.List.{get_or_past, length-append}
use Rattle.std.proofs.Math.Bool.{beq}
use Rattle.smp_labels.specs.declared.entries.Entry.{Entry}
use Rattle.smp_labels.specs.declared.patch.Place.{Place}
use Rattle.smp_labels.specs.declared.patch.Place.TheVariants.{Key, Site}
use Rattle.smp_labels.specs.declared.words.TheConstants.{MOST_KEYS, MOST_SITES}
use Rattle.smp_labels.specs.Keys.{is_on, count_or, count_left, IsKeyWord}
use Rattle.smp_labels.specs.declared.keys.Change.{Change}
use Rattle.smp_labels.specs.declared.keys.Change.TheVariants.{Off, On, Up, Down}
use Rattle.smp_labels.specs.Kinds.{xor, kind_of, kind_word}
use Rattle.smp_labels.specs.Entries.{entry_at}
use Rattle.smp_labels.specs.Law.{Table, site_word, IsLawful}
use Rattle.smp_words.specs.Put.{put}
use Rattle.smp_words.proofs.Puts.{put_same, put_other}
use Rattle.smp_labels.specs.Plans.{stored, applied, is_of, site_change, site_changes, patch_of, plan_of, AreEntriesOf, SetsKey, StandsPartWay}
use Rattle.smp_labels.proofs.Stores.{applied-append, entries_kept, LeaveOut, leave_out_each, leave_out-append, place_kept, AreDistinct}
use Rattle.smp_labels.proofs.Stores.{distinct_front, all_made}

-- the change of a site is of no other place
change_elsewhere : (p : Place) (key : ℕ) (on : Bool) (i : ℕ) (e : Option Entry) → Site i ≢ p → LeaveOut p (site_change key on i e)
change_elsewhere p key on i None other = tt
change_elsewhere p key on i (Some e) other =
    elim (e.key == key) as (λ b. LeaveOut p (cond b ((Site i, kind_word (kind_of on e.branch)) ∷ []) [])) [ true ↦ (other, tt) | false ↦ tt ]

change_none : (key : ℕ) (on : Bool) (i : ℕ) (e : Option Entry) → is_of key e ≡ false → site_change key on i e ≡ []
change_none key on i None other = refl
change_none key on i (Some e) other = rw other refl

-- the changes from site i on leave out the keys and the sites before
changes_leave_key : (key : ℕ) (on : Bool) (i : ℕ) (entries : List ℕ) (k : ℕ) → LeaveOut (Key k) (site_changes key on i entries)
changes_leave_key key on i [] k = tt
changes_leave_key key on i (word ∷ rest) k =
    leave_out-append (Key k) (site_change key on i (entry_at word)) (site_changes key on (i + 1) rest)
    (change_elsewhere (Key k) key on i (entry_at word) (λ e. cc)) (changes_leave_key key on (i + 1) rest k)

changes_leave_before : (key : ℕ) (on : Bool) (i : ℕ) (entries : List ℕ) (j : ℕ) → j < i → LeaveOut (Site j) (site_changes key on i entries)
changes_leave_before key on i [] j before = tt
changes_leave_before key on i (word ∷ rest) j before =
    leave_out-append (Site j) (site_change key on i (entry_at word)) (site_changes key on (i + 1) rest)
    (change_elsewhere (Site j) key on i (entry_at word) (λ e. let same : i ≡ j = cc in omega arith)) (changes_leave_before key on (i + 1) rest j (omega arith))

-- they leave out the sites of other keys
changes_leave_other : (key : ℕ) (on : Bool) (i : ℕ) (entries : List ℕ) (j : ℕ) → is_of key (entry_at (get_or entries j 0)) ≡ false
    → LeaveOut (Site (i + j)) (site_changes key on i entries)
changes_leave_other key on i [] j other = tt
changes_leave_other key on i (word ∷ rest) zero other =
    rw (change_none key on i (entry_at word) other) (changes_leave_before key on (i + 1) rest (i + 0) (omega arith))
changes_leave_other key on i (word ∷ rest) (suc j) other =
    let place : i + suc j ≡ i + 1 + j = omega arith in
    leave_out-append (Site (i + suc j)) (site_change key on i (entry_at word)) (site_changes key on (i + 1) rest)
    (change_elsewhere (Site (i + suc j)) key on i (entry_at word) (λ e. let same : i ≡ i + suc j = cc in omega arith))
    (subst (λ n. LeaveOut (Site n) (site_changes key on (i + 1) rest)) (sym place) (changes_leave_other key on (i + 1) rest j other))

distinct_one_more : (key : ℕ) (on : Bool) (i : ℕ) (e : Option Entry) (rest : List (Place × ℕ)) → LeaveOut (Site i) rest → AreDistinct rest
    → AreDistinct (site_change key on i e ++ rest)
distinct_one_more key on i None rest out distinct = distinct
distinct_one_more key on i (Some e) rest out distinct =
    elim (e.key == key) as (λ b. AreDistinct (cond b ((Site i, kind_word (kind_of on e.branch)) ∷ []) [] ++ rest)) [
      | true ↦ (out, distinct)
      | false ↦ distinct
    ]

-- they are of different sites
changes_distinct : (key : ℕ) (on : Bool) (i : ℕ) (entries : List ℕ) → AreDistinct (site_changes key on i entries)
changes_distinct key on i [] = tt
changes_distinct key on i (word ∷ rest) =
    distinct_one_more key on i (entry_at word) (site_changes key on (i + 1) rest) (changes_leave_before key on (i + 1) rest i (omega arith))
    (changes_distinct key on (i + 1) rest)

-- they give each site of the key its new word
changes_make : (key : ℕ) (on : Bool) (i : ℕ) (entries : List ℕ) (t : Table) (j : ℕ) (e : Entry) → entry_at (get_or entries j 0) ≡ Some e → e.key ≡ key →
    (applied (site_changes key on i entries) t).site (i + j) ≡ kind_word (kind_of on e.branch)
changes_make key on i [] t j e is of = cc
changes_make key on i (word ∷ rest) t zero e is of =
    let here : i + 0 ≡ i = omega arith in
    rw (here, is, eq-eqb e.key key of)
    (place_kept (site_changes key on (i + 1) rest) (stored (Site i) (kind_word (kind_of on e.branch)) t) (Site i)
    (changes_leave_before key on (i + 1) rest i (omega arith)) ∙ put_same t.site i (kind_word (kind_of on e.branch)))
changes_make key on i (word ∷ rest) t (suc j) e is of =
    let place : i + suc j ≡ i + 1 + j = omega arith in
    rw (applied-append (site_change key on i (entry_at word)) (site_changes key on (i + 1) rest) t, place)
    (changes_make key on (i + 1) rest (applied (site_change key on i (entry_at word)) t) j e is of)

patch_distinct : (key word : ℕ) (entries : List ℕ) → AreDistinct (patch_of key word entries)
patch_distinct key word entries = (changes_leave_key key (is_on word) 0 entries key, changes_distinct key (is_on word) 0 entries)

module _ (key word : ℕ) (entries : List ℕ) (t : Table) where
  -- the key has its new word, and the others are as before
  patched_key : (k : ℕ) → (applied (patch_of key word entries) t).key k ≡ put t.key key word k
  patched_key k = place_kept (site_changes key (is_on word) 0 entries) (stored (Key key) word t) (Key k) (changes_leave_key key (is_on word) 0 entries k)

  -- the sites of other keys are as before
  patched_other : AreEntriesOf entries t → (i : ℕ) → is_of key (entry_at (t.entry i)) ≡ false → (applied (patch_of key word entries) t).site i ≡ t.site i
  patched_other are i other =
      let loaded : is_of key (entry_at (get_or entries i 0)) ≡ false = elim (cases_lt i MOST_SITES) [
        | inl within ↦ rw (are.read i within) at other
        | inr past ↦ rw (get_or_past entries i 0 (omega (arith, are.few))) refl
      ] in
      let here : 0 + i ≡ i = omega arith in
      let out : LeaveOut (Site i) (site_changes key (is_on word) 0 entries) =
      subst (λ n. LeaveOut (Site n) (site_changes key (is_on word) 0 entries)) here (changes_leave_other key (is_on word) 0 entries i loaded) in
      place_kept (patch_of key word entries) t (Site i) ((λ e. cc), out)

  -- the sites of the key have the kind of its new state
  patched_own : AreEntriesOf entries t → (i : ℕ) (e : Entry) → i < MOST_SITES → entry_at (t.entry i) ≡ Some e → e.key ≡ key →
      (applied (patch_of key word entries) t).site i ≡ kind_word (kind_of (is_on word) e.branch)
  patched_own are i e within is of =
      let here : 0 + i ≡ i = omega arith in
      subst (λ n. (applied (patch_of key word entries) t).site n ≡ kind_word (kind_of (is_on word) e.branch)) here
      (changes_make key (is_on word) 0 entries (stored (Key key) word t) i e (rw (are.read i within) at is) of)

  patched_site : AreEntriesOf entries t → (i : ℕ) (e : Option Entry) → i < MOST_SITES → entry_at (t.entry i) ≡ e → t.site i ≡ site_word t.key e →
      (applied (patch_of key word entries) t).site i ≡ site_word (applied (patch_of key word entries) t).key e
  patched_site are i None within is before = patched_other are i (rw is refl) ∙ before
  patched_site are i (Some e) within is before = elim (cases_eq e.key key) [
    | inl of ↦ rw (patched_own are i e within is of, patched_key e.key, of, put_same t.key key word) refl
    | inr other ↦ rw (patched_other are i (rw is (ne_eqb e.key key other)), patched_key e.key, put_other t.key key word e.key other) before
  ]

  patched_in_form : IsKeyWord word → IsLawful t → (k : ℕ) → k < MOST_KEYS → IsKeyWord ((applied (patch_of key word entries) t).key k)
  patched_in_form in_form lawful k within = elim (cases_eq k key) [
    | inl same ↦ rw (patched_key k, same, put_same t.key key word) in_form
    | inr other ↦ rw (patched_key k, put_other t.key key word k other) (lawful.keys k within)
  ]

  -- a patch leads from a lawful table to the lawful table with the key at its new word
  pub patch_leads : IsKeyWord word → IsLawful t → AreEntriesOf entries t → SetsKey key word t (applied (patch_of key word entries) t)
  patch_leads in_form lawful are =
      let kept = entries_kept (patch_of key word entries) t in
      record {
        lawful = record {
          keys = patched_in_form in_form lawful;
          entries = λ i within. rw (kept i) (lawful.entries i within);
          packed = λ i j before within ended. kept j ∙ lawful.packed i j before within (sym (kept i) ∙ ended);
          sites = λ i within. rw (kept i) (patched_site are i (entry_at (t.entry i)) within refl (lawful.sites i within));
        };
        set = patched_key key ∙ put_same t.key key word;
        keys = λ k other. patched_key k ∙ put_other t.key key word k other;
        entries = kept;
        sites = patched_other are;
      }

pub xor_same : (a b : Bool) → xor a b ≡ false → a ≡ b
xor_same true true same = refl
xor_same true false same = cc
xor_same false b same = sym same

-- a count with which the key is on or off as before leaves the table lawful
module _ (key new : ℕ) (t : Table) (in_form : IsKeyWord new) (same : is_on new ≡ is_on (t.key key)) (lawful : IsLawful t) where
  counted_site : (e : Option Entry) → site_word (put t.key key new) e ≡ site_word t.key e
  counted_site None = refl
  counted_site (Some e) = elim (cases_eq e.key key) [
    | inl of ↦ rw (of, put_same t.key key new, same) refl
    | inr other ↦ rw (put_other t.key key new e.key other) refl
  ]

  pub count_lawful : IsLawful (stored (Key key) new t)
  count_lawful = record {
    keys = λ k within. elim (cases_eq k key) [
      | inl here ↦ rw (here, put_same t.key key new) in_form
      | inr other ↦ rw (put_other t.key key new k other) (lawful.keys k within)
    ];
    entries = lawful.entries;
    packed = lawful.packed;
    sites = λ i within. lawful.sites i within ∙ sym (counted_site (entry_at (t.entry i)));
  }

module _ (key new : ℕ) (entries : List ℕ) (t : Table) (in_form : IsKeyWord new) (lawful : IsLawful t) (are : AreEntriesOf entries t) where
  -- a plan leads to the lawful table with the key at its new count
  pub plan_leads : SetsKey key new t (applied (plan_of key (t.key key) new entries) t)
  plan_leads = go (t.key key == new) refl (xor (is_on (t.key key)) (is_on new)) refl
    where
      go : (a : Bool) → (t.key key == new) ≡ a → (b : Bool) → xor (is_on (t.key key)) (is_on new) ≡ b →
          SetsKey key new t (applied (cond a [] (cond b (patch_of key new entries) ((Key key, new) ∷ []))) t)
      go true e b x = record {
        lawful = lawful;
        set = eqb-true (t.key key) new e;
        keys = λ k _. refl;
        entries = λ i. refl;
        sites = λ i _. refl;
      }
      go false e true x = patch_leads key new entries t in_form lawful are
      go false e false x = record {
        lawful = count_lawful key new t in_form (sym (xor_same (is_on (t.key key)) (is_on new) x)) lawful;
        set = put_same t.key key new;
        keys = λ k other. put_other t.key key new k other;
        entries = λ i. refl;
        sites = λ i _. refl;
      }

  plan_distinct : AreDistinct (plan_of key (t.key key) new entries)
  plan_distinct =
      elim (t.key key == new) as (λ a. AreDistinct (cond a [] (cond (xor (is_on (t.key key)) (is_on new)) (patch_of key new entries) ((Key key, new) ∷ [])))) [
        | true ↦ tt
        | false ↦ elim (xor (is_on (t.key key)) (is_on new)) as (λ b. AreDistinct (cond b (patch_of key new entries) ((Key key, new) ∷ [])))
            [ true ↦ patch_distinct key new entries | false ↦ (tt, tt) ]
      ]

  -- and each part of it leaves the rest to do
  pub plan_part_way : (front rest : List (Place × ℕ)) → plan_of key (t.key key) new entries ≡ front ++ rest → StandsPartWay key new front rest t
  plan_part_way front rest parts = record {
    made = all_made front t (distinct_front front rest (subst AreDistinct parts plan_distinct));
    kept = λ p out. place_kept front t p (leave_out_each p front out);
    entries = entries_kept front t;
    leads = subst (λ u. SetsKey key new t u) (ap (λ plan. applied plan t) parts ∙ applied-append front rest t) plan_leads;
  }

-- what a change leaves is a count
pub left_in_form : (change : Change) (n : ℕ) → IsKeyWord n → IsKeyWord (count_left change n)
left_in_form Off n fits = omega arith
left_in_form On n fits = elim (n == 0) as (λ b. IsKeyWord (cond b 1 n)) [ true ↦ omega arith | false ↦ fits ]
left_in_form Up n fits = go (nat_lt n 65535) refl
  where
    go : (b : Bool) → nat_lt n 65535 ≡ b → IsKeyWord (count_or n (cond b (Some (n + 1)) None))
    go true e = let low = ltb-true n 65535 e in omega arith
    go false e = fits
left_in_form Down n fits = elim (n == 0) as (λ b. IsKeyWord (count_or n (cond b None (Some (n - 1))))) [ true ↦ fits | false ↦ omega arith ]

-- the key is stored first, and once
in_middle : (made : List (Place × ℕ)) (k n : ℕ) (rest : List (Place × ℕ)) → LeaveOut (Key k) (made ++ (Key k, n) ∷ rest) → ⊥
in_middle [] k n rest out = out.0 refl
in_middle (change ∷ made) k n rest out = in_middle made k n rest out.1

head_only : (key word : ℕ) (sites : List (Place × ℕ)) → ((k : ℕ) → LeaveOut (Key k) sites) → (made : List (Place × ℕ)) (k n : ℕ) (rest : List (Place × ℕ)) →
    made ++ (Key k, n) ∷ rest ≡ (Key key, word) ∷ sites → (made ≡ []) × (k ≡ key) × (n ≡ word)
head_only key word sites out [] k n rest e =
    let pair : (Key k, n) ≡ (Key key, word) = cc in
    let keys : Key k ≡ Key key = ap (λ (x : Place × ℕ). x.0) pair in
    (refl, (let same : k ≡ key = cc in same), ap (λ (x : Place × ℕ). x.1) pair)
head_only key word sites out (change ∷ made) k n rest e =
    let tail : made ++ (Key k, n) ∷ rest ≡ sites = cc in
    absurd (in_middle made k n rest (subst (LeaveOut (Key k)) (sym tail) (out k)))

pub plan_key_first : (key old new : ℕ) (entries : List ℕ) (made : List (Place × ℕ)) (k n : ℕ) (rest : List (Place × ℕ)) →
    plan_of key old new entries ≡ made ++ (Key k, n) ∷ rest → (made ≡ []) × (k ≡ key) × (n ≡ new)
plan_key_first key old new entries made k n rest e = go (old == new) (xor (is_on old) (is_on new)) e
  where
    go : (a b : Bool) → cond a [] (cond b (patch_of key new entries) ((Key key, new) ∷ [])) ≡ made ++ (Key k, n) ∷ rest → (made ≡ []) × (k ≡ key) × (n ≡ new)
    go true b e = absurd (let long = ap length e ∙ length-append made ((Key k, n) ∷ rest) in omega (arith, long))
    go false true e = head_only key new (site_changes key (is_on new) 0 entries) (changes_leave_key key (is_on new) 0 entries) made k n rest (sym e)
    go false false e = head_only key new [] (λ _. tt) made k n rest (sym e)

-- the plan, by its two tests
pub plan_tests : (key old new : ℕ) (entries : List ℕ) (a : Bool) → (old == new) ≡ a → (b : Bool) → xor (is_on old) (is_on new) ≡ b →
    plan_of key old new entries ≡ cond a [] (cond b (patch_of key new entries) ((Key key, new) ∷ []))
plan_tests key old new entries a e b x = rw (e, x) refl

xor_beq : (a b c : Bool) → beq b a ≡ c → xor a b ≡ not c
xor_beq true true c e = ap not e
xor_beq true false c e = ap not e
xor_beq false true c e = ap not e
xor_beq false false c e = ap not e

module _ (key old new : ℕ) (entries : List ℕ) where
  -- where the count stays
  pub plan_same : (old == new) ≡ true → plan_of key old new entries ≡ []
  plan_same e = plan_tests key old new entries true e (xor (is_on old) (is_on new)) refl

  -- where the key stays on
  pub plan_counts : (old == new) ≡ false → beq (is_on new) (is_on old) ≡ true → plan_of key old new entries ≡ (Key key, new) ∷ []
  plan_counts e same = plan_tests key old new entries false e false (xor_beq (is_on old) (is_on new) true same)

  -- where it goes on or off
  pub plan_patches : (old == new) ≡ false → beq (is_on new) (is_on old) ≡ false → plan_of key old new entries ≡ patch_of key new entries
  plan_patches e other = plan_tests key old new entries false e true (xor_beq (is_on old) (is_on new) false other)
