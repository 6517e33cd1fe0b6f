-- The plan of a patch, entry by entry, and how many entries are loaded for it.
use Rattle.std.proofs.Common.{◌≡◌, ◌≢◌, ℕ, zero, suc, ◌+◌, ◌<◌, ◌≤◌, ◌==◌, Bool, true, false, cond, Some, None, List, [], ◌∷◌, ◌++◌, length, map}
use Rattle.std.proofs.Common.{slice_index, drop, inl, inr, sym, refl, ap, ◌∙◌, arith, append_assoc, drop-cons, ne_eqb}
use Rattle.std.proofs.Math.Seq.{drop-nil}
use Rattle.std.proofs.lemmas.Bool.{cases_lt, lt-ltb}
use Rattle.std.proofs.lemmas.List.{append-nil, drop_all, get_or_past, length-drop}
use Rattle.smp_labels.specs.Entries.{entry_word, entry_at}
use Rattle.smp_labels.specs.Keys.{is_on}
use Rattle.smp_labels.specs.Kinds.{kind_of, kind_word, xor}
use Rattle.smp_labels.specs.Plans.{site_change, site_changes}
use Rattle.smp_labels.specs.declared.entries.Entry.{Entry as SiteEntry}
use Rattle.smp_labels.specs.declared.patch.Place.TheVariants as place
use Rattle.smp_labels.specs.declared.words.TheConstants.{MOST_SITES}
use Rattle.smp_stop_steps.specs.Labels.{Change}
use Rattle.smp_multi.specs.StepCounts.{finding, loading}

-- one entry more
site_next : (key : ℕ) (on : Bool) (i : ℕ) (es : List ℕ) → site_changes key on i (drop i es)
    ≡ site_change key on i (entry_at (slice_index es i)) ++ site_changes key on (i + 1) (drop (i + 1) es)
site_next key on i es = elim (cases_lt i (length es)) [
  | inl low ↦ ap (site_changes key on i) (drop-cons es i 0 low)
      ∙ ap (λ n. site_change key on i (entry_at (slice_index es i)) ++ site_changes key on (i + 1) (drop n es)) (let e : suc i ≡ i + 1 = omega arith in e)
  | inr past ↦ ap (site_changes key on i) (drop_all i es past)
      ∙ sym (ap (λ n. site_change key on i (entry_at n) ++ site_changes key on (i + 1) (drop (i + 1) es)) (get_or_past es i 0 past)
      ∙ ap (site_changes key on (i + 1)) (drop_all (i + 1) es (omega arith)))
]

-- the plan so far, and what is left of it
abbrev pub PlanLeft : ℕ → Bool → ℕ → List ℕ → List Change → List Change → Type 0
PlanLeft key on i es whole plan = plan ++ site_changes key on i (drop i es) ≡ whole

pub left_more : (key : ℕ) (on : Bool) (i : ℕ) (es : List ℕ) (plan whole : List Change) (e : SiteEntry) → entry_at (slice_index es i) ≡ Some e
    → plan ++ site_changes key on i (drop i es) ≡ whole → (b : Bool) → (e.key == key) ≡ b
    → cond b (plan ++ (place.Site i, kind_word (kind_of on e.branch)) ∷ []) plan ++ site_changes key on (i + 1) (drop (i + 1) es) ≡ whole
left_more key on i es plan whole e is left b test =
    let rest = site_changes key on (i + 1) (drop (i + 1) es) in
    let one = (place.Site i, kind_word (kind_of on e.branch)) ∷ [] in
    let here : site_changes key on i (drop i es) ≡ cond b one [] ++ rest =
    site_next key on i es ∙ (ap (λ o. site_change key on i o ++ rest) is ∙ ap (λ c. cond c one [] ++ rest) test) in
    joined b plan one rest ∙ (ap (λ l. plan ++ l) (sym here) ∙ left)
  where
    joined : (b : Bool) (plan one rest : List Change) → cond b (plan ++ one) plan ++ rest ≡ plan ++ (cond b one [] ++ rest)
    joined true plan one rest = append_assoc plan one rest
    joined false plan one rest = refl

-- nothing is left behind the last entry
pub entries_end : (es : List SiteEntry) (i : ℕ) → slice_index (map entry_word es) i ≡ 0 → drop i (map entry_word es) ≡ []
entries_end [] i e = drop-nil i
entries_end (x ∷ es) zero e = absurd (omega (arith, e))
entries_end (x ∷ es) (suc i) e = entries_end es i e

pub left_none : (key : ℕ) (on : Bool) (i : ℕ) (es : List ℕ) (plan whole : List Change) → drop i es ≡ []
    → plan ++ site_changes key on i (drop i es) ≡ whole → plan ≡ whole
left_none key on i es plan whole none left = sym (append-nil plan) ∙ (sym (ap (λ l. plan ++ site_changes key on i l) none) ∙ left)

-- how many entries are loaded

-- an entry that is found is one of them
pub entry_within : (es : List ℕ) (i : ℕ) (e : SiteEntry) → entry_at (slice_index es i) ≡ Some e → i < length es
entry_within es i e is = elim (cases_lt i (length es)) [
  | inl low ↦ low
  | inr past ↦ absurd (let none : None ≡ Some e = sym (ap entry_at (get_or_past es i 0 past)) ∙ is in cc)
]

-- where none is found they have ended
pub entries_until : (es : List SiteEntry) (i : ℕ) → slice_index (map entry_word es) i ≡ 0 → length (map entry_word es) ≤ i
entries_until es i e =
    let words = map entry_word es in
    let none : length (drop i words) ≡ 0 = ap length (entries_end es i e) in
    let left = length-drop i words in
    omega arith

-- all of them, and the word behind them, or all words
pub finds_end : (n i : ℕ) → i ≤ n → n ≤ i → i < MOST_SITES → i + 1 ≡ finding n
finds_end n i few many low = let same : i ≡ n = omega arith in
    ap (λ m. m + 1) same ∙ sym (ap (λ b. cond b (n + 1) MOST_SITES) (lt-ltb n MOST_SITES (omega arith)))

-- for a key that turns on or off, and for one that does not
pub loads_all : (old new n : ℕ) → old ≢ new → is_on new ≢ is_on old → loading old new n ≡ finding n
loads_all old new n ne turns = ap (λ a. cond a 0 (cond (xor (is_on old) (is_on new)) (finding n) 0)) (ne_eqb old new ne) ∙ go (is_on old) (is_on new) turns
  where
    go : (a b : Bool) → b ≢ a → cond (xor a b) (finding n) 0 ≡ finding n
    go true true x = absurd (x refl)
    go true false x = refl
    go false true x = refl
    go false false x = absurd (x refl)
