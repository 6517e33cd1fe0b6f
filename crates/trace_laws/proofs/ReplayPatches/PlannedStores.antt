-- The stores that the model of events has left of a patch are those that the machine plans.
use Rattle.trace_laws.proofs.Names.{Bool, LabelWords, List, None, Option, Patch, Some, [], arith, cases_eq, entry_at, eq-eqb, false, false≢true, first_from}
use Rattle.trace_laws.proofs.Names.{get_or, is_on, is_site, length, min, ne_eqb, patch_to, refl, site_from, suc, sym, true, true≢false, zero, ℕ, ◌++◌, ◌+◌}
use Rattle.trace_laws.proofs.Names.{◌-◌, ◌/◌, ◌<◌, ◌==◌, ◌^◌, ◌∙◌, ◌∷◌, ◌≡◌, ◌≤◌}
use Rattle.trace_laws.proofs.ReplayNames.{Leads, count_or, plan_of, site_change, site_changes}
use Rattle.trace_model.proofs.{Least.first_hit, Least.first_miss}

module _ (w : LabelWords) (key count : ℕ) where
  abbrev on : Bool
  on = is_on count

  -- a patch that has stored the count, and turns the sites from this one on
  abbrev turning : ℕ → Patch
  turning from = record { count = count; counts = false; turns = true; from = from; at_edge = false }

  -- the entries of the model from site i on
  abbrev Are : ℕ → List ℕ → Type 0
  Are i es = (j : ℕ) → i ≤ j → j < 16 → get_or w.entries j 0 ≡ get_or es (j - i) 0

  none_from : (more i : ℕ) → ((j : ℕ) → i ≤ j → j < i + more → is_site w key j ≡ false) → first_from (is_site w key) i more ≡ None
  unfolding first_from
  none_from zero i none = refl
  none_from (suc more) i none = rw (none i (omega arith) (omega arith)) (none_from more (i + 1) (λ j l b. none j (omega arith) (omega arith)))

  no_entry : (i : ℕ) → Are i [] → (j : ℕ) → i ≤ j → j < 16 → is_site w key j ≡ false
  no_entry i are j l b = rw (are j l b) refl

  past_end : (i : ℕ) → i ≤ 16 → Are i [] → site_from w key i ≡ None
  past_end i small are = none_from (16 - i) i (λ j l b. no_entry i are j l (omega arith))

  next_are : (i word : ℕ) (rest : List ℕ) → Are i (word ∷ rest) → Are (i + 1) rest
  next_are i word rest are j l b = search arith

  -- one site more, where the later ones are known
  one_more : (word : ℕ) (rest : List ℕ) (i from : ℕ) → i < 16 → Are i (word ∷ rest) → site_from w key from ≡ site_from w key i
      → ((n : ℕ) → site_from w key n ≡ site_from w key (i + 1) → Leads w key (turning n) (site_changes key (is_on count) (i + 1) rest))
      → Leads w key (turning from) (site_changes key (is_on count) i (word ∷ rest))
  one_more word rest i from small are same later = go (word == 0) ((word - 1) / 2 == key) refl refl
    where
      here : get_or w.entries i 0 ≡ word
      here = search arith

      bounded : min (i + 1) (2 ^ 32 - 1) ≡ i + 1
      bounded = omega (arith, small)

      go : (none ours : Bool) → (word == 0) ≡ none → ((word - 1) / 2 == key) ≡ ours
          → Leads w key (turning from) (site_change key (is_on count) i (entry_at word) ++ site_changes key (is_on count) (i + 1) rest)
      go true ours e k = rw e (later from (same ∙ sym (first_miss (is_site w key) i 16 small (rw (here, e) refl))))
      go false false e k = rw (e, k) (later from (same ∙ sym (first_miss (is_site w key) i 16 small (rw (here, e) k))))
      go false true e k =
          let passes : is_site w key i ≡ true = rw (here, e) k in
          let found : site_from w key from ≡ Some i = same ∙ first_hit (is_site w key) i 16 small passes in
          rw (e, k) ((rw (found, here, e) refl), (rw bounded (later (i + 1) refl)))

  pub sites_lead : (es : List ℕ) (i from : ℕ) → i + length es ≤ 16 → Are i es → site_from w key from ≡ site_from w key i
      → Leads w key (turning from) (site_changes key (is_on count) i es)
  sites_lead [] i from few are same = rw (same, past_end i (omega (arith, few)) are) refl
  sites_lead (word ∷ rest) i from few are same =
      one_more word rest i from (omega (arith, few)) are same
      (λ n e. sites_lead rest (i + 1) n (omega (arith, few)) (next_are i word rest are) e)

-- a patch that finds this count, and is to leave that one, or finds it at the end of its range
pub plan_leads : (w : LabelWords) (key old : ℕ) (new : Option ℕ) (es : List ℕ) → key < 4 → length es ≤ 16
    → ((j : ℕ) → j < 16 → get_or w.entries j 0 ≡ get_or es j 0) → Leads w key (patch_to old new) (plan_of key old (count_or old new) es)
plan_leads w key old new es h1 h2 h3 = search (eq-eqb, cases_eq, true≢false, min, sites_lead, ne_eqb, false≢true, arith)
