-- The table as it is made: its words show that nothing was begun, and each CPU knows its part of that.
use Rattle.std.proofs.Common.{◌≡◌, ℕ, zero, suc, ◌+◌, ◌-◌, ◌<◌, ◌≤◌, nat_lt, ltb-true, ltb-false, Bool, true, false, cond, Some, None, option_map}
use Rattle.std.proofs.Common.{List, [], ◌∷◌, ◌++◌, length, length-append, map, get_or, replicate, sym, subst, refl, ap, ◌∙◌, arith}
use mathlib.Core.Option.{some, some-injective, some-ne-none}
use lib.ListN.{get_elem?}
use Rattle.std.proofs.lemmas.List.{length-map, length-replicate, get_or_append_left}
use Rattle.atomic_table.specs.Table.{opening}
use Rattle.smp_labels.specs.Entries.{entry_word}
use Rattle.smp_labels.specs.Labels.{AreLabels, first_site}
use Rattle.smp_labels.specs.Law.{IsLawful}
use Rattle.smp_labels.specs.declared.words.TheConstants.{MOST_KEYS, MOST_SITES}
use Rattle.smp_words.specs.Layout.{number_at}
use Rattle.smp_words.specs.Limits.{AreLimits}
use Rattle.smp_words.specs.Size.{cpus}
use Rattle.smp_words.specs.declared.size.TheConstants.{NR_CPUS, SLOT_WORDS}
use Rattle.smp_words.proofs.Zeros.{zero_at, get_or-same}
use Rattle.smp_stop_steps.specs.Threads.Known.{setup_in, fresh}
use Rattle.smp_mask.specs.Mask.{has}
use Rattle.smp_stop_steps.specs.AnswerWords.{AreI32Words}
use Rattle.smp_stop_steps.proofs.Promises.Reached.{nothing_reached}
use Rattle.smp_multi.specs.Lives.{Lives, StaysWithin}
use Rattle.smp_stop_steps.specs.Labels.{labels_in}
use Rattle.smp_stop_steps.specs.Shows.{StopShows}
use Rattle.smp_stop_steps.specs.Stages.{stop_outside}
use Rattle.smp_stop_steps.specs.State.{no_stops}
use Rattle.smp_stop_steps.specs.Table.{StopWords, stop_number, slot_cell}
use Rattle.smp_stop_steps.proofs.Steps.Facts.{no_stops_shown}
use Rattle.smp_stop_steps.proofs.TheMachine.Opened.{opened_shown}
use Rattle.smp_stop_steps.proofs.Knows.Parts.{fresh_sees}
use Rattle.smp_multi.specs.Names.{Word, Gate, Slot, Key, Entry, Site, Free, Shut, StopSetting, StopSeatView, Maker}
use Rattle.smp_multi.specs.Names.field
use Rattle.smp_multi.specs.declared.cell.TheConstants.{FIRST_ENTRY, FIRST_SITE}
use Rattle.smp_multi.specs.Cells.{place_of, number_in}
use Rattle.smp_multi.specs.Rule.{Ruled, SeatKnows}
use Rattle.smp_multi.proofs.Cells.{offset_low}

-- nothing is past the end of a list
past : (xs : List ℕ) (i : ℕ) → length xs ≤ i → get_or xs i 0 ≡ 0
past [] i l = refl
past (x ∷ xs) zero l = absurd (omega arith)
past (x ∷ xs) (suc i) l = past xs i (omega arith)

back : (xs ys : List ℕ) (i j : ℕ) → j ≡ length xs + i → get_or (xs ++ ys) j 0 ≡ get_or ys i 0
back [] ys i j e = ap (λ n. get_or ys n 0) (let same : j ≡ i = omega (arith, e) in same)
back (x ∷ xs) ys i zero e = absurd (omega arith)
back (x ∷ xs) ys i (suc j) e = back xs ys i j (omega arith)

-- a list of site words has a word for each site that there can be
site_words : {A : Type 0} (f : A → ℕ) (es : List A) → length es ≤ MOST_SITES → length (map f es ++ replicate {A = ℕ} (MOST_SITES - length es) 0) ≡ MOST_SITES
site_words {A} f es l =
    let a = length-append (map f es) (replicate {A = ℕ} (MOST_SITES - length es) 0) in
    let b = length-map es f in
    let c = length-replicate {A = ℕ} (MOST_SITES - length es) 0 in omega arith

-- the number at a cell, where there is one
number_if : (b : Bool) (x place n : ℕ) (words : List ℕ) → (b ≡ true → get_or words place 0 ≡ n) → (b ≡ false → n ≡ 0)
    → number_at words (option_map (λ _. place) (cond b (Some x) None)) ≡ n
number_if true x place n words there absent = there refl
number_if false x place n words there absent = sym (absent refl)

-- the words of a table, as they are laid: zeros, the entries, and the sites
module _ (zeros entries sites : List ℕ) (all : (i : ℕ) → get_or zeros i 0 ≡ 0) (n0 : length zeros ≡ FIRST_ENTRY) (ne : length entries ≡ MOST_SITES)
    (ns : length sites ≡ MOST_SITES) (n1 : length (zeros ++ entries) ≡ FIRST_SITE) where
  abbrev words : List ℕ
  words = (zeros ++ entries) ++ sites

  -- the same, as the pure machine has them
  abbrev table : StopWords
  table = record { gate = 0; slots = replicate SLOT_WORDS 0; keys = replicate MOST_KEYS 0; entries = entries; sites = sites }

  zero_here : (i : ℕ) → i < FIRST_ENTRY → get_or ((zeros ++ entries) ++ sites) i 0 ≡ 0
  zero_here i l = get_or_append_left (zeros ++ entries) sites 0 i (omega arith) ∙ (get_or_append_left zeros entries 0 i (omega arith) ∙ all i)

  entry_here : (i : ℕ) → i < MOST_SITES → get_or ((zeros ++ entries) ++ sites) (FIRST_ENTRY + i) 0 ≡ get_or entries i 0
  entry_here i l = get_or_append_left (zeros ++ entries) sites 0 (FIRST_ENTRY + i) (omega arith) ∙ back zeros entries i (FIRST_ENTRY + i) (omega arith)

  site_here : (i : ℕ) → i < MOST_SITES → get_or ((zeros ++ entries) ++ sites) (FIRST_SITE + i) 0 ≡ get_or sites i 0
  site_here i l = back (zeros ++ entries) sites i (FIRST_SITE + i) (omega arith)

  word_same : (w : Word) → number_in ((zeros ++ entries) ++ sites) w ≡ stop_number
      (record { gate = 0; slots = replicate SLOT_WORDS 0; keys = replicate MOST_KEYS 0; entries = entries; sites = sites }) w
  word_same Gate = zero_here 0 (omega arith)
  word_same (Slot s f) =
      number_if (nat_lt s NR_CPUS) _ (place_of (Slot s f)) 0 ((zeros ++ entries) ++ sites)
      (λ e. let l = ltb-true s NR_CPUS e in let m = offset_low f in zero_here (place_of (Slot s f)) (omega arith)) (λ _. refl)
      ∙ sym (zero_at SLOT_WORDS (slot_cell s f))
  word_same (Key k) =
      number_if (nat_lt k MOST_KEYS) _ (place_of (Key k)) 0 ((zeros ++ entries) ++ sites)
      (λ e. let l = ltb-true k MOST_KEYS e in zero_here (place_of (Key k)) (omega arith)) (λ _. refl) ∙ sym (get_or-same 0 MOST_KEYS k)
  word_same (Entry i) =
      number_if (nat_lt i MOST_SITES) _ (place_of (Entry i)) (get_or entries i 0) ((zeros ++ entries) ++ sites)
      (λ e. entry_here i (ltb-true i MOST_SITES e)) (λ e. past entries i (let l = ltb-false i MOST_SITES e in omega arith))
  word_same (Site i) =
      number_if (nat_lt i MOST_SITES) _ (place_of (Site i)) (get_or sites i 0) ((zeros ++ entries) ++ sites)
      (λ e. site_here i (ltb-true i MOST_SITES e)) (λ e. past sites i (let l = ltb-false i MOST_SITES e in omega arith))
  word_same _ = refl

  laid_shown : (k : StopSetting) (nr : ℕ) → AreLimits nr k.online → AreLabels k.labels.keys k.labels.entries
      → entries ≡ map entry_word k.labels.entries ++ replicate (MOST_SITES - length k.labels.entries) 0 →
      IsLawful (labels_in (stop_number (record { gate = 0; slots = replicate SLOT_WORDS 0; keys = replicate MOST_KEYS 0; entries = entries; sites = sites }))) →
      StopShows (setup_in k) no_stops (number_in ((zeros ++ entries) ++ sites)) (λ _. Free) (λ _. Shut)
  laid_shown k nr limits are is lawful =
      let t : StopWords = record { gate = 0; slots = replicate SLOT_WORDS 0; keys = replicate MOST_KEYS 0; entries = entries; sites = sites } in
      let shown = opened_shown k.online k.labels t (replicate cpus stop_outside) limits.member
      (λ c e. let low = limits.below c e in let few = limits.within in omega arith) are refl refl is lawful refl refl in
      subst (λ (at : Word → ℕ). StopShows (setup_in k) no_stops at (λ _. Free) (λ _. Shut)) (λ i w. sym (word_same w) i)
      (no_stops_shown (setup_in k) (stop_number t) shown.shows.setup refl (λ s. zero_at SLOT_WORDS (slot_cell s field.Roll)) shown.shows.present.entries lawful
      (λ j. get_or-same 0 MOST_KEYS j))

  results_zero : AreI32Words (number_in ((zeros ++ entries) ++ sites))
  results_zero s = let zero_ = word_same (Slot s field.Result) ∙ zero_at SLOT_WORDS (slot_cell s field.Result) in omega (arith, zero_)

-- what the table is made of
pub record AreLaid (k : StopSetting) (nr : ℕ) (entries sites : List ℕ) : Type 0 where
  pub limits : AreLimits nr k.online
  pub labels : AreLabels k.labels.keys k.labels.entries
  pub entries_are : entries ≡ map entry_word k.labels.entries ++ replicate (MOST_SITES - length k.labels.entries) 0
  pub lawful : IsLawful (labels_in
      (stop_number (record { gate = 0; slots = replicate SLOT_WORDS 0; keys = replicate MOST_KEYS 0; entries = entries; sites = sites })))
  pub entries_sized : length entries ≡ MOST_SITES
  pub sites_sized : length sites ≡ MOST_SITES

pub are_laid : (k : StopSetting) (nr : ℕ) (keys entries sites : List ℕ) → AreLimits nr k.online → AreLabels k.labels.keys k.labels.entries
    → keys ≡ replicate MOST_KEYS 0 →
    entries ≡ map entry_word k.labels.entries ++ replicate (MOST_SITES - length k.labels.entries) 0
    → sites ≡ map first_site k.labels.entries ++ replicate (MOST_SITES - length k.labels.entries) 0 →
    IsLawful (labels_in (stop_number (record { gate = 0; slots = replicate SLOT_WORDS 0; keys = keys; entries = entries; sites = sites })))
    → AreLaid k nr entries sites
are_laid k nr keys entries sites limits labels off entries_are sites_are lawful = record {
  limits = limits;
  labels = labels;
  entries_are = entries_are;
  lawful =
      subst (λ (ks : List ℕ). IsLawful
      (labels_in (stop_number (record { gate = 0; slots = replicate SLOT_WORDS 0; keys = ks; entries = entries; sites = sites })))) off lawful;
  entries_sized = ap length entries_are ∙ site_words entry_word _ labels.few_sites;
  sites_sized = ap length sites_are ∙ site_words first_site _ labels.few_sites;
}

pub shows_none : (k : StopSetting) (nr : ℕ) (entries sites : List ℕ) → AreLaid k nr entries sites
    → StopShows (setup_in k) no_stops (number_in ((replicate FIRST_ENTRY 0 ++ entries) ++ sites)) (λ _. Free) (λ _. Shut)
shows_none k nr entries sites a =
    let zeros : List ℕ = replicate FIRST_ENTRY 0 in
    let n0 : length zeros ≡ FIRST_ENTRY = length-replicate {A = ℕ} FIRST_ENTRY 0 in
    let n1 = length-append zeros entries in
    let ne = a.entries_sized in
    laid_shown zeros entries sites (get_or-same {A = ℕ} 0 FIRST_ENTRY) n0 ne a.sites_sized (omega arith) k nr a.limits a.labels a.entries_are a.lawful

-- its result words are 0, and nobody has done anything
pub nothing_done : (k : StopSetting) (nr : ℕ) (entries sites : List ℕ) → AreLaid k nr entries sites
    → StaysWithin k no_stops (number_in ((replicate FIRST_ENTRY 0 ++ entries) ++ sites)) (λ _. Free) (λ _. Shut)
nothing_done k nr entries sites a =
    let zeros : List ℕ = replicate FIRST_ENTRY 0 in
    let n0 : length zeros ≡ FIRST_ENTRY = length-replicate {A = ℕ} FIRST_ENTRY 0 in
    let n1 = length-append zeros entries in
    let ne = a.entries_sized in
    record {
      results = results_zero zeros entries sites (get_or-same {A = ℕ} 0 FIRST_ENTRY) n0 ne a.sites_sized (omega arith);
      offline = λ cpu low off. fresh_sees k cpu low;
      beyond = λ c l. (refl, refl);
    }

-- each CPU that has done nothing knows its part
pub lives_fresh : (k : StopSetting) (nr : ℕ) (entries sites : List ℕ) → AreLaid k nr entries sites → (cpu : ℕ) → cpu < cpus → has k.online cpu ≡ true
    → Lives (fresh k cpu)
lives_fresh k nr entries sites a cpu low on = record {
  stops = no_stops;
  at = number_in ((replicate FIRST_ENTRY 0 ++ entries) ++ sites);
  reached = nothing_reached (setup_in k) (number_in ((replicate FIRST_ENTRY 0 ++ entries) ++ sites)) (shows_none k nr entries sites a);
  seat = λ _. Free;
  source = λ _. Shut;
  shown = shows_none k nr entries sites a;
  sees = fresh_sees k cpu low;
  within = nothing_done k nr entries sites a;
  online = on;
}

pub starts : {S : Type 0} (k : StopSetting) (nr : ℕ) (entries sites : List ℕ) → AreLaid k nr entries sites
    → Ruled {S = S} k (opening ((replicate FIRST_ENTRY 0 ++ entries) ++ sites) [] (Maker 0 k))
starts {S} k nr entries sites a =
    let zeros : List ℕ = replicate FIRST_ENTRY 0 in
    let n0 : length zeros ≡ FIRST_ENTRY = length-replicate {A = ℕ} FIRST_ENTRY 0 in
    let n1 = length-append zeros entries in
    let n2 = length-append (zeros ++ entries) sites in
    let ne = a.entries_sized in
    let ns = a.sites_sized in
    record {
      stops = no_stops;
      reached = nothing_reached (setup_in k) (number_in ((replicate FIRST_ENTRY 0 ++ entries) ++ sites)) (shows_none k nr entries sites a);
      seat = λ _. Free;
      source = λ _. Shut;
      place = λ _. 0;
      next = 0;
      wide = omega arith;
      shown = shows_none k nr entries sites a;
      each_seat = each;
      absent = λ cpu l low. fresh_sees k cpu low;
      within = nothing_done k nr entries sites a;
    }
  where
    each : (id : ℕ) (v : StopSeatView) → get_elem? (Maker 0 k ∷ []) id ≡ some v → SeatKnows k no_stops (λ _. Free) (λ _. Shut) (λ _. 0) 0 id v
    each zero v e = subst (SeatKnows k no_stops (λ _. Free) (λ _. Shut) (λ _. 0) 0 0) (some-injective (Maker 0 k) v e) (refl, refl, refl)
    each (suc id) v e = absurd (some-ne-none v (sym e))
