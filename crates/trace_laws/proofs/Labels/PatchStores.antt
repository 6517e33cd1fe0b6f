-- A patch stores: what holds of patches, and of keys and sites, still does.
use Rattle.trace_laws.proofs.Names.{Bool, Key, LabelWords, None, Ok, Option, Patch, Place, Seen, Site, Some, StateValue, Stop, Task, and_parts, ap, arith}
use Rattle.trace_laws.proofs.Names.{cases_Bool, cases_eq, count_at, entry_of, eqb-true, false, has, in_patch, inl, inr, is_on, is_store, key_number, length}
use Rattle.trace_laws.proofs.Names.{length-set, made_store, may_nudge, min, next_store, nudge_by, nudged, nudged_count, nudged_word, patch_by, patch_for}
use Rattle.trace_laws.proofs.Names.{patch_left, patch_or, popped, reads_by, refl, slice_set, stop_at, subst, sym, to_be, true, with_patch, with_stop, with_word}
use Rattle.trace_laws.proofs.Names.{ℕ, ◌&&◌, ◌+◌, ◌-◌, ◌<◌, ◌==◌, ◌^◌, ◌∙◌, ◌≡◌, ◌≢◌, ◌⊎◌}
use Rattle.trace_model.specs.declared.reason.Reason.TheVariants as reason
use Rattle.trace_model.specs.Stops.{is_place}
use Rattle.trace_laws.proofs.Labels.Patches.{AtPatch, AtRest, Labelled, Live, PatchAt, held_in, patch_round}
use Rattle.trace_laws.proofs.Labels.StoredWords.{AllOk, Counts, Partial, TurnsNext, counts_is, front_is, nudged_on, ok_keys, partial_keys, same_state}
use Rattle.trace_laws.proofs.Labels.StoredWords.{set_rests, set_turns, site_stores, some_is, still, turned_site}
use Rattle.trace_laws.proofs.{Calls.MadeSteps.both_made, Calls.MadeSteps.passed, Labels.PatchEvents.labelled_end, Stops.CpusInStops.Rounds}
use Rattle.trace_laws.proofs.{Stops.CpusInStops.stop_changed, Stops.CpusInStops.stop_kept, Stops.Phases.StoresIn, Stops.Phases.in_patch_is}
use Rattle.trace_laws.proofs.{Stops.StopEvents.actor_below, Stops.StopEvents.ne_truth}

-- the state after a store
abbrev stored_to : ℕ → Patch → Place → ℕ → StateValue → StateValue
stored_to number patch place word s = with_patch number (popped patch place) (with_word place word s)

-- the CPU that stores is in the stop of the patch that has more to store
same_number : (seen : ℕ → Seen) (work : ℕ → Option Task) (s : StateValue) (cpu : ℕ) → Rounds seen work s → Labelled s → (i : StoresIn s cpu) →
    (a : AtPatch s) → a.number ≡ i.number
same_number seen work s cpu r l i a =
    let below = actor_below s cpu i.number r.cpus_are r.away i.inside in
    let w = (r.at i.number i.low cpu below).in_stop i.inside in
    let mine = (l.patches i.number i.low).all w.is_open i.kind_is in
    let other = (l.patches a.number a.low).all a.live.is_open a.live.kind_is in
    let in_other : has (stop_at s a.number).task.mask cpu ≡ true = ap (λ x. has x cpu) (other.mask_is ∙ sym mine.mask_is) ∙ w.member in
    let h = held_in seen work s a.number cpu r a.low a.live.is_open (patch_round (stop_at s a.number).task.kind a.live.kind_is) a.live.at below in_other in
    some_is a.number i.number (sym h.0 ∙ i.inside)

-- once it has stored, its patch has more to store, or not
live_now : (seen : ℕ → Seen) (work : ℕ → Option Task) (s : StateValue) (cpu : ℕ) (to : Option Patch) (q : Patch) → Rounds seen work s → Labelled s →
    (i : StoresIn s cpu)
    → to ≡ Some q → q.turns ≡ true → Live (record (stop_at s i.number) { patch = to }) q
live_now seen work s cpu to q h1 h2 i h3 h4 = search (actor_below, arith)

-- the patch of the CPU that stores is at RUN
live_is : (seen : ℕ → Seen) (work : ℕ → Option Task) (s : StateValue) (cpu : ℕ) (p : Patch) → Rounds seen work s → Labelled s → (i : StoresIn s cpu)
    → (stop_at s i.number).patch ≡ Some p → p.turns ≡ true → Live (stop_at s i.number) p
live_is seen work s cpu p r l i is turns =
    let stop = stop_at s i.number in
    let e : record stop { patch = Some p } ≡ stop = ap (λ x. record stop { patch = x }) (sym is) in
    subst (λ (x : Stop). Live x p) e (live_now seen work s cpu (Some p) p r l i refl turns)

-- what is known of a patch that has stored
stored_patch : (s : StateValue) (cpu : ℕ) (to : Patch) → Labelled s → (i : StoresIn s cpu) → to.counts ≡ false →
    PatchAt s.setting (record (stop_at s i.number) { patch = Some to })
stored_patch s cpu to h1 i h2 = search (some_is, arith)

patches_after : (s : StateValue) (words : LabelWords) (number : ℕ) (to : Stop) → length s.stops ≡ 64 → Labelled s → PatchAt s.setting to → (other : ℕ) →
    other < 64
    → other ≡ number ⊎ other ≢ number → PatchAt s.setting (stop_at (with_stop number (record s { words = words }) to) other)
patches_after s words number to h1 h2 h3 other h4 h5 = search (stop_changed, stop_kept, arith)

-- the sites of a patch are turned, or it is at rest
at_patch : (s : StateValue) (words : LabelWords) (number : ℕ) (to : Stop) (q : Patch) → length s.stops ≡ 64 → number < 64 → Live to q →
    Partial words to.task.func q
    → AtPatch (with_stop number (record s { words = words }) to)
at_patch s words number to q long low live part =
    let st : stop_at (with_stop number (record s { words = words }) to) number ≡ to = stop_changed number (record s { words = words }) to (rw long low) in
    record { number = number; low = low; p = q; live = rw st live; partial = rw st part }

at_rest : (s : StateValue) (words : LabelWords) (number : ℕ) (to : Stop) → length s.stops ≡ 64 → AllOk words
    → ((other : ℕ) → other < 64 → (p : Patch) → Live (stop_at s other) p → ⊥) → ((p : Patch) → Live to p → ⊥) →
    AtRest (with_stop number (record s { words = words }) to)
at_rest s words number to h1 h2 h3 h4 = search (cases_eq, stop_changed, stop_kept, arith)

-- a key's count is stored: the patch was not known
key_either : (seen : ℕ → Seen) (work : ℕ → Option Task) (s : StateValue) (cpu : ℕ) (known : Option Patch) → Rounds seen work s → Labelled s →
    (i : StoresIn s cpu)
    → (stop_at s i.number).patch ≡ known → let stop = stop_at s i.number in let key = stop.task.func in
    let p = patch_or known (patch_for s.words (key_number key) stop.task.arg) in p.counts ≡ true → key_number key ≡ key → key < 4
    → let t = with_stop i.number (record s { words = record s.words { keys = slice_set s.words.keys key p.count } }) (record stop {
      patch = Some
          (record p { counts = false });
    }) in
    AtRest t ⊎ AtPatch t
key_either seen work s cpu (Some q) r l i is counts key_is low = absurd (ne_truth q.counts counts ((l.patches i.number i.low).known q is))
key_either seen work s cpu None r l i is counts key_is low =
    let stop = stop_at s i.number in
    let key = stop.task.func in
    let p = patch_for s.words (key_number key) stop.task.arg in
    let c : Counts s.words key p = subst (λ (k : ℕ). Counts s.words k p) key_is (counts_is s.words (key_number key) stop.task.arg counts) in
    let q : Patch = record p { counts = false } in
    let words : LabelWords = record s.words { keys = slice_set s.words.keys key p.count } in
    let to = record stop { patch = Some q } in
    elim l.either [
      | inl rest ↦ elim (cases_Bool p.turns) [
        | inl turns ↦ inr (at_patch s words i.number to q r.stops_are i.low (live_now seen work s cpu (Some q) q r l i refl turns)
            (set_turns s.words key p rest.ok (rw l.keys_are low) c))
        | inr rests ↦ inl (at_rest s words i.number to r.stops_are (set_rests s.words key p rest.ok c rests) rest.none
            (λ x live. let e : q ≡ x = some_is q x live.known in ne_truth x.turns live.turns (ap (λ y. y.turns) (sym e) ∙ rests)))
      ]
      | inr a ↦ absurd (let e = same_number seen work s cpu r l i a in let k : (stop_at s i.number).patch ≡ Some a.p = (let z = a.live.known in rw e at z) in
          let f : None ≡ Some a.p = sym is ∙ k in cc)
    ]

-- a site is turned: the patch was known, and had more to store
site_either : (seen : ℕ → Seen) (work : ℕ → Option Task) (s : StateValue) (cpu site word : ℕ) (known : Option Patch) → Rounds seen work s → Labelled s →
    (i : StoresIn s cpu)
    → (stop_at s i.number).patch ≡ known → let stop = stop_at s i.number in let key = stop.task.func in
    let p = patch_or known (patch_for s.words (key_number key) stop.task.arg) in TurnsNext s.words key p (Site site, word)
    → let t = with_stop i.number (record s { words = record s.words { sites = slice_set s.words.sites site word } }) (record stop {
      patch = Some
          (record p { from = min (site + 1) (2 ^ 32 - 1) });
    }) in
    AtRest t ⊎ AtPatch t
site_either seen work s cpu site word None r l i is turns =
    let stop = stop_at s i.number in absurd (still s.words (key_number stop.task.func) stop.task.arg turns.counts turns.turns)
site_either seen work s cpu site word (Some p) r l i is turns =
    let stop = stop_at s i.number in
    let key = stop.task.func in
    let q : Patch = record p { from = min (site + 1) (2 ^ 32 - 1) } in
    let words : LabelWords = record s.words { sites = slice_set s.words.sites site word } in
    let to = record stop { patch = Some q } in
    elim l.either [
      | inl rest ↦ absurd (rest.none i.number i.low p (live_is seen work s cpu p r l i is turns.turns))
      | inr a ↦
          (let e = same_number seen work s cpu r l i a in
          let known : stop.patch ≡ Some a.p = (let z = a.live.known in rw e at z) in
          let mine : a.p ≡ p = some_is a.p p (sym known ∙ is) in
          let old : Partial s.words key a.p = (let z = a.partial in rw e at z) in
          let part : Partial s.words key p = rw mine at old in
          inr (at_patch s words i.number to q r.stops_are i.low (live_now seen work s cpu (Some q) q r l i refl turns.turns)
          (turned_site s.words key p site word l.sites_are turns part)))
    ]

place_key : (a b : ℕ) (n word : ℕ) → is_store (Key a, n) (Key b) word ≡ true → (a ≡ b) × (n ≡ word)
place_key a b n word e = let p = and_parts (a == b) (n == word) e in (eqb-true a b p.0, eqb-true n word p.1)

place_site : (next : Place × ℕ) (site word : ℕ) → is_store next (Site site) word ≡ true → next ≡ (Site site, word)
place_site next site word h1 = search (and_parts, eqb-true, arith)

-- a site is not a key
site_no_key : (words : LabelWords) (key : ℕ) (p : Patch) (k word : ℕ) (next : Place × ℕ) → TurnsNext words key p next → is_store next (Key k) word ≡ true → ⊥
site_no_key words key p k word next t e =
    let named : next.0 ≡ Site t.site = site_stores t.site (is_on p.count) (entry_of words t.site) next t.store in
    let f : (is_place (Site t.site) (Key k) && (next.1 == word)) ≡ true = rw named at e in cc

labelled_stored : (s : StateValue) (words : LabelWords) (number : ℕ) (to : Stop) → length s.stops ≡ 64 → Labelled s → length words.keys ≡ 4 →
    length words.sites ≡ 16
    → PatchAt s.setting to → let t = with_stop number (record s { words = words }) to in AtRest t ⊎ AtPatch t → Labelled t
labelled_stored s words number to h1 h2 h3 h4 h5 h6 = search (patches_after, cases_eq, arith)

key_labelled : (seen : ℕ → Seen) (work : ℕ → Option Task) (s : StateValue) (cpu k word : ℕ) (next : Place × ℕ) → Rounds seen work s → Labelled s →
    (i : StoresIn s cpu)
    → next_store i.number s ≡ Some next → is_store next (Key k) word ≡ true → Labelled (stored_to i.number (patch_left i.number s) (Key k) word s)
key_labelled seen work s cpu k word next r l i is e =
    let stop = stop_at s i.number in
    let key = stop.task.func in
    let p = patch_left i.number s in
    let below = actor_below s cpu i.number r.cpus_are r.away i.inside in
    let all = (l.patches i.number i.low).all ((r.at i.number i.low cpu below).in_stop i.inside).is_open i.kind_is in
    let low : key < 4 = (let x = all.key in let y = l.keys in omega arith) in
    let key_is : key_number key ≡ key = omega arith in
    elim (front_is s.words key p next is) [
      | inl h ↦
          (let x : is_store (Key (key_number key), p.count) (Key k) word ≡ true = (let z = h.1 in rw (← z) at e) in
          let q = place_key (key_number key) k p.count word x in
          let at : key ≡ k = sym key_is ∙ q.0 in
          let n : p.count ≡ word = q.1 in
          let words : LabelWords = record s.words { keys = slice_set s.words.keys key p.count } in
          let to = record stop { patch = Some (record p { counts = false }) } in
          let done = labelled_stored s words i.number to r.stops_are l (length-set s.words.keys key p.count ∙ l.keys_are) l.sites_are
          (stored_patch s cpu (record p { counts = false }) l i refl) (key_either seen work s cpu stop.patch r l i refl h.0 key_is low) in
          labelled_end (with_stop i.number (record s { words = words }) to) (stored_to i.number p (Key k) word s)
          (ap (λ x. with_stop i.number (record s { words = record s.words { keys = slice_set s.words.keys x p.count } }) to) at
          ∙ ap (λ x. with_stop i.number (record s { words = record s.words { keys = slice_set s.words.keys k x } }) to) n) done)
      | inr t ↦ absurd (site_no_key s.words key p k word next t e)
    ]

-- a key's count is stored, or a site is turned
site_labelled : (seen : ℕ → Seen) (work : ℕ → Option Task) (s : StateValue) (cpu site word : ℕ) (next : Place × ℕ) → Rounds seen work s → Labelled s →
    (i : StoresIn s cpu)
    → next_store i.number s ≡ Some next → is_store next (Site site) word ≡ true → Labelled (stored_to i.number (patch_left i.number s) (Site site) word s)
site_labelled seen work s cpu site word next r l i is e =
    let stop = stop_at s i.number in
    let key = stop.task.func in
    let p = patch_left i.number s in
    let same : next ≡ (Site site, word) = place_site next site word e in
    elim (front_is s.words key p next is) [
      | inl h ↦ absurd (let f : (Key (key_number key), p.count) ≡ (Site site, word) = h.1 ∙
          same in let g : Key (key_number key) ≡ Site site = ap (λ x. x.0) f in cc)
      | inr t ↦
          (let turns : TurnsNext s.words key p (Site site, word) = rw same at t in
          let q : Patch = record p { from = min (site + 1) (2 ^ 32 - 1) } in
          let words : LabelWords = record s.words { sites = slice_set s.words.sites site word } in
          labelled_stored s words i.number (record stop { patch = Some q }) r.stops_are l l.keys_are (length-set s.words.sites site word ∙ l.sites_are)
          (stored_patch s cpu q l i t.counts) (site_either seen work s cpu site word stop.patch r l i refl turns))
    ]

store_made : (next : Option (Place × ℕ)) (number : ℕ) (patch : Patch) (place : Place) (word : ℕ) (s t : StateValue) →
    made_store next number patch place word s ≡ Ok t
    → (n : Place × ℕ) × ((next ≡ Some n) × (is_store n place word ≡ true) × (stored_to number patch place word s ≡ t))
store_made None number patch place word s t e = absurd cc
store_made (Some n) number patch place word s t e =
    let p = passed (is_store n place word) (Ok (stored_to number patch place word s)) (to_be n) t e in (n, (refl, p.0, cc))

place_labelled : (seen : ℕ → Seen) (work : ℕ → Option Task) (s : StateValue) (cpu : ℕ) (place : Place) (word : ℕ) (next : Place × ℕ) → Rounds seen work s →
    Labelled s → (i : StoresIn s cpu)
    → next_store i.number s ≡ Some next → is_store next place word ≡ true → Labelled (stored_to i.number (patch_left i.number s) place word s)
place_labelled seen work s cpu (Key k) word next r l i is e = key_labelled seen work s cpu k word next r l i is e
place_labelled seen work s cpu (Site site) word next r l i is e = site_labelled seen work s cpu site word next r l i is e

pub patch_labelled : (seen : ℕ → Seen) (work : ℕ → Option Task) (s t : StateValue) (cpu : ℕ) (place : Place) (word : ℕ) → Rounds seen work s → Labelled s
    → patch_by cpu place word s ≡ Ok t → Labelled t
unfolding patch_by
patch_labelled seen work s t cpu place word r l e =
    let m = both_made (in_patch cpu s) (λ number. made_store (next_store number s) number (patch_left number s) place word s) t e in
    let i = in_patch_is s cpu m.0 m.1.0 in
    let made : made_store (next_store i.0.number s) i.0.number (patch_left i.0.number s) place word s ≡ Ok t = (let z = m.1.1 in rw (← i.1) at z) in
    let n = store_made (next_store i.0.number s) i.0.number (patch_left i.0.number s) place word s t made in
    labelled_end (stored_to i.0.number (patch_left i.0.number s) place word s) t n.1.2 (place_labelled seen work s cpu place word n.0 r l i.0 n.1.0 n.1.1)

-- a count is changed by one
pub nudge_labelled : (s t : StateValue) (cpu key : ℕ) (up : Bool) → Labelled s → nudge_by cpu key up s ≡ Ok t → Labelled t
nudge_labelled s t cpu key up l e =
    let m = both_made (reads_by cpu s) (λ u. nudged_word key up s) t e in
    let n = both_made (nudged key up s.words) (λ words. Ok (record s { words = words })) t m.1.1 in
    let count = count_at s.words key in
    let keys = slice_set s.words.keys key (nudged_count up count) in
    let words : LabelWords = record s.words { keys = keys } in
    let p = passed (may_nudge up count) (Ok words) (reason.CountIs key count) n.0 n.1.0 in
    let same = same_state s.words.keys key (nudged_count up count) (nudged_on up count p.0) in
    let end : words ≡ n.0 = cc in
    labelled_end (record s { words = words }) t (ap (λ x. record s { words = x }) end ∙ cc) (record {
      keys_are = length-set s.words.keys key (nudged_count up count) ∙ l.keys_are;
      sites_are = l.sites_are;
      keys = l.keys;
      patches = l.patches;
      either = elim l.either [
        | inl rest ↦ inl (record { ok = λ i low. ok_keys s.words keys i same (rest.ok i low); none = rest.none })
        | inr a ↦ inr (record {
          number = a.number;
          low = a.low;
          p = a.p;
          live = a.live;
          partial = partial_keys s.words keys
              (stop_at s a.number).task.func a.p same a.partial;
        })
      ];
    })
