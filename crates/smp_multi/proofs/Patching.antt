-- The patch of a stop: what its CPU may do, what it finds, and where it is after each step.
use Rattle.std.proofs.Common.{◌≡◌, ℕ, suc, ◌+◌, ◌<◌, ◌≤◌, ◌==◌, ◌&&◌, ◌||◌, Bool, true, false, cond, Option, Some, None, List, [], ◌∷◌, ◌++◌, length}
use Rattle.std.proofs.Common.{get_or, take, drop, sym, subst, refl, ap, ◌∙◌, arith, drop-cons}
use Rattle.std.proofs.lemmas.List.{append-nil, take-append-drop, take_more}
use Rattle.std.specs.List.{AllByRecursion}
use Rattle.atomic_table.specs.Seated.{TableId}
use Rattle.smp_labels.specs.Entries.{entry_at, IsEntryWord}
use Rattle.smp_labels.specs.Keys.{count_after, is_on}
use Rattle.smp_labels.specs.Kinds.{kind_of, kind_word, xor}
use Rattle.smp_labels.specs.Law.{Table}
use Rattle.smp_labels.specs.Plans.{patch_of, plan_of, site_change, site_changes}
use Rattle.smp_labels.specs.declared.entries.Entry.{Entry as SiteEntry}
use Rattle.smp_labels.specs.declared.patch.Place.{Place}
use Rattle.smp_labels.specs.declared.patch.Place.TheVariants as place
use Rattle.smp_labels.specs.declared.words.TheConstants.{MOST_KEYS, MOST_SITES}
use Rattle.smp_labels.proofs.Patched.{plan_key_first}
use Rattle.smp_labels.proofs.Stores.{entries_kept}
use Rattle.smp_mask.specs.Mask.{has}
use Rattle.smp_stop_steps.specs.Threads.Known.{carrying, setup_in, stepped}
use Rattle.smp_multi.specs.Lives.{Lives, StopMoment}
use Rattle.smp_stop_steps.specs.Threads.KnownAfter.{acked_by, called_by, counted, key_loaded_by, known_told, looked_known, looked_to}
use Rattle.smp_stop_steps.specs.Threads.KnownAfter.{key_read_known, raised_by}
use Rattle.smp_stop_steps.specs.Names.{change_of}
use Rattle.smp_stop_steps.specs.AnswerWords.{IsI32Word}
use Rattle.smp_stop_steps.specs.Labels.{Change, LabelsShow, Patching, Patches, Whole, answer_for, count_set, patch_answer}
use Rattle.smp_stop_steps.specs.Threads.Moves.{Alter, AcknowledgePatch, BeginPatch, LoadEntry}
use Rattle.smp_stop_steps.specs.Seats.{RoleStands}
use Rattle.smp_stop_steps.specs.Stages.{label_word, store_of, visit_acked}
use Rattle.smp_stop_steps.specs.Tells.{is_multi, is_one, is_patch, plan_at}
use Rattle.smp_words.specs.declared.phase.TheConstants.{DISABLE_IRQ, RUN, EXIT}
use Rattle.smp_stop_steps.specs.declared.stage.Visit.{Visit}
use Rattle.smp_stop_steps.proofs.Promises.Functions.{runs_alone}
use Rattle.smp_multi.specs.Names.{Work, Kind, Patch, Slot, Key, Entry, Load, Store, StopRole, Duty, Rests, Fills, KnownStops}
use Rattle.smp_multi.specs.Names.{Free, In, Alters}
use Rattle.smp_multi.specs.Names.{Moved, Calls, Carries}
use Rattle.smp_multi.specs.Names.act
use Rattle.smp_multi.specs.Names.field
use Rattle.smp_multi.specs.Cells.{cells, HasCell}
use Rattle.smp_multi.specs.Patches.{AtPatch, IsInPatch, begins_with, count_in, entries_in, made_in, moved_with, rest_in, stored_all, stored_to}
use Rattle.smp_multi.specs.Places.{work_in}
use Rattle.smp_multi.specs.Rounds.{AloneWhile, AtRun}
use Rattle.smp_multi.specs.Seat.{SeatValue, Able, EndsWith, Ready, FitsWord}
use Rattle.smp_multi.specs.StepCounts.{patching}
use Rattle.smp_multi.specs.Turns.{HasRunFunction, patched_by, patched_with}
use Rattle.smp_multi.specs.declared.func.Called.{Called}
use Rattle.smp_multi.proofs.Cells.{slot_cell, key_cell, entry_cell, site_cell}
use Rattle.smp_multi.proofs.Counting.{patched_on, steps_on}

-- what a CPU in a patch stop finds at a moment

-- an entry word has its form, whoever patches
entry_form : (x : Patching) (t : Table) → LabelsShow x t → (i : ℕ) → i < MOST_SITES → IsEntryWord (t.entry i)
entry_form Whole t h i low = h.entries i low
entry_form (Patches c w count made rest) t h i low = subst IsEntryWord (sym (ap (λ (x : Table). x.entry i) h.2 ∙ entries_kept made h.0 i)) (h.1.entries i low)

pub entry_found : (v : KnownStops) (i n : ℕ) → i < MOST_SITES → StopMoment v (Entry i) n → IsEntryWord n
entry_found v i n low m = subst IsEntryWord (sym m.number_is) (entry_form m.stops.now.patching _ m.shown.present.labels i low)

-- a label is no result
label_fits : (x : Place) (n : ℕ) → FitsWord (label_word x) n
label_fits (place.Key k) n = tt
label_fits (place.Site i) n = tt

-- there are no more entries than sites
pub few_entries : (v : KnownStops) → Lives v → length (entries_in v) ≤ MOST_SITES
few_entries v l = l.shown.present.entries.few

-- the loads of a patch
module _ (t : TableId) (d : SeatValue) (v : Visit) (a : AtRun t d v Patch) where
  abbrev work : Work
  work = work_in d.known.seat

  pub is_at_run : d.known.seat ≡ In v.slot work DISABLE_IRQ RUN Rests
  is_at_run = a.at.seat_is ∙ ap (λ n. In v.slot work n RUN Rests) a.disabled

  pub is_patch_work : work.kind ≡ Patch
  is_patch_work = sym a.at.loaded.kind ∙ a.kind_is

  pub ready_begin : (k : ℕ) → k ≡ work.func → k < MOST_KEYS → Ready t d (Load (Key k))
  ready_begin k is low = record {
    able = record {
      table_is = a.at.table_is;
      sized = a.at.sized;
      can = record {
        move = BeginPatch v.slot work;
        may = (is_at_run, is_patch_work, ap (λ m. has m d.known.number) (sym a.at.loaded.active) ∙ a.active);
        is_access = ap (λ n. Load (Key n)) (sym is);
      };
      cell = key_cell k low;
      fits = tt;
    };
    apart = tt;
  }

  abbrev called_with : ℕ → KnownStops
  called_with n = record (d.known) { part = record (d.known.part) { calling = Calls (record { func = work.func; arg = n; answer = 0 }) } }

  -- the argument is that of a patch: it calls no function with it
  pub change_known : (x : ℕ) → called_by x d.known.seat d.known ≡ d.known
  change_known x =
      ap (λ (y : StopRole). called_by x y d.known) is_at_run
      ∙ (ap (λ (k : Kind). cond (is_one k || (has work.active d.known.number && is_multi k)) (called_with x) d.known) is_patch_work
      ∙ none (has work.active d.known.number))
    where
      none : (b : Bool) → cond (b && false) (called_with x) d.known ≡ d.known
      none true = refl
      none false = refl

  -- with the key loaded it is in its patch
  pub begin_known : (k found : ℕ) → key_loaded_by k found d.known.seat d.known ≡ begins_with found d.known.seat d.known
  begin_known k found =
      let next = record (d.known) { seat = Alters v.slot work found [] (plan_at (setup_in d.known.setting) work found) } in
      ap (λ (y : StopRole). key_loaded_by k found y d.known) is_at_run
      ∙ (ap (λ (x : Kind). cond (is_patch x) next (key_read_known k found d.known)) is_patch_work
      ∙ sym (ap (λ (y : StopRole). begins_with found y d.known) is_at_run))

  pub at_patch : (e : SeatValue) (found : ℕ) → e.table ≡ t → e.known ≡ stepped 1 (begins_with found d.known.seat d.known) → work.func < MOST_KEYS →
      AtPatch t e v
  at_patch e found table same low =
      let plan = plan_at (setup_in d.known.setting) work found in
      let next = Alters v.slot work found [] plan in
      let is : e.known ≡ stepped 1 (record (d.known) { seat = next }) = same ∙ ap (λ (y : StopRole). stepped 1 (begins_with found y d.known)) is_at_run in
      subst (λ (k : KnownStops). AtPatch t (record { table = e.table; known = k }) v) (sym is) record {
        table_is = table;
        sized = a.at.sized;
        low = a.at.low;
        idle = a.at.idle;
        loaded = a.at.loaded;
        disabled = a.disabled;
        key_low = low;
        seat_is = refl;
        plan_is = refl;
      }

-- inside a patch every CPU of the mask has its interrupts off
pub patch_alone : (t : TableId) (d : SeatValue) (v : Visit) → AtPatch t d v → AloneWhile d.known v.slot
patch_alone t d v a p at seat source h sees =
    let w = work_in d.known.seat in
    let x = Alters v.slot w (count_in d.known.seat) (made_in d.known.seat) (rest_in d.known.seat) in
    let st : RoleStands p.now d.known.number x = subst (RoleStands p.now d.known.number) (sees.seat_is ∙ a.seat_is) (h.present.stands d.known.number) in
    runs_alone (setup_in d.known.setting) p at seat source h v.slot d.known.number st.1

pub in_patch : (t : TableId) (d : SeatValue) (v : Visit) → AtPatch t d v → IsInPatch d.known
in_patch t d v a = (v.slot, a.seat_is)

pub ready_entry : (t : TableId) (d : SeatValue) (i : ℕ) → d.table ≡ t → t.words ≡ cells → IsInPatch d.known → i < MOST_SITES → Ready t d (Load (Entry i))
ready_entry t d i table sized inside low =
    let x = d.known.seat in
    record {
      able = record {
        table_is = table;
        sized = sized;
        can = record { move = LoadEntry inside.0 (work_in x) (count_in x) (made_in x) (rest_in x) i; may = inside.1; is_access = refl };
        cell = entry_cell i low;
        fits = tt;
      };
      apart = tt;
    }

-- the stores

-- the sites of a plan are below the number of sites
abbrev IsLow : Place → Type 0
IsLow (place.Key k) = Unit {0}
IsLow (place.Site i) = i < MOST_SITES

abbrev AreLow : List Change → Type 0
AreLow xs = AllByRecursion (λ change. IsLow change.0) xs

sites_low : (key : ℕ) (on : Bool) (i : ℕ) (es : List ℕ) → i + length es ≤ MOST_SITES → AreLow (site_changes key on i es)
sites_low key on i [] fits = tt
sites_low key on i (x ∷ es) fits = joined (entry_at x) (site_changes key on (i + 1) es) (sites_low key on (i + 1) es (omega arith))
  where
    joined : (o : Option SiteEntry) (xs : List Change) → AreLow xs → AreLow (site_change key on i o ++ xs)
    joined None xs all = all
    joined (Some e) xs all = elim (e.key == key) as (λ b. AreLow (cond b ((place.Site i, kind_word (kind_of on e.branch)) ∷ []) [] ++ xs)) [
      | true ↦ ((let z : i < MOST_SITES = omega arith in z), all)
      | false ↦ all
    ]

in_middle : (before : List Change) (change : Change) (rest : List Change) → AreLow (before ++ change ∷ rest) → IsLow change.0
in_middle [] change rest all = all.0
in_middle (x ∷ before) change rest all = in_middle before change rest all.1

plan_low : (key old new : ℕ) (es : List ℕ) → length es ≤ MOST_SITES → AreLow (plan_of key old new es)
plan_low key old new es few = go (old == new) (xor (is_on old) (is_on new))
  where
    go : (a b : Bool) → AreLow (cond a [] (cond b (patch_of key new es) ((place.Key key, new) ∷ [])))
    go true b = tt
    go false true = (tt, sites_low key (is_on new) 0 es (omega arith))
    go false false = (tt, tt)

-- the first store of a plan is that of a key
site_first : (key old new : ℕ) (es : List ℕ) (i n : ℕ) (rest : List Change) → plan_of key old new es ≡ (place.Site i, n) ∷ rest → ⊥
site_first key old new es i n rest e = go (old == new) (xor (is_on old) (is_on new)) e
  where
    other : (word : ℕ) (xs ys : List Change) → (place.Key key, word) ∷ xs ≡ (place.Site i, n) ∷ ys → ⊥
    other word xs ys e = let pair : ◌≡◌ {A = Change} (place.Key key, word) (place.Site i, n) = cc in
        let places : ◌≡◌ {A = Place} (place.Key key) (place.Site i) = ap (λ (x : Change). x.0) pair in cc

    go : (a b : Bool) → cond a [] (cond b (patch_of key new es) ((place.Key key, new) ∷ [])) ≡ (place.Site i, n) ∷ rest → ⊥
    go true b e = cc
    go false true e = other new (site_changes key (is_on new) 0 es) rest e
    go false false e = other new [] rest e

-- a plan that leaves a count as it is has no stores
moved_all : (w : Work) (count : ℕ) (es : List ℕ) (l : List Moved) → moved_with w count (plan_of w.func count (count_set w count) es) l ≡ patched_with w count l
moved_all w count es l = go (count == count_set w count) (xor (is_on count) (is_on (count_set w count)))
  where
    go : (a b : Bool) → moved_with w count (cond a [] (cond b (patch_of w.func (count_set w count) es) ((place.Key w.func, count_set w count) ∷ []))) l
        ≡ cond a l (counted l w.func count (count_set w count))
    go true b = refl
    go false true = refl
    go false false = refl

-- a CPU that has found this count makes the stores of its plan
module _ (t : TableId) (d : SeatValue) (v : Visit) (a : AtPatch t d v) (fresh : made_in d.known.seat ≡ []) where
  abbrev job : Work
  job = work_in d.known.seat

  abbrev count : ℕ
  count = count_in d.known.seat

  abbrev plan : List Change
  plan = rest_in d.known.seat

  abbrev entries : List ℕ
  entries = entries_in d.known

  plan_is : plan_of job.func count (count_set job count) entries ≡ plan
  plan_is = a.plan_is ∙ ap (λ l. l ++ plan) fresh

  seat_is : d.known.seat ≡ Alters v.slot job count [] plan
  seat_is = a.seat_is ∙ ap (λ l. Alters v.slot job count l plan) fresh

  -- with these stores made
  abbrev with_made : List Change → List Change → List Moved → KnownStops
  with_made made rest l = record (d.known) { seat = Alters v.slot job count made rest; part = record (d.known.part) { patched = l } }

  stored_is : (i : ℕ) → stored_to i d.known.seat d.known ≡ with_made (take i plan) (drop i plan) (moved_with job count (take i plan) d.known.part.patched)
  stored_is i = ap (λ (y : StopRole). stored_to i y d.known) seat_is

  -- one store more
  step_known : (i : ℕ) (made rest : List Change) (x : Place) (n : ℕ) → plan ≡ made ++ (x, n) ∷ rest →
      known_told (stepped i (with_made made ((x, n) ∷ rest) (moved_with job count made d.known.part.patched))) act.Store (label_word x) None (Some n)
      ≡ stepped 1 (stepped i (with_made (made ++ (x, n) ∷ []) rest (moved_with job count (made ++ (x, n) ∷ []) d.known.part.patched)))
  step_known i made rest (place.Key k) n is =
      let first = plan_key_first job.func count (count_set job count) entries made k n rest (plan_is ∙ is) in
      let old = d.known.part.patched in
      ap (λ l. stepped 1 (stepped i (with_made (made ++ (place.Key k, n) ∷ []) rest l)))
      (ap (λ m. counted (moved_with job count m old) k count n) first.0
      ∙ (ap (λ j. counted old j count n) first.1 ∙ (ap (λ m. counted old job.func count m) first.2
      ∙ sym (ap (λ m. moved_with job count (m ++ (place.Key k, n) ∷ []) old) first.0))))
  step_known i [] rest (place.Site j) n is = absurd (site_first job.func count (count_set job count) entries j n rest (plan_is ∙ is))
  step_known i (y ∷ made) rest (place.Site j) n is = refl

  split : (i : ℕ) (change : Change) → i < length plan → change ≡ get_or plan i (place.Key 0, 0) → drop i plan ≡ change ∷ drop (i + 1) plan
  split i change low is = drop-cons plan i (place.Key 0, 0) low
      ∙ ((λ j. sym is j ∷ drop (suc i) plan) ∙ ap (λ n. change ∷ drop n plan) (let e : suc i ≡ i + 1 = omega arith in e))

  whole : (i : ℕ) (change : Change) → i < length plan → change ≡ get_or plan i (place.Key 0, 0) → plan ≡ take i plan ++ change ∷ drop (i + 1) plan
  whole i change low is = sym (take-append-drop i plan) ∙ ap (λ l. take i plan ++ l) (split i change low is)

  at_store : (e : SeatValue) (i : ℕ) (change : Change) → e.known ≡ stepped i (stored_to i d.known.seat d.known) → i < length plan
      → change ≡ get_or plan i (place.Key 0, 0)
      → e.known ≡ stepped i (with_made (take i plan) (change ∷ drop (i + 1) plan) (moved_with job count (take i plan) d.known.part.patched))
  at_store e i change same low is = same ∙ ap (stepped i) (stored_is i
      ∙ ap (λ l. with_made (take i plan) l (moved_with job count (take i plan) d.known.part.patched)) (split i change low is))

  pub able_store : (e : SeatValue) (i : ℕ) (change : Change) → e.table ≡ t → Lives e.known → e.known ≡ stepped i (stored_to i d.known.seat d.known)
      → i < length plan → change ≡ get_or plan i (place.Key 0, 0) → Able t e (Store (label_word change.0) change.1)
  able_store e i change table lives same low is = subst (λ (k : KnownStops). Able t (record { table = e.table; known = k }) (store_of change))
      (sym (at_store e i change same low is)) record {
        table_is = table;
        sized = a.sized;
        can = record {
          move = Alter v.slot job count (take i plan) change (drop (i + 1) plan);
          may = (refl, plan_is ∙ whole i change low is, a.key_low);
          is_access = refl;
        };
        cell = has_cell change.0 change.1 refl;
        fits = label_fits change.0 change.1;
      }
    where
      few : length entries ≤ MOST_SITES
      few = subst (λ (k : KnownStops). length (entries_in k) ≤ MOST_SITES) (same ∙ ap (stepped i) (stored_is i)) (few_entries e.known lives)

      parts : (x : Place) (n : ℕ) → change ≡ (x, n) → plan_of job.func count (count_set job count) entries ≡ take i plan ++ (x, n) ∷ drop (i + 1) plan
      parts x n c = plan_is ∙ (whole i change low is ∙ ap (λ y. take i plan ++ y ∷ drop (i + 1) plan) c)

      has_cell : (x : Place) (n : ℕ) → change ≡ (x, n) → HasCell (label_word x)
      has_cell (place.Key k) n c =
          let first = plan_key_first job.func count (count_set job count) entries (take i plan) k n (drop (i + 1) plan) (parts (place.Key k) n c) in
          key_cell k (subst (λ j. j < MOST_KEYS) (sym first.1) a.key_low)
      has_cell (place.Site j) n c =
          site_cell j (in_middle (take i plan) (place.Site j, n) (drop (i + 1) plan) (subst AreLow (parts (place.Site j) n c)
          (plan_low job.func count (count_set job count) entries few)))

  pub stored_more : (e f : SeatValue) (i : ℕ) (change : Change) → e.known ≡ stepped i (stored_to i d.known.seat d.known) → i < length plan
      → change ≡ get_or plan i (place.Key 0, 0) → f.known ≡ known_told e.known act.Store (label_word change.0) None (Some change.1)
      → f.known ≡ stepped (i + 1) (stored_to (i + 1) d.known.seat d.known)
  stored_more e f i change same low is next =
      let made = take i plan ++ change ∷ [] in
      let more : made ≡ take (i + 1) plan = sym (take_more plan i (place.Key 0, 0) low ∙ ap (λ y. take i plan ++ y ∷ []) (sym is)) in
      next ∙ (ap (λ (k : KnownStops). known_told k act.Store (label_word change.0) None (Some change.1)) (at_store e i change same low is)
      ∙ (step_known i (take i plan) (drop (i + 1) plan) change.0 change.1 (whole i change low is)
      ∙ (ap (λ (k : KnownStops). stepped 1 (stepped i k))
      (ap (λ l. with_made l (drop (i + 1) plan) (moved_with job count l d.known.part.patched)) more ∙ sym (stored_is (i + 1)))
      ∙ steps_on i 1 (stored_to (i + 1) d.known.seat d.known))))

  pub at_whole : (e : SeatValue) (n : ℕ) → e.table ≡ t → e.known ≡ stepped n (stored_all d.known.seat d.known) → AtPatch t e v × (rest_in e.known.seat ≡ [])
  at_whole e n table same =
      let is : e.known ≡ stepped n (with_made plan [] (patched_with job count d.known.part.patched)) = same
      ∙ ap (λ (y : StopRole). stepped n (stored_all y d.known)) seat_is in
      subst (λ (k : KnownStops). AtPatch t (record { table = e.table; known = k }) v × (rest_in k.seat ≡ [])) (sym is) (
        record {
          table_is = table;
          sized = a.sized;
          low = a.low;
          idle = a.idle;
          loaded = a.loaded;
          disabled = a.disabled;
          key_low = a.key_low;
          seat_is = refl;
          plan_is = plan_is ∙ sym (append-nil plan);
        },
        refl,
      )

-- the acknowledgement

-- a patch answers 0 or 1
pub patch_answer_fits : (w : Work) (count : ℕ) → IsI32Word (patch_answer w count)
patch_answer_fits w count = go (count_after (change_of w.arg) count)
  where
    go : (o : Option ℕ) → IsI32Word (answer_for o)
    go None = omega arith
    go (Some n) = omega arith

pub able_acknowledge_patch : (t : TableId) (d : SeatValue) (v : Visit) (answer : ℕ) → AtPatch t d v → rest_in d.known.seat ≡ []
    → answer ≡ patch_answer (work_in d.known.seat) (count_in d.known.seat) → EndsWith t d (Slot v.slot field.Ack) answer
able_acknowledge_patch t d v answer a none is =
    let w = work_in d.known.seat in
    let count = count_in d.known.seat in
    let made = made_in d.known.seat in
    record {
      able = record {
        table_is = a.table_is;
        sized = a.sized;
        can = record { move = AcknowledgePatch v.slot w count made; may = a.seat_is ∙ ap (Alters v.slot w count made) none; is_access = refl };
        cell = slot_cell v.slot field.Ack a.low;
        fits = tt;
      };
      ends = is;
    }

-- all steps of a patch, from the load of its key on
module _ (k : KnownStops) (s : ℕ) (w : Work) (count : ℕ) (is : k.seat ≡ In s w DISABLE_IRQ RUN Rests) where
  abbrev patched_at : ℕ → Duty → KnownStops
  patched_at steps duty = record k {
    seat = In s w RUN RUN duty;
    part = record (k.part) { calling = Carries 0; patched = patched_with w count k.part.patched };
    carried = patch_answer w count;
    steps = steps;
  }

  abbrev duty_at : Bool → Duty
  duty_at last = cond last Fills Rests

  passed_same : (n : ℕ) (b : Bool) → cond b (raised_by EXIT (patched_at n (duty_at b)).seat (patched_at n (duty_at b))) (patched_at n (duty_at b))
      ≡ patched_at n Rests
  passed_same n true = refl
  passed_same n false = refl

  -- with the numbers of steps: up to the plan, and of its stores
  pub patch_ends : (k1 k2 k3 k4 : KnownStops) (found answer next p q all : ℕ) → k1 ≡ stepped p (begins_with count k.seat k)
      → k2 ≡ stepped q (stored_all k1.seat k1) → answer ≡ patch_answer w count → k3 ≡ stepped 1 (acked_by found k2.seat (carrying answer k2))
      → k4 ≡ cond (found == 1) (raised_by next k3.seat k3) k3 → next ≡ EXIT → p + q + 1 ≡ all → k4 ≡ stepped all (patched_by count k.seat k)
  patch_ends k1 k2 k3 k4 found answer next p q all one two says three four up sum =
      let plan = plan_at (setup_in k.setting) w count in
      let l = patched_with w count k.part.patched in
      let n = k.steps + p + q + 1 in
      let acked = patched_at n (duty_at (found == 1)) in
      let a : k1 ≡ stepped p (record k { seat = Alters s w count [] plan }) = one ∙ ap (λ y. stepped p (begins_with count y k)) is in
      let b : k2 ≡ stepped q (stepped p (record k { seat = Alters s w count plan []; part = record (k.part) { patched = l } })) = two
      ∙ ap (λ (x : KnownStops). stepped q (stored_all x.seat x)) a in
      let c : k3 ≡ acked = three ∙ (ap (λ (x : KnownStops). stepped 1 (acked_by found x.seat (carrying answer x))) b
      ∙ ap (λ n. record acked { carried = n }) says) in
      let steps : n ≡ k.steps + all = omega (arith, sum) in
      four ∙ (ap (λ (x : KnownStops). cond (found == 1) (raised_by next x.seat x) x) c
      ∙ (ap (λ j. cond (found == 1) (raised_by j acked.seat acked) acked) up ∙ (passed_same n (found == 1)
      ∙ (ap (λ m. patched_at m Rests) steps ∙ sym (ap (λ y. stepped all (patched_by count y k)) is)))))

-- a turn with a patch

pub work_looked : (n : ℕ) (x : StopRole) → work_in (looked_to n x) ≡ work_in x
work_looked n Free = refl
work_looked n _ = refl

-- a CPU that has looked at RUN, where this count was in the key, and has made its patch
pub has_patched : {F : Type 0} (leads : F → Called → F → Type 0) (old looked new : KnownStops) (v x : Visit) (f : F) (count : ℕ)
    → looked ≡ stepped 1 (looked_known RUN old) → StopMoment (stepped 2 looked) (Key (work_in looked.seat).func) count
    → new ≡ stepped (4 + patching looked.setting (work_in looked.seat) count) (patched_by count looked.seat looked)
    → x ≡ visit_acked v 0 false → HasRunFunction leads old new v x f f Patch
has_patched leads old looked new v x f count is m same next =
    let at = looked_known RUN old in
    let work : work_in looked.seat ≡ work_in old.seat = ap (λ (k : KnownStops). work_in k.seat) is ∙ work_looked RUN old.seat in
    let many = λ (z : Work). 4 + patching old.setting z count in
    let all = 5 + patching old.setting (work_in old.seat) count in
    let one : 1 + many (work_in old.seat) ≡ all = omega arith in (
      count,
      subst (λ (k : KnownStops). StopMoment k (Key (work_in old.seat).func) count) (steps_on 1 2 at)
          (subst (λ (w : Work). StopMoment (stepped 2 (stepped 1 at)) (Key w.func) count) work
          (subst (λ (k : KnownStops). StopMoment (stepped 2 k) (Key (work_in looked.seat).func) count) is m)),
      same ∙ (ap (λ (k : KnownStops). stepped (4 + patching k.setting (work_in looked.seat) count) (patched_by count k.seat k)) is
          ∙ (ap (λ (z : Work). stepped (many z) (patched_by count at.seat (stepped 1 at))) work
          ∙ (ap (stepped (many (work_in old.seat))) (patched_on 1 count at.seat at)
          ∙ (steps_on 1 (many (work_in old.seat)) (patched_by count at.seat at) ∙ ap (λ n. stepped n (patched_by count at.seat at)) one)))),
      next,
      refl,
    )
