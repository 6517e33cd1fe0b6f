-- The steps of a turn of `multi_cpu_stop`, by a CPU's stage.
use Rattle.std.proofs.Common.{◌≡◌, ◌≢◌, ℕ, ◌+◌, ◌^◌, ◌<◌, ◌≤◌, Bool, true, false, nat_lt, eq-eqb, ne_eqb, eqb-true, ◌==◌, ◌&&◌, ◌||◌, cond, sym, subst, refl}
use Rattle.std.proofs.Common.{ap, ◌∙◌, inl, inr, arith, Option, Some, None, List, [], ◌∷◌, ◌++◌, length, take, get_or, length-append, length-take-le, take_all}
use Rattle.std.proofs.Common.{append_assoc}
use Rattle.std.proofs.{lemmas.Bool.cases_lt, lemmas.List.take_more, lemmas.List.get_or_past, lemmas.List.append-nil}
use Rattle.smp_labels.proofs.Patched.{plan_same, plan_tests, plan_key_first}
use Rattle.smp_labels.specs.{Kinds.xor, declared.keys.Change.Change as KeyChange, Entries.entry_at, Keys.count_or, Plans.site_change, Plans.plan_of}
use Rattle.smp_words.proofs.Puts.{at_test}
use Rattle.smp_words.specs.declared.field.Field.TheVariants.{Arg, State}
use Rattle.smp_stop_steps.specs.{at_after, count_set, Rests, StopShows, SitsAtRun, change_at, stop_ends, stop_goes, StopState}
use Rattle.smp_stop_steps.specs.{change_of, MOST_SITES, Sits.ControlFits}
use Rattle.smp_stop_steps.specs.{seen_of, word_of, Change, Alters, irq_of, IsLoaded, OwnsIf, entry_on, store_of, StopStep, is_multi, plan_at, Advance, patch_of}
use Rattle.smp_stop_steps.specs.{put, In, StopRole, Source, key_on, Setup, tells, told, Visit, Multi, One, Patch, Work, Entry, Gate}
use Rattle.smp_stop_steps.specs.{Key, Slot, Word, is_on, has}
use Rattle.smp_stop_steps.specs.{patch_answer, changes_of, SitsAtEntry, StopControlValue, state_after, Kind as KindOf, count_after, site_changes}
use Rattle.smp_stop_steps.proofs.{Steps.Same.moved_seat, Steps.Same.still, Steps.Facts.arg_loaded, Steps.Facts.inside_keeps, Steps.Facts.state_near}
use Rattle.smp_stop_steps.proofs.{Steps.Facts.work_words, Steps.Patching.key_loaded_first, Steps.Patching.key_stored, Steps.Patching.site_stored}
use Rattle.smp_stop_steps.proofs.{Steps.Rounds.look_irq, Steps.Rounds.state_loaded, Steps.Stages.in_round, Steps.Stages.round_source, Basics.Bools.both_true}
use Rattle.smp_stop_steps.specs.act
use Rattle.smp_stop_steps.specs.note
use Rattle.smp_stop_steps.specs.round
use Rattle.smp_stop_steps.specs.place
use Rattle.smp_stop_steps.specs.Names.{DISABLE_IRQ, RUN, EXIT}

-- a wide number of CPUs
pub ack_small : (n m : ℕ) → m ≤ 64 → n ≤ m → n < 2 ^ 64
ack_small n m few most = omega arith

pub change_here : (before : List Change) (change : Change) (rest : List Change) → change_at (before ++ change ∷ rest) (length before) ≡ change
change_here [] change rest = refl
change_here (x ∷ before) change rest = search (change_here before change rest, ne_eqb, arith)

-- the changes of one entry more
changes-push : (key : ℕ) (on : Bool) (i : ℕ) (xs : List ℕ) (x : ℕ) → site_changes key on i (xs ++ x ∷ []) ≡ site_changes key on i xs ++ site_change key on
    (i + length xs) (entry_at x)
changes-push key on i [] x = append-nil (site_change key on i (entry_at x)) ∙ ap (λ n. site_change key on n (entry_at x)) (let e : i ≡ i + 0 = omega arith in e)
changes-push key on i (y ∷ xs) x = search (changes-push key on (i + 1) xs x, append_assoc, arith)

module _ (u : Setup) (p : StopState) (at : Word → ℕ) (seat : ℕ → StopRole) (source : ℕ → Source) (h : StopShows u p at seat source) (c : StopControlValue)
    (me : ℕ)
    (s : ControlFits u me (at Gate) c (seat me) (source me)) (v : Visit) where
  -- load of the state
  pub look : (answer : ℕ) → c.stage ≡ Some (Advance v (round.Look answer)) → StopStep u p at seat source c me (Advance v (round.Look answer))
  look answer e = let r = in_round s v (round.Look answer) e in
      let work = r.1.2.0 in
      let is : seat me ≡ In v.slot work v.acked v.acked Rests = r.1.2.2 in
      let found = at (Slot v.slot State) in
      let shows' = moved_seat u seat source me (state_after u p at c me (Advance v (round.Look answer))) at (In v.slot work v.acked found Rests) (state_loaded
      u p at seat source h v.slot me work v.acked v.acked 0 is r.1.1) in
      let sits' = go work is r.0 r.1.2.1 r.1.1 (round_source s v (round.Look answer) e) (found == v.acked) refl (found == RUN && has v.active me) refl in
      search (shows', sits', arith)
    where
      not_three : (a : ℕ) (b : Bool) → a ≡ RUN → ((a == RUN) && b) ≡ false → b ≡ false
      not_three a b three e = subst (λ x. (x && b) ≡ false) (eq-eqb a 3 three) e

      next : (work : Work) → seat me ≡ In v.slot work v.acked v.acked Rests → at (Slot v.slot State) ≢ v.acked → at (Slot v.slot State) ≡ v.acked + 1
      next work is ne = search (state_near, arith)

      off : (work : Work) → seat me ≡ In v.slot work v.acked v.acked Rests → v.acked ≢ EXIT → at (Slot v.slot State) ≡ v.acked + 1 →
          cond (at (Slot v.slot State) == DISABLE_IRQ) false c.interrupts ≡ nat_lt (at (Slot v.slot State)) DISABLE_IRQ || v.acked == EXIT
      off work is more up = at_test (at (Slot v.slot State)) DISABLE_IRQ
          (λ b. cond b false c.interrupts ≡ nat_lt (at (Slot v.slot State)) DISABLE_IRQ || v.acked == EXIT)
          (λ two. sym (ap (λ n. nat_lt n DISABLE_IRQ || v.acked == EXIT) two ∙ ne_eqb v.acked EXIT more))
          (λ ne. (s.irq ∙ ap irq_of is) ∙ ap (λ b. b || v.acked == EXIT) (search (look_irq, arith)))

      below : (work : Work) → seat me ≡ In v.slot work v.acked v.acked Rests → v.acked ≢ EXIT → v.acked ≤ RUN
      below work is more = let k = inside_keeps u p at seat source h v.slot me work v.acked v.acked Rests is in omega arith

      go : (work : Work) → seat me ≡ In v.slot work v.acked v.acked Rests → c.visit ≡ Some v → IsLoaded v work → v.acked ≢ EXIT →
          OwnsIf c.is_open (source me) → (b : Bool) → (at (Slot v.slot State) == v.acked) ≡ b →
          (d : Bool) → (at (Slot v.slot State) == RUN && has v.active me) ≡ d →
          ControlFits u me (at Gate)
          (cond b (stop_ends c note.Same) (stop_goes (record c { interrupts = cond (at (Slot v.slot State) == DISABLE_IRQ) false c.interrupts })
          (Advance v (cond d (round.LoadFunc answer) (round.Acknowledge answer false))))).control
          (In v.slot work v.acked (at (Slot v.slot State)) Rests) (source me)
      go work is visit loaded more y true same d f = search (eqb-true, v.acked, below, arith)
      go work is visit loaded more y false other true f = search (next, eq-eqb, v.acked, both_true, v.active, eqb-true, below, off, in_round, arith)
      go work is visit loaded more y false other false f = search (next, eq-eqb, v.acked, below, off, not_three, arith)

  pub load_func : (answer : ℕ) → c.stage ≡ Some (Advance v (round.LoadFunc answer)) → StopStep u p at seat source c me (Advance v (round.LoadFunc answer))
  load_func answer e = let r = in_round s v (round.LoadFunc answer) e in
      let run = r.1.1.1 in
      record {
        seat_after = seat me;
        source_after = source me;
        shows = still u seat source me p at h;
        sits = record {
          below = s.below;
          irq = s.irq;
          seat = (r.0, (r.1.0, (r.1.1.0, run, (work_words u p at seat source h v.slot me r.1.1.0 2 3 Rests run.3).func)));
          source = round_source s v (round.LoadFunc answer) e;
          gate_held = tt;
        };
      }

  pub load_arg : (answer func : ℕ) → c.stage ≡ Some (Advance v (round.LoadArg answer func)) → StopStep u p at seat source c me
      (Advance v (round.LoadArg answer func))
  load_arg answer func e = let r = in_round s v (round.LoadArg answer func) e in
      let run = r.1.1.1 in
      let shows' = still u seat source me (state_after u p at c me (Advance v (round.LoadArg answer func))) at (arg_loaded u p at seat source h v.slot me
      r.1.1.0 2 3 Rests run.3 answer refl) in
      search (shows', (go r.0 r.1.0 r.1.1.0 run r.1.1.2 (round_source s v (round.LoadArg answer func) e) v.kind refl), arith)
    where
      go : c.visit ≡ Some v → v.kind ≢ One → (work : Work) → SitsAtRun me v work (seat me) → func ≡ work.func → OwnsIf c.is_open (source me) →
          (k : KindOf) → v.kind ≡ k →
          ControlFits u me (at Gate) (cond (is_multi k) (record {
            control = record c { stage = Some (Advance v (round.Acknowledge answer true)) };
            note = Some (note.Run func (at (Slot v.slot Arg)));
          }) (stop_goes c (Advance v (round.LoadKey func (change_of (at (Slot v.slot Arg))))))).control
          (seat me) (source me)
      go visit some work run same y One k = absurd (some k)
      go visit some work run same y Multi k = search arith
      go visit some work run same y Patch k = search (work_words, arith)

  -- the first load of a patch
  pub load_key : (key : ℕ) (change : KeyChange) → c.stage ≡ Some (Advance v (round.LoadKey key change)) → StopStep u p at seat source c me
      (Advance v (round.LoadKey key change))
  load_key key change e = let r = in_round s v (round.LoadKey key change) e in
      let work = r.1.1.0 in
      let run = r.1.1.1 in
      let active : has work.active me ≡ true = ap (λ m. has m me) (sym run.0.active) ∙ run.2 in
      let found = at (Key work.func) in
      let next = Alters v.slot work found [] (plan_at u work found) in
      let shows' = moved_seat u seat source me (state_after u p at c me (Advance v (round.LoadKey key change))) at next (subst (λ k. StopShows u (told u p me
      act.Load (Key k) (Some (at (Key k))) None 0) at (put seat me next) source) (sym r.1.1.2) (key_loaded_first u p at seat source h me v.slot work 0 run.3
      (sym run.0.kind ∙ r.1.0) active)) in
      search (shows', next, found, go, round_source, arith)
    where
      -- where the plan is empty, all of it is made
      nothing_made : (work : Work) (found : ℕ) (o : Option ℕ) → count_after (change_of work.arg) found ≡ o → plan_of work.func found (count_or found o)
          u.entries ≡ [] →
          Alters v.slot work found [] (plan_of work.func found (count_or found o) u.entries) ≡ Alters v.slot work found (plan_at u work found) []
      nothing_made work found o e none = search (found, work.func, arith)

      go : c.visit ≡ Some v → (work : Work) → SitsAtRun me v work (seat me) → OwnsIf c.is_open (source me) → (found : ℕ) (o : Option ℕ) →
          count_after (change_of work.arg) found ≡ o →
          ControlFits u me (at Gate) (key_on c v work.func found o).control (Alters v.slot work found [] (plan_of work.func found (count_or found o) u.entries))
          (source me)
      go visit work run y found None e = search (found, nothing_made, plan_same, eq-eqb, arith)
      go visit work run y found (Some new) e = split (found == new) refl (xor (is_on found) (is_on new)) refl
        where
          left : new ≡ count_set work found
          left = sym (ap (count_or found) e)

          split : (a : Bool) → (found == new) ≡ a → (b : Bool) → xor (is_on found) (is_on new) ≡ b →
              ControlFits u me (at Gate) (cond a (stop_goes (record c { changes = [] }) (Advance v (round.Acknowledge 0 true)))
              (stop_goes (record c { changes = (place.Key work.func, new) ∷ [] }) (Advance v (cond b (round.LoadEntry work.func new 0)
              (round.StoreChange 0))))).control
              (Alters v.slot work found [] (plan_of work.func found new u.entries)) (source me)
          split true z b x = let irq' = s.irq ∙ ap irq_of run.3 in search (irq', found, nothing_made, plan_same, arith)
          split false z true x = let irq' = s.irq ∙ ap irq_of run.3 in search (irq', found, left, plan_tests, arith)
          split false z false x = let irq' = s.irq ∙ ap irq_of run.3 in search (irq', found, plan_tests, left, arith)

  -- load of an entry
  pub load_entry : (key word site : ℕ) → c.stage ≡ Some (Advance v (round.LoadEntry key word site)) → StopStep u p at seat source c me
      (Advance v (round.LoadEntry key word site))
  load_entry key word site e = search (still u seat source me p at h, loads, round_source, arith)
    where
      -- all is loaded
      whole : c.visit ≡ Some v → (work : Work) → SitsAtEntry u v work key word (seat me) → OwnsIf c.is_open (source me) → (changes : List Change) →
          changes ≡ patch_of work.func word u.entries →
          ControlFits u me (at Gate) (stop_goes (record c { changes = changes }) (Advance v (round.StoreChange 0))).control (seat me) (source me)
      whole visit work patch y changes is = search arith

      loads : c.visit ≡ Some v → (work : Work) → SitsAtEntry u v work key word (seat me) → site ≤ length u.entries → site < MOST_SITES →
          c.changes ≡ changes_of u work word site → OwnsIf c.is_open (source me) →
          ControlFits u me (at Gate) (entry_on c v work.func word site (at (Entry site))).control (seat me) (source me)
      loads visit work patch within low are y = elim (cases_lt site (length u.entries)) [
        | inl more ↦ go (site + 1 == MOST_SITES) refl more
        | inr past ↦
            let none : at (Entry site) ≡ 0 = h.present.entries.read site low ∙ get_or_past u.entries site 0 past in
            subst (λ n. ControlFits u me (at Gate) (entry_on c v work.func word site n).control (seat me) (source me)) (sym none)
            (whole visit work patch y (c.changes ++ []) (append-nil c.changes ∙ (are ∙ ap (λ l. (place.Key work.func, word) ∷ site_changes work.func
            (is_on word) 0 l) (take_all site u.entries past))))
      ]
        where
          here : at (Entry site) ≡ get_or u.entries site 0
          here = h.present.entries.read site low

          -- one entry more
          grown : site < length u.entries → c.changes ++ site_change work.func (is_on word) site (entry_at (at (Entry site))) ≡ changes_of u work word
              (site + 1)
          grown more = let sized : length (take site u.entries) ≡ site = length-take-le site u.entries (omega arith) in
              let pushed = changes-push work.func (is_on word) 0 (take site u.entries) (get_or u.entries site 0) in
              search (here, get_or, take_more, arith)

          go : (b : Bool) → (site + 1 == MOST_SITES) ≡ b → site < length u.entries → ControlFits u me (at Gate) (entry_on c v work.func word site
              (at (Entry site))).control (seat me) (source me)
          go b last more = search (ne_eqb, here, either, arith)
            where
              either : (b : Bool) → (site + 1 == MOST_SITES) ≡ b → site < length u.entries →
                  ControlFits u me (at Gate)
                  (stop_goes (record c { changes = c.changes ++ site_change work.func (is_on word) site (entry_at (at (Entry site))) })
                  (Advance v (cond b (round.StoreChange 0) (round.LoadEntry work.func word (site + 1))))).control (seat me) (source me)
              either true last more = whole visit work patch y (c.changes ++ site_change work.func (is_on word) site (entry_at (at (Entry site))))
                  (search (grown, take_all, arith))
              either false last more = search (grown, arith)

  -- a store of a patch
  pub store_change : (made : ℕ) → c.stage ≡ Some (Advance v (round.StoreChange made)) → StopStep u p at seat source c me (Advance v (round.StoreChange made))
  store_change made e = search (in_round, go, round_source, arith)
    where
      go : c.visit ≡ Some v → (work : Work) (count : ℕ) → IsLoaded v work → v.acked ≡ DISABLE_IRQ → made < length c.changes → c.changes ≡ plan_at u work count →
          (before after : List Change) → c.changes ≡ before ++ after → length before ≡ made →
          seat me ≡ Alters v.slot work count before after → OwnsIf c.is_open (source me) → StopStep u p at seat source c me (Advance v (round.StoreChange
          made))
      go visit work count loaded two low plan before [] are long is y = search (append-nil, arith)
      go visit work count loaded two low plan before (change ∷ rest) are long is y =
          let here : change_at c.changes made ≡ change = search (change_here, arith) in
          let next = Alters v.slot work count (before ++ change ∷ []) rest in
          let stored = shown change before rest work count is plan are in
          record { seat_after = next; source_after = source me; shows = search (here, moved_seat, arith); sits = search (gate_kept, ends, arith) }
        where
          shown : (change : Change) (before rest : List Change) (work : Work) (count : ℕ) → seat me ≡ Alters v.slot work count before (change ∷ rest) →
              c.changes ≡ plan_at u work count → c.changes ≡ before ++ change ∷ rest →
              StopShows u (tells u p (seen_of me (store_of change) (at (word_of (store_of change))) None) 0) (at_after at (store_of change))
              (put seat me (Alters v.slot work count (before ++ change ∷ []) rest)) source
          shown (place.Key k, n) before rest work count is plan are =
              let first = plan_key_first work.func count (count_set work count) u.entries before k n rest (sym plan ∙ are) in
              key_stored u p at seat source h me v.slot work count before rest k n 0 s.below is first.0 first.1
          shown (place.Site i, n) before rest work count is plan are = site_stored u p at seat source h me v.slot work count before rest i n 0 is

          gate_kept : (change : Change) {c' : StopControlValue} {x : StopRole} → ControlFits u me (at Gate) c' x (source me) →
              ControlFits u me (at_after at (store_of change) Gate) c' x (source me)
          gate_kept (place.Key k, n) {c'} {x} sits = sits
          gate_kept (place.Site i, n) {c'} {x} sits = sits

          no_change : (before : List Change) (change : Change) → before ++ change ∷ [] ≢ []
          no_change [] change e = cc
          no_change (x ∷ before) change e = cc

          -- a patch that stores something did not find the end of the range
          made_some : (work : Work) (count : ℕ) → plan_at u work count ≢ [] → 0 ≡ patch_answer work count
          made_some work count some = search (work.arg, plan_same, eq-eqb, arith)

          ends : c.visit ≡ Some v → (work : Work) (count : ℕ) → IsLoaded v work → v.acked ≡ DISABLE_IRQ → made < length c.changes
              → c.changes ≡ plan_at u work count →
              (before : List Change) (change : Change) (rest : List Change) → c.changes ≡ before ++ change ∷ rest → length before ≡ made →
              seat me ≡ Alters v.slot work count before (change ∷ rest) → OwnsIf c.is_open (source me) → (b : Bool) → (made + 1 == length c.changes) ≡ b →
              ControlFits u me (at Gate) (stop_goes c (Advance v (cond b (round.Acknowledge 0 true) (round.StoreChange (made + 1))))).control
              (Alters v.slot work count (before ++ change ∷ []) rest) (source me)
          ends visit work count loaded two low plan before change [] are long is y true last = search (made_some, no_change, arith)
          ends visit work count loaded two low plan before change (x ∷ rest) are long is y true last = absurd (search (eqb-true, length-append, arith))
          ends visit work count loaded two low plan before change rest are long is y false last = search (eq-eqb, append_assoc, length-append, arith)
