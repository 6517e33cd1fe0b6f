-- The kinds of step on labels: readings, and the loads and stores of a patch.
use Rattle.std.specs.List.{AllByRecursion}
use Rattle.std.proofs.Common.{◌≡◌, ℕ, Bool, true, false, eqb-true, sym, subst, refl, ap, ◌∙◌, arith, Option, Some, None, List, [], ◌∷◌, ◌++◌, ◌<◌, IfSome}
use Rattle.smp_words.proofs.Puts.{at_test}
use Rattle.smp_labels.proofs.Patched.{plan_leads, left_in_form, count_lawful}
use Rattle.smp_labels.specs.{Law.Table, Plans.AreEntriesOf, Plans.applied}
use Rattle.smp_stop_steps.specs.{IsCalling, AreClosing, IsNudge, CountShows, moved_by, put, put_word, Change, Patches, Patching, ReadKey, Reading, labels_in}
use Rattle.smp_stop_steps.specs.{Agrees, LabelsShow, count_set, OwnsKey, PresentShows, Alters, In, Rests, StopRole, RoleStands}
use Rattle.smp_stop_steps.specs.{StopShows, Source, Setup, StopState}
use Rattle.smp_stop_steps.specs.{Moved, Inside, Standing, is_at_run, key_loaded, reads, told, plan_at, Field, Patch, Work, Entry, Gate, Key, Site, Slot, Word}
use Rattle.smp_stop_steps.specs.{is_on, change_of, has, Act, Place}
use Rattle.smp_stop_steps.proofs.Steps.Callings.{calling_same, closing_seat, idle_patch, idle_alters, IsNotClosing}
use Rattle.smp_stop_steps.proofs.State.KeyCounts.{counts_nudged, counts_patched}
use Rattle.smp_stop_steps.proofs.State.Patched.{off_inside, patch_starts, patch_stores, reads_label, nobody_patches, lawful_when_on}
use Rattle.smp_stop_steps.proofs.{Steps.Kept.source_same, State.Owns.owns_stores, State.Phases.is_open_inside}
use Rattle.smp_stop_steps.specs.Names.{DISABLE_IRQ, RUN}

module _ (u : Setup) (p : StopState) (at : Word → ℕ) (seat : ℕ → StopRole) (source : ℕ → Source) (h : StopShows u p at seat source) (me : ℕ) where
  -- a step that leaves the stops
  label_step : (readings' : ℕ → List Reading) (patching' : Patching) (nudged' patched' : ℕ → ℕ → Moved) (at' : Word → ℕ) (seat' : ℕ → StopRole) →
      at' Gate ≡ at Gate → ((j : ℕ) (f : Field) → at' (Slot j f) ≡ at (Slot j f)) →
      ((j : ℕ) → OwnsKey u.first p.now (λ k. at' (Key k)) j) → ((k : ℕ) → CountShows u.cpus nudged' patched' k (at' (Key k))) →
      PresentShows u (record (p.now) { readings = readings'; patching = patching' }) at' seat' → ((c : ℕ) → IsCalling c (seat' c) (p.calling c)) →
      AreClosing p.now seat' →
      StopShows u (record p { now = record (p.now) { readings = readings'; patching = patching' }; nudged = nudged'; patched = patched' }) at' seat' source
  label_step readings' patching' nudged' patched' at' seat' gate slots own counts present callings closing = search (source_same, h.sources, arith)

  run_is : (x : Standing) → is_at_run x ≡ true → x ≡ Inside DISABLE_IRQ RUN
  run_is x e = search (eqb-true, arith)

  -- where interrupts are on, the CPU is not at phase 3
  pub not_run : (s : ℕ) → p.now.irq me ≡ true → p.now.inside me ≡ Some s → is_at_run ((p.now.stop s).standing me) ≡ false
  not_run s on in_ = search (run_is, off_inside, h.present.stands, h.present.irq, arith)

  -- load of a key, where interrupts are on: a reading
  pub key_read : (k answer : ℕ) → p.now.irq me ≡ true → StopShows u (told u p me Act.Load (Key k) (Some (at (Key k))) None answer) at seat source
  key_read k answer on = go (p.now.inside me) refl
    where
      read : StopShows u (record p { now = reads p.now me (ReadKey k (is_on (at (Key k)))) }) at seat source
      read = search (label_step, h.owns, reads_label, h.present, h.callings, arith)

      go : (x : Option ℕ) → p.now.inside me ≡ x → StopShows u (record p { now = key_loaded u p.now me k (at (Key k)) x }) at seat source
      go x e = search (read, not_run, arith)

  -- load of a site, where interrupts are on: a reading
  pub site_read : (i answer : ℕ) → StopShows u (told u p me Act.Load (Site i) (Some (at (Site i))) None answer) at seat source
  site_read i answer = search (label_step, h.owns, reads_label, h.present, h.callings, arith)

  entries_same : (at' : Word → ℕ) → ((i : ℕ) → at' (Entry i) ≡ at (Entry i)) → AreEntriesOf u.entries (labels_in at')
  entries_same at' same = record { few = h.present.entries.few; read = λ i l. same i ∙ h.present.entries.read i l }

  -- compare-exchange of a key that won, where interrupts are on: nobody patches, and the key is on or off as before
  module _ (k found new : ℕ) (below : me < u.cpus) (online : u.online me ≡ true) (on : p.now.irq me ≡ true) (was : at (Key k) ≡ found)
      (nudge : IsNudge found new) where
    abbrev at' : Word → ℕ
    at' = put_word at (Key k) new

    on_kept : (j : ℕ) → is_on (at' (Key j)) ≡ is_on (at (Key j))
    on_kept j = search (at_test, arith)

    agrees_kept : (r : Reading) → Agrees (labels_in at) r → Agrees (labels_in at') r
    agrees_kept r a = search (on_kept, arith)

    all_agree : (rs : List Reading) → AllByRecursion (Agrees (labels_in at)) rs → AllByRecursion (Agrees (labels_in at')) rs
    all_agree [] a = tt
    all_agree (r ∷ rs) a = (agrees_kept r a.0, all_agree rs a.1)

    stands_kept : (x : Option Bool) (m n : ℕ) → is_on n ≡ is_on m → IfSome x (λ b. is_on m ≡ b) → IfSome x (λ b. is_on n ≡ b)
    stands_kept x m n e s = search arith

    pub key_exchanged : (answer : ℕ) → StopShows u (told u p me Act.Cas (Key k) (Some found) (Some new) answer) at' seat source
    key_exchanged answer = let whole = nobody_patches u p.now at seat h.present me online on in
        let lawful = lawful_when_on u p.now at seat h.present me online on in
        let same : is_on new ≡ is_on (at (Key k)) = nudge.same ∙ ap is_on (sym was) in
        label_step p.now.readings p.now.patching (moved_by p.nudged me k found new) p.patched at' seat refl (λ j f. refl)
        (search (on_kept, h.owns, arith))
        (counts_nudged u.cpus p.nudged p.patched at me k found new below was h.counts)
        record {
          slots = h.present.slots;
          stands = h.present.stands;
          homes = h.present.homes;
          irq = h.present.irq;
          works = h.present.works;
          runner = h.present.runner;
          entries = entries_same at' (λ i. refl);
          labels = subst (λ x. LabelsShow x (labels_in at')) (sym whole) (count_lawful k new (labels_in at) nudge.word same lawful);
          read = λ c o i. all_agree (p.now.readings c) (h.present.read c o i);
        } h.callings h.closing

  module _ (s : ℕ) (job : Work) where
    -- load of the key of a patch, by the CPU that is to make it: what the patch leads from is found now
    pub key_loaded_first : (answer : ℕ) → seat me ≡ In s job DISABLE_IRQ RUN Rests → job.kind ≡ Patch → has job.active me ≡ true →
        let found = at (Key job.func) in
        StopShows u (told u p me Act.Load (Key job.func) (Some found) None answer) at (put seat me (Alters s job found [] (plan_at u job found))) source
    key_loaded_first answer is kind active = let st : RoleStands p.now me (In s job DISABLE_IRQ RUN Rests) = subst (RoleStands p.now me) is
        (h.present.stands me) in
        let found = at (Key job.func) in
        let plan = plan_at u job found in
        let seat' = put seat me (Alters s job found [] plan) in
        let open_ = is_open_inside u.cpus (p.now.stop s) (λ f. at (Slot s f)) (h.present.slots s) me (Inside DISABLE_IRQ RUN) st.1 refl in
        let below : job.func < u.keys = subst (λ (w : Work). w.func < u.keys) st.3 (h.present.works s open_ (ap (λ (w : Work). w.kind) st.3 ∙ kind)).key in
        let shown = label_step p.now.readings (Patches me job found [] plan) p.nudged p.patched at seat' refl (λ j f. refl) h.owns h.counts
        (patch_starts u p.now at seat h.present s me job plan is kind active
        (λ lawful. plan_leads job.func (count_set job found) u.entries (labels_in at) (left_in_form (change_of job.arg) found
        (lawful.keys job.func (omega arith))) lawful h.present.entries))
        (search (calling_same, idle_patch, h.callings, arith))
        (closing_seat p.now seat me (Alters s job found [] plan) h.closing (subst IsNotClosing (sym is) tt)) in
        search arith

    alters_calling : (count : ℕ) (made rest made' rest' : List Change) → seat me ≡ Alters s job count made rest → (c : ℕ) →
        IsCalling c (put seat me (Alters s job count made' rest') c) (p.calling c)
    alters_calling count made rest made' rest' is = search (calling_same, h.callings, idle_alters, arith)

    -- store of the key by a patch, its first store: the count goes from what the patch has found
    pub key_stored : (count : ℕ) (made rest : List Change) (k n answer : ℕ) → me < u.cpus → seat me ≡ Alters s job count made ((Place.Key k, n) ∷ rest) →
        made ≡ [] → k ≡ job.func →
        StopShows u (told u p me Act.Store (Key k) None (Some n) answer) (put_word at (Key k) n)
        (put seat me (Alters s job count (made ++ (Place.Key k, n) ∷ []) rest)) source
    key_stored count made rest k n answer below is none here =
        let l : LabelsShow (Patches me job count made ((Place.Key k, n) ∷ rest)) (labels_in at) = search arith in
        let was : at (Key k) ≡ count = ap (λ (t : Table). t.key k) (l.2 ∙ ap (λ m. applied m l.0) none) ∙ (ap l.0.key here ∙ l.3) in
        let made' = made ++ (Place.Key k, n) ∷ [] in
        let at' = put_word at (Key k) n in
        let shown' = label_step p.now.readings (Patches me job count made' rest) p.nudged (moved_by p.patched me k count n) at' (put seat me (Alters s job
        count made' rest)) refl (λ j f. refl) (λ j. owns_stores u p.now at seat h.present j me s k n job count made ((Place.Key k, n) ∷ rest) is (h.owns
        j)) (counts_patched u.cpus p.nudged p.patched at me k count n below was h.counts) (patch_stores u p.now at seat h.present s me job count made rest
        (Place.Key k, n) at' is refl h.present.slots (entries_same at' (λ i. refl))) (alters_calling count made ((Place.Key k, n) ∷ rest) made' rest is)
        (closing_seat p.now seat me (Alters s job count made' rest) h.closing (subst IsNotClosing (sym is) tt)) in
        search ((subst (RoleStands p.now me) is (h.present.stands me)).5, shown', arith)

    -- store of a site by a patch
    pub site_stored : (count : ℕ) (made rest : List Change) (i n answer : ℕ) → seat me ≡ Alters s job count made ((Place.Site i, n) ∷ rest) →
        StopShows u (told u p me Act.Store (Site i) None (Some n) answer) (put_word at (Site i) n)
        (put seat me (Alters s job count (made ++ (Place.Site i, n) ∷ []) rest)) source
    site_stored count made rest i n answer is =
        let made' = made ++ (Place.Site i, n) ∷ [] in
        let at' = put_word at (Site i) n in
        let shown' = label_step p.now.readings (Patches me job count made' rest) p.nudged p.patched at' (put seat me (Alters s job count made' rest)) refl
        (search arith) h.owns h.counts (search (patch_stores, entries_same, arith)) (alters_calling count made ((Place.Site i, n) ∷ rest) made' rest is)
        (search (closing_seat, IsNotClosing, arith)) in
        search ((subst (RoleStands p.now me) is (h.present.stands me)).5, shown', arith)
