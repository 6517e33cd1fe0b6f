-- The load of a key by which a patch begins, and each of its stores, are accepted.
use Rattle.trace_laws.proofs.Names.{Event, Key, LabelWords, List, None, Ok, Option, Place, Site, Some, StateValue, Task, [], acked_by, ap, append-nil, arith}
use Rattle.trace_laws.proofs.Names.{cases_eq, cond, count_at, cpu_at, eq-eqb, goes, has, has_run, inl, inr, is_on, label_goes, length, length-set, next_store}
use Rattle.trace_laws.proofs.Names.{patch_left, popped, refl, site_word, slice_set, stop_at, stored, subst, sym, true, with_patch, with_word, ℕ, ◌&&◌, ◌++◌}
use Rattle.trace_laws.proofs.Names.{◌<◌, ◌==◌, ◌∙◌, ◌∷◌, ◌≡◌, ◌≢◌}
use Rattle.trace_laws.proofs.ReplayNames.{Advance, Alters, Called, Calling, Change, CpuIs, FollowsStops, HasLeft, Idle, In, Inside, InsideIs}
use Rattle.trace_laws.proofs.ReplayNames.{IsCalling, IsPatchWork, Keeps, LabelsShow, Leads, MadeIs, OpenIs, PartIs, Patch, Patches, Patching, PhaseIs, Present}
use Rattle.trace_laws.proofs.ReplayNames.{ReadingKey, Rests, RoundStage, RunnerShows, StopRole, SitsInRound, Standing, RoleStands, Stop}
use Rattle.trace_laws.proofs.ReplayNames.{StopIs, StopStage, StopState}
use Rattle.trace_laws.proofs.ReplayNames.{ToldPatch, ToldStop, Visit, Whole, Work, acked, after, at_after, change_at, front_of, is_at_run, is_patch}
use Rattle.trace_laws.proofs.ReplayNames.{keeps_inside, key_loaded, label_word, labels_in, past_at, patch_begun, patch_now, plan_at, put_word, reads, seen_of}
use Rattle.trace_laws.proofs.ReplayNames.{store_of, told_of, told_work, word_of}
use Rattle.smp_labels.specs.declared.keys.Change.{Change as KeyChange}
use Rattle.smp_words.specs.declared.word.Word.TheVariants as word
use Rattle.smp_stop_steps.proofs.Steps.RoundSteps.{change_here}
use Rattle.smp_stop_steps.specs.declared.stage.RoundStage.TheVariants as round
use Rattle.smp_stop_steps.specs.{Tells.patched_more, Tells.tells}
use Rattle.trace_model.specs.declared.event.Event.TheVariants as event
use Rattle.trace_model.specs.declared.event.LabelEvent.TheVariants as labels
use Rattle.trace_events.specs.declared.step_events.StepEvents.TheVariants as told
use Rattle.trace_laws.proofs.ReplayPatches.OnePatcher.{alone_is, first_is, nobody_patches, open_inside}
use Rattle.trace_laws.proofs.ReplayPatches.PatchEvents.{AreEntries, count_found, makes_key, makes_site, part_leads, part_stored}
use Rattle.trace_laws.proofs.ReplayPatches.StoredWords.{IsStoreOf, IsThere, front_is, stored_keys, stored_keys_are, stored_sites}
use Rattle.trace_laws.proofs.ReplayPatches.StoredWords.{stored_sites_are}
use Rattle.trace_laws.proofs.ReplayStops.ChangedStates.{IsAlike, IsAlone, cpu_alike, patch_else, still_no_more, stop_else, stop_here}
use Rattle.trace_laws.proofs.ReplayStops.TurnSteps.{Made, seat_is, sits, st, then_if}
use Rattle.trace_laws.proofs.{ReplayCalls.KeptPasts.past_else, ReplayCalls.KeptPasts.past_here, ReplayCalls.StepEvents.by, ReplayStops.Here.Here}
use Rattle.trace_laws.proofs.{ReplayStops.Here.parts, ReplayStops.StepEvents.ReachesStops, ReplayStops.StepEvents.member_as, ReplayStops.StepEvents.quiet_step}
use Rattle.trace_laws.proofs.{ReplayStops.Here.my, ReplayStops.StopEvents.made_low}
use Rattle.trace_laws.specs.AgreeingPatches.{PatchingIs}
use Rattle.smp_words.specs.declared.phase.TheConstants.{DISABLE_IRQ, RUN}

-- a stop of a patch is as it is told, also where its patch is told to be another
pub told_patched : (x : Stop) (y : ToldStop) (patch : Option ToldPatch) → StopIs x y → x.work.kind ≡ Patch
    → ((cpu : ℕ) → x.standing cpu ≡ Called → has y.task.active cpu ≡ true → ⊥) → StopIs x (record y { patch = patch })
told_patched x y patch h1 h2 h3 = search (member_as, arith)

-- after one store more a patch has made some
left_part : (words : LabelWords) (key : ℕ) (made rest : List Change) (change : Change) (patch : Option ToldPatch) → HasLeft words key rest patch
    → PartIs words key (made ++ change ∷ []) rest patch
left_part words key [] rest change patch k = k
left_part words key (first ∷ made) rest change patch k = k

module _ (known : Here) where
  open known use {p, shown, me, below, pasts, sized, s, whole, cpus_are, f}
  open parts known use {U, At, C, Old}

  abbrev Does : StopStage → Type 0
  Does stage = Made known stage

  at_stage : (w : Visit) (stage : RoundStage) → C.stage ≡ Some (Advance w stage) → SitsInRound U me C.changes w stage (shown.seat me)
  at_stage = sits known

  -- a CPU at RUN of a patch, of which it is the active one
  module _ (slot : ℕ) (w : Work) (work : (p.now.stop slot).work ≡ w) (kind : w.kind ≡ Patch) (active : has w.active me ≡ true)
      (inside : p.now.inside me ≡ Some slot) (stood : (p.now.stop slot).standing me ≡ Inside DISABLE_IRQ RUN) where
    i : InsideIs p s Old me slot
    i = (my known).stop slot inside

    pub open_now : (p.now.stop slot).is_open ≡ true
    open_now = open_inside U p At shown.seat shown.source shown.shows slot me inside

    pub told_now : OpenIs (p.now.stop slot) (stop_at s slot)
    told_now = (f.stops slot i.below).shows open_now

    pub kind_is : (p.now.stop slot).work.kind ≡ Patch
    kind_is = ap (λ (z : Work). z.kind) work ∙ kind

    pub first_now : me ≡ U.first
    first_now = first_is U p At shown.seat shown.source shown.shows slot me open_now kind_is (ap (λ (z : Work). has z.active me) work ∙ active)

    pub alone_now : IsAlone p me
    alone_now = alone_is U p At shown.seat shown.source shown.shows me first_now

    pub patch_work : IsPatchWork U.online U.first U.keys (p.now.stop slot).work
    patch_work = shown.shows.present.works slot open_now kind_is

    pub small : w.func < 4
    small =
        let k : w.func < U.keys = subst (λ (z : Work). z.func < U.keys) work patch_work.key in
        omega (arith, k, shown.shows.setup.few_keys)

    pub phase_now : (p.now.stop slot).phase ≡ RUN
    phase_now =
        let k : Keeps U.cpus (p.now.stop slot).phase me (Inside DISABLE_IRQ RUN) =
        keeps_inside U.cpus (p.now.stop slot) (λ g. At (word.Slot slot g)) (shown.shows.present.slots slot) me (Inside DISABLE_IRQ RUN) stood in
        elim k.2 [
          | inl e ↦ absurd cc
          | inr e ↦ e.1
        ]

    pub task_now : (stop_at s slot).task ≡ told_work w
    task_now = told_now.task ∙ ap told_work work

    pub told_active : has (stop_at s slot).task.active me ≡ true
    told_active = ap (λ (z : Task). has z.active me) task_now ∙ active

    pub acked_low : acked_by (stop_at s slot) me < RUN
    acked_low =
        let k : acked_by (stop_at s slot) me ≡ DISABLE_IRQ = (told_now.members me below).acked_is ∙ ap acked stood in
        omega (arith, k)

    pub old_phase : Old.phase ≡ RUN
    old_phase = (subst (λ (z : Standing). PhaseIs z Old.phase) stood i.phase) (λ z. absurd cc)

    -- no CPU that is called makes a patch
    pub none_called : (cpu : ℕ) → (p.now.stop slot).standing cpu ≡ Called → has (stop_at s slot).task.active cpu ≡ true → ⊥
    none_called cpu is on =
        let of : has (p.now.stop slot).work.active cpu ≡ true = sym (ap (λ (z : Task). has z.active cpu) told_now.task) ∙ on in
        let same : cpu ≡ me = first_is U p At shown.seat shown.source shown.shows slot cpu open_now kind_is of ∙ sym first_now in
        apart (sym is ∙ (ap (p.now.stop slot).standing same ∙ stood))
      where
        apart : Called ≡ Inside DISABLE_IRQ RUN → ⊥
        apart z = absurd cc

  -- the key is loaded, and the patch has begun
  begins_at : (x : Visit) (key : ℕ) (w : Work) → shown.seat me ≡ In x.slot w DISABLE_IRQ RUN Rests → w.kind ≡ Patch → has w.active me ≡ true
      → ReachesStops (record p { now = key_loaded U p.now me key (At (word.Key key)) (p.now.inside me) }) At (slice_set pasts me Old) s
      (by me (cond (Old.phase == RUN) told.Nothing (told.One (event.Label (labels.Key key (is_on (At (word.Key key))))))))
  begins_at x key w at_seat kind active =
      let so = st known x.slot DISABLE_IRQ RUN w Rests at_seat in
      let n : Present = record (p.now) { patching = patch_begun U me (p.now.stop x.slot).work (At (word.Key key)) } in
      let q : StopState = record p { now = n } in
      let run : (is_at_run ((p.now.stop x.slot).standing me) && is_patch (p.now.stop x.slot).work.kind) ≡ true =
      rw (so.1, kind_is x.slot w so.3 kind active so.0 so.1) refl in
      let loaded : key_loaded U p.now me key (At (word.Key key)) (p.now.inside me) ≡ n =
      rw so.0 (then_if (is_at_run ((p.now.stop x.slot).standing me) && is_patch (p.now.stop x.slot).work.kind) n
      (reads p.now me (ReadingKey key (is_on (At (word.Key key))))) run) in
      let none = λ (j : ℕ) (y : Work) (count : ℕ) (made rest : List Change) (e : shown.seat me ≡ Alters j y count made rest). apart j y count made rest
      (sym at_seat ∙ e) in
      let was_whole = nobody_patches U p At shown.seat shown.source shown.shows me (first_now x.slot w so.3 kind active so.0 so.1) none in
      let mine : CpuIs q s Old me = record {
        inside = (my known).inside;
        irq = (my known).irq;
        stop = λ j e. let i = (my known).stop j e in record {
          below = i.below;
          ran = i.ran;
          patch = λ k on. begun j (p.calling me) was_whole (i.patch k on);
          phase = i.phase;
          answer = i.answer;
        };
        answer = (my known).answer;
        reads = (my known).reads;
      } in
      rw (loaded, eq-eqb Old.phase RUN (old_phase x.slot w so.3 kind active so.0 so.1))
      (quiet_step p q At At pasts s me Old below sized cpus_are f (λ j. refl) (λ j. refl) refl (λ j. refl) (λ d ne. refl) (λ d ne. refl) (λ d ne. refl)
      (inr (alone_now x.slot w so.3 kind active so.0 so.1)) mine)
    where
      apart : (j : ℕ) (y : Work) (count : ℕ) (made rest : List Change) → In x.slot w DISABLE_IRQ RUN Rests ≡ Alters j y count made rest → ⊥
      apart j y count made rest z = absurd cc

      begun : (j : ℕ) (g : Calling) → p.now.patching ≡ Whole → MadeIs s.words p.now.patching g (stop_at s j).patch
          → MadeIs s.words (patch_begun U me (p.now.stop x.slot).work (At (word.Key key))) g (stop_at s j).patch
      begun j g e k = search arith

  pub begins_patch : (x : Visit) (key : ℕ) (change : KeyChange) → C.stage ≡ Some (Advance x (round.LoadKey key change)) → Does
      (Advance x (round.LoadKey key change))
  begins_patch x key change e =
      let k = at_stage x (round.LoadKey key change) e in
      let run = k.1.1 in
      begins_at x key k.1.0 run.3 (sym run.0.kind ∙ k.0) (ap (λ (m : ℕ). has m me) (sym run.0.active) ∙ run.2)

  -- a CPU that makes a patch
  module _ (slot : ℕ) (w : Work) (count : ℕ) (made rest : List Change) (at_seat : shown.seat me ≡ Alters slot w count made rest) where
    pub so : RoleStands p.now me (Alters slot w count made rest)
    so = seat_is known (Alters slot w count made rest) at_seat

    pub active_now : has w.active me ≡ true
    active_now =
        let k = shown.shows.present.works slot (open_inside U p At shown.seat shown.source shown.shows slot me so.0) (ap (λ (z : Work). z.kind) so.3 ∙ so.4) in
        let r : RunnerShows U.first (Patches me w count made rest) shown.seat =
        subst (λ (g : Patching). RunnerShows U.first g shown.seat) so.5 shown.shows.present.runner in
        sym (ap (λ (z : Work). has z.active me) so.3) ∙ (k.first me ∙ eq-eqb me U.first r.0)

    pub idle : p.calling me ≡ Idle
    idle = by_calling (p.calling me) (subst (λ (x : StopRole). IsCalling me x (p.calling me)) at_seat (shown.shows.callings me))
      where
        by_calling : (g : Calling) → IsCalling me (Alters slot w count made rest) g → g ≡ Idle
        by_calling Idle k = refl
        by_calling _ k = absurd k

    here : InsideIs p s Old me slot
    here = (my known).stop slot so.0

    pub part : PartIs s.words w.func made rest (stop_at s slot).patch
    part =
        let k = here.patch (ap (λ (z : Work). z.kind) so.3 ∙ so.4) (ap (λ (z : Work). has z.active me) so.3 ∙ active_now) in
        let g = subst (λ (z : Calling). MadeIs s.words p.now.patching z (stop_at s slot).patch) idle k in
        subst (λ (z : Patching). PatchingIs s.words z (stop_at s slot).patch) so.5 g

    pub found : made ≡ [] → count_at s.words w.func ≡ count
    found none =
        let l : LabelsShow (Patches me w count made rest) (labels_in At) = subst (λ (g : Patching). LabelsShow g (labels_in At)) so.5
        shown.shows.present.labels in
        f.keys w.func ∙ count_found At me count w rest (subst (λ (z : List Change). LabelsShow (Patches me w count z rest) (labels_in At)) none l)

    pub task_is : (stop_at s slot).task ≡ told_work w
    task_is = task_now slot w so.3 so.4 active_now so.0 so.1

    pub leads : AreEntries U s.words → plan_at U w count ≡ made ++ rest → Leads s.words w.func (patch_now s.words (stop_at s slot)) rest
    leads entries plan = part_leads U s.words w count shown.shows.present.entries.few entries (small slot w so.3 so.4 active_now so.0 so.1)
        (stop_at s slot) made rest (ap (λ (z : Task). z.func) task_is) (ap (λ (z : Task). z.arg) task_is) part
        (λ none. (found none, plan ∙ ap (λ (z : List Change). z ++ rest) none))

  -- it makes its next store
  module _ (slot : ℕ) (w : Work) (count : ℕ) (made more : List Change) (change : Change) (at_seat : shown.seat me ≡ Alters slot w count made (change ∷ more))
      (entries : AreEntries U s.words) (plan : plan_at U w count ≡ made ++ change ∷ more) where
    abbrev Is : RoleStands p.now me (Alters slot w count made (change ∷ more))
    Is = so slot w count made (change ∷ more) at_seat

    lead : Leads s.words w.func (patch_now s.words (stop_at s slot)) (change ∷ more)
    lead = leads slot w count made (change ∷ more) at_seat entries plan

    on : has w.active me ≡ true
    on = active_now slot w count made (change ∷ more) at_seat

    task : (stop_at s slot).task ≡ told_work w
    task = task_is slot w count made (change ∷ more) at_seat

    next : next_store slot s ≡ Some change
    next = subst (λ (n : ℕ). front_of s.words n (patch_left slot s) ≡ Some change) (sym (ap (λ (z : Task). z.func) task)) lead.0

    store_is : IsStoreOf w.func change.0 change.1
    store_is = front_is s.words w.func (patch_now s.words (stop_at s slot)) change.0 change.1 lead.0

    there : IsThere change.0
    there = by_place change.0 change.1 store_is (small slot w Is.3 Is.4 on Is.0 Is.1)
      where
        by_place : (place : Place) (n : ℕ) → IsStoreOf w.func place n → w.func < 4 → IsThere place
        by_place (Key k) n is l = omega (arith, is, l)
        by_place (Site j) n is l = is.0

    abbrev Left : ToldPatch
    Left = popped (patch_left slot s) change.0

    abbrev Told : ToldStop
    Told = record (stop_at s slot) { patch = Some Left }

    abbrev T : StateValue
    T = with_patch slot Left (with_word change.0 change.1 s)

    here_told : stop_at T slot ≡ Told
    here_told = stop_here s slot Told f.stops_are ((my known).stop slot Is.0).below

    module _ (q : StopState) (stops : (j : ℕ) → q.now.stop j ≡ p.now.stop j) (inside : (d : ℕ) → q.now.inside d ≡ p.now.inside d)
        (irq : (d : ℕ) → q.now.irq d ≡ p.now.irq d) (calling : (d : ℕ) → q.calling d ≡ p.calling d) (gate : q.gate ≡ p.gate)
        (patching : q.now.patching ≡ patched_more p.now.patching) where
      ran_same : (d j : ℕ) → has_run (stop_at T j) d ≡ has_run (stop_at s j) d
      ran_same d j = search (cases_eq, here_told, stop_else, arith)

      other : (d : ℕ) → d ≢ me → IsAlike p q s T d
      other d ne = record {
        inside = inside d;
        irq = irq d;
        calling = calling d;
        standing = λ j e. ap (λ (z : Stop). z.standing d) (stops j);
        inside_told = refl;
        irq_told = refl;
        ran = λ j e l. ran_same d j;
        work = λ j e. ap (λ (z : Stop). z.work) (stops j);
        patch = λ j e l k. patch_else p q s T me d j (alone_now slot w Is.3 Is.4 on Is.0 Is.1) ne e (ap (λ (z : Stop). z.work) (stops j));
      }

      patched_now : q.now.patching ≡ Patches me w count (made ++ change ∷ []) more
      patched_now = patching ∙ ap patched_more Is.5

      made_now : MadeIs T.words q.now.patching (q.calling me) (stop_at T slot).patch
      made_now = rw (patched_now, calling me, idle slot w count made (change ∷ more) at_seat, here_told)
          (left_part (stored change.0 change.1 s.words) w.func made more change (Some Left) (part_stored s.words w.func (stop_at s slot) made more change (part
          slot w count made (change ∷ more) at_seat) lead))

      own : (j : ℕ) → q.now.inside me ≡ Some j → InsideIs q T Old me j
      own j e =
          let was = sym (inside me) ∙ e in
          let i = (my known).stop j was in
          record {
            below = i.below;
            ran = ran_same me j ∙ rw (calling me, (ap (λ (z : Stop). z.work) (stops j))) i.ran;
            patch = λ k active. subst (λ (n : ℕ). MadeIs T.words q.now.patching (q.calling me) (stop_at T n).patch) (same_slot (sym Is.0 ∙ was)) made_now;
            phase = rw (stops j) i.phase;
            answer = rw (stops j) i.answer;
          }
        where
          same_slot : Some slot ≡ Some j → slot ≡ j
          same_slot z = cc

      follows_store : FollowsStops q (put_word At (label_word change.0) change.1) (slice_set pasts me Old) T
      follows_store = record {
        stops_are = length-set s.stops slot Told ∙ f.stops_are;
        keys_are = stored_keys_are change.0 change.1 s.words ∙ f.keys_are;
        sites_are = stored_sites_are change.0 change.1 s.words ∙ f.sites_are;
        gate = f.gate ∙ sym gate;
        stops = λ j l. rw (stops j) (elim (cases_eq j slot) [
          | inl e ↦ rw (e, here_told) (told_patched (p.now.stop slot) (stop_at s slot) (Some Left)
              (f.stops slot ((my known).stop slot Is.0).below) (kind_is slot w Is.3 Is.4 on Is.0 Is.1) (none_called slot w Is.3 Is.4 on Is.0 Is.1))
          | inr ne ↦ rw (stop_else s slot Told j ne) (f.stops j l)
        ]);
        no_more = still_no_more s slot Told ((my known).stop slot Is.0).below f.no_more;
        cpus_are = λ d. elim (cases_eq d me) [
          | inl e ↦ rw (e, past_here pasts me Old sized below) (record {
            inside = (my known).inside ∙ sym (inside me);
            irq = (my known).irq ∙ sym (irq me);
            stop = own;
            answer = λ z. (my known).answer (sym (inside me) ∙ z);
            reads = λ z. irq me ∙ (my known).reads z;
          })
          | inr ne ↦ rw (past_else pasts me Old d ne) (cpu_alike p q s T d (past_at pasts d) (other d ne) (f.cpus_are d))
        ];
        keys = stored_keys s.words At change.0 change.1 there f.keys_are f.keys;
        sites = stored_sites s.words At change.0 change.1 there f.sites_are f.sites;
      }

      pub reaches_store : (e : Event) → goes me e s ≡ Ok T
          → ReachesStops q (put_word At (label_word change.0) change.1) (slice_set pasts me Old) s ((me, e) ∷ [])
      reaches_store e is = record {
        t = T;
        runs = (T, (is, refl));
        follows = follows_store;
        leaves = search arith;
      }

    -- the store of a key or a site, as it is seen
    abbrev Stored : Place → ℕ → Type 0
    Stored place n =
        let access = store_of (place, n) in
        let seen = seen_of me access (At (word_of access)) None in
        ReachesStops (tells U p seen 0) (at_after At access) (slice_set pasts me (after Old seen)) s (by me (told_of Old seen))

    in_told : (cpu_at s me).inside ≡ Some slot
    in_told = (my known).inside ∙ Is.0

    kind_told : (stop_at s slot).task.kind ≡ Patch
    kind_told = ap (λ (z : Task). z.kind) task ∙ Is.4

    stored_place : (place : Place) (n : ℕ) → change ≡ (place, n) → Stored place n
    unfolding label_goes
    stored_place (Key k) n e =
        let phase = told_now slot w Is.3 Is.4 on Is.0 Is.1 in
        let q = tells U p (seen_of me (store_of (Key k, n)) (At (word.Key k)) None) 0 in
        let is : goes me (event.Label (labels.Set k n)) s ≡ Ok T =
        made_low me below (rw e (makes_key s me whole slot (omega (arith, ((my known).stop slot Is.0).below)) in_told kind_told
        (told_active slot w Is.3 Is.4 on Is.0 Is.1) (acked_low slot w Is.3 Is.4 on Is.0 Is.1)
        (phase.phase ∙ phase_now slot w Is.3 Is.4 on Is.0 Is.1) k n (next ∙ ap Some e))) in
        subst (λ (z : Change). ReachesStops q (put_word At (label_word z.0) z.1) (slice_set pasts me Old) s ((me, event.Label (labels.Set k n)) ∷ [])) e
        (reaches_store q (λ j. refl) (λ d. refl) (λ d. refl) (λ d. refl) refl refl (event.Label (labels.Set k n)) is)
    stored_place (Site j) n e =
        let phase = told_now slot w Is.3 Is.4 on Is.0 Is.1 in
        let q = tells U p (seen_of me (store_of (Site j, n)) (At (word.Site j)) None) 0 in
        let back : site_word (is_on n) ≡ n = (subst (λ (z : Change). IsStoreOf w.func z.0 z.1) e store_is).1 in
        let is : goes me (event.Label (labels.Turn j (is_on n))) s ≡ Ok T =
        made_low me below (rw (back, e) (makes_site s me whole slot (omega (arith, ((my known).stop slot Is.0).below)) in_told kind_told
        (told_active slot w Is.3 Is.4 on Is.0 Is.1) (acked_low slot w Is.3 Is.4 on Is.0 Is.1)
        (phase.phase ∙ phase_now slot w Is.3 Is.4 on Is.0 Is.1) j n (next ∙ ap Some e))) in
        subst (λ (z : Change). ReachesStops q (put_word At (label_word z.0) z.1) (slice_set pasts me Old) s
        ((me, event.Label (labels.Turn j (is_on n))) ∷ [])) e
        (reaches_store q (λ d. refl) (λ d. refl) (λ d. refl) (λ d. refl) refl refl (event.Label (labels.Turn j (is_on n))) is)

    pub stored_now : Stored change.0 change.1
    stored_now = stored_place change.0 change.1 refl

  -- a store, as it is seen
  abbrev So : Change → Type 0
  So change =
      let seen = seen_of me (store_of change) (At (word_of (store_of change))) None in
      ReachesStops (tells U p seen 0) (at_after At (store_of change)) (slice_set pasts me (after Old seen)) s (by me (told_of Old seen))

  -- the store that is next is made
  pub stores_change : (x : Visit) (n : ℕ) → C.stage ≡ Some (Advance x (round.StoreChange n)) → AreEntries U s.words → Does (Advance x (round.StoreChange n))
  stores_change x n e entries =
      let k = at_stage x (round.StoreChange n) e in
      go k.0 k.1 k.6.0 k.6.1 k.4 k.5 k.6.2 k.6.3 k.6.4
    where
      go : (w : Work) (count : ℕ) (made rest : List Change) → n < length C.changes → C.changes ≡ plan_at U w count → C.changes ≡ made ++ rest
          → length made ≡ n → shown.seat me ≡ Alters x.slot w count made rest → Does (Advance x (round.StoreChange n))
      go w count made [] l plan are long is =
          let z : length C.changes ≡ length made = ap length (are ∙ append-nil made) in
          absurd (omega (arith, l, z, long))
      go w count made (change ∷ more) l plan are long is =
          let at_n : change_at C.changes n ≡ change = rw (are, sym long) (change_here made change more) in
          subst So (sym at_n) (stored_now x.slot w count made more change is entries (sym plan ∙ are))
