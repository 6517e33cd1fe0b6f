-- The step of a CPU at each stage of the stop half is accepted: the gate, begin, enter, and readings.
use Rattle.trace_laws.proofs.Names.{Bool, Kind, None, One, Option, Some, [], and_left, and_right, arith, cases_eq, cond, eqb-true, false, false≢true}
use Rattle.trace_laws.proofs.Names.{has, is_on, is_work, lt-ltb, nat_lt, ne_eqb, pos, refl, slice_set, subst, sym, true, true≢false, ℕ, ◌&&◌, ◌+◌, ◌<◌, ◌==◌}
use Rattle.trace_laws.proofs.Names.{◌∙◌, ◌≡◌}
use Rattle.trace_laws.proofs.ReplayNames.{Access, Begin, Called, Draft, DraftIs, Drafts, Enter, Field}
use Rattle.trace_laws.proofs.ReplayNames.{Free, Idle, Inside, IsCalling, IsOfCpus, IsPatchWork, Key, NudgeKey, OpenGate, Patch, Present, ReadKey}
use Rattle.trace_laws.proofs.ReplayNames.{ReadSite, ReadingKey, StopRole, Seen, Site, SitsAt, Slot, Standing, RoleStands, StopStage}
use Rattle.trace_laws.proofs.ReplayNames.{StopState, TakeGate, Visit, Word}
use Rattle.trace_laws.proofs.ReplayNames.{Work, after, after_draft, answer_at, at_after, begun_value, cpus, first_phase, is_at_run, is_called, is_open_inside}
use Rattle.trace_laws.proofs.ReplayNames.{is_patch, key_loaded, of_gate, of_roll, patch_begun, put_by, put_if, put_other, put_same, put_word}
use Rattle.trace_laws.proofs.ReplayNames.{reads, same_word, seen_of, stop_access, stop_outcome, told_of, told_work, word_of}
use Rattle.smp_words.specs.declared.field.Field.TheVariants as field
use Rattle.smp_words.specs.declared.seen.Act.TheVariants as act
use Rattle.smp_words.specs.declared.word.Word.TheVariants.{Gate}
use Rattle.smp_stop_steps.proofs.{State.Gates.gate_free, State.Gates.gate_mine}
use Rattle.smp_stop_steps.specs.Sources.{DraftShows, IsDrafted, IsOfKind, SourceShows}
use Rattle.smp_stop_steps.specs.Tells.{drafted, drafts, gate_told, opens, stored_open, tells}
use Rattle.smp_stop_steps.specs.{Sits.HoldsGate, Sits.SitsAtRest, Sits.SourceSits, Slots.order}
use Rattle.trace_model.specs.declared.event.Event.TheVariants as event
use Rattle.trace_model.specs.declared.event.LabelEvent.TheVariants as labels
use Rattle.trace_events.specs.declared.step_events.StepEvents.TheVariants as told
use Rattle.trace_events.specs.StepEvents.{task_of}
use Rattle.trace_laws.proofs.ReplayStops.SourceEvents.{drafts_step, key_read, onlines, opens_told, reads_step, site_read, works}
use Rattle.trace_laws.proofs.ReplayStops.StepKinds.{gate_given, gate_taken, idle_free, mine_past, nothing_told}
use Rattle.trace_laws.proofs.{ReplayCalls.StepEvents.by, ReplayPatches.BegunPatches.none_before, ReplayPatches.BegunPatches.works_patch, ReplayStops.Here.Here}
use Rattle.trace_laws.proofs.{ReplayStops.Here.parts, ReplayStops.Moves.enters_told, ReplayStops.StepEvents.ReachesStops, ReplayStops.StepEvents.word_kept}
use Rattle.trace_laws.proofs.ReplayStops.Here.{my}
use Rattle.smp_words.specs.declared.phase.TheConstants.{PREPARE, RUN}

pub else_if : {A : Type 0} (b : Bool) (x y : A) → b ≡ false → cond b x y ≡ y
else_if true x y e = absurd (true≢false e)
else_if false x y e = refl

module _ (known : Here) where
  open known use {v, p, shown, me, below, pasts, s, f}
  open parts known use {U as u, At as at, C as c, Old as past}

  -- the step of a stage, as it is seen
  abbrev pub seen_so : StopStage → Seen
  seen_so stage =
      let access = stop_access cpus me c.changes stage in
      let found = at (word_of access) in
      seen_of me access found (stop_outcome me c stage found).note

  -- its events are accepted
  abbrev pub Accepted : StopStage → Type 0
  Accepted stage = ReachesStops (tells u p (seen_so stage) (answer_at stage)) (at_after at (stop_access cpus me c.changes stage))
      (slice_set pasts me (after past (seen_so stage))) s (by me (told_of past (seen_so stage)))

  abbrev Kept : Access → (ℕ → Word) → Type 0
  Kept access word = (k : ℕ) → at_after at access (word k) ≡ at (word k)

  kept : (access : Access) (word : ℕ → Word) → ((k : ℕ) → same_word (word k) (word_of access) ≡ false) → Kept access word
  kept access word other k = word_kept at (word_of access) (word k) (put_by access (at (word_of access))) (other k)

  seat_is : (x : StopRole) → shown.seat me ≡ x → RoleStands p.now me x
  seat_is x e = subst (RoleStands p.now me) e (shown.shows.present.stands me)

  sits : (stage : StopStage) → c.stage ≡ Some stage → SitsAt u me c (Some stage) (shown.seat me)
  sits stage e = subst (λ (x : Option StopStage). SitsAt u me c x (shown.seat me)) e (shown.sits me below).seat

  source_sits : (stage : StopStage) → c.stage ≡ Some stage → SourceSits c.is_open (Some stage) (shown.source me)
  source_sits stage e = subst (λ (x : Option StopStage). SourceSits c.is_open x (shown.source me)) e (shown.sits me below).source

  -- the gate
  gate_on : (b : Bool) → (b ≡ true → p.gate ≡ None) → let new : Option ℕ = cond b (Some (me + 1)) None in
      ReachesStops (gate_told p me act.Cas new) (put_if put_word at Gate new) (slice_set pasts me past) s (by me (of_gate act.Cas new))
  gate_on b h1 = search (gate_taken, nothing_told, arith)

  pub takes_gate : Accepted TakeGate
  takes_gate = gate_on (at Gate == 0) (λ z. gate_free p.gate (sym shown.shows.gate ∙ eqb-true (at Gate) 0 z))

  pub opens_gate : c.stage ≡ Some OpenGate → Accepted OpenGate
  opens_gate e =
      let holds : at Gate ≡ me + 1 = subst (λ (x : Option StopStage). HoldsGate me (at Gate) x) e (shown.sits me below).gate_held in
      gate_given known (at_after at (stop_access cpus me c.changes OpenGate))
      (kept (stop_access cpus me c.changes OpenGate) Key (λ k. refl)) (kept (stop_access cpus me c.changes OpenGate) Site (λ k. refl))
      (gate_mine me p.gate (sym shown.shows.gate ∙ holds))

  -- loads of what the CPU has entered
  abbrev Plain : StopStage → Type 0
  Plain stage = ReachesStops p (at_after at (stop_access cpus me c.changes stage)) (slice_set pasts me past) s []

  pub loads : (stage : StopStage) → ((k : ℕ) → same_word (Key k) (word_of (stop_access cpus me c.changes stage)) ≡ false)
      → ((k : ℕ) → same_word (Site k) (word_of (stop_access cpus me c.changes stage)) ≡ false) → Plain stage
  loads stage keys sites = nothing_told known (at_after at (stop_access cpus me c.changes stage))
      (kept (stop_access cpus me c.changes stage) Key keys) (kept (stop_access cpus me c.changes stage) Site sites) past refl refl

  -- a CPU enters where its bit is in the roll
  enter_by : (slot : ℕ) → slot < cpus → shown.seat me ≡ Free → (b : Bool) → has (at (Slot slot field.Roll)) me ≡ b → Accepted (Enter slot)
  enter_by slot l free false e = rw (e, and_right (nat_lt me 32) false refl) (loads (Enter slot) (λ k. refl) (λ k. refl))
  enter_by slot l free true e =
      let none : p.now.inside me ≡ None = seat_is Free free in
      let k = shown.shows.present.slots slot in
      let called : is_called ((p.now.stop slot).standing me) ≡ true = sym (k.roll me) ∙ e in
      let stood : (p.now.stop slot).standing me ≡ Called = called_is ((p.now.stop slot).standing me) called in
      let is_open : (p.now.stop slot).is_open ≡ true = is_open_inside u.cpus (p.now.stop slot) (λ g. at (Slot slot g)) k me Called stood refl in
      let idle : p.calling me ≡ Idle = idle_free me (p.calling me) (subst (λ (x : StopRole). IsCalling me x (p.calling me)) free (shown.shows.callings me)) in
      rw (e, lt-ltb me 32 (omega arith)) (enters_told known (at_after at (stop_access cpus me c.changes (Enter slot)))
      (kept (stop_access cpus me c.changes (Enter slot)) Key (λ k. refl)) (kept (stop_access cpus me c.changes (Enter slot)) Site
      (λ k. refl)) _ slot l none is_open stood idle
      (record {
        stop_is = λ j. refl;
        inside_is = put_same p.now.inside me (Some slot);
        irq_is = refl;
        calling_is = refl;
        inside_else = λ d ne. put_other p.now.inside me (Some slot) d ne;
        irq_else = λ d ne. refl;
        calling_else = λ d ne. refl;
        standing_else = λ d ne. put_other (p.now.stop slot).standing me (Inside 0 0) d ne;
        gate_is = refl;
        work_is = refl;
        patching_is = refl;
      }))
    where
      called_is : (x : Standing) → is_called x ≡ true → x ≡ Called
      called_is Called e = refl
      called_is _ e = absurd (false≢true e)

  pub enters : (slot : ℕ) → c.stage ≡ Some (Enter slot) → Accepted (Enter slot)
  enters slot e = let k = sits (Enter slot) e in enter_by slot k.2 k.1 (has (at (Slot slot field.Roll)) me) refl

  -- what is kept of a stop that the CPU begins, and of no other
  rest_in : (w : Option Visit) → SitsAtRest w (shown.seat me) → past.answer ≡ pos 0
  rest_in w h1 = search (my, seat_is, arith)

  drafting : (w : Work) (g : Field) → c.stage ≡ Some (Begin w g) → DraftShows u p.gate (p.now.stop me) (λ k. at (Slot me k)) me w (order g)
  drafting w g e = subst (SourceShows u p.gate (p.now.stop me) (λ k. at (Slot me k)) me) (source_sits (Begin w g) e).1 (shown.shows.sources me)

  -- a field of a stop that is not open
  stores : (w : Work) (g : Field) → c.stage ≡ Some (Begin w g) → (n : ℕ) → (after_draft past g n).phase ≡ past.phase
      → (after_draft past g n).answer ≡ past.answer
      → ReachesStops (record p { now = drafts p.now me g n }) (put_word at (Slot me g) n) (slice_set pasts me (after_draft past g n)) s []
  stores w g e n phase answer =
      let d = drafting w g e in
      drafts_step known (put_word at (Slot me g) n) (λ k. refl) (λ k. refl)
      (record p { now = drafts p.now me g n }) (after_draft past g n) (record (p.now.stop me) { work = drafted g n (p.now.stop me).work }) d.shut d.shut
      (λ j. refl) (λ d. refl) (λ d. refl) (λ d. refl) (λ d. refl) refl refl
      (mine_past known (put_word at (Slot me g) n) (λ k. refl) (λ k. refl)
      (after_draft past g n) phase answer)

  -- while it is not open
  stores_shut : (w : Work) (g : Field) (x : StopState) (n : ℕ) → c.stage ≡ Some (Begin w g) → (phase : (after_draft past g n).phase ≡ past.phase)
      → (after_draft past g n).answer ≡ past.answer
      → ReachesStops (cond (p.now.stop me).is_open x (record p { now = drafts p.now me g n })) (put_word at (Slot me g) n) (slice_set pasts me
      (after_draft past g n)) s []
  stores_shut w g x n e phase answer = subst (λ (z : StopState). ReachesStops z (put_word at (Slot me g) n) (slice_set pasts me (after_draft past g n)) s [])
      (sym (else_if (p.now.stop me).is_open x (record p { now = drafts p.now me g n }) (drafting w g e).shut)) (stores w g e n phase answer)

  first_low : (k : Kind) → nat_lt PREPARE (first_phase k) ≡ false
  first_low One = refl
  first_low _ = refl

  at_rest : (w : Work) (g : Field) → c.stage ≡ Some (Begin w g) → past.answer ≡ pos 0
  at_rest w g e = rest_in c.visit (sits (Begin w g) e)

  begun_task : (w : Work) (d : Draft) → IsOfCpus w → DraftIs w field.Roll d → task_of d ≡ told_work w
  begun_task w d h1 h2 = search arith

  opens_so : (w : Work) → c.stage ≡ Some (Begin w field.Roll) → IsOfCpus w → DraftIs w field.Roll past.draft → s.setting.online ≡ v.online → s.setting.keys
      ≡ v.labels.keys
      → ReachesStops (opens p me) (put_word at (Slot me field.Roll) w.mask) (slice_set pasts me past) s (by me (of_roll past me act.Store (seen_so
      (Begin w field.Roll))))
  opens_so w e plain d online count =
      let k = drafting w field.Roll e in
      let same : (p.now.stop me).work ≡ w = drafted_all (p.now.stop me).work w k.told in
      opens_told known (put_word at (Slot me field.Roll) w.mask)
      (λ j. refl) (λ j. refl)
      (opens p me) w same k.shut (task_of past.draft) (begun_task w past.draft plain d)
      (works s.setting w w.kind refl k.is_work.some (λ one. subst (λ (x : Kind). IsOfKind u w x) one k.is_work.kind)
      (λ kind. a_patch kind (subst (λ (x : Kind). IsOfKind u w x) kind k.is_work.kind)))
      (onlines s.setting w.mask (λ j m. rw online (k.is_work.online j m))) k.holds
      (λ j. refl) (λ j. refl) (λ j. refl) (λ j. refl) refl refl
    where
      a_patch : w.kind ≡ Patch → IsPatchWork u.online u.first u.keys w → is_work s.setting (told_work w) ≡ true
      a_patch kind k =
          let setup = shown.shows.setup in
          let first_below_32 = setup.below u.first setup.first in
          works_patch s.setting v.online u.first w (omega (arith, first_below_32)) setup.first (λ c l. none_before v.online cpus c l) online kind k.all k.first
          (subst (λ (n : ℕ). w.func < n) (sym count) k.key) k.change

      drafted_all : (x y : Work) → IsDrafted 10 x y → x ≡ y
      drafted_all x y k = search arith

  pub begins : (w : Work) (g : Field) → c.stage ≡ Some (Begin w g) → Drafts (Some (Begin w g)) past.draft → s.setting.online ≡ v.online
      → s.setting.keys ≡ v.labels.keys → Accepted (Begin w g)
  begins w field.Result e d on count = stores_shut w field.Result (stored_open p me me field.Result 0) 0 e refl (sym (at_rest w field.Result e))
  begins w field.State e d on count =
      rw (first_low w.kind) (stores_shut w field.State (stored_open p me me field.State (first_phase w.kind)) (first_phase w.kind) e refl refl)
  begins w field.Roll e d on count = subst (λ (z : StopState). ReachesStops z (put_word at (Slot me field.Roll) w.mask) (slice_set pasts me past) s
      (by me (of_roll past me act.Store (seen_so (Begin w field.Roll)))))
      (sym (else_if (p.now.stop me).is_open (stored_open p me me field.Roll w.mask) (opens p me) (drafting w field.Roll e).shut))
      (opens_so w e d.0 d.1 on count)
  begins w g e d on count = stores_shut w g (stored_open p me me g (begun_value cpus w g)) (begun_value cpus w g) e refl refl

  -- a key and a site are read
  on_read : p.now.irq me ≡ true → (past.phase == RUN) ≡ false
  on_read on = ne_eqb past.phase RUN (λ three. true≢false (sym on ∙ (my known).reads three))

  key_on : (k : ℕ) (q : StopState) → p.now.irq me ≡ true → ((j : ℕ) → q.now.stop j ≡ p.now.stop j) → ((d : ℕ) → q.now.inside d ≡ p.now.inside d)
      → ((d : ℕ) → q.now.irq d ≡ p.now.irq d) → ((d : ℕ) → q.calling d ≡ p.calling d) → q.gate ≡ p.gate
      → q.now.patching ≡ p.now.patching → ReachesStops q at (slice_set pasts me past) s
      (by me (cond (past.phase == RUN) told.Nothing (told.One (event.Label (labels.Key k (is_on (at
      (Key k))))))))
  key_on k q on stop inside irq calling gate patching = rw (on_read on)
      (reads_step known at (λ j. refl) (λ j. refl) q
      (event.Label (labels.Key k (is_on (at (Key k)))))
      (key_read known at (λ j. refl)
      (λ j. refl) k on) stop inside irq calling gate patching)

  irq_on : c.interrupts ≡ true → p.now.irq me ≡ true
  irq_on e = shown.shows.present.irq me ∙ (sym (shown.sits me below).irq ∙ e)

  not_at_run : (w : Option Visit) → SitsAtRest w (shown.seat me) → (j : ℕ) → p.now.inside me ≡ Some j → is_at_run ((p.now.stop j).standing me) ≡ false
  not_at_run w h1 j h2 = search (seat_is, cases_eq, and_left, ne_eqb, arith)

  key_in : (k : ℕ) (w : Option Visit) → SitsAtRest w (shown.seat me) → p.now.irq me ≡ true → (o : Option ℕ) → p.now.inside me ≡ o
      → ReachesStops (record p { now = key_loaded u p.now me k (at (Key k)) o }) at (slice_set pasts me past) s
      (by me (cond (past.phase == RUN) told.Nothing (told.One (event.Label (labels.Key k (is_on (at (Key k))))))))
  key_in k w rest on None e = key_on k (record p { now = key_loaded u p.now me k (at (Key k)) None }) on (λ j. refl) (λ d. refl) (λ d. refl) (λ d. refl) refl
      refl
  key_in k w rest on (Some j) e =
      let n = reads p.now me (ReadingKey k (is_on (at (Key k)))) in
      let not_run = and_left (is_at_run ((p.now.stop j).standing me)) (is_patch (p.now.stop j).work.kind) (not_at_run w rest j e) in
      subst (λ (x : Present). ReachesStops (record p { now = x }) at (slice_set pasts me past) s
      (by me (cond (past.phase == RUN) told.Nothing (told.One (event.Label (labels.Key k (is_on (at (Key k)))))))))
      (sym (else_if (is_at_run ((p.now.stop j).standing me) && is_patch (p.now.stop j).work.kind)
      (record (p.now) { patching = patch_begun u me (p.now.stop j).work (at (Key k)) }) n not_run))
      (key_on k (record p { now = n }) on (λ j. refl) (λ d. refl) (λ d. refl) (λ d. refl) refl refl)

  pub reads_key : (k : ℕ) → c.stage ≡ Some (ReadKey k) → Accepted (ReadKey k)
  reads_key k e = let st = sits (ReadKey k) e in key_in k c.visit st.2 (irq_on st.0) (p.now.inside me) refl

  pub looks_key : (k : ℕ) (up : Bool) → c.stage ≡ Some (NudgeKey k up) → Accepted (NudgeKey k up)
  looks_key k up e = let st = sits (NudgeKey k up) e in key_in k c.visit st.3 (irq_on st.0) (p.now.inside me) refl

  pub reads_site : (k : ℕ) → c.stage ≡ Some (ReadSite k) → Accepted (ReadSite k)
  reads_site k e =
      let st = sits (ReadSite k) e in
      reads_step known at (λ j. refl) (λ j. refl) _
      (event.Label (labels.Site k (is_on (at (Site k)))))
      (site_read known at (λ j. refl) (λ j. refl) k (irq_on st.0))
      (λ j. refl) (λ d. refl) (λ d. refl) (λ d. refl) refl refl
