-- CPUs that are not online have no part in the stops: a step and the beginning of a command keep it.
use Rattle.std.proofs.Common.{◌≡◌, ◌≢◌, ℕ, ◌+◌, ◌<◌, nat_lt, Bool, true, false, ◌==◌, ◌&&◌, cond, Option, Some, None, List, [], ◌∷◌, ◌++◌, replicate, refl}
use Rattle.std.proofs.Common.{sym, subst, ap, ◌∙◌, true≢false, ne_eqb, eq-eqb, arith}
use Rattle.std.proofs.lemmas.Bool.{ltb-true, ltb-false, true_from_ne_false}
use Rattle.std.proofs.lemmas.List.{get_or-set_other}
use Rattle.std.specs.Prelude.{slice_set}
use Rattle.smp_mask.specs.Mask.{has}
use Rattle.smp_labels.specs.Keys.{is_on}
use Rattle.smp_words.specs.Access.{seen_of}
use Rattle.smp_words.specs.Size.{cpus}
use Rattle.smp_words.specs.Put.{put}
use Rattle.smp_words.specs.Commands.{FitsCommand}
use Rattle.smp_words.specs.declared.command.Command.{Command}
use Rattle.smp_words.specs.declared.field.Field.{Field}
use Rattle.smp_words.specs.declared.seen.Act.TheVariants as act
use Rattle.smp_words.specs.declared.seen.Note.{Note}
use Rattle.smp_words.specs.declared.word.Word.TheVariants.{Gate, Slot}
use Rattle.smp_words.specs.declared.work.Work.{Work}
use Rattle.smp_words.proofs.Zeros.{get_or-same}
use Rattle.smp_stop_steps.specs.Threads.Known.{holds_it}
use Rattle.smp_stop_steps.specs.Labels.{Change, Patching}
use Rattle.smp_stop_steps.specs.Machine.{IsSoundHalf, StopTold, stop_found_at, stop_seen_at, stop_stepped}
use Rattle.smp_stop_steps.specs.Shows.{gate_word}
use Rattle.smp_stop_steps.specs.Sits.{SourceSits}
use Rattle.smp_stop_steps.specs.Sources.{SourceShows}
use Rattle.smp_stop_steps.specs.Stages.{StopControlValue, answer_at, stop_access, stop_goes, stop_outcome, stop_outside, store_of}
use Rattle.smp_stop_steps.specs.Start.{stop_begun_if, stop_first, stop_refusal, stop_started}
use Rattle.smp_stop_steps.specs.State.{Setup, StopState, no_stops}
use Rattle.smp_stop_steps.specs.Stop.{Standing, Outside, Stop, is_called, is_of, stands}
use Rattle.smp_stop_steps.specs.Table.{stop_number}
use Rattle.smp_stop_steps.specs.Tells.{acknowledges, called_more, calls_now, completes, drafts, enters, gate_told, key_loaded}
use Rattle.smp_stop_steps.specs.Tells.{key_patched, key_told, leaves, looked_by, looks, reads, stored_open, stored_shut}
use Rattle.smp_stop_steps.specs.Tells.{tells, with_stop}
use Rattle.smp_stop_steps.specs.Value.{StopShown, StopsValue, setup_of, stop_control_of}
use Rattle.smp_stop_steps.specs.declared.known.Calling.{Calling}
use Rattle.smp_stop_steps.specs.declared.known.Reading.{Reading}
use Rattle.smp_stop_steps.specs.declared.known.Reading.TheVariants.{ReadKey as KeyRead}
use Rattle.smp_stop_steps.specs.declared.known.Source.{Source}
use Rattle.smp_stop_steps.specs.declared.known.Source.TheVariants.{Shut, Drafts, Owns, Collects}
use Rattle.smp_words.specs.declared.phase.TheConstants.{DISABLE_IRQ}
use Rattle.smp_stop_steps.specs.declared.stage.CompletionStage.{CompletionStage}
use Rattle.smp_stop_steps.specs.declared.stage.RoundStage.{RoundStage}
use Rattle.smp_stop_steps.specs.declared.stage.StopStage.{StopStage}
use Rattle.smp_stop_steps.specs.declared.stage.StopStage.TheVariants.{OpenGate, Advance, Complete}
use Rattle.smp_stop_steps.specs.declared.stage.Visit.{Visit}
use Rattle.smp_stop_steps.proofs.TheMachine.Begun.{begun_value_shown}
use Rattle.smp_stop_steps.proofs.TheMachine.Starting.{may_begin}
use Rattle.smp_core.specs.OfflineStops.{AreInNoStop, AreStopsApart, LeavesOfflineStops, StopPart, stop_part_of}

-- a step leaves the part of each other CPU, but for the gate

module _ (u : Setup) (p : StopState) (me c : ℕ) (ne : c ≢ me) where
  abbrev Same : StopState → Type 0
  Same q = stop_part_of q c ≡ stop_part_of p c

  off : (c == me) ≡ false
  off = ne_eqb c me ne

  raises_else : (s : ℕ) (w : Work) (stop : Stop) (b : Bool) →
      Same (record p { now = cond b (leaves (with_stop p.now s stop) me s w) (with_stop p.now s stop) })
  raises_else s w stop b = search (off, arith)

  open_else : (s v : ℕ) (f : Field) → Same (stored_open p me s f v)
  open_else s v f = search (raises_else, arith)

  shut_else : (v : ℕ) (f : Field) → Same (stored_shut p me f v)
  shut_else v f = search (off, arith)

  -- a store to the CPU's own slot, and one to a slot that drafts nothing
  own_else : (v : ℕ) (f : Field) (b : Bool) → Same (cond b (stored_open p me me f v) (stored_shut p me f v))
  own_else v f b = search (open_else, shut_else, arith)

  stored_else : (s v : ℕ) (f : Field) (b : Bool) → Same (cond b (stored_open p me s f v) (record p { now = drafts p.now s f v }))
  stored_else s v f b = search (open_else, arith)

  enters_else : (s : ℕ) (b : Bool) → Same (cond b (record p { now = enters p.now me s }) p)
  enters_else s b = search (off, arith)

  looks_if : (s n : ℕ) (stop : Stop) (b : Bool) → Same (record p {
    now = record (p.now) { stop = put p.now.stop s stop; irq = cond b (put p.now.irq me false) p.now.irq };
    looks = put p.looks me (p.looks me ++ n ∷ []);
  })
  looks_if s n stop b = search (off, arith)

  looks_else : (s n : ℕ) → Same (looks p me s n)
  looks_else s n = looks_if s n (stands (p.now.stop s) me (looked_by ((p.now.stop s).standing me) n)) (n == DISABLE_IRQ)

  calls_else : (w : Work) (arg answer : ℕ) (b : Bool) → Same (cond b (calls_now p me w arg answer) p)
  calls_else w arg answer b = search (off, arith)

  called_else : (f : Calling) → called_more p.calls me f c ≡ p.calls c
  called_else f = search (off, arith)

  acked_if : (s : ℕ) (w : Work) (stop : Stop) (y : Patching) (g : Calling) (left at_run : Bool) → Same (record p {
    now = cond left (leaves (record (p.now) { stop = put p.now.stop s stop; patching = y }) me s w)
        (record (p.now) { stop = put p.now.stop s stop; patching = y });
    calls = cond at_run (called_more p.calls me (p.calling me)) p.calls;
    calling = cond at_run (put p.calling me g) p.calling;
  })
  acked_if s w stop y g left at_run = search (called_else, off, arith)

  acknowledges_else : (s n : ℕ) (x : Standing) → Same (acknowledges p me s x n)
  acknowledges_else s n x = search (acked_if, arith)

  completes_else : (s n : ℕ) (x : Standing) → Same (completes p me s x n)
  completes_else s n x = search (called_else, off, arith)

  -- a load of a key, a store of a patch, and a nudge

  reads_else : (r : Reading) → Same (record p { now = reads p.now me r })
  reads_else r = rw off refl

  begins_else : (k n : ℕ) (y : Patching) (b : Bool) → Same (record p { now = cond b (record (p.now) { patching = y }) (reads p.now me (KeyRead k (is_on n))) })
  begins_else k n y b = search (reads_else, arith)

  loads_else : (k n : ℕ) (o : Option ℕ) → Same (record p { now = key_loaded u p.now me k n o })
  loads_else k n o = search (begins_else, reads_else, arith)

  patches_else : (k n : ℕ) (x y : Patching) → Same (record p { now = record (p.now) { patching = y }; patched = key_patched x p.patched me k n })
  patches_else k n x y = search (off, arith)

  change_else : (change : Change) (n : ℕ) (said : Option Note) → Same (tells u p (seen_of me (store_of change) n said) 0)
  change_else change n said = search (patches_else, arith)

  nudges_else : (k found new : ℕ) (b : Bool) → Same (key_told u p me k act.Cas (Some found) (cond b (Some new) None))
  nudges_else k found new b = search (off, arith)

  -- by the stages

  module _ (n : ℕ) (changes : List Change) (found : ℕ) (said : Option Note) where
    abbrev pub After : StopStage → StopState
    After stage = tells u p (seen_of me (stop_access n me changes stage) found said) (answer_at stage)

    round_else : (v : Visit) (stage : RoundStage) → Same (After (Advance v stage))
    round_else v stage = search (looks_else, calls_else, loads_else, change_else, acknowledges_else, stored_else, arith)

    completion_else : (v : Visit) (stage : CompletionStage) → Same (After (Complete v stage))
    completion_else v stage = search (calls_else, stored_else, completes_else, arith)

    -- of another CPU that has no part
    abbrev pub HasNone : StopState → Type 0
    HasNone q = stop_part_of q c ≡ stop_part_of no_stops c

    gate_else : HasNone p → (b : Bool) → HasNone (gate_told p me act.Cas (cond b (Some (me + 1)) None))
    gate_else h true = rw (ne_eqb me c (λ same. ne (sym same))) (ap (λ (x : StopPart). record x { holds = false }) h)
    gate_else h false = h

    gate_opens : HasNone p → HasNone (After OpenGate)
    gate_opens h = ap (λ (x : StopPart). record x { holds = false }) h

    still_none : HasNone p → (stage : StopStage) → Same (After stage) → HasNone (After stage)
    still_none h stage same = same ∙ h

    pub stage_else : HasNone p → (stage : StopStage) → HasNone (After stage)
    stage_else h stage = search (
      gate_else,
      gate_opens,
      still_none,
      own_else,
      enters_else,
      round_else,
      completion_else,
      stored_else,
      loads_else,
      reads_else,
      nudges_else,
      off,
      arith,
    )

-- a step, and the beginning of a command, of a CPU that is online

module _ (v : StopsValue) (cpu : ℕ) (before : AreStopsApart v) where
  pub inside_online : (stage : StopStage) → (stop_control_of v.controls cpu).stage ≡ Some stage → has v.online cpu ≡ true
  inside_online stage e = true_from_ne_false (has v.online cpu)
      (λ off. let none : None ≡ Some stage = sym (ap (λ (x : StopControlValue). x.stage) (before.outside cpu off)) ∙ e in cc)

  pub apart : (j : ℕ) → has v.online cpu ≡ true → has v.online j ≡ false → j ≢ cpu
  apart j on none e = true≢false (sym on ∙ (ap (has v.online) (sym e) ∙ none))

  still_outside : (control : StopControlValue) → has v.online cpu ≡ true → (j : ℕ) → has v.online j ≡ false →
      stop_control_of (slice_set v.controls cpu control) j ≡ stop_outside
  still_outside control on j none = get_or-set_other v.controls cpu j control stop_outside (apart j on none) ∙ before.outside j none

  pub step_stops_apart : (stage : StopStage) → (stop_control_of v.controls cpu).stage ≡ Some stage → StopTold v cpu stage (stop_stepped v cpu stage)
      → AreStopsApart (stop_stepped v cpu stage)
  step_stops_apart stage e told =
      let on = inside_online stage e in
      record {
        stops = tells (setup_of v.online v.labels) before.stops (stop_seen_at v cpu stage) (answer_at stage);
        shown = told before.stops before.shown;
        outside = λ j none. still_outside (stop_outcome cpu (stop_control_of v.controls cpu) stage (stop_found_at v cpu stage)).control on j none;
        idle = λ j none. stage_else (setup_of v.online v.labels) before.stops cpu j (apart j on none) cpus (stop_control_of v.controls cpu).changes
            (stop_found_at v cpu stage) (stop_outcome cpu (stop_control_of v.controls cpu) stage (stop_found_at v cpu stage)).note (before.idle j none) stage;
      }

  pub start_stops_apart : (c : Command) → has v.online cpu ≡ true → ((p : StopState) → StopShown p v → StopShown p (stop_started v cpu c))
      → AreStopsApart (stop_started v cpu c)
  start_stops_apart c on shown = go (stop_first (stop_control_of v.controls cpu) c) shown
    where
      go : (o : Option StopStage) → ((p : StopState) → StopShown p v → StopShown p (stop_begun_if v cpu o)) → AreStopsApart (stop_begun_if v cpu o)
      go None shown = before
      go (Some stage) shown = record {
        stops = before.stops;
        shown = shown before.stops before.shown;
        outside = λ j none. still_outside (stop_goes (stop_control_of v.controls cpu) stage).control on j none;
        idle = before.idle;
      }

-- a command that may start leaves the stops that the half shows
pub started_told : (v : StopsValue) → IsSoundHalf v → (cpu : ℕ) → cpu < cpus → (stop_control_of v.controls cpu).stage ≡ None →
    ((k : ℕ) → has v.online k ≡ true → k < cpus) → has v.online cpu ≡ true → (c : Command) → FitsCommand c → stop_refusal v cpu c ≡ None →
    (p : StopState) → StopShown p v → StopShown p (stop_started v cpu c)
started_told v sound cpu low outside below online c fits allowed p shown = go (stop_first (stop_control_of v.controls cpu) c) refl
  where
    go : (o : Option StopStage) → stop_first (stop_control_of v.controls cpu) c ≡ o → StopShown p (stop_begun_if v cpu o)
    go None first = shown
    go (Some stage) first = begun_value_shown (setup_of v.online v.labels) p v.table v.controls shown cpu low
        (let sized = sound.sized in omega (arith, low)) stage outside (may_begin v cpu c stage low below online fits allowed first)

-- a new half
pub new_stops_apart : (v : StopsValue) → StopShown no_stops v → v.controls ≡ replicate cpus stop_outside → AreStopsApart v
new_stops_apart v shown e = record {
  stops = no_stops;
  shown = shown;
  outside = λ cpu none. rw e (get_or-same stop_outside cpus cpu);
  idle = λ cpu none. refl;
}

-- what that says of the stops

not_holder : (g : Option ℕ) (c : ℕ) → holds_it g c ≡ false → g ≢ Some c
not_holder g c e is = true≢false (sym (eq-eqb c c refl) ∙ (ap (λ (o : Option ℕ). holds_it o c) (sym is) ∙ e))

not_of : (x : Standing) → is_of x ≡ false → x ≡ Outside
not_of x e = search arith

-- the stop of a source that is open is of CPUs that are online
of_online : (u : Setup) (gate : Option ℕ) (stop : Stop) (word : Field → ℕ) (s : ℕ) (y : Source) → SourceShows u gate stop word s y → stop.is_open ≡ true →
    (c : ℕ) → has stop.work.mask c ≡ true → u.online c ≡ true
of_online u gate stop word s Shut h opened c m = absurd (true≢false (sym opened ∙ h))
of_online u gate stop word s (Drafts w k) h opened c m = absurd (true≢false (sym opened ∙ h.shut))
of_online u gate stop word s (Owns w) h opened c m = h.is_work.online c (subst (λ (x : Work). has x.mask c ≡ true) h.work_is m)
of_online u gate stop word s (Collects w) h opened c m = h.0.is_work.online c (subst (λ (x : Work). has x.mask c ≡ true) h.0.work_is m)

module _ (v : StopsValue) (h : AreStopsApart v) where
  abbrev p : StopState
  p = h.stops

  members : (s c : ℕ) → (p.now.stop s).is_open ≡ true → has (p.now.stop s).work.mask c ≡ true → has v.online c ≡ true
  members s c opened m = of_online (setup_of v.online v.labels) p.gate (p.now.stop s) (λ f. stop_number v.table (Slot s f)) s (h.shown.source s)
      (h.shown.shows.sources s) opened c m

  not_member : (s c : ℕ) → has v.online c ≡ false → (b d : Bool) → (p.now.stop s).is_open ≡ b → has (p.now.stop s).work.mask c ≡ d → (b && d) ≡ false
  not_member s c none b d opened m = search (members, arith)

  stands_outside : (s c : ℕ) → has v.online c ≡ false → (p.now.stop s).standing c ≡ Outside
  stands_outside s c none = not_of ((p.now.stop s).standing c) ((h.shown.shows.present.slots s).members c
      ∙ not_member s c none (p.now.stop s).is_open (has (p.now.stop s).work.mask c) refl refl)

  -- it is no source of an open stop
  source_shut : (c : ℕ) → has v.online c ≡ false → (b : Bool) → nat_lt c cpus ≡ b → h.shown.source c ≡ Shut
  source_shut c none true low =
      let below = ltb-true c cpus low in
      subst (λ (x : StopControlValue). SourceSits x.is_open x.stage (h.shown.source c)) (h.outside c none) (h.shown.sits c below).source
  source_shut c none false high = h.shown.shut c (ltb-false c cpus high)

  own_shut : (c : ℕ) → has v.online c ≡ false → (p.now.stop c).is_open ≡ false
  own_shut c none = subst (SourceShows (setup_of v.online v.labels) p.gate (p.now.stop c) (λ f. stop_number v.table (Slot c f)) c)
      (source_shut c none (nat_lt c cpus) refl) (h.shown.shows.sources c)

  pub has_no_stop : AreInNoStop v.online h.stops
  has_no_stop c none = let e = h.idle c none in search (e, not_holder, stands_outside, own_shut, arith)

  -- nor does the gate's word name it
  gate_other : (g : Option ℕ) (c n : ℕ) → g ≢ Some c → n ≡ gate_word g → n ≢ c + 1
  gate_other None c n ne e is = let z : 0 ≡ c + 1 = sym e ∙ is in omega (arith, z)
  gate_other (Some d) c n ne e is = let z : d + 1 ≡ c + 1 = sym e ∙ is in ne (ap Some (omega (arith, z)))

  pub leaves_offline_stops : (online : ℕ) → v.online ≡ online → LeavesOfflineStops online v
  leaves_offline_stops online e = subst (λ (o : ℕ). LeavesOfflineStops o v) e record {
    stops = p;
    shown = h.shown;
    nothing = has_no_stop;
    outside = λ c none. ap (λ (x : StopControlValue). x.stage) (h.outside c none);
    gate = λ c none. gate_other p.gate c (stop_number v.table Gate) (has_no_stop c none).gate h.shown.shows.gate;
    rolls = λ s c none. (h.shown.shows.present.slots s).roll c ∙ ap is_called (stands_outside s c none);
    members = members;
  }
