-- Each step that a CPU may make by what it knows keeps what the steps of the commands keep.
use Rattle.std.proofs.Common.{◌≡◌, ℕ, ◌+◌, ◌∷◌, [], Bool, true, false, ◌==◌, cond, Some, None, List, inl, inr, sym, subst, refl, ap, ◌∙◌, arith, bit_and}
use Rattle.std.proofs.Common.{eqb-true}
use Rattle.smp_stop_steps.specs.{word_of, at_after, seen_of, Access, Field, Work, Word, Gate, Slot, Key, HasCompleted, MayStore, MayStoreIf, MaySee}
use Rattle.smp_stop_steps.specs.{IsAtRun, unfinished, StopRole, In, Alters, Closes, Duty, Rests, Sets, RoleStands, StopShows}
use Rattle.smp_stop_steps.specs.{DoneShows, Source, Shut, Drafts, Owns}
use Rattle.smp_stop_steps.specs.{Collects, SourceShows, OwnerShows, IsNextOfPatch, label_stored, store_of, KeysStand, Change, Whole, Place}
use Rattle.smp_stop_steps.specs.{Setup, StopState, Standing, Inside, Ended, acked, is_of, irq_of, Sees, setup_in, told_source, told_work, order, IsNudge}
use Rattle.smp_stop_steps.specs.{all_but, begun_value, cpus, mask_weight, put_word, Threads.Known.KnownStops, KnownLaws.KeepsMoveLaws, Laws.IsThrough}
use Rattle.smp_stop_steps.specs.Threads.Moves.{Move, TakeGate, OpenGate, Draft, DraftMore, Open, Enter, Look, Acknowledge, AcknowledgePatch, Refill, Raise}
use Rattle.smp_stop_steps.specs.Threads.Moves.{Give, Count, CountGiven, Close, LookDone, Collect, ReadKey, ReadSite, Nudge, BeginPatch, Alter, LoadArg}
use Rattle.smp_stop_steps.specs.Threads.Moves.{LoadField, LoadEntry, MayStep, known_access, IsPlain, IsThrough as IsThroughAll}
use Rattle.smp_words.specs.Access.{one_less, put_if}
use Rattle.smp_words.proofs.Puts.{at_test}
use Rattle.smp_stop_steps.proofs.Knows.KnownSources.{holder, is_draft, is_owns, is_collects}
use Rattle.smp_stop_steps.proofs.State.Acknowledged.{fills_me, rests_me, sets_me}
use Rattle.smp_stop_steps.proofs.{Basics.Counts.sum_zero, Knows.KnownRounds.stands, Knows.KnownRounds.open_at, State.Gates.gate_free, State.Phases.keeps_inside}
use Rattle.smp_stop_steps.proofs.{State.Raises.all_acknowledged, State.Raises.in_machine, State.Works.called_is, Steps.Completions.one_phase}
use Rattle.smp_stop_steps.specs.Names.{DISABLE_IRQ, RUN}

-- a word that is no label
abbrev IsOther : Word → Type 0
IsOther Gate = Unit {0}
IsOther (Slot s f) = Unit {0}
IsOther _ = ⊥

completed_is : (x : Standing) → is_of x ≡ true → unfinished x ≡ 0 → HasCompleted x
completed_is x of z = search arith

is_shut : (y : Source) → told_source y ≡ Shut → y ≡ Shut
is_shut y e = search arith

module _ (p : StopState) (at : Word → ℕ) (seat : ℕ → StopRole) (source : ℕ → Source) (v : KnownStops) (h : StopShows (setup_in v.setting) p at seat source)
    (sees : Sees p seat source v) where
  abbrev u : Setup
  u = setup_in v.setting

  abbrev me : ℕ
  me = v.number

  abbrev slot : ℕ → Field → ℕ
  slot j g = at (Slot j g)

  abbrev IsPremised : Access → Type 0
  IsPremised access = let seen = seen_of me access (at (word_of access)) None in MaySee p me seen.act seen.word seen.found seen.put

  at_seat : (x : StopRole) → v.seat ≡ x → RoleStands p.now me x
  at_seat x e = stands p at seat source v h sees x e

  opened : (s : ℕ) (w : Work) (a l : ℕ) (t : Duty) → v.seat ≡ In s w a l t → (p.now.stop s).is_open ≡ true
  opened s w a l t e = open_at p at seat source v h sees s w a l t e

  source_is : (y : Source) → source me ≡ y → SourceShows u p.gate (p.now.stop me) (slot me) me y
  source_is y e = subst (SourceShows u p.gate (p.now.stop me) (slot me) me) e (h.sources me)

  gate_is : v.part.holds ≡ true → p.gate ≡ Some me
  gate_is holds = holder p.gate me (sees.part_is.holds ∙ holds)

  -- a store to an open slot, and to one that is not
  stored_open : (j n : ℕ) (f : Field) → (p.now.stop j).is_open ≡ true → MayStore p me j f n → MayStoreIf (p.now.stop j).is_open p me j f n
  stored_open j n f op may = subst (λ b. MayStoreIf b p me j f n) (sym op) may

  stored_shut : (n : ℕ) (f : Field) → (p.now.stop me).is_open ≡ false → p.gate ≡ Some me → MayStoreIf (p.now.stop me).is_open p me me f n
  stored_shut n f shut gate = subst (λ b. MayStoreIf b p me me f n) (sym shut) (refl, gate)

  drafting : (w : Work) (k n : ℕ) (f : Field) → v.source ≡ Drafts (told_work k w) k → MayStoreIf (p.now.stop me).is_open p me me f n
  drafting w k n f e = search (is_draft, source_is, stored_shut, arith)

  -- a CPU in a stop is near its phase, and is through where its work is of kind One or it has left
  phase_is : (s a : ℕ) → (p.now.stop s).standing me ≡ Inside a (a + 1) → (p.now.stop s).phase ≡ a + 1
  phase_is s a is = search (keeps_inside, h.present.slots, arith)

  raised : (s : ℕ) (w : Work) (a l : ℕ) → v.seat ≡ In s w a l Sets → MayStore p me s Field.State (a + 1)
  raised s w a l is = search (at_seat, opened, h.present.slots, sets_me, all_acknowledged, keeps_inside, arith)

  through : (s : ℕ) (w : Work) (a l : ℕ) → IsThroughAll w a → v.seat ≡ In s w a l Rests → IsThrough (p.now.stop s) me a
  through s w a l all is = search (at_seat, h.present.slots, opened, one_phase, rests_me, arith)

  through_there : (s : ℕ) (w : Work) (a l : ℕ) → IsThroughAll w a → v.seat ≡ In s w a l Rests
      → (p.now.inside me ≡ Some s) × IsThrough (p.now.stop s) me (acked ((p.now.stop s).standing me))
  through_there s w a l all is = let st = at_seat (In s w a l Rests) is in
      (st.0, subst (λ (z : Standing). IsThrough (p.now.stop s) me (acked z)) (sym st.1) (through s w a l all is))

  irq_on : irq_of v.seat ≡ true → p.now.irq me ≡ true
  irq_on on = h.present.irq me ∙ (ap irq_of sees.seat_is ∙ on)

  -- at RUN, before and inside a patch
  at_run_in : (s : ℕ) (w : Work) → v.seat ≡ In s w DISABLE_IRQ RUN Rests → IsAtRun p me
  at_run_in s w is = let st = at_seat (In s w DISABLE_IRQ RUN Rests) is in (s, st.0, st.1)

  at_run_patching : (s : ℕ) (w : Work) (count : ℕ) (made rest : List Change) → v.seat ≡ Alters s w count made rest → IsAtRun p me
  at_run_patching s w count made rest is = let st = at_seat (Alters s w count made rest) is in (s, st.0, st.1)

  altering : (change : Change) → IsAtRun p me → IsPremised (store_of change)
  altering (Place.Key k, n) run = run
  altering (Place.Site i, n) run = run

  ended : (w : Work) → v.source ≡ Collects w → IsPremised (known_access v (Collect w))
  ended w is = let there = is_collects (source me) w (sees.source_is ∙ is) in
      let o : OwnerShows u (p.now.stop me) w × ((p.now.stop me).ending ≡ Ended) = source_is (Collects w) there in
      let op = o.0.is_open in
      let d : DoneShows u.cpus (p.now.stop me).standing Ended (slot me Field.Done) = subst (λ e. DoneShows u.cpus (p.now.stop me).standing e
      (slot me Field.Done)) o.1 ((h.present.slots me).shows op).done in (
        refl,
        op,
        λ d' of.
            let member : is_of ((p.now.stop me).standing d') ≡ true = search (h.present.slots, arith) in
            completed_is ((p.now.stop me).standing d') member
            (sum_zero (λ e. unfinished ((p.now.stop me).standing e)) u.cpus d.1 d' (in_machine u.cpus (p.now.stop me).phase d' ((p.now.stop me).standing d')
            member ((h.present.slots me).keeps d'))),
      )

  plain_load : (s : ℕ) (w : Work) (a l : ℕ) (f : Field) → IsPlain f → v.seat ≡ In s w a l Rests → IsPremised (known_access v (LoadField s w a l f))
  plain_load s w a l f plain is = search (at_seat, arith)

  may_see : (m : Move) → MayStep v m → IsPremised (known_access v m)
  may_see TakeGate m = search (gate_free, h.gate, eqb-true, arith)
  may_see OpenGate m = gate_is m.0
  may_see (Draft w) m = stored_shut (begun_value cpus w Field.Kind) Field.Kind (source_is Shut (is_shut (source me) (sees.source_is ∙ m.0))) (gate_is m.1)
  may_see (DraftMore w f) m = drafting w (order f) (begun_value cpus w f) f m.0
  may_see (Open w) m = drafting w (order Field.Roll) w.mask Field.Roll m.0
  may_see (Enter s) m = search (at_seat, called_is, h.present.slots, arith)
  may_see (Look s w a l) m = (at_seat (In s w a l Rests) m.0).0
  may_see (Acknowledge s w a) m = let st = at_seat (In s w a (a + 1) Rests) m.0 in (st.0, (a, st.1, phase_is s a st.1))
  may_see (AcknowledgePatch s w count made) m = let st = at_seat (Alters s w count made []) m in (st.0, (2, st.1, phase_is s 2 st.1))
  may_see (Refill s w a l) m = search (at_seat, stored_open, opened, fills_me, arith)
  may_see (Raise s w a l) m = stored_open s (a + 1) Field.State (opened s w a l Sets m.0) (raised s w a l m.0)
  may_see (Give s w a l x) m = stored_open s x Field.Result (opened s w a l Rests m.0) (through_there s w a l m.1 m.0)
  may_see (Count s w a l) m = through_there s w a l m.1 m.0
  may_see (CountGiven s w a x) m = search (at_seat, keeps_inside, h.present.slots, rests_me, arith)
  may_see (Close s) m = let st = at_seat (Closes s) m.0 in stored_open s 1 Field.Done st.1 (refl, st.2)
  may_see (LookDone w) m = let o : OwnerShows u (p.now.stop me) w = source_is (Owns w) (is_owns (source me) w (sees.source_is ∙ m)) in (refl, o.is_open)
  may_see (Collect w) m = ended w m
  may_see (ReadKey k) m = inl (irq_on m)
  may_see (ReadSite i) m = inl (irq_on m)
  may_see (Nudge k found new) m = irq_on m.0
  may_see (BeginPatch s w) m = inr (at_run_in s w m.0)
  may_see (Alter s w count made change rest) m = altering change (at_run_patching s w count made (change ∷ rest) m.0)
  may_see (LoadArg s w a l) m = (at_seat (In s w a l Rests) m).0
  may_see (LoadField s w a l f) m = plain_load s w a l f m.0 m.1
  may_see (LoadEntry s w count made rest i) m = at_run_patching s w count made rest m

  labels : (m : Move) → MayStep v m → (change : Change) → label_stored (known_access v m) ≡ Some change → IsNextOfPatch p me change
  labels (Alter s w count made (x, n) rest) m change e = search (at_seat, arith)
  labels _ m change e = cc

  same : KeysStand at at
  same = record { keys = λ k. refl; sites = λ i. refl }

  -- a store to another word
  other : (w : Word) (n : ℕ) → IsOther w → KeysStand at (put_word at w n)
  other Gate n o = record { keys = λ k. refl; sites = λ i. refl }
  other (Slot s f) n o = record { keys = λ k. refl; sites = λ i. refl }
  other _ n o = absurd o

  gate : (b : Bool) → KeysStand at (put_if put_word at Gate (cond b (Some (me + 1)) None))
  gate true = other Gate (me + 1) tt
  gate false = same

  nudged : (k found new : ℕ) → IsNudge found new → (b : Bool) → (at (Key k) == found) ≡ b
      → KeysStand at (put_if put_word at (Key k) (cond b (Some new) None))
  nudged k found new is false e = same
  nudged k found new is true e = search (eqb-true, at_test, arith)

  whole_not : (s : ℕ) (w : Work) (count : ℕ) (made rest : List Change) → v.seat ≡ Alters s w count made rest → p.now.patching ≡ Whole → ⊥
  whole_not s w count made rest is whole = let patches = (at_seat (Alters s w count made rest) is).5 in cc

  stands_still : (m : Move) → MayStep v m → p.now.patching ≡ Whole → KeysStand at (at_after at (known_access v m))
  stands_still TakeGate may whole = gate (at Gate == 0)
  stands_still OpenGate may whole = other Gate 0 tt
  stands_still (Draft w) may whole = other (Slot me Field.Kind) (begun_value cpus w Field.Kind) tt
  stands_still (DraftMore w f) may whole = other (Slot me f) (begun_value cpus w f) tt
  stands_still (Open w) may whole = other (Slot me Field.Roll) w.mask tt
  stands_still (Enter s) may whole = other (Slot s Field.Roll) (bit_and (at (Slot s Field.Roll)) (all_but me)) tt
  stands_still (Acknowledge s w a) may whole = other (Slot s Field.Ack) (one_less (at (Slot s Field.Ack))) tt
  stands_still (AcknowledgePatch s w count made) may whole = other (Slot s Field.Ack) (one_less (at (Slot s Field.Ack))) tt
  stands_still (Refill s w a l) may whole = other (Slot s Field.Ack) (mask_weight cpus w.mask) tt
  stands_still (Raise s w a l) may whole = other (Slot s Field.State) (a + 1) tt
  stands_still (Give s w a l x) may whole = other (Slot s Field.Result) x tt
  stands_still (Count s w a l) may whole = other (Slot s Field.Todo) (one_less (at (Slot s Field.Todo))) tt
  stands_still (CountGiven s w a x) may whole = other (Slot s Field.Todo) (one_less (at (Slot s Field.Todo))) tt
  stands_still (Close s) may whole = other (Slot s Field.Done) 1 tt
  stands_still (Nudge k found new) may whole = nudged k found new may.3 (at (Key k) == found) refl
  stands_still (Alter s w count made change rest) may whole = absurd (whole_not s w count made (change ∷ rest) may.0 whole)
  stands_still _ may whole = same

  pub keeps_move_laws : (m : Move) → MayStep v m → KeepsMoveLaws p at v m
  keeps_move_laws m may = record { premise = may_see m may; labels = labels m may; stands = stands_still m may }
