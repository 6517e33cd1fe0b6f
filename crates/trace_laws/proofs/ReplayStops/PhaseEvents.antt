-- A CPU acknowledges a phase, and raises it.
use Rattle.trace_laws.proofs.Names.{Bool, CpuState, Event, List, None, Ok, One, Option, Some, Task, [], acked_by, ap, arith, cpu_at, false, get_or-set_other}
use Rattle.trace_laws.proofs.Names.{get_or-set_same, goes, has, has_run, inside_goes, is_cpu, length-set, pos, refl, slice_set, stop_at, stop_goes, subst, sym}
use Rattle.trace_laws.proofs.Names.{true, with_cpu, with_interrupts, with_stop, ℕ, ◌-◌, ◌<◌, ◌∙◌, ◌∷◌, ◌≡◌, ◌≢◌, ◌≤◌}
use Rattle.trace_laws.proofs.ReplayNames.{Calling, Inside, InsideIs, IsSized, Key, MemberIs, OpenIs, Past, Patch, Site, Stop, StopIs, StopState, ToldStop, Word}
use Rattle.trace_laws.proofs.ReplayNames.{cpus, given_by, has_called, is_called, past_at, raiser_of}
use Rattle.trace_model.specs.declared.event.Event.TheVariants as event
use Rattle.trace_model.specs.declared.event.StopEvent.TheVariants as stops
use Rattle.trace_laws.proofs.ReplayStops.StepEvents.{ReachesStops, member_as, set_step, stop_step}
use Rattle.trace_laws.proofs.ReplayStops.StepKinds.{Goes, in_slot, members_set, one_stop}
use Rattle.trace_laws.proofs.{ReplayCalls.ChangedStates.cpu_here, ReplayStops.ChangedStates.stop_here, ReplayStops.Here.Here, ReplayStops.Here.my}
use Rattle.trace_laws.proofs.{ReplayStops.Here.parts, ReplayStops.StopEvents.made_low, ReplayStops.StopEvents.raises_phase, ReplayStops.StopEvents.turns_on}
use Rattle.smp_words.specs.declared.phase.TheConstants.{EXIT}

module _ (known : Here) (at' : Word → ℕ) (keys : (key : ℕ) → at' (Key key) ≡ (parts known).At (Key key))
    (sites : (site : ℕ) → at' (Site site) ≡ (parts known).At (Site site)) where
  open known use {p, me, below, pasts, sized, s, whole, cpus_are, f}
  open parts known use {At as at}

  abbrev Is : StopState → ℕ → Stop → Option ℕ → Bool → Calling → Type 0
  Is q slot x inside irq calling = Goes known at' keys sites q slot x inside irq calling

  abbrev Leads : StopState → Past → List (ℕ × Event) → Type 0
  Leads q past es = ReachesStops q at' (slice_set pasts me past) s es

  -- an open stop, as it is told
  shown : (slot : ℕ) → slot < cpus → (p.now.stop slot).is_open ≡ true → OpenIs (p.now.stop slot) (stop_at s slot)
  shown slot l o = (f.stops slot l).shows o

  module _ (slot : ℕ) (inside : p.now.inside me ≡ Some slot) (is_open : (p.now.stop slot).is_open ≡ true) where
    i : InsideIs p s (past_at pasts me) me slot
    i = (my known).stop slot inside

    was : OpenIs (p.now.stop slot) (stop_at s slot)
    was = shown slot i.below is_open

    member : MemberIs ((p.now.stop slot).standing me) (stop_at s slot) me
    member = was.members me below

    size : IsSized (stop_at s slot)
    size = (f.stops slot i.below).sized

    -- the stop once the phase is acknowledged
    pub told_acked : (x : Stop) (phase : ℕ) (raiser : Option ℕ) → x.standing me ≡ Inside phase phase → x.is_open ≡ (p.now.stop slot).is_open
        → x.work ≡ (p.now.stop slot).work
        → x.phase ≡ (p.now.stop slot).phase → raiser_of x.raising ≡ raiser → is_called ((p.now.stop slot).standing me) ≡ false
        → given_by ((p.now.stop slot).standing me) ≡ None
        → ((cpu : ℕ) → cpu ≢ me → x.standing cpu ≡ (p.now.stop slot).standing cpu)
        → StopIs x (record (stop_at s slot) { acked = slice_set (stop_at s slot).acked me phase; raiser = raiser })
    told_acked x phase raiser stood x_open work same raising called given others = record {
      sized = record { entered = size.entered; acked = length-set (stop_at s slot).acked me phase ∙ size.acked; ran = size.ran; answers = size.answers };
      is_open = (f.stops slot i.below).is_open ∙ sym x_open;
      shows = λ o. record {
        task = was.task ∙ rw work refl;
        phase = was.phase ∙ sym same;
        raiser = sym raising;
        members = members_set known at' keys sites (p.now.stop slot) x (stop_at s slot)
            (record (stop_at s slot) { acked = slice_set (stop_at s slot).acked me phase; raiser = raiser }) was.members others
            (λ cpu ne m. member_as ((p.now.stop slot).standing cpu) (stop_at s slot)
            (record (stop_at s slot) { acked = slice_set (stop_at s slot).acked me phase; raiser = raiser }) cpu refl
            (get_or-set_other (stop_at s slot).acked me cpu phase 0 ne) refl refl (λ is k. (k, refl)) m)
            (rw stood (record {
              called = member.called ∙ called;
              acked_is = get_or-set_same (stop_at s slot).acked me phase 0 (rw size.acked (omega arith));
              answer = member.answer ∙ given;
              fresh = λ is. absurd cc;
              unmade = λ is. absurd cc;
            }));
        patch = rw work was.patch;
      };
    }

    -- the CPU is in the stop still, and its interrupts are as they were
    pub acks_told : (q : StopState) (x : Stop) (phase : ℕ) (raiser : Option ℕ) (calling : Calling) → x.standing me ≡ Inside phase phase
        → x.is_open ≡ (p.now.stop slot).is_open
        → x.work ≡ (p.now.stop slot).work → x.phase ≡ (p.now.stop slot).phase → raiser_of x.raising ≡ raiser
        → is_called ((p.now.stop slot).standing me) ≡ false
        → given_by ((p.now.stop slot).standing me) ≡ None
        → has_called (p.now.stop slot).work.kind calling ≡ has_called (p.now.stop slot).work.kind (p.calling me)
        → ((p.now.stop slot).work.kind ≡ Patch → has (p.now.stop slot).work.active me ≡ true → calling ≡ p.calling me) → (past_at pasts me).phase ≡ phase
        → (past_at pasts me).answer ≡ pos 0 → Is q slot x (Some slot) (p.now.irq me) calling
        → goes me (event.Stop (stops.Ack phase)) s ≡ Ok (with_stop slot s (record (stop_at s slot) {
          acked = slice_set
              (stop_at s slot).acked me phase;
          raiser = raiser;
        }))
        → Leads q (past_at pasts me) ((me, event.Stop (stops.Ack phase)) ∷ [])
    acks_told q x phase raiser calling stood x_open work same raising called given calls patch past_phase past_answer g made =
        let y = record (stop_at s slot) { acked = slice_set (stop_at s slot).acked me phase; raiser = raiser } in
        let t = with_stop slot s y in
        stop_step p q at at' pasts s me (past_at pasts me) below sized cpus_are f keys sites slot x y (cpu_at s me) i.below
        (one_stop known at' keys sites q slot x (Some slot) (p.now.irq me) calling y g
        (λ cpu ne. refl) refl)
        (told_acked x phase raiser stood x_open work same raising called given g.standing_else) ((me, event.Stop (stops.Ack phase)) ∷ []) (t, (made, refl))
        (in_slot known at' keys sites q t (past_at pasts me) slot x (p.now.irq me) calling g i.below
        ((my known).inside ∙ inside) (my known).irq (ap (λ (z : ToldStop). has_run z me) (stop_here s slot y f.stops_are i.below) ∙ (i.ran ∙ sym calls))
        (λ kind active. rw (patch kind active, stop_here s slot y f.stops_are i.below) (i.patch kind active))
        (rw stood (λ _. past_phase)) (rw stood past_answer) (my known).reads)

    -- they go on where it has left
    module _ (q : StopState) (x : Stop) (y : ToldStop) (calling : Calling) (e : Event) (told : StopIs x y) (a : ℕ) (stood : x.standing me ≡ Inside a a)
        (calls : has_called (p.now.stop slot).work.kind calling ≡ has_called (p.now.stop slot).work.kind (p.calling me))
        (patch : (p.now.stop slot).work.kind ≡ Patch → has (p.now.stop slot).work.active me ≡ true → calling ≡ p.calling me)
        (unpatched : y.patch ≡ (stop_at s slot).patch) (past_phase : (past_at pasts me).phase ≡ a) (last : a ≡ EXIT) (past_answer :
        (past_at pasts me).answer ≡ pos 0)
        (g : Is q slot x (Some slot) true calling) (ran : (cpu : ℕ) → has_run y cpu ≡ has_run (stop_at s slot) cpu)
        (made : goes me e s ≡ Ok (with_stop slot s y)) (kind : y.task.kind ≢ One) (acked_told : acked_by y me ≡ EXIT) (raiser : is_cpu y.raiser me ≡ false)
        (off : p.now.irq me ≡ false) where
      pub leaves_told : Leads q (past_at pasts me) ((me, e) ∷ ((me, event.Stop stops.On) ∷ []))
      unfolding stop_goes inside_goes
      leaves_told =
          let m = with_stop slot s y in
          let c = with_interrupts true (cpu_at s me) in
          let t = with_cpu me m c in
          let my_cpu = cpu_here m me c cpus_are below in
          let here = stop_here s slot y f.stops_are i.below in
          let on = turns_on m me whole slot (omega (arith, i.below)) ((my known).inside ∙ inside) (subst (λ (z : ToldStop). z.task.kind ≢ One) (sym here) kind)
          ((my known).irq ∙ off) (subst (λ (z : ToldStop). EXIT ≤ acked_by z me) (sym here) (omega (arith, acked_told)))
          (subst (λ (z : ToldStop). is_cpu z.raiser me ≡ false) (sym here) raiser) in
          set_step p q at at' pasts s me (past_at pasts me) below sized cpus_are f keys sites slot x y c i.below
          (one_stop known at' keys sites q slot x (Some slot) true calling y g (λ cpu ne. ran cpu)
          unpatched) told
          ((me, e) ∷ ((me, event.Stop stops.On) ∷ [])) (m, (made, (t, (made_low me below on, refl)))) refl
          (in_slot known at' keys sites q t (past_at pasts me) slot x true calling g i.below
          (ap (λ (z : CpuState). z.inside) my_cpu ∙ ((my known).inside ∙ inside)) (ap (λ (z : CpuState). z.irq) my_cpu)
          (ap (λ (z : ToldStop). has_run z me) here ∙ (ran me ∙ (i.ran ∙ sym calls)))
          (λ kind active. rw (patch kind active, here, unpatched) (i.patch kind active))
          (rw stood (λ _. past_phase)) (rw stood past_answer) (λ three. absurd (omega arith)))

    -- the phase is raised
    abbrev raised : ℕ → ToldStop
    raised phase = record (stop_at s slot) { phase = phase; raiser = None }

    pub told_raised : (x : Stop) (phase : ℕ) → x.is_open ≡ (p.now.stop slot).is_open → x.work ≡ (p.now.stop slot).work → x.phase ≡ phase
        → raiser_of x.raising ≡ None
        → ((cpu : ℕ) → x.standing cpu ≡ (p.now.stop slot).standing cpu) → StopIs x (record (stop_at s slot) { phase = phase; raiser = None })
    told_raised x phase x_open work is raising same = record {
      sized = record { entered = size.entered; acked = size.acked; ran = size.ran; answers = size.answers };
      is_open = (f.stops slot i.below).is_open ∙ sym x_open;
      shows = λ o. record {
        task = was.task ∙ rw work refl;
        phase = sym is;
        raiser = sym raising;
        members = λ cpu l. member_as (x.standing cpu) (stop_at s slot) (record (stop_at s slot) { phase = phase; raiser = None }) cpu refl refl refl refl
            (λ is k. (k, refl)) (rw (same cpu) (was.members cpu l));
        patch = rw work was.patch;
      };
    }

    pub raises_told : (q : StopState) (x : Stop) (phase a : ℕ) → x.is_open ≡ (p.now.stop slot).is_open → x.work ≡ (p.now.stop slot).work → x.phase ≡ phase
        → raiser_of x.raising ≡ None → ((cpu : ℕ) → x.standing cpu ≡ (p.now.stop slot).standing cpu) → Is q slot x (Some slot) (p.now.irq me) (p.calling me)
        → goes me (event.Stop (stops.Raise phase)) s ≡ Ok (with_stop slot s (record (stop_at s slot) { phase = phase; raiser = None }))
        → Leads q (past_at pasts me) ((me, event.Stop (stops.Raise phase)) ∷ [])
    raises_told q x phase a x_open work is raising same g made =
        let y = record (stop_at s slot) { phase = phase; raiser = None } in
        let t = with_stop slot s y in
        stop_step p q at at' pasts s me (past_at pasts me) below sized cpus_are f keys sites slot x y (cpu_at s me) i.below
        (one_stop known at' keys sites q slot x (Some slot) (p.now.irq me) (p.calling me) y g
        (λ cpu ne. refl) refl)
        (told_raised x phase x_open work is raising same) ((me, event.Stop (stops.Raise phase)) ∷ []) (t, (made, refl))
        (in_slot known at' keys sites q t (past_at pasts me) slot x (p.now.irq me)
        (p.calling me) g i.below
        ((my known).inside ∙ inside) (my known).irq (ap (λ (z : ToldStop). has_run z me) (stop_here s slot y f.stops_are i.below) ∙ i.ran)
        (λ kind active. rw (stop_here s slot y f.stops_are i.below) (i.patch kind active))
        (rw (same me) i.phase) (rw (same me) i.answer) (my known).reads)

    pub raise_made : (phase : ℕ) → (p.now.stop slot).work.kind ≢ One → (p.now.stop slot).phase ≡ phase - 1 → raiser_of (p.now.stop slot).raising ≡ Some me
        → goes me (event.Stop (stops.Raise phase)) s ≡ Ok (with_stop slot s (record (stop_at s slot) { phase = phase; raiser = None }))
    unfolding stop_goes inside_goes
    raise_made phase kind at_phase last = made_low me below (raises_phase s me whole slot (omega (arith, i.below)) ((my known).inside ∙ inside) phase
        (λ x. kind (sym (ap (λ (z : Task). z.kind) was.task) ∙ x)) (was.phase ∙ at_phase) (was.raiser ∙ last))
