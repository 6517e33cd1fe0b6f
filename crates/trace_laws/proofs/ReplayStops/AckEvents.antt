-- The event of an acknowledgement: which CPU is the last.
use Rattle.trace_laws.proofs.Names.{Bool, Event, List, Multi, None, Ok, One, Option, Some, Task, acked_by, and_parts, ap, arith, cases_eq, cond, cpu_at}
use Rattle.trace_laws.proofs.Names.{eqb-false, eqb-true, false, goes, has, inl, inr, inside_goes, ne_eqb, refl, slice_set, stop_at, stop_goes, subst, sym, true}
use Rattle.trace_laws.proofs.Names.{with_stop, ℕ, ◌&&◌, ◌+◌, ◌<◌, ◌==◌, ◌∙◌, ◌≡◌, ◌≢◌}
use Rattle.trace_laws.proofs.ReplayNames.{AckShows, Calling, In, Inside, InsideIs, Keeps, Key, Nobody, OpenIs, OpenShows, Past, Raising, Refills, Rests, Site}
use Rattle.trace_laws.proofs.ReplayNames.{Slot, RoleStands, Stop, StopState, ToldStop, Word, Work, acked, acknowledged_in, count_behind}
use Rattle.trace_laws.proofs.ReplayNames.{cpus, has_entered, is_of}
use Rattle.trace_laws.proofs.ReplayNames.{is_open_inside, keeps_inside, past_at, put, raiser_of}
use Rattle.smp_words.specs.declared.field.Field.TheVariants as field
use Rattle.smp_stop_steps.proofs.{State.Acknowledged.nobody_raises, State.Phases.one_fewer}
use Rattle.trace_model.specs.declared.event.Event.TheVariants as event
use Rattle.trace_model.specs.declared.event.StopEvent.TheVariants as stops
use Rattle.trace_laws.proofs.{ReplayStops.Here.Here, ReplayStops.Here.my, ReplayStops.Here.parts, ReplayStops.LastToAcknowledge.none_late}
use Rattle.trace_laws.proofs.{ReplayStops.LastToAcknowledge.some_late, ReplayStops.StepEvents.ReachesStops, ReplayStops.StepKinds.Goes}
use Rattle.trace_laws.proofs.{ReplayStops.StopEvents.acks_disabled, ReplayStops.StopEvents.acks_other, ReplayStops.StopEvents.acks_run}
use Rattle.trace_laws.proofs.{ReplayStops.StopEvents.made_low}
use Rattle.smp_words.specs.declared.phase.TheConstants.{DISABLE_IRQ, RUN}

module _ (known : Here) (at' : Word → ℕ) (keys : (key : ℕ) → at' (Key key) ≡ (parts known).At (Key key))
    (sites : (site : ℕ) → at' (Site site) ≡ (parts known).At (Site site)) where
  open known use {p, me, below, pasts, s, whole, f, shown.{shows as h}}
  open parts known use {U as u, At as at}

  abbrev Is : StopState → ℕ → Stop → Option ℕ → Bool → Calling → Type 0
  Is q slot x inside irq calling = Goes known at' keys sites q slot x inside irq calling

  abbrev Leads : StopState → Past → List (ℕ × Event) → Type 0
  Leads q past es = ReachesStops q at' (slice_set pasts me past) s es

  -- an open stop, as it is told
  shown : (slot : ℕ) → slot < cpus → (p.now.stop slot).is_open ≡ true → OpenIs (p.now.stop slot) (stop_at s slot)
  shown slot l o = (f.stops slot l).shows o

  -- a CPU that has looked at a phase, which it is to acknowledge
  module _ (u_is : u.cpus ≡ cpus) (slot a : ℕ) (w : Work) (calling : Calling) (sits : RoleStands p.now me (In slot w a (a + 1) Rests)) where
    inside : p.now.inside me ≡ Some slot
    inside = sits.0

    stood : (p.now.stop slot).standing me ≡ Inside a (a + 1)
    stood = sits.1

    i : InsideIs p s (past_at pasts me) me slot
    i = (my known).stop slot inside

    pub is_open : (p.now.stop slot).is_open ≡ true
    is_open = is_open_inside u.cpus (p.now.stop slot) (λ g. at (Slot slot g)) (h.present.slots slot) me (Inside a (a + 1)) stood refl

    was : OpenIs (p.now.stop slot) (stop_at s slot)
    was = shown slot i.below is_open

    open_shows : OpenShows u.cpus (p.now.stop slot) (λ g. at (Slot slot g))
    open_shows = (h.present.slots slot).shows is_open

    keeps : Keeps u.cpus (p.now.stop slot).phase me (Inside a (a + 1))
    keeps = keeps_inside u.cpus (p.now.stop slot) (λ g. at (Slot slot g)) (h.present.slots slot) me (Inside a (a + 1)) stood

    pub phase_is : (p.now.stop slot).phase ≡ a + 1
    phase_is = elim keeps.2 [
      | inl e ↦ absurd (omega arith)
      | inr e ↦ e.1
    ]

    abbrev found : ℕ
    found = at (Slot slot field.Ack)

    acks : AckShows u.cpus (p.now.stop slot).phase (p.now.stop slot).standing (p.now.stop slot).raising (at (Slot slot field.Ack))
    acks = open_shows.ack (λ z. absurd (omega (arith, phase_is)))

    pub nobody : (p.now.stop slot).raising ≡ Nobody
    nobody = nobody_raises u.cpus (p.now.stop slot) (at (Slot slot field.Ack)) me a (a + 1) (p.now.stop slot).raising stood (subst (λ (n : ℕ). me < n)
        (sym u_is) below)
        (λ e. absurd (omega (arith, phase_is))) acks

    counted : at (Slot slot field.Ack) ≡ count_behind u.cpus (p.now.stop slot).phase (p.now.stop slot).standing
    counted = subst (λ (r : Raising). AckShows u.cpus (p.now.stop slot).phase (p.now.stop slot).standing r (at (Slot slot field.Ack))) nobody acks

    -- one fewer is behind
    fewer : count_behind cpus (a + 1) (put (p.now.stop slot).standing me (Inside (a + 1) (a + 1))) + 1 ≡ at (Slot slot field.Ack)
    fewer = one_fewer cpus (a + 1) (p.now.stop slot).standing me a (a + 1) stood below (λ e. absurd (omega arith))
        ∙ sym (subst (λ (n : ℕ). at (Slot slot field.Ack) ≡ count_behind n (a + 1) (p.now.stop slot).standing) u_is
        (subst (λ (n : ℕ). at (Slot slot field.Ack) ≡ count_behind u.cpus n (p.now.stop slot).standing) phase_is counted))

    mask : (c : ℕ) → is_of ((p.now.stop slot).standing c) ≡ has (stop_at s slot).task.mask c
    mask c = rw is_open at ((h.present.slots slot).members c) ∙ sym (ap (λ (z : Task). has z.mask c) was.task)

    keeps_all : (c : ℕ) → Keeps cpus (a + 1) c ((p.now.stop slot).standing c)
    keeps_all c = subst (λ (n : ℕ). Keeps n (a + 1) c ((p.now.stop slot).standing c)) u_is
        (subst (λ (n : ℕ). Keeps u.cpus n c ((p.now.stop slot).standing c)) phase_is ((h.present.slots slot).keeps c))

    no_raiser : (stop_at s slot).raiser ≡ None
    no_raiser = was.raiser ∙ ap raiser_of nobody

    -- the last is to raise the phase
    pub acknowledged_as : (last : Bool) → (at (Slot slot field.Ack) == 1) ≡ last → acknowledged_in me (a + 1) true (stop_at s slot)
        ≡ record (stop_at s slot) {
          acked = slice_set (stop_at s slot).acked me (a + 1);
          raiser = raiser_of (cond last (Refills me)
              (p.now.stop slot).raising);
        }
    unfolding acknowledged_in
    acknowledged_as true e =
        let none = none_late (stop_at s slot) (p.now.stop slot).standing me (a + 1) (f.stops slot i.below).sized.acked below (λ c l.
        (was.members c l).acked_is) mask keeps_all
        (at (Slot slot field.Ack)) (omega (arith, fewer, (eqb-true (at (Slot slot field.Ack)) 1 e))) in
        rw none refl
    acknowledged_as false e =
        let some = some_late (stop_at s slot) (p.now.stop slot).standing me (a + 1) (f.stops slot i.below).sized.acked below (λ c l.
        (was.members c l).acked_is) mask keeps_all
        (at (Slot slot field.Ack)) (λ z. (eqb-false (at (Slot slot field.Ack)) 1 e) (omega (arith, fewer, z))) in
        rw (some.is, nobody) (ap (λ (r : Option ℕ). record (stop_at s slot) { acked = slice_set (stop_at s slot).acked me (a + 1); raiser = r }) no_raiser)

    -- the premises of each phase
    acks_as : (p.now.stop slot).work.kind ≢ One → (a + 1 ≡ DISABLE_IRQ → p.now.irq me ≡ false)
        → (a + 1 ≡ RUN → has (p.now.stop slot).work.active me ≡ true → ((p.now.stop slot).work.kind ≡ Multi) × (has_entered (p.calling me) ≡ true))
        → inside_goes me (stops.Ack (a + 1)) s ≡ Ok (with_stop slot s (acknowledged_in me (a + 1) true (stop_at s slot)))
    unfolding inside_goes
    acks_as kind off called =
        let acked_is : acked_by (stop_at s slot) me ≡ a = (was.members me below).acked_is ∙ ap acked stood in
        let low : acked_by (stop_at s slot) me < a + 1 = omega (arith, acked_is) in
        let phase : (stop_at s slot).phase ≡ a + 1 = was.phase ∙ phase_is in
        let in_told : (cpu_at s me).inside ≡ Some slot = (my known).inside ∙ inside in
        let kind_told : (stop_at s slot).task.kind ≢ One = λ e. kind (sym (ap (λ (z : Task). z.kind) was.task) ∙ e) in
        let active_told : has (stop_at s slot).task.active me ≡ has (p.now.stop slot).work.active me = ap (λ (z : Task). has z.active me) was.task in
        elim (cases_eq (a + 1) DISABLE_IRQ) [
          | inl two ↦ subst (λ (n : ℕ). acked_by (stop_at s slot) me < n → (stop_at s slot).phase ≡ n → p.now.irq me ≡ false
              → inside_goes me (stops.Ack n) s ≡ Ok (with_stop slot s (acknowledged_in me n true (stop_at s slot)))) (sym two)
              (λ l at_two o. acks_two in_told kind_told l at_two ((my known).irq ∙ o)) low phase (off two)
          | inr not_two ↦ by_run in_told kind_told low phase not_two active_told called (((a + 1) == RUN) && has (stop_at s slot).task.active me) refl
        ]
      where
        acks_two : (cpu_at s me).inside ≡ Some slot → (stop_at s slot).task.kind ≢ One → acked_by (stop_at s slot) me < DISABLE_IRQ
            → (stop_at s slot).phase ≡ DISABLE_IRQ
            → (cpu_at s me).irq ≡ false
            → inside_goes me (stops.Ack DISABLE_IRQ) s ≡ Ok (with_stop slot s (acknowledged_in me DISABLE_IRQ true (stop_at s slot)))
        acks_two in_told kind l two o = acks_disabled s me whole slot (omega (arith, i.below)) in_told kind l two o

        by_run : (cpu_at s me).inside ≡ Some slot → (stop_at s slot).task.kind ≢ One → acked_by (stop_at s slot) me < a + 1
            → (stop_at s slot).phase ≡ a + 1 → (a + 1 ≡ DISABLE_IRQ → ⊥)
            → has (stop_at s slot).task.active me ≡ has (p.now.stop slot).work.active me
            → (a + 1 ≡ RUN → has (p.now.stop slot).work.active me ≡ true → ((p.now.stop slot).work.kind ≡ Multi) × (has_entered (p.calling me) ≡ true))
            → (b : Bool) → (((a + 1) == RUN) && has (stop_at s slot).task.active me) ≡ b
            → inside_goes me (stops.Ack (a + 1)) s ≡ Ok (with_stop slot s (acknowledged_in me (a + 1) true (stop_at s slot)))
        by_run in_told kind l phase not_two active_told called false e =
            acks_other s me whole slot (omega (arith, i.below)) in_told (a + 1) kind l phase (ne_eqb (a + 1) DISABLE_IRQ not_two) e
        by_run in_told kind l phase not_two active_told called true e =
            let k = and_parts ((a + 1) == RUN) (has (stop_at s slot).task.active me) e in
            let three = eqb-true (a + 1) RUN k.0 in
            let c = called three (sym active_told ∙ k.1) in
            rw three (acks_run s me whole slot (omega (arith, i.below)) in_told (ap (λ (z : Task). z.kind) was.task ∙ c.0) (omega (
              arith,
              l,
              three,
            )) (phase ∙ three) (i.ran ∙ rw c.0 c.1) k.1)

    pub ack_made : (p.now.stop slot).work.kind ≢ One → (a + 1 ≡ DISABLE_IRQ → p.now.irq me ≡ false)
        → (a + 1 ≡ RUN → has (p.now.stop slot).work.active me ≡ true → ((p.now.stop slot).work.kind ≡ Multi) × (has_entered (p.calling me) ≡ true))
        → goes me (event.Stop (stops.Ack (a + 1))) s ≡ Ok (with_stop slot s (record (stop_at s slot) {
          acked = slice_set (stop_at s slot).acked me (a + 1);
          raiser = raiser_of (cond (at (Slot slot field.Ack) == 1) (Refills me) (p.now.stop slot).raising);
        }))
    unfolding stop_goes
    ack_made kind off called = made_low me below (acks_as kind off called
        ∙ ap (λ (z : ToldStop). Ok (with_stop slot s z)) (acknowledged_as (at (Slot slot field.Ack) == 1) refl))
