-- A CPU enters a stop, looks at its phase, runs its function, answers and completes.
use Rattle.trace_laws.proofs.Names.{Bool, CpuState, Event, Kind, List, None, Ok, One, Option, Some, Task, [], acked_by, and_right, ap, arith, cpu_at, eq-eqb}
use Rattle.trace_laws.proofs.Names.{false, get_or-set_other, get_or-set_same, handles_nothing, has, has_run, in_stop, inside_goes, length-set, pos, refl}
use Rattle.trace_laws.proofs.Names.{slice_index_or, slice_set, stop_at, stop_goes, subst, sym, true, with_cpu, with_interrupts, with_stop, ℕ, ◌<◌, ◌∙◌, ◌∷◌}
use Rattle.trace_laws.proofs.Names.{◌≡◌, ◌≢◌}
use Rattle.trace_laws.proofs.ReplayNames.{AnswerIs, Called, Calling, Idle, Inside, InsideIs, Key, MadeIs, MemberIs, OpenIs, Past, Patch, Site, Standing, Stop}
use Rattle.trace_laws.proofs.ReplayNames.{StopIs, StopState, ToldStop, Word, acked, cpus, given_by, has_called, is_called, past_at, stands}
use Rattle.trace_model.specs.declared.event.Event.TheVariants as event
use Rattle.trace_model.specs.declared.event.StopEvent.TheVariants as stops
use Rattle.trace_laws.proofs.ReplayStops.StepEvents.{ReachesStops, cpu_step, member_as, set_step}
use Rattle.trace_laws.proofs.ReplayStops.StepKinds.{Goes, in_slot, members_set, one_stop, silent, told_still}
use Rattle.trace_laws.proofs.{ReplayCalls.ChangedStates.cpu_here, ReplayPatches.OnePatcher.elsewhere_none, ReplayPatches.OnePatcher.first_is}
use Rattle.trace_laws.proofs.{ReplayPatches.OnePatcher.nobody_patches, ReplayStops.ChangedStates.stop_here, ReplayStops.Here.Here, ReplayStops.Here.my}
use Rattle.trace_laws.proofs.{ReplayStops.Here.parts, ReplayStops.StopEvents.enters_stop, ReplayStops.StopEvents.made_low}
use Rattle.trace_laws.proofs.{ReplayStops.StopEvents.turns_off}
use Rattle.smp_words.specs.declared.phase.TheConstants.{DISABLE_IRQ, RUN}

-- a CPU that has called nothing has called none of any kind
pub none_called : (k : Kind) → has_called k Idle ≡ false
none_called k = search arith

module _ (known : Here) (at' : Word → ℕ) (keys : (key : ℕ) → at' (Key key) ≡ (parts known).At (Key key))
    (sites : (site : ℕ) → at' (Site site) ≡ (parts known).At (Site site)) where
  open known use {p, me, below, pasts, sized, s, whole, cpus_are, f, shown.{seat, source, shows as h}}
  open parts known use {U as u, At as at}

  abbrev Is : StopState → ℕ → Stop → Option ℕ → Bool → Calling → Type 0
  Is q slot x inside irq calling = Goes known at' keys sites q slot x inside irq calling

  abbrev Leads : StopState → Past → List (ℕ × Event) → Type 0
  Leads q past es = ReachesStops q at' (slice_set pasts me past) s es

  -- an open stop, as it is told
  shown : (slot : ℕ) → slot < cpus → (p.now.stop slot).is_open ≡ true → OpenIs (p.now.stop slot) (stop_at s slot)
  shown slot l o = (f.stops slot l).shows o

  -- a CPU enters
  pub enters_told : (q : StopState) (slot : ℕ) → slot < cpus → p.now.inside me ≡ None → (p.now.stop slot).is_open ≡ true
      → (p.now.stop slot).standing me ≡ Called
      → p.calling me ≡ Idle → Is q slot (stands (p.now.stop slot) me (Inside 0 0)) (Some slot) (p.now.irq me) (p.calling me)
      → Leads q (past_at pasts me) ((me, event.Stop (stops.Enter slot)) ∷ [])
  unfolding stop_goes inside_goes
  enters_told q slot l inside_none is_open called idle g =
      let was = shown slot l is_open in
      let e = stop_at s slot in
      let x = stands (p.now.stop slot) me (Inside 0 0) in
      let y = record e { entered = slice_set e.entered me true } in
      let c = in_stop (Some slot) (cpu_at s me) in
      let size = (f.stops slot l).sized in
      let member = was.members me below in
      let set : slice_index_or (slice_set e.entered me true) me false ≡ true = get_or-set_same e.entered me true false (rw size.entered (omega arith)) in
      let here : MemberIs (x.standing me) y me = search (set, e.task.mask, member.acked_is, member.answer, eq-eqb, and_right, arith) in
      let told : StopIs x y = record {
        sized = record { entered = length-set e.entered me true ∙ size.entered; acked = size.acked; ran = size.ran; answers = size.answers };
        is_open = (f.stops slot l).is_open;
        shows = λ o. record {
          task = was.task;
          phase = was.phase;
          raiser = was.raiser;
          members = members_set known at' keys sites (p.now.stop slot) x e y was.members g.standing_else
              (λ cpu ne m. member_as ((p.now.stop slot).standing cpu) e y cpu (rw
              (get_or-set_other e.entered me cpu true false ne) refl) refl refl refl (λ is k. (k, refl)) m) here;
          patch = was.patch;
        };
      } in
      let t = with_cpu me (with_stop slot s y) c in
      let my_cpu = cpu_here (with_stop slot s y) me c cpus_are below in
      let ran : has_run (stop_at t slot) me ≡ has_called (p.now.stop slot).work.kind (p.calling me) =
      ap (λ (z : ToldStop). has_run z me) (stop_here s slot y f.stops_are l) ∙
      (member.fresh called ∙ rw idle (sym (none_called (p.now.stop slot).work.kind))) in
      let patch : (p.now.stop slot).work.kind ≡ Patch → has (p.now.stop slot).work.active me ≡ true
      → MadeIs t.words p.now.patching (p.calling me) (stop_at t slot).patch = λ kind active.
      let none_told : e.patch ≡ None = member.unmade called (ap (λ (z : Task). has z.active me) was.task ∙ active) in
      let first = first_is u p at seat source h slot me is_open kind active in
      let whole_now = nobody_patches u p at seat source h me first (elsewhere_none u p at seat source h me inside_none) in
      rw (idle, stop_here s slot y f.stops_are l, whole_now) none_told in
      set_step p q at at' pasts s me (past_at pasts me) below sized cpus_are f keys sites slot x y c l
      (one_stop known at' keys sites q slot x (Some slot) (p.now.irq me) (p.calling me) y g
      (λ cpu ne. refl) refl) told
      ((me, event.Stop (stops.Enter slot)) ∷ []) (
        t,
        (
          made_low me below (enters_stop s me whole slot (omega arith) ((my known).inside ∙ inside_none) ((f.stops slot l).is_open ∙ is_open) (member.called
              ∙ ap is_called called)),
          refl,
        ),
      ) refl
      (in_slot known at' keys sites q t (past_at pasts me) slot x (p.now.irq me) (p.calling me) g l
      (ap (λ (z : CpuState). z.inside) my_cpu) (ap (λ (z : CpuState). z.irq) my_cpu ∙ (my known).irq) ran patch
      (rw (eq-eqb me me refl) (λ e. absurd (e refl))) (rw (eq-eqb me me refl) ((my known).answer inside_none)) (my known).reads)

  -- a CPU looks at the phase: its interrupts go off with the second
  module _ (slot a found : ℕ) (inside : p.now.inside me ≡ Some slot) (stands_so : (p.now.stop slot).standing me ≡ Inside a a) (past : Past)
      (answer : past.answer ≡ (past_at pasts me).answer) where
    i : InsideIs p s (past_at pasts me) me slot
    i = (my known).stop slot inside

    looks : Stop
    looks = stands (p.now.stop slot) me (Inside a found)

    told_looked : (q : StopState) (irq : Bool) (calling : Calling) → Is q slot (stands (p.now.stop slot) me (Inside a found)) (Some slot) irq calling
        → StopIs (stands (p.now.stop slot) me (Inside a found)) (stop_at s slot)
    told_looked q irq calling g = told_still known at' keys sites (p.now.stop slot)
        (stands (p.now.stop slot) me (Inside a found)) (stop_at s slot) (f.stops slot i.below) refl refl refl refl g.standing_else
        (λ o m. rw (eq-eqb me me refl) (record {
          called = m.called ∙ ap is_called stands_so;
          acked_is = m.acked_is ∙ ap acked stands_so;
          answer = m.answer ∙ ap given_by stands_so;
          fresh = λ is. absurd cc;
          unmade = λ is. absurd cc;
        }))

    still : past.answer ≡ pos 0
    still = answer ∙ subst (λ (z : Standing). AnswerIs z (past_at pasts me).answer) stands_so i.answer

    -- no event
    pub looked_step : (q : StopState) → Is q slot (stands (p.now.stop slot) me (Inside a found)) (Some slot) (p.now.irq me) (p.calling me)
        → (found ≢ 0 → past.phase ≡ found) → (past.phase ≡ RUN → p.now.irq me ≡ false) → Leads q past []
    looked_step q g phase reads = silent known at' keys sites q past slot
        (stands (p.now.stop slot) me (Inside a found)) (Some slot) (p.now.irq me) (p.calling me) g (λ _. told_looked q (p.now.irq me) (p.calling me) g)
        (in_slot known at' keys sites q s past slot (stands (p.now.stop slot) me
        (Inside a found)) (p.now.irq me)
        (p.calling me) g i.below ((my known).inside ∙ inside) (my known).irq i.ran i.patch (rw (eq-eqb me me refl) phase) (rw (eq-eqb me me refl) still) reads)

    -- interrupts go off
    pub off_step : (q : StopState) → Is q slot (stands (p.now.stop slot) me (Inside a found)) (Some slot) false (p.calling me) → (found ≢ 0
        → past.phase ≡ found)
        → (p.now.stop slot).work.kind ≢ One → (p.now.stop slot).is_open ≡ true → p.now.irq me ≡ true → a < DISABLE_IRQ → (p.now.stop slot).phase ≡ DISABLE_IRQ
        → handles_nothing (cpu_at s me) ≡ Ok tt → Leads q past ((me, event.Stop stops.Off) ∷ [])
    unfolding stop_goes inside_goes
    off_step q g phase kind is_open irq low at_two quiet =
        let was = shown slot i.below is_open in
        let c = with_interrupts false (cpu_at s me) in
        let t = with_cpu me s c in
        let my_cpu = cpu_here s me c cpus_are below in
        let acked_is : acked_by (stop_at s slot) me ≡ a = (was.members me below).acked_is ∙ ap acked stands_so in
        let kind_is : (stop_at s slot).task.kind ≢ One = λ e. kind (sym (ap (λ (z : Task). z.kind) was.task) ∙ e) in
        cpu_step p q at at' pasts s me past below sized cpus_are f keys sites slot (stands (p.now.stop slot) me (Inside a found))
        (one_stop known at' keys sites q slot (stands (p.now.stop slot) me (Inside a found))
        (Some slot) false
        (p.calling me) (stop_at s slot) g (λ cpu ne. refl) refl) (λ _. told_looked q false (p.calling me) g) c ((me, event.Stop stops.Off) ∷ []) (
          t,
          (
            made_low me below (turns_off s me whole slot (omega (arith, i.below)) ((my known).inside ∙ inside) kind_is ((my known).irq ∙ irq)
                (omega arith) (was.phase ∙ at_two) quiet),
            refl,
          ),
        ) refl
        (in_slot known at' keys sites q t past slot (stands (p.now.stop slot) me (Inside a found)) false
        (p.calling me) g i.below (ap (λ (z : CpuState). z.inside) my_cpu ∙ ((my known).inside ∙ inside)) (ap (λ (z : CpuState). z.irq) my_cpu) i.ran i.patch
        (rw (eq-eqb me me refl) phase) (rw (eq-eqb me me refl) still) (λ e. refl))
