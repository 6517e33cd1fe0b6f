-- A CPU runs the function of its stop, answers and completes.
use Rattle.trace_laws.proofs.Names.{Bool, CpuState, Event, List, Multi, None, Ok, One, Option, Some, Task, [], acked_by, ap, arith, cpu_at, eq-eqb, false}
use Rattle.trace_laws.proofs.Names.{get_or-set_other, get_or-set_same, goes, has, has_run, in_stop, inl, inr, inside_goes, is_cpu, length-set, pos, refl}
use Rattle.trace_laws.proofs.Names.{slice_set, stop_at, stop_goes, sym, true, with_cpu, with_stop, ℕ, ◌<◌, ◌∙◌, ◌∷◌, ◌≡◌, ◌≢◌, ◌≤◌, ◌⊎◌}
use Rattle.trace_laws.proofs.ReplayNames.{Answering, Called, Calling, Completed, Idle, Inside, InsideIs, IsSized, Key, MemberIs, OpenIs, Past, Patch, Site}
use Rattle.trace_laws.proofs.ReplayNames.{Stop, StopIs, StopState, ToldStop, Word, acked, as_i32, cpus, given_by, has_called, has_entered, is_called, past_at}
use Rattle.trace_laws.proofs.ReplayNames.{raiser_of, stands}
use Rattle.trace_model.specs.declared.event.Event.TheVariants as event
use Rattle.trace_model.specs.declared.event.StopEvent.TheVariants as stops
use Rattle.trace_laws.proofs.ReplayStops.StepEvents.{ReachesStops, member_as, set_step, stop_step}
use Rattle.trace_laws.proofs.ReplayStops.StepKinds.{Goes, in_none, in_slot, members_set, one_stop, silent, told_still}
use Rattle.trace_laws.proofs.ReplayStops.StopEvents.{MayAnswer, completes_one, completes_round, made_low, runs_multi, runs_one}
use Rattle.trace_laws.proofs.{ReplayCalls.ChangedStates.cpu_here, ReplayStops.ChangedStates.stop_here, ReplayStops.Here.Here, ReplayStops.Here.my}
use Rattle.trace_laws.proofs.{ReplayStops.Here.parts, ReplayStops.Moves.none_called}
use Rattle.smp_words.specs.declared.phase.TheConstants.{DISABLE_IRQ, RUN, EXIT}

module _ (known : Here) (at' : Word → ℕ) (keys : (key : ℕ) → at' (Key key) ≡ (parts known).At (Key key))
    (sites : (site : ℕ) → at' (Site site) ≡ (parts known).At (Site site)) where
  open known use {p, me, below, pasts, sized, s, whole, cpus_are, f}
  open parts known use {At as at}

  abbrev Is : StopState → ℕ → Stop → Option ℕ → Bool → Calling → Type 0
  Is q slot x inside irq calling = Goes known at' keys sites q slot x inside irq calling

  abbrev Leads : StopState → Past → List (ℕ × Event) → Type 0
  Leads q past es = ReachesStops q at' (slice_set pasts me past) s es

  -- an open stop, as it is told
  shown : (slot : ℕ) → slot < cpus → (p.now.stop slot).is_open ≡ true → OpenIs (p.now.stop slot) (stop_at s slot)
  shown slot l o = (f.stops slot l).shows o

  -- a stop that is not as before at this CPU
  module _ (slot : ℕ) (inside : p.now.inside me ≡ Some slot) (is_open : (p.now.stop slot).is_open ≡ true) where
    i : InsideIs p s (past_at pasts me) me slot
    i = (my known).stop slot inside

    abbrev e : ToldStop
    e = stop_at s slot

    was : OpenIs (p.now.stop slot) (stop_at s slot)
    was = shown slot i.below is_open

    member : MemberIs ((p.now.stop slot).standing me) (stop_at s slot) me
    member = was.members me below

    size : IsSized (stop_at s slot)
    size = (f.stops slot i.below).sized

    -- the function is entered
    abbrev entered : ToldStop
    entered = record (stop_at s slot) { ran = slice_set (stop_at s slot).ran me true }

    told_entered : (a l : ℕ) → (p.now.stop slot).standing me ≡ Inside a l → StopIs (p.now.stop slot) (record (stop_at s slot) {
      ran = slice_set
          (stop_at s slot).ran me true;
    })
    told_entered a l stood = record {
      sized = record { entered = size.entered; acked = size.acked; ran = length-set (stop_at s slot).ran me true ∙ size.ran; answers = size.answers };
      is_open = (f.stops slot i.below).is_open;
      shows = λ o. record {
        task = was.task;
        phase = was.phase;
        raiser = was.raiser;
        members = members_set known at' keys sites (p.now.stop slot) (p.now.stop slot) (stop_at s slot)
            (record (stop_at s slot) { ran = slice_set (stop_at s slot).ran me true }) was.members (λ cpu ne. refl)
            (λ cpu ne m. member_as ((p.now.stop slot).standing cpu) (stop_at s slot) (record (stop_at s slot) {
              ran = slice_set
                  (stop_at s slot).ran me true;
            }) cpu refl refl refl
            (get_or-set_other (stop_at s slot).ran me cpu true false ne) (λ is k. (k, refl)) m)
            (record {
              called = member.called;
              acked_is = member.acked_is;
              answer = member.answer;
              fresh = λ is. absurd (not_called a l (sym stood ∙ is));
              unmade = λ is. absurd (not_called a l (sym stood ∙ is));
            });
        patch = was.patch;
      };
    }
      where
        not_called : (a l : ℕ) → Inside a l ≡ Called → ⊥
        not_called a l x = absurd cc

    pub runs_told : (q : StopState) (a l func arg : ℕ) (calling : Calling) → (p.now.stop slot).standing me ≡ Inside a l → p.calling me ≡ Idle
        → has_entered calling ≡ true
        → Is q slot (p.now.stop slot) (Some slot) (p.now.irq me) calling
        → ((p.now.stop slot).work.kind ≡ One) ⊎ (((p.now.stop slot).work.kind ≡ Multi) × ((has (p.now.stop slot).work.active me ≡ true) × ((a ≡ DISABLE_IRQ) ×
        ((p.now.stop slot).phase ≡ RUN))))
        → (p.now.stop slot).work.func ≡ func → (p.now.stop slot).work.arg ≡ arg → Leads q (past_at pasts me) ((me, event.Stop (stops.Run func arg)) ∷ [])
    unfolding stop_goes inside_goes
    runs_told q a l func arg calling stood idle called g kinds func_is arg_is =
        let y = record (stop_at s slot) { ran = slice_set (stop_at s slot).ran me true } in
        let t = with_stop slot s y in
        let not_yet : has_run (stop_at s slot) me ≡ false = i.ran ∙ rw idle (none_called (p.now.stop slot).work.kind) in
        let no_patch : (p.now.stop slot).work.kind ≢ Patch = search arith in
        let called_so : has_called (p.now.stop slot).work.kind calling ≡ true = search arith in
        let in_told : (cpu_at s me).inside ≡ Some slot = (my known).inside ∙ inside in
        let task_func : (stop_at s slot).task.func ≡ func = ap (λ (z : Task). z.func) was.task ∙ func_is in
        let task_arg : (stop_at s slot).task.arg ≡ arg = ap (λ (z : Task). z.arg) was.task ∙ arg_is in
        let acked_is : acked_by (stop_at s slot) me ≡ a = member.acked_is ∙ ap acked stood in
        let made : goes me (event.Stop (stops.Run func arg)) s ≡ Ok t = elim kinds [
          | inl one ↦ made_low me below (runs_one s me whole slot (omega (arith, i.below)) in_told func arg (ap (λ (z : Task). z.kind) was.task ∙ one)
              not_yet task_func task_arg)
          | inr k ↦ made_low me below (runs_multi s me whole slot (omega (arith, i.below)) in_told func arg (ap (λ (z : Task). z.kind) was.task ∙ k.0)
              (ap (λ (z : Task). has z.active me) was.task ∙ k.1.0) (at_two a acked_is k.1.1.0) (was.phase ∙ k.1.1.1) not_yet task_func task_arg)
        ] in
        stop_step p q at at' pasts s me (past_at pasts me) below sized cpus_are f keys sites slot (p.now.stop slot) y (cpu_at s me) i.below
        (one_stop known at' keys sites q slot (p.now.stop slot) (Some slot) (p.now.irq me) calling y g
        (λ cpu ne. get_or-set_other (stop_at s slot).ran me cpu true false ne) refl) (told_entered a l stood) ((me, event.Stop (stops.Run func arg)) ∷ [])
        (t, (made, refl))
        (in_slot known at' keys sites q t (past_at pasts me) slot (p.now.stop slot)
        (p.now.irq me) calling g i.below
        in_told (my known).irq (ap (λ (z : ToldStop). has_run z me) (stop_here s slot y f.stops_are i.below)
        ∙ (get_or-set_same (stop_at s slot).ran me true false (rw size.ran (omega arith)) ∙ sym called_so)) (λ z. absurd (no_patch z)) i.phase i.answer
        (my known).reads)
      where
        at_two : (a : ℕ) → acked_by (stop_at s slot) me ≡ a → a ≡ DISABLE_IRQ → acked_by (stop_at s slot) me < RUN
        at_two a e two = omega (arith, e, two)

    -- an answer is stored
    pub answers_step : (q : StopState) (past : Past) (a l answer : ℕ) → (p.now.stop slot).standing me ≡ Inside a l
        → Is q slot (stands (p.now.stop slot) me (Answering a answer)) (Some slot) (p.now.irq me) (p.calling me)
        → past.phase ≡ (past_at pasts me).phase → past.answer ≡ as_i32 answer → Leads q past []
    answers_step q past a l answer stood g phase given = silent known at' keys sites q past slot
        (stands (p.now.stop slot) me (Answering a answer)) (Some slot) (p.now.irq me) (p.calling me) g
        (λ _. told_still known at' keys sites (p.now.stop slot) (stands (p.now.stop slot) me
        (Answering a answer))
        (stop_at s slot) (f.stops slot i.below) refl refl refl refl g.standing_else
        (λ o m. rw (eq-eqb me me refl) (record {
          called = m.called ∙ ap is_called stood;
          acked_is = m.acked_is ∙ ap acked stood;
          answer = m.answer ∙ ap given_by stood;
          fresh = λ is. absurd cc;
          unmade = λ is. absurd cc;
        })))
        (in_slot known at' keys sites q s past slot (stands (p.now.stop slot) me
        (Answering a answer)) (p.now.irq me)
        (p.calling me) g i.below ((my known).inside ∙ inside) (my known).irq i.ran i.patch (rw (eq-eqb me me refl) tt) (rw (eq-eqb me me refl) given)
        (λ x. (my known).reads
        (sym phase ∙ x)))

    -- the CPU completes
    pub completes_told : (q : StopState) (past : Past) (x : Stop) (a answer : ℕ) → x.standing me ≡ Completed a answer → x.is_open ≡ (p.now.stop slot).is_open
        → x.work ≡ (p.now.stop slot).work → x.phase ≡ (p.now.stop slot).phase → x.raising ≡ (p.now.stop slot).raising
        → acked ((p.now.stop slot).standing me) ≡ a → is_called ((p.now.stop slot).standing me) ≡ false → (past_at pasts me).answer ≡ as_i32 answer
        → Is q slot x None (p.now.irq me) Idle → past.phase ≡ (past_at pasts me).phase → past.answer ≡ pos 0
        → goes me (event.Stop (stops.Complete (past_at pasts me).answer)) s
        ≡ Ok (with_cpu me (with_stop slot s (record (stop_at s slot) {
          answers = slice_set (stop_at s slot).answers me (Some
              (past_at pasts me).answer);
        })) (in_stop None (cpu_at s me)))
        → Leads q past ((me, event.Stop (stops.Complete (past_at pasts me).answer)) ∷ [])
    completes_told q past x a answer stood x_open work phase raising acked_is called given g past_phase past_answer made =
        let told = (past_at pasts me).answer in
        let y = record (stop_at s slot) { answers = slice_set (stop_at s slot).answers me (Some told) } in
        let c = in_stop None (cpu_at s me) in
        let t = with_cpu me (with_stop slot s y) c in
        let my_cpu = cpu_here (with_stop slot s y) me c cpus_are below in
        let here : MemberIs (x.standing me) y me = search (told, member, get_or-set_same, size, arith) in
        let told_so : StopIs x y = record {
          sized = record {
            entered = size.entered;
            acked = size.acked;
            ran = size.ran;
            answers = length-set (stop_at s slot).answers me (Some told)
                ∙ size.answers;
          };
          is_open = (f.stops slot i.below).is_open ∙ sym x_open;
          shows = λ o. record {
            task = was.task ∙ rw work refl;
            phase = was.phase ∙ sym phase;
            raiser = was.raiser ∙ rw raising refl;
            members = members_set known at' keys sites (p.now.stop slot) x
                (stop_at s slot) y was.members g.standing_else
                (λ cpu ne m. member_as ((p.now.stop slot).standing cpu) (stop_at s slot) y cpu refl refl
                (get_or-set_other (stop_at s slot).answers me cpu (Some told) None ne) refl (λ is k. (k, refl)) m) here;
            patch = rw work was.patch;
          };
        } in
        set_step p q at at' pasts s me past below sized cpus_are f keys sites slot x y c i.below
        (one_stop known at' keys sites q slot x None (p.now.irq me) Idle y g (λ cpu ne. refl) refl)
        told_so
        ((me, event.Stop (stops.Complete told)) ∷ []) (t, (made, refl)) refl
        (in_none known at' keys sites q t past slot x (p.now.irq me) Idle g
        (ap (λ (z : CpuState). z.inside) my_cpu) (ap (λ (z : CpuState). z.irq) my_cpu ∙ (my known).irq) past_answer
        (λ x. (my known).reads (sym past_phase ∙ x)))

    -- so it does in a stop of kind One, and in a rendezvous
    pub complete_one : (p.now.stop slot).work.kind ≡ One → has_entered (p.calling me) ≡ true
        → goes me (event.Stop (stops.Complete (past_at pasts me).answer)) s
        ≡ Ok (with_cpu me (with_stop slot s (record (stop_at s slot) {
          answers = slice_set (stop_at s slot).answers me (Some
              (past_at pasts me).answer);
        })) (in_stop None (cpu_at s me)))
    unfolding stop_goes inside_goes
    complete_one kind called =
        made_low me below (completes_one s me whole slot (omega (arith, i.below)) ((my known).inside ∙ inside) (past_at pasts me).answer
        (ap (λ (z : Task). z.kind) was.task ∙ kind) (i.ran ∙ rw kind called))

    pub complete_round : (p.now.stop slot).work.kind ≢ One → EXIT ≤ acked ((p.now.stop slot).standing me)
        → is_cpu (raiser_of (p.now.stop slot).raising) me ≡ false
        → p.now.irq me ≡ true → MayAnswer (stop_at s slot) me (past_at pasts me).answer
        → goes me (event.Stop (stops.Complete (past_at pasts me).answer)) s
        ≡ Ok (with_cpu me (with_stop slot s (record (stop_at s slot) {
          answers = slice_set (stop_at s slot).answers me (Some
              (past_at pasts me).answer);
        })) (in_stop None (cpu_at s me)))
    unfolding stop_goes inside_goes
    complete_round kind high not_last on may =
        made_low me below (completes_round s me whole slot (omega (arith, i.below)) ((my known).inside ∙ inside) (past_at pasts me).answer
        (λ x. kind (sym (ap (λ (z : Task). z.kind) was.task) ∙ x)) (omega (arith, member.acked_is, high)) (ap (λ (z : Option ℕ). is_cpu z me) was.raiser
        ∙ not_last) ((my known).irq ∙ on) may)
