-- The step of a CPU that runs the function of a stop of kind One, completes, closes or collects is accepted.
use Rattle.trace_laws.proofs.Names.{Kind, Multi, None, Ok, One, Option, Some, Task, [], and_right, ap, arith, cpu_at, false, goes, has, has_run, in_stop, inl}
use Rattle.trace_laws.proofs.Names.{inr, is_cpu, ne_eqb, not, pos, refl, slice_set, stop_at, subst, sym, true, with_cpu, with_stop, ℕ, ◌+◌, ◌<◌, ◌^◌, ◌∙◌, ◌∷◌}
use Rattle.trace_laws.proofs.Names.{◌≡◌, ◌≢◌, ◌⊎◌}
use Rattle.trace_laws.proofs.ReplayNames.{AnswerIs, Answering, Calling, Calls, Carries, CarriesAt, Close, Closes, Complete, Completed, CompletionStage, Gives}
use Rattle.trace_laws.proofs.ReplayNames.{Idle, In, Inside, IsCalling, IsQuiet, LoadResult, Nobody, Past, Patch, Raises, Raising, Refills, Rests}
use Rattle.trace_laws.proofs.ReplayNames.{StopRole, SitsAt, Slot, Standing, Stop, StopStage, StopState, Visit, Word, Work, acked_of, as_i32}
use Rattle.trace_laws.proofs.ReplayNames.{calls_now, has_entered}
use Rattle.trace_laws.proofs.ReplayNames.{irq_of, is_called, is_of, is_open_inside, may_call, one_less, one_phase, put, put_all, put_other, put_same, put_word}
use Rattle.trace_laws.proofs.ReplayNames.{raiser_of, stands, stop_number, stored_shut}
use Rattle.smp_words.specs.declared.field.Field.TheVariants as field
use Rattle.smp_stop_steps.proofs.Promises.Premises.{may_see}
use Rattle.smp_stop_steps.specs.Tells.{answered_by, collects, completes, completes_with}
use Rattle.smp_stop_steps.specs.declared.stage.CompletionStage.TheVariants as completion
use Rattle.smp_stop_steps.specs.{Callings.answer_in, Carries.IsEnding, Laws.IsNot, Laws.IsThrough, Sits.SitsInCompletion, Slots.IsPhaseOf, Stop.closed}
use Rattle.smp_stop_steps.specs.{Stop.completed, Stop.ended}
use Rattle.trace_model.specs.declared.event.Event.TheVariants as event
use Rattle.trace_model.specs.declared.event.StopEvent.TheVariants as stops
use Rattle.trace_events.specs.declared.step_events.StepEvents.TheVariants as told
use Rattle.trace_laws.proofs.ReplayStops.FunctionRuns.{answers_step, complete_one, complete_round, completes_told, runs_told}
use Rattle.trace_laws.proofs.ReplayStops.StepKinds.{Goes, in_none, silent, told_still}
use Rattle.trace_laws.proofs.ReplayStops.TurnSteps.{Made, calling_here, irq_here, keeps_here, opened_here, seat_is, st, then_if, words_here}
use Rattle.trace_laws.proofs.{ReplayCalls.StepEvents.by, ReplayPatches.OnePatcher.open_inside, ReplayPatches.PatchEvents.others_answer}
use Rattle.trace_laws.proofs.{ReplayStops.ComparedAnswers.same_int, ReplayStops.Here.Here, ReplayStops.Here.my, ReplayStops.Here.parts}
use Rattle.trace_laws.proofs.{ReplayStops.SourceEvents.all_done, ReplayStops.SourceEvents.collects_told, ReplayStops.SourceEvents.result_gives}
use Rattle.trace_laws.proofs.{ReplayStops.StageSteps.loads, ReplayStops.StepEvents.ReachesStops, ReplayStops.StopEvents.MayAnswer}
use Rattle.smp_words.specs.declared.phase.TheConstants.{EXIT}

module _ (known : Here) (results : (slot : ℕ) → stop_number known.v.table (Slot slot field.Result) < 2 ^ 32) where
  open known use {p, shown, me, below, pasts, s, f}
  open parts known use {U, At, C, Old}

  abbrev Does : StopStage → Type 0
  Does stage = Made known stage

  ends_at : (w : Visit) (stage : CompletionStage) → C.stage ≡ Some (Complete w stage) → SitsInCompletion w stage (shown.seat me)
  ends_at w stage e = (subst (λ (x : Option StopStage). SitsAt U me C x (shown.seat me)) e (shown.sits me below).seat).1

  visit_is : (w : Visit) (stage : CompletionStage) → C.stage ≡ Some (Complete w stage) → C.visit ≡ Some w
  visit_is w stage e = (subst (λ (x : Option StopStage). SitsAt U me C x (shown.seat me)) e (shown.sits me below).seat).0

  pub loads_func : (x : Visit) (answer : ℕ) → Does (Complete x (completion.LoadFunc answer))
  loads_func x answer = loads known (Complete x (completion.LoadFunc answer)) (λ k. refl) (λ k. refl)

  -- the function of a stop of kind One runs
  one_acked : (n a l phase : ℕ) → phase ≡ 0 → ((a ≡ phase) ⊎ (a + 1 ≡ phase)) → a ≡ 0
  one_acked n a l phase z h1 = search arith

  pub loads_arg : (x : Visit) (answer func : ℕ) → C.stage ≡ Some (Complete x (completion.LoadArg answer func))
      → Does (Complete x (completion.LoadArg answer func))
  loads_arg x answer func e =
      let k = ends_at x (completion.LoadArg answer func) e in
      let w = k.1.0 in
      let slot = x.slot in
      let a = x.acked in
      let at_seat = k.1.2 in
      let so = st known slot a a w Rests at_seat in
      let words = words_here known slot a a w Rests at_seat in
      let keeps = keeps_here known slot a a w Rests at_seat in
      let kind : (p.now.stop slot).work.kind ≡ One = ap (λ (z : Work). z.kind) so.3 ∙ (sym k.1.1.kind ∙ k.0) in
      let none : a ≡ 0 = one_acked 0 a a (p.now.stop slot).phase (one_phase (p.now.stop slot).work.kind (p.now.stop slot).phase kind words.kinds) keeps.1 in
      let carries : IsQuiet C.visit (p.calling me) = subst (λ (y : Option StopStage). CarriesAt C.visit y (p.calling me)) e (shown.carries me below) in
      let still : IsQuiet (Some x) (p.calling me) = subst (λ (y : Option Visit). IsQuiet y (p.calling me)) (visit_is x
      (completion.LoadArg answer func) e) carries in
      let idle = idle_of slot w x a (p.calling me) none (calling_here known slot a a w Rests at_seat) still in
      let found = At (Slot slot field.Arg) in
      let q = calls_now p me (p.now.stop slot).work found answer in
      let may : may_call me (p.now.stop slot).work ((p.now.stop slot).standing me) ≡ true =
      ap (λ (z : Standing). may_call me (p.now.stop slot).work z) so.1 ∙ may_one (p.now.stop slot).work a kind in
      subst (λ (z : StopState). ReachesStops z At (slice_set pasts me Old) s ((me, event.Stop (stops.Run func found)) ∷ []))
      (sym (then_if (may_call me (p.now.stop slot).work ((p.now.stop slot).standing me)) q p may))
      (runs_told known At (λ j. refl) (λ j. refl) slot so.0 (opened_here known slot a a w Rests at_seat) q a a func found
      (Calls (record { func = (p.now.stop slot).work.func; arg = found; answer = answer })) so.1 idle refl
      (record {
        stop_is = λ j. sym (put_all (λ i (z : Stop). z ≡ p.now.stop i) p.now.stop slot (p.now.stop slot) refl (λ i ne. refl) j);
        inside_is = so.0;
        irq_is = refl;
        calling_is = put_same p.calling me _;
        inside_else = λ d ne. refl;
        irq_else = λ d ne. refl;
        calling_else = λ d ne. put_other p.calling me _ d ne;
        standing_else = λ d ne. refl;
        gate_is = refl;
        work_is = refl;
        patching_is = refl;
      }) (inl kind) (ap (λ (z : Work). z.func) so.3 ∙ sym k.1.3) (sym words.written.arg))
    where
      may_one : (w : Work) (a : ℕ) → w.kind ≡ One → may_call me w (Inside a a) ≡ true
      may_one w a kind = rw kind refl

      idle_of : (slot : ℕ) (w : Work) (y : Visit) (a : ℕ) (g : Calling) → a ≡ 0 → IsCalling me (In slot w a a Rests) g → IsQuiet (Some y) g → g ≡ Idle
      idle_of slot w y a Idle none k still = refl
      idle_of slot w y a (Calls call) none k still = absurd still
      idle_of slot w y a (Carries n) none k still = absurd (omega (arith, k.0))

  -- the answer is stored
  pub stores_answer : (x : Visit) → C.stage ≡ Some (Complete x completion.StoreAnswer) → Does (Complete x completion.StoreAnswer)
  stores_answer x e =
      let sit = (ends_at x completion.StoreAnswer e).2 in
      let slot = x.slot in
      let so = st known slot x.acked x.acked sit.0 Rests sit.2 in
      let o = opened_here known slot x.acked x.acked sit.0 Rests sit.2 in
      let new : Past = record Old { answer = as_i32 x.answer } in
      let q = λ (z : Standing). record p { now = record (p.now) { stop = put p.now.stop slot (stands (p.now.stop slot) me (answered_by z x.answer)) } } in
      let at' = put_word At (Slot slot field.Result) x.answer in
      subst (λ (z : StopState). ReachesStops z at' (slice_set pasts me new) s [])
      (sym (then_if (p.now.stop slot).is_open (q ((p.now.stop slot).standing me)) (stored_shut p slot field.Result x.answer) o))
      (subst (λ (z : Standing). ReachesStops (q z) at' (slice_set pasts me new) s []) (sym so.1)
      (answers_step known at' (λ j. refl) (λ j. refl) slot so.0 o (q
      (Inside x.acked x.acked)) new
      x.acked x.acked x.answer so.1
      (record {
        stop_is = λ j. refl;
        inside_is = so.0;
        irq_is = refl;
        calling_is = refl;
        inside_else = λ d ne. refl;
        irq_else = λ d ne. refl;
        calling_else = λ d ne. refl;
        standing_else = λ d ne. put_other (p.now.stop slot).standing me (Answering x.acked x.answer) d ne;
        gate_is = refl;
        work_is = refl;
        patching_is = refl;
      }) refl refl))

  -- a CPU that carries an answer may complete with it
  may_carry : (slot : ℕ) (w : Work) → (p.now.stop slot).work ≡ w → w.kind ≢ One → p.now.inside me ≡ Some slot → (n : ℕ) → p.calling me ≡ Carries n
      → has w.active me ≡ true → Old.answer ≡ as_i32 n → MayAnswer (stop_at s slot) me Old.answer
  may_carry slot w h1 h2 h3 n h4 h5 h6 = search (my, open_inside, and_right, same_int, arith)

  ending_is : (y : Visit) (g : Calling) → IsEnding y g → g ≢ Idle → y.answer ≡ answer_in g
  ending_is y Idle k ne = absurd (ne refl)
  ending_is y _ k ne = k

  may_inside : (slot answer : ℕ) (w : Work) (a : ℕ) → (p.now.stop slot).work ≡ w → w.kind ≢ One → a ≡ EXIT → p.now.inside me ≡ Some slot → Old.answer ≡ pos 0
      → answer ≡ 0 → (g : Calling) → p.calling me ≡ g → IsCalling me (In slot w a a Rests) g → (g ≢ Idle → answer ≡ answer_in g)
      → MayAnswer (stop_at s slot) me Old.answer
  may_inside slot answer w a work kind four inside zero_now none Idle calling k ends =
      let idle : has w.active me ≡ false = k (omega (arith, four)) in
      let task = ((f.stops slot ((my known).stop slot inside).below).shows (open_inside U p At shown.seat shown.source shown.shows slot me inside)).task in
      let told_active : has (stop_at s slot).task.active me ≡ false = ap (λ (z : Task). has z.active me) task ∙ (ap (λ (z : Work). has z.active me) work
      ∙ idle) in
      and_right (not (has_run (stop_at s slot) me)) _ (rw (others_answer (stop_at s slot) me told_active, zero_now) refl)
  may_inside slot answer w a work kind four inside zero_now none (Calls call) calling k ends = elim k.1.1 [
    | inl one ↦ absurd (kind one)
    | inr at ↦ let two = at.0 in absurd (omega (arith, four, two))
  ]
  may_inside slot answer w a work kind four inside zero_now none (Carries n) calling k ends =
      let n_is : 0 ≡ n = sym none ∙ ends (λ z. absurd cc) in
      may_carry slot w work kind inside n calling k.1 (zero_now ∙ ap as_i32 n_is)

  may_give : (slot answer a : ℕ) (w : Work) → (p.now.stop slot).work ≡ w → w.kind ≢ One → p.now.inside me ≡ Some slot → Old.answer ≡ as_i32 answer
      → (g : Calling) → p.calling me ≡ g → IsCalling me (Gives slot w a answer) g → MayAnswer (stop_at s slot) me Old.answer
  may_give slot answer a w work kind inside given Idle calling k = absurd k
  may_give slot answer a w work kind inside given (Calls call) calling k = absurd (kind k.1)
  may_give slot answer a w work kind inside given (Carries n) calling k = may_carry slot w work kind inside n calling k.1 (given ∙ ap as_i32 (sym k.0))

  -- a CPU that completes
  module _ (x : Visit) (e : C.stage ≡ Some (Complete x completion.CountDown)) where
    abbrev Found : ℕ
    Found = At (Slot x.slot field.Todo)

    abbrev Done : Past
    Done = record Old { answer = pos 0 }

    abbrev At' : Word → ℕ
    At' = put_word At (Slot x.slot field.Todo) (one_less (At (Slot x.slot field.Todo)))

    abbrev Q : ℕ → ℕ → StopState
    Q a answer = completes_with p me x.slot a answer (At (Slot x.slot field.Todo))

    sees : (p.now.inside me ≡ Some x.slot) × IsThrough (p.now.stop x.slot) me (acked_of ((p.now.stop x.slot).standing me))
    sees = may_see U p At shown.seat shown.source shown.shows C me (shown.sits me below) (Complete x completion.CountDown) e

    carries : IsEnding x (p.calling me)
    carries = subst (λ (o : Option StopStage). CarriesAt C.visit o (p.calling me)) e (shown.carries me below)

    not_mine : (r : Raising) → IsNot me r → is_cpu (raiser_of r) me ≡ false
    not_mine Nobody k = refl
    not_mine (Refills n) k = ne_eqb n me k
    not_mine (Raises n) k = ne_eqb n me k

    -- of a CPU that is at this place in an open stop
    ends_so : (a answer : ℕ) (w : Work) (stood : Standing) → (p.now.stop x.slot).standing me ≡ stood → acked_of stood ≡ a → is_called stood ≡ false
        → is_of stood ≡ true
        → (p.now.stop x.slot).work ≡ w → Old.answer ≡ as_i32 answer → ((p.now.stop x.slot).phase ≢ 0 → a ≡ EXIT → p.now.irq me ≡ true)
        → ((p.now.stop x.slot).work.kind ≡ One → has_entered (p.calling me) ≡ true)
        → ((p.now.stop x.slot).work.kind ≢ One → a ≡ EXIT → MayAnswer (stop_at s x.slot) me Old.answer)
        → ReachesStops (Q a answer) At' (slice_set pasts me Done) s (by me (told.One (event.Stop (stops.Complete Old.answer))))
    ends_so a answer w stood is acked_is not_called of work_is given irq one_called round_called =
        let slot = x.slot in
        let o = is_open_inside U.cpus (p.now.stop slot) (λ g. At (Slot slot g)) (shown.shows.present.slots slot) me stood is of in
        let through = sees.1 in
        completes_told known At' (λ j. refl) (λ j. refl) slot sees.0 o
        (Q a answer) Done
        (completed (p.now.stop slot) me a answer (At (Slot slot field.Todo))) a answer (put_same (p.now.stop slot).standing me
        (Completed a answer)) refl refl refl refl
        (ap acked_of is ∙ acked_is) (ap is_called is ∙ not_called) given
        (record {
          stop_is = λ j. refl;
          inside_is = put_same p.now.inside me None;
          irq_is = refl;
          calling_is = put_same p.calling me Idle;
          inside_else = λ d ne. put_other p.now.inside me None d ne;
          irq_else = λ d ne. refl;
          calling_else = λ d ne. put_other p.calling me Idle d ne;
          standing_else = λ d ne. put_other (p.now.stop slot).standing me (Completed a answer) d ne;
          gate_is = refl;
          work_is = refl;
          patching_is = refl;
        }) refl refl (by_kind (p.now.stop slot).work.kind refl ((shown.shows.present.slots slot).shows o).kinds o through)
      where
        made_round : (o : (p.now.stop x.slot).is_open ≡ true) → (p.now.stop x.slot).work.kind ≢ One → (p.now.stop x.slot).phase ≢ 0
            → IsThrough (p.now.stop x.slot) me (acked_of ((p.now.stop x.slot).standing me))
            → goes me (event.Stop (stops.Complete Old.answer)) s ≡ Ok (with_cpu me (with_stop x.slot s (record (stop_at s x.slot) {
              answers = slice_set (stop_at s x.slot).answers me (Some Old.answer);
            })) (in_stop None (cpu_at s me)))
        made_round o kind phase through =
            let four : acked_of ((p.now.stop x.slot).standing me) ≡ EXIT = elim through.0 [ inl k ↦ k | inr k ↦ absurd (phase k) ] in
            complete_round known At' (λ j. refl) (λ j. refl) x.slot sees.0 o kind
            (omega (arith, four)) (not_mine (p.now.stop x.slot).raising through.1) (irq phase (sym acked_is ∙ (sym (ap acked_of is) ∙ four)))
            (round_called kind (sym acked_is ∙ (sym (ap acked_of is) ∙ four)))

        by_kind : (k : Kind) → (p.now.stop x.slot).work.kind ≡ k → IsPhaseOf (p.now.stop x.slot).work.kind (p.now.stop x.slot).phase
            → (p.now.stop x.slot).is_open ≡ true
            → IsThrough (p.now.stop x.slot) me (acked_of ((p.now.stop x.slot).standing me))
            → goes me (event.Stop (stops.Complete Old.answer)) s ≡ Ok (with_cpu me (with_stop x.slot s (record (stop_at s x.slot) {
              answers = slice_set (stop_at s x.slot).answers me (Some Old.answer);
            })) (in_stop None (cpu_at s me)))
        by_kind One k phase o through = complete_one known At' (λ j. refl)
            (λ j. refl) x.slot sees.0 o
            k (one_called k)
        by_kind Multi k phase o through = made_round o (λ one. multi_one (sym k ∙ one)) (subst (λ (z : Kind). IsPhaseOf z
            (p.now.stop x.slot).phase) k phase) through
          where
            multi_one : Multi ≡ One → ⊥
            multi_one z = absurd cc
        by_kind Patch k phase o through = made_round o (λ one. patch_one (sym k ∙ one)) (subst (λ (z : Kind). IsPhaseOf z
            (p.now.stop x.slot).phase) k phase) through
          where
            patch_one : Patch ≡ One → ⊥
            patch_one z = absurd cc

  pub counts_down : (x : Visit) → C.stage ≡ Some (Complete x completion.CountDown) → Does (Complete x completion.CountDown)
  counts_down x e =
      let k = ends_at x completion.CountDown e in
      elim k.1 [
        | inl y ↦ inside_so k.0 y.0 y.3
        | inr y ↦ gives_so k.0 y
      ]
    where
      found : ℕ
      found = At (Slot x.slot field.Todo)

      inside_so : (w : Work) → x.answer ≡ 0 → shown.seat me ≡ In x.slot w x.acked x.acked Rests → Does (Complete x completion.CountDown)
      inside_so w none at_seat =
          let slot = x.slot in
          let a = x.acked in
          let so = st known slot a a w Rests at_seat in
          let zero_now : Old.answer ≡ pos 0 = subst (λ (z : Standing). AnswerIs z Old.answer) so.1 ((my known).stop slot so.0).answer in
          subst (λ (z : Standing). ReachesStops (completes p me slot z (At (Slot slot field.Todo))) (put_word At (Slot slot field.Todo) (one_less (At
          (Slot slot field.Todo))))
          (slice_set pasts me (record Old { answer = pos 0 })) s (by me (told.One (event.Stop (stops.Complete Old.answer))))) (sym so.1)
          (ends_so x e a 0 w (Inside a a) so.1 refl refl refl so.3 zero_now
          (λ phase four. irq_here known slot a a w Rests at_seat ∙ on_at a four)
          (λ kind. one_called (p.calling me) (carries x e) (one_acked 0 a a (p.now.stop slot).phase (one_phase (p.now.stop slot).work.kind
          (p.now.stop slot).phase kind (words_here known slot a a w Rests at_seat).kinds) (keeps_here known slot a a w Rests at_seat).1))
          (λ round four. may_inside x.slot x.answer w a so.3 (λ z. round (ap (λ (y : Work). y.kind) so.3 ∙ z)) four so.0 zero_now none (p.calling me) refl
          (calling_here known slot a a w Rests at_seat) (ending_is x (p.calling me) (carries x e))))
        where
          on_at : (n : ℕ) → n ≡ EXIT → irq_of (In x.slot w n n Rests) ≡ true
          on_at n four = rw four refl

          one_called : (g : Calling) → IsEnding x g → x.acked ≡ 0 → has_entered g ≡ true
          one_called Idle k z = absurd (omega (arith, k.0))
          one_called _ k z = refl

      gives_so : (w : Work) → shown.seat me ≡ Gives x.slot w x.acked x.answer → Does (Complete x completion.CountDown)
      gives_so w at_seat =
          let slot = x.slot in
          let so = seat_is known (Gives slot w x.acked x.answer) at_seat in
          let given = subst (λ (z : Standing). AnswerIs z Old.answer) so.1 ((my known).stop slot so.0).answer in
          let called = called_so (p.calling me) (subst (λ (z : StopRole). IsCalling me z (p.calling me)) at_seat (shown.shows.callings me)) in
          subst (λ (z : Standing). ReachesStops (completes p me slot z (At (Slot slot field.Todo))) (put_word At (Slot slot field.Todo) (one_less (At
          (Slot slot field.Todo))))
          (slice_set pasts me (record Old { answer = pos 0 })) s (by me (told.One (event.Stop (stops.Complete Old.answer))))) (sym so.1)
          (ends_so x e x.acked x.answer w (Answering x.acked x.answer) so.1 refl refl refl so.3 given
          (λ phase four. shown.shows.present.irq me ∙ ap irq_of at_seat) (λ kind. called)
          (λ round four. may_give slot x.answer x.acked w so.3 (λ z. round (ap (λ (y : Work). y.kind) so.3 ∙ z)) so.0 given (p.calling me) refl
          (subst (λ (z : StopRole). IsCalling me z (p.calling me)) at_seat (shown.shows.callings me))))
        where
          called_so : (g : Calling) → IsCalling me (Gives x.slot w x.acked x.answer) g → has_entered g ≡ true
          called_so Idle k = absurd k
          called_so _ k = refl

  -- the last to complete stores done
  pub closes : (slot : ℕ) → C.stage ≡ Some (Close slot) → Does (Close slot)
  closes slot e =
      let so = seat_is known (Closes slot) ((subst (λ (x : Option StopStage). SitsAt U me C x (shown.seat me)) e (shown.sits me below).seat).1) in
      let q : StopState = record p { now = record (p.now) { stop = put p.now.stop slot (ended (p.now.stop slot)) } } in
      let at' = put_word At (Slot slot field.Done) 1 in
      let g : Goes known at' (λ j. refl) (λ j. refl) q slot (ended
      (p.now.stop slot)) None
      (p.now.irq me) (p.calling me) = search (so.0, arith) in
      subst (λ (z : StopState). ReachesStops z at' (slice_set pasts me Old) s []) (sym (then_if (p.now.stop slot).is_open q
      (stored_shut p slot field.Done 1) so.1))
      (silent known at' (λ j. refl) (λ j. refl) q Old slot (ended
      (p.now.stop slot)) None
      (p.now.irq me) (p.calling me) g
      (λ l. told_still known at' (λ j. refl) (λ j. refl) (p.now.stop slot)
      (ended (p.now.stop slot))
      (stop_at s slot) (f.stops slot l) refl refl refl refl (λ d ne. refl) (λ o m. m))
      (in_none known at' (λ j. refl) (λ j. refl) q s Old slot (ended
      (p.now.stop slot))
      (p.now.irq me) (p.calling me) g ((my known).inside ∙ so.0) (my known).irq ((my known).answer so.0) (my known).reads))

  -- the source collects
  pub collects_it : C.stage ≡ Some LoadResult → Does LoadResult
  collects_it e =
      let sees_it = may_see U p At shown.seat shown.source shown.shows C me (shown.sits me below) LoadResult e in
      let open_now = sees_it.1 in
      let all = sees_it.2 in
      let q = collects p me (At (Slot me field.Result)) in
      let x = closed (p.now.stop me) in
      collects_told known At (λ j. refl) (λ j. refl) q x open_now refl all
      (as_i32 (At (Slot me field.Result)))
      (all_done known At (λ j. refl) (λ j. refl) q x open_now refl all)
      (result_gives known At (λ j. refl) (λ j. refl) q x open_now refl all refl
      (At (Slot me field.Result)) (results me) ((shown.shows.present.slots me).shows open_now).result)
      (λ j. refl) (λ d. refl) (λ d. refl) (λ d. refl) refl refl
