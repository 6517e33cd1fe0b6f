-- What a look and a turn leave of a CPU.
use Rattle.std.proofs.Common.{arith, ◌≡◌, ◌≢◌, ℕ, ℤ, ◌+◌, Bool, true, false, true≢false, Option, Some, None, List, [], ◌∷◌, ◌++◌, map, nat_lt}
use Rattle.std.proofs.Common.{refl, sym, ap, ◌∙◌, subst, Ok, Err}
use Rattle.std.proofs.lemmas.List.{append-nil}
use Rattle.smp_words.specs.declared.call.Call.{Call}
use Rattle.smp_call_steps.specs.Order.{order}
use Rattle.smp_queue.specs.Cpu.{CpuValue as CallCpuValue}
use Rattle.smp_queue.specs.Handling.{Grows, asks, drains}
use Rattle.smp_queue.specs.declared.handler.Heard.{Heard}
use Rattle.smp_calls.specs.Handles.{Handles}
use Rattle.smp_calls.proofs.Turns.{handles_none, handles_nothing, handles_batch}
use Rattle.smp_mask.specs.declared.error.SmpError.{SmpError}
use Rattle.smp_mask.specs.declared.error.SmpError.TheVariants as error
use Rattle.smp_multi.specs.Names.{Kind, One, Multi, Patch}
use Rattle.smp_multi.specs.Advance.{IsInRound, HasLeft, Advances, AdvanceAnswers, FinishAnswers, RunsAt, looks, acknowledges, carries, completes, patches}
use Rattle.smp_multi.specs.Advance.{reads_anew}
use Rattle.smp_multi.specs.Answers.{IsInOne, RunAnswers, call_of, completes_one}
use Rattle.smp_multi.specs.Cpu.{CpuValue as StopCpuValue, Inside, makes, runs}
use Rattle.smp_multi.specs.StepCounts.{patching}
use Rattle.smp_multi.specs.declared.func.Called.{Called}
use Rattle.smp_multi.specs.declared.turn.Turn.{Turn}
use Rattle.smp_multi.specs.declared.turn.Turn.TheVariants.{Same, Moved, Ran, Left}
use Rattle.smp_multi.specs.Running.{called}
use Rattle.smp_stop_steps.specs.Callings.{answer_in as carried_answer}
use Rattle.smp_stop_steps.specs.Labels.{patch_answer}
use Rattle.smp_stop_steps.specs.Start.{answer_word}
use Rattle.smp_stop_steps.specs.Tells.{first_readings}
use Rattle.smp_words.specs.declared.phase.TheConstants.{DISABLE_IRQ, RUN, EXIT}
use Rattle.smp_machine.specs.MachineCpu.{MachineCpuValue, HasNotLeft, notes_looks}
use Rattle.smp_machine.specs.Works.{handled_calls, stop_call, turned, HasRunStops, LooksOnce, LooksIfOn, StopMoves, GoesRound}
use Rattle.smp_machine.specs.Served.{KeepsVisits}
use Rattle.smp_machine.specs.Works.{completed, StaysIn, TurnsStop}
use Rattle.smp_machine.proofs.Looks.{lists_none, lists_one, notes_none}
use Rattle.smp_machine.proofs.Served.{keeps_still, keeps_inside, keeps_answer}

module _ {H : Type 0} (hears : H → Heard → H → Type 0) where
  -- one look, by what `handle` answers
  pub looks_once : (interrupted : Bool) (p : MachineCpuValue) (calls : CallCpuValue) (heard : List ℕ) (h i : H)
      → heard ≡ notes_looks p.calls calls p.stops p.heard_at
      → (interrupted ≡ true → (batch : List Call) × (calls ≡ drains batch (asks true p.calls)) × Grows hears h (order batch) i)
      → (interrupted ≡ false → (calls ≡ asks false p.calls) × (i ≡ h))
      → LooksOnce hears p h (record p { calls = calls; heard_at = heard }) i
  looks_once true p calls heard h i noted took idle =
      let t = took refl in record {
        rest = record {
          stops_are = refl;
          passes_are = refl;
          calls_kept = subst (λ (x : CallCpuValue). x ≡ handled_calls p.calls x) (sym t.1) refl;
          looks = lists_one p.calls calls true (ap (λ (x : CallCpuValue). x.part.asked) t.1) (ap (λ (x : CallCpuValue). x.asked_after) t.1);
          handled = subst (λ (x : CallCpuValue). Handles hears p.calls h x i) (sym t.1) (handles_batch hears p.calls t.0 h i t.2);
          heard_are = noted;
        };
        once = (true, ap (λ (x : CallCpuValue). x.part.asked) t.1);
      }
  looks_once false p calls heard h i noted took idle =
      let n = idle refl in record {
        rest = record {
          stops_are = refl;
          passes_are = refl;
          calls_kept = subst (λ (x : CallCpuValue). x ≡ handled_calls p.calls x) (sym n.0) refl;
          looks = lists_one p.calls calls false (ap (λ (x : CallCpuValue). x.part.asked) n.0) (ap (λ (x : CallCpuValue). x.asked_after) n.0);
          handled = subst (λ (x : CallCpuValue). Handles hears p.calls h x i) (sym n.0)
              (subst (λ (y : H). Handles hears p.calls h (asks false p.calls) y) (sym n.1) (handles_nothing hears p.calls h));
          heard_are = noted;
        };
        once = (false, ap (λ (x : CallCpuValue). x.part.asked) n.0);
      }

  -- the look has found what `handle` answers
  pub told_once : (interrupted : Bool) (p : MachineCpuValue) (calls : CallCpuValue) (h i : H)
      → (interrupted ≡ true → (batch : List Call) × (calls ≡ drains batch (asks true p.calls)) × Grows hears h (order batch) i)
      → (interrupted ≡ false → (calls ≡ asks false p.calls) × (i ≡ h))
      → calls.part.asked ≡ p.calls.part.asked ++ interrupted ∷ []
  told_once true p calls h i took idle = ap (λ (x : CallCpuValue). x.part.asked) (took refl).1
  told_once false p calls h i took idle = ap (λ (x : CallCpuValue). x.part.asked) (idle refl).0

  pub looks_on : (old new : MachineCpuValue) (h i : H) → old.stops.irq ≡ true → LooksOnce hears old h new i → LooksIfOn hears old h new i
  looks_on old new h i on l = record { rest = l.rest; once = λ _. l.once; off = λ off. absurd (true≢false (sym on ∙ off)) }

  pub looks_off : (p : MachineCpuValue) (h : H) → p.stops.irq ≡ false → LooksIfOn hears p h p h
  looks_off p h off = record {
    rest = record {
      stops_are = refl;
      passes_are = refl;
      calls_kept = refl;
      looks = lists_none p.calls p.calls refl;
      handled = handles_none hears p.calls h;
      heard_are = notes_none p.calls p.stops p.heard_at;
    };
    once = λ on. absurd (true≢false (sym on ∙ off));
    off = λ _. (refl, refl);
  }

-- a stop of several CPUs, or of one

some_same : {x y : Inside} {o : Option Inside} → o ≡ Some x → o ≡ Some y → x ≡ y
some_same e f = cc

some_none : {x : Inside} {o : Option Inside} → o ≡ Some x → o ≡ None → ⊥
some_none e n = cc

-- a CPU that is in no stop of one CPU is in one of several
pub in_round : (c : StopCpuValue) (o : Option Inside) → c.inside ≡ o → o ≢ None → HasNotLeft o → (¬ (IsInOne c)) → IsInRound c
in_round c None is inside not_left not_one = absurd (inside refl)
in_round c (Some stop) is inside not_left not_one =
    record { stop = stop; is = is; several = λ one. not_one (record { stop = stop; is = is; one = one }); not_left = not_left }

same_left : Same ≡ Left → ⊥
same_left e = cc

moved_left : {p : ℕ} → Moved p ≡ Left → ⊥
moved_left e = cc

ran_left : Ran ≡ Left → ⊥
ran_left e = cc

stayed : (old new : StopCpuValue) (stop : Inside) → StaysIn old new → old.inside ≡ Some stop → HasNotLeft new.inside
stayed old new stop stays is = let s = stays stop is in subst HasNotLeft (sym s.2) s.1

not_both : (c : StopCpuValue) → IsInOne c → IsInRound c → ⊥
not_both c a b = b.several (ap (λ (x : Inside). x.work.kind) (some_same b.is a.is) ∙ a.one)

module _ {F : Type 0} (leads : F → Called → F → Type 0) where
  -- a CPU that has left may finish
  has_left : (old mid : StopCpuValue) (f f' : F) → AdvanceAnswers leads old mid f f' (Ok Left) → HasLeft mid
  has_left old mid f f' a = record {
    stop = record (a.0.stop) { acked = EXIT };
    is = ap (λ (c : StopCpuValue). c.inside) a.1.1;
    several = a.0.several;
    left = refl;
  }

  at_left : (old mid : StopCpuValue) (f f' : F) (turn : Turn) → turn ≡ Left → AdvanceAnswers leads old mid f f' (Ok turn)
      → AdvanceAnswers leads old mid f f' (Ok Left)
  at_left old mid f f' turn is a = subst (λ (t : Turn). AdvanceAnswers leads old mid f f' (Ok t)) is a

  pub finishes : (old mid new : StopCpuValue) (f f' : F) (turn : Turn) (e : SmpError) → turn ≡ Left → AdvanceAnswers leads old mid f f' (Ok turn)
      → FinishAnswers mid new (Err e) → ⊥
  finishes old mid new f f' turn error.BadArgument is a r = r.0 (has_left old mid f f' (at_left old mid f f' turn is a))
  finishes old mid new f f' turn _ is a r = r

  -- a CPU that has left has completed
  pub round_done : (old mid new : StopCpuValue) (f f' : F) (turn : Turn) (u : Unit {0}) → turn ≡ Left → AdvanceAnswers leads old mid f f' (Ok turn)
      → FinishAnswers mid new (Ok u) → GoesRound leads old f new f' Left
  round_done old mid new f f' turn u is a done =
      let l = at_left old mid f f' turn is a in
      let same : done.0.stop ≡ record (l.0.stop) { acked = EXIT } = some_same done.0.is (ap (λ (c : StopCpuValue). c.inside) l.1.1) in
      record {
        at = l.0;
        advanced = mid;
        advances = l.1;
        is = done.1 ∙ ap (λ (x : Inside). completes x.slot mid) same;
      }

  -- a CPU that has not left goes on
  pub round_on : (old new : StopCpuValue) (f f' : F) (turn : Turn) → turn ≢ Left → AdvanceAnswers leads old new f f' (Ok turn)
      → GoesRound leads old f new f' turn
  round_on old new f f' Left on a = absurd (on refl)
  round_on old new f f' Same on a = record { at = a.0; advanced = new; advances = a.1; is = refl }
  round_on old new f f' _ on a = record { at = a.0; advanced = new; advances = a.1; is = refl }

  -- a stop of one CPU is not run where there is none
  pub not_run : (old new : StopCpuValue) (f f' : F) (e : SmpError) → RunAnswers leads old new f f' (Err e)
      → (¬ (IsInOne old)) × (new ≡ old) × (f' ≡ f)
  not_run old new f f' error.BadArgument r = (r.0, r.1, r.2)
  not_run old new f f' _ r = absurd r

  lit_moves : (old x new : StopCpuValue) (f f' : F) (ran : List Called) → x ≡ turned old x → KeepsVisits old x
      → x.part.calls ≡ old.part.calls ++ map stop_call ran → HasRunStops leads old.number f ran f' → new ≡ x → StopMoves leads old f new f'
  lit_moves old x new f f' ran kept keeps calls grows is =
      subst (λ (y : StopCpuValue). StopMoves leads old f y f') (sym is) (record { kept = kept; keeps = keeps; ran = ran; calls_are = calls; grows = grows })

  lit_still : (old x new : StopCpuValue) (f f' : F) → x ≡ turned old x → KeepsVisits old x → x.part.calls ≡ old.part.calls → f' ≡ f → new ≡ x
      → StopMoves leads old f new f'
  lit_still old x new f f' kept keeps calls same is = lit_moves old x new f f' [] kept keeps (calls ∙ sym (append-nil old.part.calls)) (sym same) is

  -- a stop of one CPU was run
  pub turns_one : (old new : StopCpuValue) (f f' : F) (v : ℤ) → RunAnswers leads old new f f' (Ok v) → TurnsStop leads old f new f' Left
  turns_one old new f f' v a =
      let at : IsInOne old = a.0 in
      let x = completes_one at.stop v old in
      let is : new ≡ x = a.1 in
      record {
        moves = lit_moves old x new f f'
            (called old.number at.stop.work.func at.stop.work.arg v ∷ []) refl
            (keeps_answer old x at.stop (answer_word v) at.is refl refl)
            refl (f', (refl, a.2), refl) is;
        none = λ n. absurd (some_none at.is n);
        one = λ _. (record { at = at; answer = v; is = is; ran = a.2 }, refl);
        round = λ r. absurd (not_both old at r);
        left = λ _. (some_none at.is, ap (λ (c : StopCpuValue). c.inside) is);
        stays = λ n. absurd (n refl);
        read = λ _ stop there several. absurd (several (ap (λ (x : Inside). x.work.kind) (some_same there at.is) ∙ at.one));
      }

  -- with the phase acknowledged, it is still in its stop
  acked_keeps : (old x : StopCpuValue) (stop : Inside) (p : ℕ) → old.inside ≡ Some stop → x.inside ≡ Some (record stop { acked = p })
      → x.part.answers ≡ old.part.answers → KeepsVisits old x
  acked_keeps old x stop p was is answers = keeps_inside old x stop (record stop { acked = p }) was is refl answers

  run_moves : (kind : Kind) (stop : Inside) (old new : StopCpuValue) (f f' : F) → old.inside ≡ Some stop
      → RunsAt leads stop old new f f' kind → StopMoves leads old f new f'
  run_moves One stop old new f f' in_it r = absurd r
  run_moves Multi stop old new f f' in_it r =
      let x = makes 4 (carries (answer_word r.0) (runs (call_of stop r.0) (acknowledges stop RUN false old))) in
      lit_moves old x new f f' (called old.number stop.work.func stop.work.arg r.0 ∷ []) refl (acked_keeps old x stop RUN in_it refl refl) refl
      (f', (refl, r.2), refl) r.1
  run_moves Patch stop old new f f' in_it r =
      let x = makes (5 + patching old.setting stop.work r.0)
      (carries (patch_answer stop.work r.0) (patches stop.work r.0 (acknowledges stop RUN false old))) in
      lit_still old x new f f' refl (acked_keeps old x stop RUN in_it refl refl) refl r.2 r.1

  run_inside : (kind : Kind) (stop : Inside) (old new : StopCpuValue) (f f' : F)
      → RunsAt leads stop old new f f' kind → new.inside ≡ Some (record stop { acked = RUN })
  run_inside One stop old new f f' r = absurd r
  run_inside Multi stop old new f f' r = ap (λ (c : StopCpuValue). c.inside) r.1
  run_inside Patch stop old new f f' r = ap (λ (c : StopCpuValue). c.inside) r.1

  round_moves : (old new mid : StopCpuValue) (stop : Inside) (f f' : F) (turn : Turn) → old.inside ≡ Some stop
      → Advances leads stop old mid f f' turn → new ≡ completed turn stop mid → StopMoves leads old f new f'
  round_moves old new mid stop f f' Same in_it a is =
      let x = makes 1 (looks stop.acked old) in
      lit_still old x new f f' refl (keeps_still old x refl refl) refl a.1 (is ∙ a.0)
  round_moves old new mid stop f f' (Moved p) in_it a is =
      let x = makes 2 (acknowledges stop p (nat_lt p DISABLE_IRQ) old) in
      lit_still old x new f f' refl (acked_keeps old x stop p in_it refl refl) refl a.4 (is ∙ a.3)
  round_moves old new mid stop f f' Ran in_it a is =
      subst (λ (y : StopCpuValue). StopMoves leads old f y f') (sym is) (run_moves stop.work.kind stop old mid f f' in_it a.2)
  round_moves old new mid stop f f' Left in_it a is =
      let x = completed Left stop (makes 2 (reads_anew stop (acknowledges stop EXIT true old))) in
      lit_still old x new f f' refl (keeps_answer old x stop (carried_answer old.part.calling) in_it refl refl) refl a.2
      (is ∙ ap (completed Left stop) a.1)

  stays_at : (old new : StopCpuValue) (stop : Inside) (acked : ℕ) → old.inside ≡ Some stop → acked ≢ EXIT
      → new.inside ≡ Some (record stop { acked = acked }) → StaysIn old new
  stays_at old new stop acked is in_it at other there =
      (acked, in_it, at ∙ ap (λ (x : Inside). Some (record x { acked = acked })) (some_same is there))

  round_stays : (old new mid : StopCpuValue) (at : IsInRound old) (f f' : F) (turn : Turn) → Advances leads at.stop old mid f f' turn
      → new ≡ completed turn at.stop mid → turn ≢ Left → StaysIn old new
  round_stays old new mid at f f' Same a is not_left =
      stays_at old new at.stop at.stop.acked at.is at.not_left (ap (λ (c : StopCpuValue). c.inside) (is ∙ a.0) ∙ at.is)
  round_stays old new mid at f f' (Moved p) a is not_left = stays_at old new at.stop p at.is a.1 (ap (λ (c : StopCpuValue). c.inside) (is ∙ a.3))
  round_stays old new mid at f f' Ran a is not_left =
      stays_at old new at.stop RUN at.is (λ e. omega arith) (ap (λ (c : StopCpuValue). c.inside) is ∙ run_inside at.stop.work.kind at.stop old mid f f' a.2)
  round_stays old new mid at f f' Left a is not_left = absurd (not_left refl)

  round_left : (old new mid : StopCpuValue) (stop : Inside) (f f' : F) (turn : Turn) → Advances leads stop old mid f f' turn
      → new ≡ completed turn stop mid → turn ≡ Left → (new.inside ≡ None) × (new.part.readings ≡ first_readings old.number stop.slot stop.work)
  round_left old new mid stop f f' Left a is e =
      let full = is ∙ ap (completed Left stop) a.1 in
      (ap (λ (c : StopCpuValue). c.inside) full, ap (λ (c : StopCpuValue). c.part.readings) full)
  round_left old new mid stop f f' Same a is e = absurd (same_left e)
  round_left old new mid stop f f' (Moved p) a is e = absurd (moved_left e)
  round_left old new mid stop f f' Ran a is e = absurd (ran_left e)

  -- a stop of several CPUs was gone on with
  pub turns_round : (old new : StopCpuValue) (f f' : F) (turn : Turn) → GoesRound leads old f new f' turn → TurnsStop leads old f new f' turn
  turns_round old new f f' turn g =
      let done = round_left old new g.advanced g.at.stop f f' turn g.advances g.is in
      record {
        moves = round_moves old new g.advanced g.at.stop f f' turn g.at.is g.advances g.is;
        none = λ n. absurd (some_none g.at.is n);
        one = λ at. absurd (not_both old at g.at);
        round = λ _. g;
        left = λ e. (some_none g.at.is, (done e).0);
        stays = round_stays old new g.advanced g.at f f' turn g.advances g.is;
        read = λ e stop there several. (done e).1 ∙ ap (λ (x : Inside). first_readings old.number x.slot x.work) (some_same g.at.is there);
      }

  -- the same after a look for a stop of one CPU
  pub turns_after : (old mid new : StopCpuValue) (f f₁ f' : F) (turn : Turn) → mid ≡ old → f₁ ≡ f → GoesRound leads mid f₁ new f' turn
      → TurnsStop leads old f new f' turn
  turns_after old mid new f f₁ f' turn e k g =
      subst (λ (y : StopCpuValue). TurnsStop leads y f new f' turn) e
      (subst (λ (z : F). TurnsStop leads mid z new f' turn) k (turns_round mid new f₁ f' turn g))
