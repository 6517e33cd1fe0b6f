-- What a turn leaves of a CPU, with what it has answered to its own stop.
use Rattle.std.proofs.Common.{◌≡◌, ◌≢◌, inl, inr, ℕ, ℤ, ◌+◌, nat_lt, Bool, true, false, Option, Some, None, List, [], ◌∷◌, map}
use Rattle.std.proofs.Common.{refl, sym, ap, ◌∙◌, subst}
use Rattle.std.proofs.lemmas.List.{append_cancel_left}
use Rattle.smp_mask.specs.Mask.{has}
use Rattle.smp_queue.specs.Cpu.{CpuValue as CallCpuValue}
use Rattle.smp_queue.specs.declared.handler.Heard.{Heard}
use Rattle.smp_calls.specs.Handles.{Handles}
use Rattle.smp_multi.specs.Names.{Work, StopCall, Kind, One, Multi, Patch, Carries}
use Rattle.smp_multi.specs.Advance.{IsInRound, Advances, RunsAt, looks, acknowledges, carries, patches, reads_anew}
use Rattle.smp_multi.specs.Answers.{call_of}
use Rattle.smp_multi.specs.Cpu.{CpuValue as StopCpuValue, Inside, makes, runs}
use Rattle.smp_multi.specs.StepCounts.{patching}
use Rattle.smp_multi.specs.Laws.{StopsAreShown}
use Rattle.smp_multi.specs.declared.func.Called.{Called}
use Rattle.smp_multi.specs.declared.turn.Turn.{Turn}
use Rattle.smp_multi.specs.declared.turn.Turn.TheVariants.{Same, Moved, Ran, Left}
use Rattle.smp_stop_steps.specs.Callings.{answer_in as carried_answer}
use Rattle.smp_stop_steps.specs.Labels.{patch_answer}
use Rattle.smp_stop_steps.specs.Start.{answer_word}
use Rattle.smp_words.specs.declared.phase.TheConstants.{DISABLE_IRQ, RUN, EXIT}
use Rattle.smp_machine.specs.Own.{own_of}
use Rattle.smp_machine.specs.OwnAnswers.{HasToRun, CarriesFor, OwnAnswers}
use Rattle.smp_machine.specs.Passes.{PassesValue}
use Rattle.smp_machine.specs.MachineCpu.{MachineCpuValue, HasNotLeft, on_there}
use Rattle.smp_machine.specs.Works.{handled_calls, ListsLooks, stop_call, Works, LooksIfOn, RunsOne, completed, TurnsStop}
use Rattle.smp_machine.proofs.Looks.{hears_if_on, hears_then, hears_turn}
use Rattle.smp_machine.proofs.OwnAnswers.{own_none, own_still, own_answered, own_low, own_link, carried_still, carries_active}
use Rattle.smp_machine.proofs.Served.{beginning_still, later_called, serves_none}

carries_same : {x y : ℕ} → Carries x ≡ Carries y → x ≡ y
carries_same e = cc

some_same : {x y : Inside} → Some x ≡ Some y → x ≡ y
some_same e = cc

-- a CPU in a stop of several CPUs that has to run its function is active, in one of kind Multi
runs_active : (me : ℕ) (work : Work) → work.kind ≢ One → HasToRun me work → (work.kind ≡ Multi) × (has work.active me ≡ true)
runs_active me work several (inl one) = absurd (several one)
runs_active me work several (inr active) = active

module _ {F : Type 0} (leads : F → Called → F → Type 0) (old new : StopCpuValue) (f f' : F) (turn : Turn) (shown : StopsAreShown old)
    (t : TurnsStop leads old f new f' turn) where
  abbrev calls : List StopCall
  calls = map stop_call t.moves.ran

  begun : new.part.begun ≡ old.part.begun
  begun = ap (λ (c : StopCpuValue). c.part.begun) t.moves.kept

  pending : new.pending ≡ old.pending
  pending = ap (λ (c : StopCpuValue). c.pending) t.moves.kept

  ran_one : RunsOne leads old f new f' → OwnAnswers old new
  ran_one r = own_answered old new r.at.stop (answer_word r.answer) (call_of r.at.stop r.answer ∷ [])
      (ap (λ (c : StopCpuValue). c.part.calls) r.is) begun pending (ap (λ (c : StopCpuValue). c.part.answers) r.is) (own_low old shown)
      (own_link old shown r.at.stop r.at.is) (λ run. inl (call_of r.at.stop r.answer, ([], [], refl), refl, refl, refl))
      (ap (λ (c : StopCpuValue). c.inside) r.is)

  -- a turn of a stop of several CPUs answers nothing, or completes the stop
  module _ (stop : Inside) (is : old.inside ≡ Some stop) (several : stop.work.kind ≢ One) where
    -- what it carries afterwards is of this stop
    of_it : (acked : ℕ) → new.inside ≡ Some (record stop { acked = acked }) → (work : Work) (x : ℕ) → HasToRun old.number work
        → CarriesFor new work x → (acked ≡ RUN) × (stop.work ≡ work) × (stop.work.kind ≡ Multi) × (has stop.work.active old.number ≡ true)
    of_it acked inside work x run k =
        let same : record stop { acked = acked } ≡ k.stop = some_same (sym inside ∙ k.is) in
        let work_is : stop.work ≡ work = ap (λ (z : Inside). z.work) same ∙ k.work_is in
        let active = runs_active old.number stop.work several (subst (HasToRun old.number) (sym work_is) run) in
        (ap (λ (z : Inside). z.acked) same ∙ k.at_run, work_is, active.0, active.1)

    no_bools : true ≡ false → ⊥
    no_bools e = cc

    looked : new ≡ makes 1 (looks stop.acked old) → OwnAnswers old new
    looked e = own_none old new calls t.moves.calls_are begun pending (ap (λ (c : StopCpuValue). c.part.answers) e)
        (carried_still old new calls (λ k i at. sym (ap (λ (c : StopCpuValue). c.inside) e) ∙ i) (ap (λ (c : StopCpuValue). c.part.calling) e))

    moved : (n p : ℕ) (on : Bool) → new ≡ makes n (acknowledges stop p on old) → (p ≡ RUN → has stop.work.active old.number ≡ false) → OwnAnswers old new
    moved n p on e idle = own_none old new calls t.moves.calls_are begun pending (ap (λ (c : StopCpuValue). c.part.answers) e)
        (λ work x run k. let it = of_it p (ap (λ (c : StopCpuValue). c.inside) e) work x run k in absurd (no_bools (sym it.3 ∙ idle it.0)))

    called : (n : ℕ) (answer : ℤ) → new ≡ makes n (carries (answer_word answer) (runs (call_of stop answer) (acknowledges stop RUN false old)))
        → OwnAnswers old new
    called n answer e = own_none old new calls t.moves.calls_are begun pending (ap (λ (c : StopCpuValue). c.part.answers) e)
        (λ work x run k.
        let it = of_it RUN (ap (λ (c : StopCpuValue). c.inside) e) work x run k in
        let x_is : answer_word answer ≡ x = carries_same (sym (ap (λ (c : StopCpuValue). c.part.calling) e) ∙ k.carries) in
        let is_calls : calls ≡ call_of stop answer ∷ [] =
        append_cancel_left old.part.calls calls (call_of stop answer ∷ []) (sym t.moves.calls_are ∙ ap (λ (c : StopCpuValue). c.part.calls) e) in
        inl (call_of stop answer, ([], [], is_calls), ap (λ (w : Work). w.func) it.1, ap (λ (w : Work). w.arg) it.1, x_is))

    patched : stop.work.kind ≡ Patch → (n count : ℕ)
        → new ≡ makes n (carries (patch_answer stop.work count) (patches stop.work count (acknowledges stop RUN false old))) → OwnAnswers old new
    patched kind n count e = own_none old new calls t.moves.calls_are begun pending (ap (λ (c : StopCpuValue). c.part.answers) e)
        (λ work x run k. let it = of_it RUN (ap (λ (c : StopCpuValue). c.inside) e) work x run k in
        absurd (let bad : Multi ≡ Patch = sym it.2 ∙ kind in cc))

    left : (mid : StopCpuValue) (n : ℕ) → stop.acked ≡ RUN → mid ≡ makes n (reads_anew stop (acknowledges stop EXIT true old))
        → new ≡ completed Left stop mid → OwnAnswers old new
    left mid n at is_mid e =
        let e' : new ≡ completed Left stop (makes n (reads_anew stop (acknowledges stop EXIT true old))) =
        e ∙ ap (completed Left stop) is_mid in
        own_answered old new stop (carried_answer old.part.calling) calls t.moves.calls_are begun pending
        (ap (λ (c : StopCpuValue). c.part.answers) e') (own_low old shown) (own_link old shown stop is)
        (λ run.
        let active = runs_active old.number stop.work several run in
        let y = carries_active old shown stop is at active.0 active.1 in
        inr (record { stop = stop; is = is; work_is = refl; at_run = at; carries = y.1 ∙ ap Carries (sym (ap carried_answer y.1)) }))
        (ap (λ (c : StopCpuValue). c.inside) e')

    ran : (mid : StopCpuValue) (kind : Kind) → stop.work.kind ≡ kind → RunsAt leads stop old mid f f' kind → new ≡ mid → OwnAnswers old new
    ran mid One k r e = absurd r
    ran mid Multi k r e = called 4 r.0 (e ∙ r.1)
    ran mid Patch k r e = patched k (5 + patching old.setting stop.work r.0) r.0 (e ∙ r.1)

    round : (mid : StopCpuValue) (u : Turn) → Advances leads stop old mid f f' u → new ≡ completed u stop mid → OwnAnswers old new
    round mid Same a e = looked (e ∙ a.0)
    round mid (Moved p) a e = moved 2 p (nat_lt p DISABLE_IRQ) (e ∙ a.3) a.2
    round mid Ran a e = ran mid stop.work.kind refl a.2 e
    round mid Left a e = left mid 2 a.0 a.1 e

  own_turn : HasNotLeft old.inside → OwnAnswers old new
  own_turn not_left = inside old.inside refl
    where
      went_round : (stop : Inside) → old.inside ≡ Some stop → stop.work.kind ≢ One → OwnAnswers old new
      went_round stop is several =
          let at : IsInRound old = record { stop = stop; is = is; several = several; not_left = subst HasNotLeft is not_left } in
          let g = t.round at in
          round g.at.stop g.at.is g.at.several g.advanced turn g.advances g.is

      of_kind : (stop : Inside) → old.inside ≡ Some stop → (k : Kind) → stop.work.kind ≡ k → OwnAnswers old new
      of_kind stop is One e = ran_one (t.one (record { stop = stop; is = is; one = e })).0
      of_kind stop is Multi e = went_round stop is (λ one. let bad : One ≡ Multi = sym one ∙ e in cc)
      of_kind stop is Patch e = went_round stop is (λ one. let bad : One ≡ Patch = sym one ∙ e in cc)

      inside : (o : Option Inside) → old.inside ≡ o → OwnAnswers old new
      inside None is =
          let same = (t.none is).0 in
          own_still old new (ap (λ (c : StopCpuValue). c.part.calls) same) begun pending (ap (λ (c : StopCpuValue). c.part.answers) same)
          (λ stop i at. sym (ap (λ (c : StopCpuValue). c.inside) same) ∙ i) (ap (λ (c : StopCpuValue). c.part.calling) same)
      inside (Some stop) is = of_kind stop is stop.work.kind refl

-- a look, and then a turn of a stop
pub works_turn : {H F : Type 0} (hears : H → Heard → H → Type 0) (leads : F → Called → F → Type 0) {old mid new : MachineCpuValue} {h h' : H} {f f' : F}
    {turn : Turn} → LooksIfOn hears old h mid h' → new.calls ≡ mid.calls → new.passes ≡ mid.passes → new.heard_at ≡ mid.heard_at → StopsAreShown mid.stops
    → HasNotLeft mid.stops.inside
    → mid.stops.irq ≡ on_there mid.stops.inside → TurnsStop leads mid.stops f new.stops f' turn → Works hears leads old h f new h' f' (own_of old)
works_turn hears leads {old} {mid} {new} {h} {h'} {f} {f'} {turn} l calls passes heard shown not_left irq s =
    let t : TurnsStop leads old.stops f new.stops f' turn = subst (λ (x : StopCpuValue). TurnsStop leads x f new.stops f' turn) l.rest.stops_are s in
    let k = t.moves in
    let passed : new.passes ≡ old.passes = passes ∙ l.rest.passes_are in
    let table = ap (λ (x : StopCpuValue). x.table) k.kept in
    let setting = ap (λ (x : StopCpuValue). x.setting) k.kept in
    let number = ap (λ (x : StopCpuValue). x.number) k.kept in
    record {
      calls_kept = subst (λ (x : CallCpuValue). x ≡ handled_calls old.calls x) (sym calls) l.rest.calls_kept;
      looks = subst (λ (x : CallCpuValue). ListsLooks old.calls x) (sym calls) l.rest.looks;
      handled = subst (λ (x : CallCpuValue). Handles hears old.calls h x h') (sym calls) l.rest.handled;
      heard = hears_then old mid new (hears_if_on hears old mid h h' l) (hears_turn leads mid new f f' turn s not_left irq heard calls);
      table_is = table;
      setting_is = setting;
      number_is = number;
      ran = k.ran;
      calls_are = k.calls_are;
      grows = k.grows;
      queues_are = ap (λ (x : PassesValue). x.queues) passed;
      passes_number = ap (λ (x : PassesValue). x.number) passed;
      later = later_called old.stops new.stops (map stop_call k.ran) table setting number (ap (λ (x : StopCpuValue). x.part.begun) k.kept)
          (ap (λ (x : StopCpuValue). x.part.collected) k.kept) k.calls_are
          (beginning_still old.stops.moves new.stops.moves (ap (λ (x : StopCpuValue). x.moves) k.kept));
      serves = serves_none old new (ap (λ (x : PassesValue). x.taken) passed) (ap (λ (x : StopCpuValue). x.attempts) k.kept) k.keeps;
      mine = own_turn leads old.stops new.stops f f' turn (subst StopsAreShown l.rest.stops_are shown) t
          (subst (λ (x : StopCpuValue). HasNotLeft x.inside) l.rest.stops_are not_left);
      own_is = λ i. own_of (record { calls = new.calls; stops = k.kept i; passes = passed i; heard_at = new.heard_at });
    }
