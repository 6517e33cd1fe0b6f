-- A CPU that comes to call the function of its stop, and answers.
use Rattle.std.proofs.Common.{◌≡◌, ◌≢◌, ℕ, ℤ, Ok, ◌+◌, ◌&&◌, Bool, true, false, cond, Some, None, [], ◌∷◌, ◌++◌}
use Rattle.std.proofs.Common.{sym, subst, refl, ap, ◌∙◌, arith}
use Rattle.atomic_table.specs.Seated.{TableId}
use Rattle.smp_mask.specs.Mask.{has}
use Rattle.smp_stop_steps.specs.Callings.{with_answer}
use Rattle.smp_stop_steps.specs.Threads.Known.{carrying, stepped}
use Rattle.smp_stop_steps.specs.Threads.KnownAfter.{completed_with, looked_known, looked_to}
use Rattle.smp_stop_steps.specs.Seats.{irq_of}
use Rattle.smp_stop_steps.specs.Sits.{OwnsIf, IsLoaded}
use Rattle.smp_stop_steps.specs.Stages.{visit_acked}
use Rattle.smp_stop_steps.specs.Start.{answer_word}
use Rattle.smp_stop_steps.specs.Tells.{carried_call, calls_at_run, is_multi}
use Rattle.smp_words.specs.declared.phase.TheConstants.{DISABLE_IRQ, RUN, EXIT}
use Rattle.smp_stop_steps.specs.declared.stage.Visit.{Visit}
use Rattle.smp_multi.specs.Names.{Work, Kind, One, Multi, Patch, StopRole, In, Rests, KnownStops, StopPart, Calling, Idle, Calls, Carries, StopCall}
use Rattle.smp_multi.specs.Advance.{AdvanceAnswers, carries, looks}
use Rattle.smp_multi.specs.AtCall.{IsAnswering, SitsAtCall}
use Rattle.smp_multi.specs.ByValue.{Answered, ComesToCall, Leaves, OneAnswers, TurnedAnswers, answers_one, answers_run, begins_call, to_answer, turned_so}
use Rattle.smp_multi.specs.CallLaws.{CallsAlone, CallsThere, StepsAreCalls}
use Rattle.smp_multi.specs.Cells.{cells}
use Rattle.smp_multi.specs.Cpu.{AnsweringValue, CpuValue, CallsNone, Inside, IsKept, call_with, calls_with, part_with, cpu_of, inside_of, makes, runs}
use Rattle.smp_multi.specs.Lives.{Lives}
use Rattle.smp_multi.specs.Places.{work_in}
use Rattle.smp_multi.specs.Rounds.{AtRun, AtTurn, passed_by}
use Rattle.smp_multi.specs.Running.{AtOne, IsItsCall, answered_now, called, called_by, calls_now}
use Rattle.smp_multi.specs.Seat.{SeatValue}
use Rattle.smp_multi.specs.StepCounts.{completing}
use Rattle.smp_multi.specs.Turns.{HasRunFunction, TurnAnswers, no_call}
use Rattle.smp_multi.specs.declared.answering.Turned.TheVariants as turned
use Rattle.smp_multi.specs.declared.func.Called.{Called}
use Rattle.smp_multi.specs.declared.turn.Turn.{Turn}
use Rattle.smp_multi.specs.declared.turn.Turn.TheVariants.{Same, Moved, Ran, Left}
use Rattle.smp_multi.proofs.Counting.{passed_on, steps_on}
use Rattle.smp_multi.proofs.Kept.{idle_before, no_phase, owned_idle, ran_view}
use Rattle.smp_multi.proofs.Patching.{work_looked}
use Rattle.smp_multi.proofs.Running.{calls_some}
use Rattle.smp_multi.proofs.Showing.{HasNotGiven, is_shown}
use Rattle.smp_multi.proofs.Turning.{run_alone}

-- a turn in which no function is called is one of any function
pub quiet_turn : {F : Type 0} (leads : F → Called → F → Type 0) (old new : KnownStops) (v x : Visit) (f : F) (turn : Turn)
    → TurnAnswers no_call old new v x tt tt turn → TurnAnswers leads old new v x f f turn
quiet_turn leads old new v x f Same h = (h.0, h.1, refl)
quiet_turn leads old new v x f (Moved p) h = (h.0, h.1, h.2, h.3, h.4, refl)
quiet_turn leads old new v x f Ran h = (h.0, h.1, go v.kind h.2)
  where
    go : (k : Kind) → HasRunFunction no_call old new v x tt tt k → HasRunFunction leads old new v x f f k
    go One h = absurd h
    go Multi h = absurd h.3
    go Patch h = (h.0, h.1, h.2, h.3, refl)
quiet_turn leads old new v x f Left h = (h.0, h.1, h.2, refl)

-- an active CPU has come to the call, and has acknowledged RUN with this answer
pub run_answered : (k u w : KnownStops) (answer : ℤ) → u ≡ stepped 3 (calls_now (looked_known RUN k))
    → w ≡ stepped 1 (passed_by u.seat (carrying (answer_word answer) u))
    → w ≡ stepped 4 (passed_by (looked_to RUN k.seat) (answered_now answer (looked_known RUN k)))
run_answered k u w answer first next =
    let y = looked_to RUN k.seat in
    let at = answered_now answer (looked_known RUN k) in
    next ∙ (ap (λ (z : KnownStops). stepped 1 (passed_by z.seat (carrying (answer_word answer) z))) first
    ∙ (ap (stepped 1) (passed_on 3 y at) ∙ steps_on 3 1 (passed_by y at)))

-- so it has run its function
pub has_run : {F : Type 0} (leads : F → Called → F → Type 0) (t : TableId) (k : KnownStops) (e : SeatValue) (m : KnownStops) (v x : Visit) (number func arg : ℕ)
    (answer : ℤ) (f g : F) → AtRun t e v Multi → e.known ≡ stepped 3 (calls_now (looked_known RUN k)) → IsItsCall e.known func arg → k.number ≡ number
    → m ≡ stepped 1 (passed_by e.known.seat (carrying (answer_word answer) e.known)) → x ≡ visit_acked v 0 false
    → leads f (called number func arg answer) g → TurnAnswers leads k m v x f g Ran
has_run {F} leads t k e m v x number func arg answer f g at first call me next visit heard =
    let work : work_in e.known.seat ≡ work_in k.seat = ap (λ (z : KnownStops). work_in z.seat) first ∙ work_looked RUN k.seat in
    let c : func ≡ (work_in k.seat).func = call.0 ∙ ap (λ (z : Work). z.func) work in
    let y : arg ≡ (work_in k.seat).arg = call.1 ∙ ap (λ (z : Work). z.arg) work in
    let same : called number func arg answer ≡ called_by k answer = λ i. called (sym me i) (c i) (y i) answer in (
      at.disabled,
      ap (λ (z : KnownStops). has v.active z.number) (sym first) ∙ at.active,
      subst (HasRunFunction leads k m v x f g) (sym at.kind_is)
          (answer, run_answered k e.known m answer first next, visit, subst (λ (z : Called). leads f z g) same heard),
    )

-- the same of a stop of one CPU, which it has completed
pub one_answered : (k u w : KnownStops) (slot n x : ℕ) → u ≡ stepped 2 (calls_now k) → w ≡ stepped n (completed_with 0 slot (work_in u.seat) x (carrying 0 u))
    → w ≡ stepped (2 + n) (completed_with 0 slot (work_in k.seat) x (carrying 0 k))
one_answered k u w slot n x first next =
    next ∙ (ap (λ (z : KnownStops). stepped n (completed_with 0 slot (work_in z.seat) x (carrying 0 z))) first
    ∙ steps_on 2 n (completed_with 0 slot (work_in k.seat) x (carrying 0 k)))

-- the part of a CPU that calls a function
pub called_part : (answer : ℕ) (v : KnownStops) (call : StopCall) → v.part.calling ≡ Calls call
    → part_with answer v ≡ record (v.part) { calling = Calls (record call { answer = answer }) }
called_part answer v call begun =
    ap (λ f. record (v.part) { calls = calls_with answer v.number (work_in v.seat) v.part.calls f; calling = with_answer answer f }) begun

-- what turn and begin_one answer of what advance would
pub turned_answers : (old new : CpuValue) (turn : Turn) → AdvanceAnswers no_call old new tt tt (Ok turn) → TurnedAnswers old (Ok (turned_so new turn))
turned_answers old new Same h = h
turned_answers old new _ h = h

-- where a CPU is that comes to a call
module _ (d e : SeatValue) (number : ℕ) (v : Visit) (holds is_open : Bool) (k : IsKept d.known number (Some v) holds is_open) (table : e.table ≡ d.table)
    (func arg : ℕ) (call : IsItsCall e.known func arg) where
  abbrev w : Work
  w = k.rests.0

  is : d.known.seat ≡ In v.slot w v.acked v.acked Rests
  is = k.rests.2

  abbrev stop : Inside
  stop = record { slot = v.slot; work = w; acked = v.acked }

  abbrev old : CpuValue
  old = cpu_of d

  abbrev handed : AnsweringValue
  handed = record { cpu = cpu_of e; func = func; arg = arg }

  -- of a Multi stop, at RUN
  module _ (t : TableId) (at : AtRun t e v Multi) (same : e.known ≡ stepped 3 (calls_now (looked_known RUN d.known))) where
    work : work_in e.known.seat ≡ w
    work = ap (λ (z : KnownStops). work_in z.seat) same ∙ ap (λ (y : StopRole). work_in (looked_to RUN y)) is

    run_idle : d.known.part.calling ≡ Idle
    run_idle = let two = at.disabled in idle_before d.known v v.slot v.acked v.acked w Rests k.lives is (omega (arith, two)) k.quiet

    run_none : d.known.carried ≡ 0
    run_none = subst (λ (f : Calling). CallsNone (Some v) d.known.carried f) run_idle k.quiet

    run_view : cpu_of e ≡ begins_call stop (makes 3 (looks RUN old))
    run_view =
        let y = In v.slot w DISABLE_IRQ DISABLE_IRQ Rests in
        let there : d.known.seat ≡ y = is ∙ ap (λ n. In v.slot w n n Rests) at.disabled in
        let P : StopRole → ℕ → CpuValue = λ z n. cpu_of (record {
          table = d.table;
          known = record (d.known) {
            seat = looked_to RUN z;
            carried = n;
            part = record (d.known.part) { looks = d.known.part.looks ++ RUN ∷ []; calling = Calls (call_with (work_in (looked_to RUN z)) 0) };
            steps = d.known.steps + 3;
          };
        }) in
        let Q : StopRole → Calling → CpuValue = λ z f. begins_call stop (makes 3 (looks RUN (cpu_of (record {
          table = d.table;
          known = record (d.known) { seat = z; part = record (d.known.part) { calling = f } };
        })))) in
        let from : cpu_of e ≡ P d.known.seat d.known.carried = λ i. cpu_of (record { table = table i; known = same i }) in
        let first : P d.known.seat d.known.carried ≡ P y 0 = λ i. P (there i) (run_none i) in
        let last : Q d.known.seat d.known.part.calling ≡ Q y Idle = λ i. Q (there i) (run_idle i) in
        from ∙ (first ∙ sym last)

    pub comes_to_call : ComesToCall stop old handed
    comes_to_call =
        let f : func ≡ w.func = call.0 ∙ ap (λ (z : Work). z.func) work in
        let x : arg ≡ w.arg = call.1 ∙ ap (λ (z : Work). z.arg) work in
        let value : handed ≡ to_answer stop (makes 3 (looks RUN old)) = λ i. record { cpu = run_view i; func = f i; arg = x i } in (
          sym k.rests.1.kind ∙ at.kind_is,
          at.disabled,
          ap (λ m. has m d.known.number) (sym k.rests.1.active) ∙ (ap (λ (z : KnownStops). has v.active z.number) (sym same) ∙ at.active),
          value,
        )

    pub call_answers : v.kind ≢ One → v.acked ≢ EXIT → TurnedAnswers old (Ok (turned.Call handed))
    call_answers several more = (
      record { stop = stop; is = ap inside_of is; several = λ one. several (k.rests.1.kind ∙ one); not_left = more },
      comes_to_call,
    )

    pub answering_at_run : Lives e.known → IsAnswering e.known number v holds is_open func arg
    answering_at_run lives = record {
      number_is = ap (λ (z : KnownStops). z.number) same ∙ k.number_is;
      below = k.below;
      online = ap (λ (z : KnownStops). has z.setting.online number) same ∙ k.online;
      low = at.at.low;
      loaded = at.at.loaded;
      sits = subst (λ q. SitsAtCall q v e.known) (sym at.kind_is) (at.disabled, at.active, at.at.seat_is, run_alone _ _ v Multi at);
      call = call;
      begun = ap (λ (z : KnownStops). z.part.calling) same ∙ sym (ap (λ (z : KnownStops). Calls (call_with (work_in z.seat) 0)) same);
      holds_is = k.holds_is ∙ sym (ap (λ (z : KnownStops). z.part.holds) same);
      owns = subst (OwnsIf is_open) (sym (ap (λ (z : KnownStops). z.source) same)) k.owns;
      lives = lives;
    }

  -- of a stop of one CPU
  module _ (t : TableId) (one : v.kind ≡ One) (at : AtOne t e v.slot) (same : e.known ≡ stepped 2 (calls_now d.known)) where
    kind : w.kind ≡ One
    kind = sym k.rests.1.kind ∙ one

    one_work : work_in e.known.seat ≡ w
    one_work = ap (λ (z : KnownStops). work_in z.seat) same ∙ ap work_in is

    one_idle : d.known.part.calling ≡ Idle
    one_idle = let none = no_phase d.known v.slot v.acked v.acked w k.lives is kind in
        idle_before d.known v v.slot v.acked v.acked w Rests k.lives is (omega (arith, none)) k.quiet

    one_none : d.known.carried ≡ 0
    one_none = subst (λ (f : Calling). CallsNone (Some v) d.known.carried f) one_idle k.quiet

    one_view : cpu_of e ≡ begins_call stop (makes 2 old)
    one_view =
        let y = In v.slot w v.acked v.acked Rests in
        let P : StopRole → ℕ → CpuValue = λ z n. cpu_of (record {
          table = d.table;
          known = record (d.known) {
            seat = z;
            carried = n;
            part = record (d.known.part) { calling = Calls (call_with (work_in z) 0) };
            steps = d.known.steps + 2;
          };
        }) in
        let Q : StopRole → Calling → CpuValue = λ z f. begins_call stop (makes 2 (cpu_of (record {
          table = d.table;
          known = record (d.known) { seat = z; part = record (d.known.part) { calling = f } };
        }))) in
        let from : cpu_of e ≡ P d.known.seat d.known.carried = λ i. cpu_of (record { table = table i; known = same i }) in
        let first : P d.known.seat d.known.carried ≡ P y 0 = λ i. P (is i) (one_none i) in
        let last : Q d.known.seat d.known.part.calling ≡ Q y Idle = λ i. Q (is i) (one_idle i) in
        from ∙ (first ∙ sym last)

    pub one_answers : OneAnswers old (Ok handed)
    one_answers =
        let f : func ≡ w.func = call.0 ∙ ap (λ (z : Work). z.func) one_work in
        let x : arg ≡ w.arg = call.1 ∙ ap (λ (z : Work). z.arg) one_work in
        let value : handed ≡ to_answer stop (makes 2 old) = λ i. record { cpu = one_view i; func = f i; arg = x i } in
        (record { stop = stop; is = ap inside_of is; one = kind }, value)

    pub answering_one : Lives e.known → IsAnswering e.known number v holds is_open func arg
    answering_one lives = record {
      number_is = ap (λ (z : KnownStops). z.number) same ∙ k.number_is;
      below = k.below;
      online = ap (λ (z : KnownStops). has z.setting.online number) same ∙ k.online;
      low = at.low;
      loaded = subst (IsLoaded v) (sym one_work) k.rests.1;
      sits = subst (λ q. SitsAtCall q v e.known) (sym one) at.seat_is;
      call = call;
      begun = ap (λ (z : KnownStops). z.part.calling) same ∙ sym (ap (λ (z : KnownStops). Calls (call_with (work_in z.seat) 0)) same);
      holds_is = k.holds_is ∙ sym (ap (λ (z : KnownStops). z.part.holds) same);
      owns = subst (OwnsIf is_open) (sym (ap (λ (z : KnownStops). z.source) same)) k.owns;
      lives = lives;
    }

-- a CPU that is to answer
module _ (d : SeatValue) (number : ℕ) (v : Visit) (holds is_open : Bool) (func arg : ℕ) (a : IsAnswering d.known number v holds is_open func arg) where
  abbrev its : Work
  its = work_in d.known.seat

  pub at_one_call : v.kind ≡ One → d.known.seat ≡ In v.slot its 0 0 Rests
  at_one_call one = subst (λ q. SitsAtCall q v d.known) one a.sits

  pub is_multi_call : v.kind ≢ One → v.kind ≡ Multi
  is_multi_call ne = go v.kind ne a.sits
    where
      go : (q : Kind) → q ≢ One → SitsAtCall q v d.known → q ≡ Multi
      go One ne sits = absurd (ne refl)
      go Multi ne sits = refl
      go Patch ne sits = absurd sits

  pub at_run_call : v.kind ≢ One → SitsAtCall Multi v d.known
  at_run_call ne = subst (λ q. SitsAtCall q v d.known) (is_multi_call ne) a.sits

  pub still_one : (t : TableId) → v.kind ≡ One → d.table ≡ t → t.words ≡ cells → AtOne t d v.slot
  still_one t one table sized = record {
    table_is = table;
    sized = sized;
    low = a.low;
    idle = owned_idle is_open d.known.source a.owns;
    seat_is = at_one_call one;
    one = sym a.loaded.kind ∙ one;
  }

  pub still_run : (t : TableId) → v.kind ≢ One → d.table ≡ t → t.words ≡ cells → AtRun t d v Multi
  still_run t ne table sized = let s = at_run_call ne in record {
    at = record {
      table_is = table;
      sized = sized;
      low = a.low;
      idle = owned_idle is_open d.known.source a.owns;
      loaded = a.loaded;
      seat_is = s.2;
    };
    disabled = s.0;
    kind_is = is_multi_call ne;
    active = s.1;
  }

  pub calls_now_some : d.known.part.calling ≢ Idle
  calls_now_some = calls_some d.known.part.calling (call_with its 0) a.begun

  -- where its law holds
  pub calls_alone : CallsAlone (record { cpu = cpu_of d; func = func; arg = arg })
  calls_alone = go v.kind refl a.sits
    where
      go : (q : Kind) → v.kind ≡ q → SitsAtCall q v d.known → CallsAlone (record { cpu = cpu_of d; func = func; arg = arg })
      go One one sits = record {
        stop = record { slot = v.slot; work = its; acked = 0 };
        is = ap inside_of sits;
        func = a.call.0;
        arg = a.call.1;
        shown = is_shown d a.lives (subst HasNotGiven (sym sits) tt);
        there = subst (CallsThere (record { slot = v.slot; work = its; acked = 0 }) (cpu_of d) d.known) (sym (sym a.loaded.kind ∙ one)) tt;
      }
      go Multi multi sits = record {
        stop = record { slot = v.slot; work = its; acked = v.acked };
        is = ap inside_of sits.2;
        func = a.call.0;
        arg = a.call.1;
        shown = is_shown d a.lives (subst HasNotGiven (sym sits.2) tt);
        there = subst (CallsThere (record { slot = v.slot; work = its; acked = v.acked }) (cpu_of d) d.known) (sym (sym a.loaded.kind ∙ multi)) (
          sits.0,
          ap (λ m. has m d.known.number) (sym a.loaded.active) ∙ sits.1,
          ap irq_of (sits.2 ∙ ap (λ n. In v.slot its n RUN Rests) sits.0),
          sits.3,
        );
      }
      go Patch patch sits = absurd sits

  -- what its answer leaves
  module _ (e : SeatValue) (table : e.table ≡ d.table) (answer : ℤ) where
    abbrev word : ℕ
    word = answer_word answer

    -- of a stop of one CPU
    module _ (one : v.kind ≡ One) (same : e.known ≡ stepped (completing word) (completed_with 0 v.slot its word (carrying 0 d.known))) where
      pub kept_one : Lives e.known → IsKept e.known number None holds is_open
      kept_one lives = record {
        number_is = ap (λ (z : KnownStops). z.number) same ∙ a.number_is;
        below = a.below;
        online = ap (λ (z : KnownStops). has z.setting.online number) same ∙ a.online;
        rests = ap (λ (z : KnownStops). z.seat) same;
        low = tt;
        quiet = subst (λ (z : KnownStops). CallsNone None z.carried z.part.calling) (sym same) refl;
        holds_is = a.holds_is ∙ sym (ap (λ (z : KnownStops). z.part.holds) same);
        owns = subst (OwnsIf is_open) (sym (ap (λ (z : KnownStops). z.source) same)) a.owns;
        lives = lives;
      }

      pub answered_one : Answered (record { cpu = cpu_of d; func = func; arg = arg }) answer (cpu_of e)
      answered_one =
          let stop : Inside = record { slot = v.slot; work = its; acked = 0 } in
          let kind : its.kind ≡ One = sym a.loaded.kind ∙ one in (
            stop,
            ap inside_of (at_one_call one),
            subst (Leaves stop answer (cpu_of d) (cpu_of e)) (sym kind)
                (ran_view d e v.slot its word (completing word) kind (Calls (record (call_with its 0) { answer = d.known.carried }))
                (called_part d.known.carried d.known (call_with its 0) a.begun) table same),
          )

    -- of a Multi stop
    module _ (ne : v.kind ≢ One) (same : e.known ≡ stepped 1 (passed_by d.known.seat (carrying word d.known))) where
      abbrev asked : Inside
      asked = record { slot = v.slot; work = its; acked = v.acked }

      abbrev after : KnownStops
      after = record (d.known) { seat = In v.slot its RUN RUN Rests; part = record (d.known.part) { calling = Carries 0 }; carried = word }

      after_is : e.known ≡ stepped 1 after
      after_is = same ∙ (ap (λ (y : StopRole). stepped 1 (passed_by y (carrying word d.known))) (at_run_call ne).2
          ∙ ap (λ (f : Calling). stepped 1 (record (d.known) {
            seat = In v.slot its RUN RUN Rests;
            part = record (d.known.part) { calling = carried_call f };
            carried = word;
          })) a.begun)

      pub kept_run : (t : TableId) (y : Visit) → AtTurn t e y y.acked Rests → Lives e.known → IsKept e.known number (Some y) holds is_open
      kept_run t y at lives = record {
        number_is = ap (λ (z : KnownStops). z.number) after_is ∙ a.number_is;
        below = a.below;
        online = ap (λ (z : KnownStops). has z.setting.online number) after_is ∙ a.online;
        rests = (work_in e.known.seat, at.loaded, at.seat_is);
        low = at.low;
        quiet = subst (λ (z : KnownStops). CallsNone (Some y) z.carried z.part.calling) (sym after_is) tt;
        holds_is = a.holds_is ∙ sym (ap (λ (z : KnownStops). z.part.holds) after_is);
        owns = subst (OwnsIf is_open) (sym (ap (λ (z : KnownStops). z.source) after_is)) a.owns;
        lives = lives;
      }

      run_answer_view : cpu_of e ≡ answers_run asked answer (cpu_of d)
      run_answer_view =
          let s = at_run_call ne in
          let kind : its.kind ≡ Multi = sym a.loaded.kind ∙ is_multi_call ne in
          let active : has its.active d.known.number ≡ true = ap (λ m. has m d.known.number) (sym a.loaded.active) ∙ s.1 in
          let calls : calls_at_run d.known.number its ≡ true = ap (λ b. b && is_multi its.kind) active ∙ ap is_multi kind in
          (λ i. cpu_of (record { table = table i; known = after_is i })) ∙ (
          ap (λ b. makes 1 (record (cpu_of (record { table = d.table; known = after })) {
            part = record (d.known.part) { calls = cond b (d.known.part.calls ++ call_with its word ∷ []) d.known.part.calls; calling = Carries word };
          })) calls ∙
          ap (λ (z : StopPart). makes 1 (carries word (runs (call_with its word) (record (cpu_of d) {
            part = z;
            inside = Some (record { slot = v.slot; work = its; acked = RUN });
            irq = false;
          })))) (sym (called_part d.known.carried d.known (call_with its 0) a.begun)))

      pub answered_run : Answered (record { cpu = cpu_of d; func = func; arg = arg }) answer (cpu_of e)
      answered_run = (
        asked,
        ap inside_of (at_run_call ne).2,
        subst (Leaves asked answer (cpu_of d) (cpu_of e)) (sym (sym a.loaded.kind ∙ is_multi_call ne)) run_answer_view,
      )

-- steps by value leave what calls leave
pub steps_are_calls : StepsAreCalls
steps_are_calls stop v c = (
  ap (λ n. record (answers_run stop v (begins_call stop (looks RUN c))) { steps = n }) (let e : c.steps + 3 + 1 ≡ c.steps + 4 = omega arith in e),
  ap (λ n. record (answers_one stop v (begins_call stop c)) { steps = n })
      (let y = completing (answer_word v) in let e : c.steps + 2 + y ≡ c.steps + (2 + y) = omega arith in e),
)
