-- What events of stops make of a state that leaves nothing out, where their premises hold.
use Rattle.trace_laws.proofs.Names.{Bool, Err, Kind, Multi, None, Ok, One, Reason, Result, Setting, Some, StateValue, Stop, Task, ack_by, acked_by}
use Rattle.trace_laws.proofs.Names.{acknowledged, answer_wanted, ap, arith, collect_by, collected, complete_by, completed, cond, cpu_at, enter_by, entered}
use Rattle.trace_laws.proofs.Names.{eq-eqb, false, false≢true, gate_by, gives, handles_nothing, has, has_run, if_low, in_round, int_eq, is_called, is_cpu}
use Rattle.trace_laws.proofs.Names.{is_work, le-ltb, lt-leb, lt-ltb, may_complete, not, off_by, offline_in, on_by, open_by, opened, raise_by, raised}
use Rattle.trace_laws.proofs.Names.{ran_function, refl, run_by, slice_set, stop_at, stop_of, true, true≢false, unfinished, ungate_by}
use Rattle.trace_laws.proofs.Names.{with_inside, with_irq, with_stop, ℕ, ℤ, ◌&&◌, ◌-◌, ◌<◌, ◌==◌, ◌>>=◌, ◌∙◌, ◌≡◌, ◌≢◌, ◌≤◌}
use Rattle.trace_laws.proofs.ReplayNames.{Without, cpus, nothing_left_out, opening}
use Rattle.trace_model.specs.declared.reason.Reason.TheVariants as reason
use Rattle.smp_words.specs.declared.phase.TheConstants.{DISABLE_IRQ, RUN, EXIT}

passes : {A : Type 0} (b : Bool) (x y : A) → b ≡ true → cond b x y ≡ x
passes b x y e = search (false≢true, arith)

opened_made : (u : Setting) (task : Task) → is_work u task ≡ true → offline_in u task.mask ≡ None → opened u task ≡ Ok (opening task)
unfolding opened
opened_made u task work online = search (passes, arith)

-- the function of a stop is entered
ran_one : (stop : Stop) (me func arg : ℕ) → stop.task.kind ≡ One → has_run stop me ≡ false → stop.task.func ≡ func → stop.task.arg ≡ arg
    → ran_function me func arg stop ≡ Ok (record stop { ran = slice_set stop.ran me true })
unfolding ran_function
ran_one stop me func arg kind not_yet f a = rw (kind, not_yet, eq-eqb stop.task.func func f, eq-eqb stop.task.arg arg a) refl

ran_multi : (stop : Stop) (me func arg : ℕ) → stop.task.kind ≡ Multi → has stop.task.active me ≡ true → acked_by stop me < RUN → stop.phase ≡ RUN
    → has_run stop me ≡ false
    → stop.task.func ≡ func → stop.task.arg ≡ arg → ran_function me func arg stop ≡ Ok (record stop { ran = slice_set stop.ran me true })
unfolding ran_function
ran_multi stop me func arg kind active low at not_yet f a = search (lt-leb, eq-eqb, arith)

-- a CPU that may answer so completes
abbrev pub MayAnswer : Stop → ℕ → ℤ → Type 0
MayAnswer stop me answer = (not (has_run stop me) && not (int_eq answer (answer_wanted stop me))) ≡ false

fails : {A : Type 0} (b : Bool) (x y : A) → b ≡ false → cond b x y ≡ y
fails b x y e = search (true≢false, arith)

completed_one : (stop : Stop) (me : ℕ) (answer : ℤ) (irq : Bool) → stop.task.kind ≡ One → has_run stop me ≡ true
    → completed me answer irq stop ≡ Ok (record stop { answers = slice_set stop.answers me (Some answer) })
unfolding completed
completed_one stop me answer irq kind ran = rw (kind, ran) refl

then_made : {A : Type 0} (first : Result (Unit {0}) Reason) (next : Unit {0} → Result A Reason) → first ≡ Ok tt → (first >>= next) ≡ next tt
then_made first next e = ap (λ (x : Result (Unit {0}) Reason). x >>= next) e

completed_round : (stop : Stop) (me : ℕ) (answer : ℤ) (irq : Bool) → stop.task.kind ≢ One → EXIT ≤ acked_by stop me → is_cpu stop.raiser me ≡ false → irq ≡ true
    → MayAnswer stop me answer → completed me answer irq stop ≡ Ok (record stop { answers = slice_set stop.answers me (Some answer) })
unfolding completed
completed_round stop me answer irq ne high not_last on may =
    let made = Ok (record stop { answers = slice_set stop.answers me (Some answer) }) in
    let wrong = Err (reason.AnswerIs (answer_wanted stop me)) in
    then_made (may_complete stop.task.kind me irq stop)
    (λ u. cond (not (has_run stop me) && not (int_eq answer (answer_wanted stop me))) wrong made)
    (search (le-ltb, arith))
    ∙ fails (not (has_run stop me) && not (int_eq answer (answer_wanted stop me))) wrong made may

-- an event in a stop, or of keys or sites, is made by a CPU below 32
pub made_low : {made : Result StateValue Reason} {t : StateValue} (me : ℕ) → me < cpus → made ≡ Ok t → if_low me made ≡ Ok t
made_low me below e = rw (lt-ltb me 32 (omega (arith, below))) e

module _ (s : StateValue) (me : ℕ) (whole : s.setting.without ≡ nothing_left_out) where
  pub takes_gate : s.gate ≡ None → gate_by me s ≡ Ok (record s { gate = Some me })
  unfolding gate_by
  takes_gate e = rw e refl

  pub gives_gate : s.gate ≡ Some me → ungate_by me s ≡ Ok (record s { gate = None })
  unfolding ungate_by
  gives_gate e = rw (e, eq-eqb me me refl) refl

  pub opens_stop : (task : Task) → me < 64 → (stop_at s me).is_open ≡ false → s.gate ≡ Some me → is_work s.setting task ≡ true
      → offline_in s.setting task.mask ≡ None → open_by me me task s ≡ Ok (with_stop me s (opening task))
  unfolding open_by
  opens_stop task l shut gate work online =
      rw (lt-ltb me 64 l, shut, opened_made s.setting task work online, ap (λ (w : Without). w.gate) whole, gate, eq-eqb me me refl) refl

  pub enters_stop : (source : ℕ) → source < 64 → (cpu_at s me).inside ≡ None → (stop_at s source).is_open ≡ true → is_called (stop_at s source) me ≡ true
      → enter_by me source s ≡ Ok (with_inside me (Some source) (with_stop source s (record (stop_at s source) {
        entered = slice_set
            (stop_at s source).entered me true;
      })))
  unfolding enter_by entered
  enters_stop source l none is_open called = rw (none, lt-ltb source 64 l, is_open, called) refl

  -- the CPU is in a rendezvous
  module _ (source : ℕ) (below : source < 64) (inside : (cpu_at s me).inside ≡ Some source) where
    is_in : stop_of me s ≡ Ok source
    is_in = rw (inside, lt-ltb source 64 below) refl

    rounds : (kind : Kind) → (stop_at s source).task.kind ≡ kind → kind ≢ One → in_round me s ≡ Ok source
    rounds kind e ne = search (lt-ltb, arith)

    pub turns_off : (stop_at s source).task.kind ≢ One → (cpu_at s me).irq ≡ true → acked_by (stop_at s source) me < DISABLE_IRQ
        → (stop_at s source).phase ≡ DISABLE_IRQ
        → handles_nothing (cpu_at s me) ≡ Ok tt → off_by me s ≡ Ok (with_irq me false s)
    unfolding off_by
    turns_off kind on low at quiet =
        rw (rounds (stop_at s source).task.kind refl kind, on, lt-leb DISABLE_IRQ (acked_by (stop_at s source) me) low, at, quiet) refl

    pub turns_on : (stop_at s source).task.kind ≢ One → (cpu_at s me).irq ≡ false → EXIT ≤ acked_by (stop_at s source) me
        → is_cpu (stop_at s source).raiser me ≡ false
        → on_by me s ≡ Ok (with_irq me true s)
    unfolding on_by
    turns_on kind off high not_last = rw (rounds (stop_at s source).task.kind refl kind, off, le-ltb (acked_by (stop_at s source) me) EXIT high, not_last) refl

    pub raises_phase : (phase : ℕ) → (stop_at s source).task.kind ≢ One → (stop_at s source).phase ≡ phase - 1 → (stop_at s source).raiser ≡ Some me
        → raise_by me phase s ≡ Ok (with_stop source s (record (stop_at s source) { phase = phase; raiser = None }))
    unfolding raise_by raised
    raises_phase phase kind at last =
        rw (
          rounds (stop_at s source).task.kind refl kind,
          eq-eqb (stop_at s source).phase (phase - 1) at,
          last,
          eq-eqb me me refl,
          ap (λ
              (w : Without). w.switches) whole,
        ) refl

    -- the function of a stop of kind One, and that of a rendezvous
    pub runs_one : (func arg : ℕ) → (stop_at s source).task.kind ≡ One → has_run (stop_at s source) me ≡ false → (stop_at s source).task.func ≡ func
        → (stop_at s source).task.arg ≡ arg → run_by me func arg s ≡ Ok (with_stop source s (record (stop_at s source) {
          ran = slice_set
              (stop_at s source).ran me true;
        }))
    unfolding run_by
    runs_one func arg kind not_yet f a = rw (inside, lt-ltb source 64 below, kind, ran_one (stop_at s source) me func arg kind not_yet f a) refl

    pub runs_multi : (func arg : ℕ) → (stop_at s source).task.kind ≡ Multi → has (stop_at s source).task.active me ≡ true → acked_by (stop_at s source) me < RUN
        → (stop_at s source).phase ≡ RUN → has_run (stop_at s source) me ≡ false → (stop_at s source).task.func ≡ func → (stop_at s source).task.arg ≡ arg
        → run_by me func arg s ≡ Ok (with_stop source s (record (stop_at s source) { ran = slice_set (stop_at s source).ran me true }))
    unfolding run_by
    runs_multi func arg kind active low at not_yet f a = search (lt-ltb, ran_multi, arith)

    -- a phase is acknowledged, which the CPU has not acknowledged, and which is that of the stop
    pub acks_other : (phase : ℕ) → (stop_at s source).task.kind ≢ One → acked_by (stop_at s source) me < phase → (stop_at s source).phase ≡ phase
        → (phase == DISABLE_IRQ) ≡ false
        → ((phase == RUN) && has (stop_at s source).task.active me) ≡ false
        → ack_by me phase s ≡ Ok (with_stop source s (acknowledged me phase true (stop_at s source)))
    unfolding ack_by
    acks_other phase kind low at not_two not_run =
        rw (
          rounds (stop_at s source).task.kind refl kind,
          lt-leb phase (acked_by (stop_at s source) me) low,
          eq-eqb (stop_at s source).phase phase at,
          not_two,
          not_run,
          ap (λ (w : Without). w.switches) whole,
          ap (λ (w : Without). w.raises) whole,
        ) refl

    pub acks_disabled : (stop_at s source).task.kind ≢ One → acked_by (stop_at s source) me < DISABLE_IRQ → (stop_at s source).phase ≡ DISABLE_IRQ
        → (cpu_at s me).irq ≡ false
        → ack_by me DISABLE_IRQ s ≡ Ok (with_stop source s (acknowledged me DISABLE_IRQ true (stop_at s source)))
    unfolding ack_by
    acks_disabled kind low at off =
        rw (
          rounds (stop_at s source).task.kind refl kind,
          lt-leb DISABLE_IRQ (acked_by (stop_at s source) me) low,
          eq-eqb (stop_at s source).phase DISABLE_IRQ at,
          ap (λ (w : Without). w.switches) whole,
          ap (λ (w : Without). w.raises) whole,
          off,
        ) refl

    pub acks_run : (stop_at s source).task.kind ≡ Multi → acked_by (stop_at s source) me < RUN → (stop_at s source).phase ≡ RUN
        → has_run (stop_at s source) me ≡ true
        → has (stop_at s source).task.active me ≡ true → ack_by me RUN s ≡ Ok (with_stop source s (acknowledged me RUN true (stop_at s source)))
    unfolding ack_by
    acks_run kind low at ran active =
        rw (
          inside,
          lt-ltb source 64 below,
          kind,
          lt-leb RUN (acked_by (stop_at s source) me) low,
          eq-eqb (stop_at s source).phase RUN at,
          active,
          kind,
          ran,
          ap (λ (w : Without). w.switches) whole,
          ap (λ (w : Without). w.raises) whole,
        ) refl

    -- a CPU completes
    abbrev pub done_with : ℤ → StateValue
    done_with answer = with_inside me None (with_stop source s (record (stop_at s source) { answers = slice_set (stop_at s source).answers me (Some answer) }))

    pub completes_one : (answer : ℤ) → (stop_at s source).task.kind ≡ One → has_run (stop_at s source) me ≡ true
        → complete_by me answer s ≡ Ok (done_with answer)
    unfolding complete_by
    completes_one answer kind ran = rw (inside, lt-ltb source 64 below, completed_one (stop_at s source) me answer (cpu_at s me).irq kind ran) refl

    -- after its function, or with the answer of a CPU that has run none
    pub completes_round : (answer : ℤ) → (stop_at s source).task.kind ≢ One → EXIT ≤ acked_by (stop_at s source) me
        → is_cpu (stop_at s source).raiser me ≡ false → (cpu_at s me).irq ≡ true → MayAnswer (stop_at s source) me answer
        → complete_by me answer s ≡ Ok (done_with answer)
    unfolding complete_by
    completes_round answer ne high not_last on may = search (lt-ltb, completed_round, arith)

  -- a source collects
  pub collects_result : (answer : ℤ) → me < 64 → (stop_at s me).is_open ≡ true → unfinished (stop_at s me) ≡ None → gives (stop_at s me) answer ≡ true
      → collect_by me answer s ≡ Ok (with_stop me s (record (stop_at s me) { is_open = false }))
  unfolding collect_by collected
  collects_result answer l is_open all given = rw (lt-ltb me 64 l, is_open, all, given) refl
