-- What a turn leaves of a CPU.
use Rattle.std.proofs.Common.{◌≡◌, ◌≢◌, ℕ, ℤ, Ok, ◌+◌, ◌==◌, ◌&&◌, ◌||◌, nat_lt, Bool, true, false, cond, Some, List, [], ◌∷◌, ◌++◌}
use Rattle.std.proofs.Common.{sym, subst, refl, ap, ◌∙◌, arith, ne_eqb}
use Rattle.atomic_table.specs.Seated.{TableId}
use Rattle.smp_mask.specs.Mask.{has}
use Rattle.smp_stop_steps.specs.Callings.{with_answer}
use Rattle.smp_stop_steps.specs.Threads.Known.{carrying, stepped}
use Rattle.smp_multi.specs.Lives.{Lives, StopMoment}
use Rattle.smp_stop_steps.specs.Threads.KnownAfter.{looked_known, looked_to}
use Rattle.smp_stop_steps.specs.Sits.{OwnsIf}
use Rattle.smp_stop_steps.specs.Start.{answer_word}
use Rattle.smp_stop_steps.specs.Tells.{carried_call, first_readings, calls_at_run, is_multi}
use Rattle.smp_stop_steps.specs.Labels.{patch_answer}
use Rattle.smp_stop_steps.specs.declared.known.Reading.{Reading}
use Rattle.smp_words.specs.declared.phase.TheConstants.{DISABLE_IRQ, RUN, EXIT}
use Rattle.smp_stop_steps.specs.declared.stage.Visit.{Visit}
use Rattle.smp_multi.specs.Names.{Key, Work, Kind, One, Multi, Patch, StopRole, In, Rests, KnownStops, StopPart, Calling, Idle, Calls, Carries}
use Rattle.smp_multi.specs.Advance.{Advances, AdvanceAnswers, RunsAt, acknowledges, carries, looks, patches}
use Rattle.smp_multi.specs.Cpu.{CpuValue, CallsNone, Inside, IsKept, call_with, calls_with, part_with, cpu_of, inside_of, makes, runs}
use Rattle.smp_multi.specs.Laws.{FindsCount}
use Rattle.smp_multi.specs.Places.{work_in}
use Rattle.smp_multi.specs.Rounds.{AtTurn, passed_by, passed_known}
use Rattle.smp_multi.specs.Running.{answered_now, called}
use Rattle.smp_multi.specs.Seat.{SeatValue}
use Rattle.smp_multi.specs.StepCounts.{patching}
use Rattle.smp_multi.specs.Turns.{TurnAnswers, HasRunFunction, patched_by, patched_with}
use Rattle.smp_multi.specs.declared.func.Called.{Called}
use Rattle.smp_multi.specs.declared.turn.Turn.{Turn}
use Rattle.smp_multi.specs.declared.turn.Turn.TheVariants.{Same, Moved, Ran, Left}
use Rattle.smp_multi.proofs.Kept.{idle_before, idle_part}
use Rattle.smp_multi.proofs.Showing.{HasNotGiven, finds_count}

-- who calls none carries on
quiet_on : (v x : Visit) (n : ℕ) (f : Calling) → CallsNone (Some v) n f → CallsNone (Some x) n f
quiet_on v x n Idle q = q
quiet_on v x n (Calls call) q = absurd q
quiet_on v x n (Carries answer) q = tt

quiet_carried : (v : Visit) (n : ℕ) (f : Calling) → CallsNone (Some v) n f → (b : Bool) → cond b (carried_call f) f ≡ f
quiet_carried v n f q false = refl
quiet_carried v n Idle q true = refl
quiet_carried v n (Calls call) q true = absurd q
quiet_carried v n (Carries answer) q true = refl

-- a CPU that was between two turns, and has made one with a new phase
abbrev turned_at : KnownStops → ℕ → ℕ → Work → Calling → KnownStops
turned_at k p s w f = record k {
  seat = In s w p p Rests;
  part = record (k.part) {
    looks = k.part.looks ++ p ∷ [];
    readings = cond (p == EXIT) (first_readings k.number s w) k.part.readings;
    calling = cond (p == RUN) (carried_call f) f;
  };
}

passed_is : (k : KnownStops) (s : ℕ) (w : Work) (a p : ℕ) → k.seat ≡ In s w a a Rests → passed_known p k ≡ turned_at k p s w k.part.calling
passed_is k s w a p e = ap (λ x. passed_by (looked_to p x) (record k { seat = looked_to p x; part = record (k.part) { looks = k.part.looks ++ p ∷ [] } })) e

looked_is : (k : KnownStops) (s : ℕ) (w : Work) (a : ℕ) → k.seat ≡ In s w a a Rests
    → looked_known a k ≡ record k { part = record (k.part) { looks = k.part.looks ++ a ∷ [] } }
looked_is k s w a e = ap (λ x. record k { seat = looked_to a x; part = record (k.part) { looks = k.part.looks ++ a ∷ [] } }) e
    ∙ ap (λ x. record k { seat = x; part = record (k.part) { looks = k.part.looks ++ a ∷ [] } }) (sym e)

ran_is : (k : KnownStops) (s : ℕ) (w : Work) (a : ℕ) (y : ℤ) → k.seat ≡ In s w a a Rests
    → passed_by (looked_to RUN k.seat) (answered_now y (looked_known RUN k))
    ≡ turned_at (carrying (answer_word y) k) RUN s w (Calls (call_with w 0))
ran_is k s w a y e = ap (λ x. passed_by (looked_to RUN x) (answered_now y (record k {
  seat = looked_to RUN x;
  part = record (k.part) { looks = k.part.looks ++ RUN ∷ [] };
}))) e

abbrev patched_at : KnownStops → ℕ → Work → ℕ → KnownStops
patched_at k s w count = let next = turned_at (carrying (patch_answer w count) k) RUN s w (Carries 0) in
    record next { part = record (next.part) { patched = patched_with w count k.part.patched } }

patched_is : (k : KnownStops) (s : ℕ) (w : Work) (a count : ℕ) → k.seat ≡ In s w a a Rests
    → patched_by count (looked_to RUN k.seat) (looked_known RUN k) ≡ patched_at k s w count
patched_is k s w a count e = ap (λ x. patched_by count (looked_to RUN x) (record k {
  seat = looked_to RUN x;
  part = record (k.part) { looks = k.part.looks ++ RUN ∷ [] };
})) e

-- what a turn leaves: another seat, part, answer and number of steps, with which the CPU calls no function
record Turned (k m : KnownStops) (x : Visit) : Type 0 where
  seat : StopRole
  part : StopPart
  carried : ℕ
  steps : ℕ
  is : m ≡ record k { seat = seat; part = part; carried = carried; steps = steps }
  holds : part.holds ≡ k.part.holds
  quiet : CallsNone (Some x) carried part.calling

module _ {F : Type 0} (leads : F → Called → F → Type 0) (t : TableId) (d e : SeatValue) (number : ℕ) (v x : Visit) (holds is_open : Bool)
    (k : IsKept d.known number (Some v) holds is_open) (f g : F) (a : AtTurn t e x x.acked Rests) (table : d.table ≡ t) where
  abbrev w : Work
  w = k.rests.0

  is : d.known.seat ≡ In v.slot w v.acked v.acked Rests
  is = k.rests.2

  abbrev stop : Inside
  stop = record { slot = v.slot; work = w; acked = v.acked }

  abbrev old : CpuValue
  old = cpu_of d

  ran_turned : (kind : Kind) → HasRunFunction leads d.known e.known v x f g kind → Turned d.known e.known x
  ran_turned One h = absurd h
  ran_turned Multi h = record {
    seat = In v.slot w RUN RUN Rests;
    part = (turned_at d.known RUN v.slot w (Calls (call_with w 0))).part;
    carried = answer_word h.0;
    steps = d.known.steps + 4;
    is = h.1 ∙ ap (stepped 4) (ran_is d.known v.slot w v.acked h.0 is);
    holds = refl;
    quiet = tt;
  }
  ran_turned Patch h = record {
    seat = In v.slot w RUN RUN Rests;
    part = (patched_at d.known v.slot w h.0).part;
    carried = patch_answer w h.0;
    steps = d.known.steps + (5 + patching d.known.setting (work_in d.known.seat) h.0);
    is = h.2 ∙ ap (stepped (5 + patching d.known.setting (work_in d.known.seat) h.0)) (patched_is d.known v.slot w v.acked h.0 is);
    holds = refl;
    quiet = tt;
  }

  passed_turned : (p n : ℕ) → e.known ≡ stepped n (passed_known p d.known) → Turned d.known e.known x
  passed_turned p n same = record {
    seat = In v.slot w p p Rests;
    part = (turned_at d.known p v.slot w d.known.part.calling).part;
    carried = d.known.carried;
    steps = d.known.steps + n;
    is = same ∙ ap (stepped n) (passed_is d.known v.slot w v.acked p is);
    holds = refl;
    quiet = subst (λ z. CallsNone (Some x) d.known.carried z) (sym (quiet_carried v d.known.carried d.known.part.calling k.quiet (p == RUN)))
        (quiet_on v x d.known.carried d.known.part.calling k.quiet);
  }

  turned : (turn : Turn) → TurnAnswers leads d.known e.known v x f g turn → Turned d.known e.known x
  turned Same h = record {
    seat = d.known.seat;
    part = record (d.known.part) { looks = d.known.part.looks ++ v.acked ∷ [] };
    carried = d.known.carried;
    steps = d.known.steps + 1;
    is = h.0 ∙ ap (stepped 1) (looked_is d.known v.slot w v.acked is);
    holds = refl;
    quiet = quiet_on v x d.known.carried d.known.part.calling k.quiet;
  }
  turned (Moved p) h = passed_turned p 2 h.3
  turned Ran h = ran_turned v.kind h.2
  turned Left h = passed_turned EXIT 2 h.1

  pub advance_kept : (turn : Turn) → TurnAnswers leads d.known e.known v x f g turn → Lives e.known → IsKept e.known number (Some x) holds is_open
  advance_kept turn h lives =
      let r = turned turn h in
      record {
        number_is = ap (λ (z : KnownStops). z.number) r.is ∙ k.number_is;
        below = k.below;
        online = ap (λ (z : KnownStops). has z.setting.online number) r.is ∙ k.online;
        rests = (work_in e.known.seat, a.loaded, a.seat_is);
        low = a.low;
        quiet = subst (λ (z : KnownStops). CallsNone (Some x) z.carried z.part.calling) (sym r.is) r.quiet;
        holds_is = k.holds_is ∙ sym (ap (λ (z : KnownStops). z.part.holds) r.is ∙ r.holds);
        owns = subst (OwnsIf is_open) (sym (ap (λ (z : KnownStops). z.source) r.is)) k.owns;
        lives = lives;
      }

  -- what contracts see of the same

  view : (z : KnownStops) → e.known ≡ z → cpu_of e ≡ cpu_of (record { table = d.table; known = z })
  view z same = λ i. cpu_of (record { table = (a.table_is ∙ sym table) i; known = same i })

  work_is : w ≡ work_in d.known.seat
  work_is = sym (ap work_in is)

  active_is : has w.active d.known.number ≡ has v.active d.known.number
  active_is = ap (λ m. has m d.known.number) (sym k.rests.1.active)

  -- a phase in which it calls no function
  moved_view : (p n : ℕ) (rs : List Reading) → e.known ≡ stepped n (passed_known p d.known) →
      cond (p == EXIT) (first_readings d.known.number v.slot w) d.known.part.readings ≡ rs →
      cpu_of e ≡ makes n (record (acknowledges stop p (nat_lt p DISABLE_IRQ || p == EXIT) old) {
        part = record (part_with d.known.carried d.known) { looks = d.known.part.looks ++ p ∷ []; readings = rs };
      })
  moved_view p m rs same reads =
      let n = d.known.number in
      let c = d.known.part.calling in
      let same_call = quiet_carried v d.known.carried c k.quiet (p == RUN) in
      view (stepped m (turned_at d.known p v.slot w c)) (same ∙ ap (stepped m) (passed_is d.known v.slot w v.acked p is)) ∙
      (λ i. makes m (record (acknowledges stop p (nat_lt p DISABLE_IRQ || p == EXIT) old) {
        part = record (d.known.part) {
          looks = d.known.part.looks ++ p ∷ [];
          readings = reads i;
          calls = calls_with d.known.carried n (work_is i) d.known.part.calls (same_call i);
          calling = with_answer d.known.carried (same_call i);
        };
      }))

  idle : v.acked ≡ DISABLE_IRQ → d.known.part.calling ≡ Idle
  idle two = idle_before d.known v v.slot v.acked v.acked w Rests k.lives is (omega (arith, two)) k.quiet

  -- the CPU that has looked at RUN, and has loaded its key and its change
  abbrev at_run : SeatValue
  at_run = record { table = d.table; known = stepped 3 (looked_known RUN d.known) }

  at_run_view : v.acked ≡ DISABLE_IRQ → cpu_of at_run ≡ makes 3 (looks RUN old)
  at_run_view two =
      let there : d.known.seat ≡ In v.slot w DISABLE_IRQ DISABLE_IRQ Rests = is ∙ ap (λ n. In v.slot w n n Rests) two in
      let P : StopRole → CpuValue = λ y. cpu_of (record {
        table = d.table;
        known = stepped 3 (record (d.known) { seat = looked_to RUN y; part = record (d.known.part) { looks = d.known.part.looks ++ RUN ∷ [] } });
      }) in
      let Q : StopRole → CpuValue = λ y. makes 3 (looks RUN (cpu_of (record { table = d.table; known = record (d.known) { seat = y } }))) in
      ap P there ∙ sym (ap Q there)

  finds : (count : ℕ) → v.acked ≡ DISABLE_IRQ → StopMoment (stepped 3 (looked_known RUN d.known)) (Key (work_in d.known.seat).func) count
      → FindsCount (makes 3 (looks RUN old)) w.func count
  finds count two m =
      let free : HasNotGiven (looked_to RUN d.known.seat) = subst (λ y. HasNotGiven (looked_to RUN y)) (sym is) tt in
      subst (λ (z : CpuValue). FindsCount z w.func count) (at_run_view two) (finds_count at_run w.func count free
      (subst (λ (z : Work). StopMoment (stepped 3 (looked_known RUN d.known)) (Key z.func) count) (sym work_is) m))

  runs_at : (kind : Kind) → v.kind ≡ kind → v.acked ≡ DISABLE_IRQ → has v.active d.known.number ≡ true → HasRunFunction leads d.known e.known v x f g kind
      → RunsAt leads stop old (cpu_of e) f g kind
  runs_at One e_ two on h = absurd h
  runs_at Multi kind two on h =
      let y = answer_word h.0 in
      let calls : calls_at_run d.known.number w ≡ true =
      ap (λ b. b && is_multi w.kind) (active_is ∙ on) ∙ ap is_multi (sym k.rests.1.kind ∙ kind) in
      let mine = turned_at (carrying y d.known) RUN v.slot w (Calls (call_with w 0)) in (
        h.0,
        view (stepped 4 mine) (h.1 ∙ ap (stepped 4) (ran_is d.known v.slot w v.acked h.0 is)) ∙ (
            ap (λ b. makes 4 (record (cpu_of (record { table = d.table; known = mine })) {
              part = record (mine.part) { calls = cond b (d.known.part.calls ++ call_with w y ∷ []) d.known.part.calls; calling = Carries y };
            })) calls ∙
            ap (λ (z : StopPart). makes 4 (carries y (runs (call_with w y) (acknowledges stop RUN false (record old { part = z })))))
            (sym (idle_part d.known.carried d.known (idle two)))),
        subst (λ (z : Work). leads f (called d.known.number z.func z.arg h.0) g) (sym work_is) h.3,
      )
  runs_at Patch kind two on h =
      let y = patch_answer w h.0 in
      let none : calls_at_run d.known.number w ≡ false =
      ap (λ b. b && is_multi w.kind) (active_is ∙ on) ∙ ap is_multi (sym k.rests.1.kind ∙ kind) in
      let mine = patched_at d.known v.slot w h.0 in
      let many = λ (z : Work). 5 + patching d.known.setting z h.0 in
      let m = many w in
      let same = h.2 ∙ (ap (λ (z : Work). stepped (many z) (patched_by h.0 (looked_to RUN d.known.seat) (looked_known RUN d.known))) (sym work_is)
      ∙ ap (stepped m) (patched_is d.known v.slot w v.acked h.0 is)) in (
        h.0,
        view (stepped m mine) same ∙ (
            ap (λ b. makes m (record (cpu_of (record { table = d.table; known = mine })) {
              part = record (mine.part) { calls = cond b (d.known.part.calls ++ call_with w y ∷ []) d.known.part.calls; calling = Carries y };
            })) none ∙
            ap (λ (z : StopPart). makes m (carries y (patches w h.0 (acknowledges stop RUN false (record old { part = z })))))
            (sym (idle_part d.known.carried d.known (idle two)))),
        h.4,
        finds h.0 two h.1,
      )

  pub advances : (turn : Turn) → TurnAnswers leads d.known e.known v x f g turn → Advances leads stop old (cpu_of e) f g turn
  advances Same h = (
    view (stepped 1 (record (d.known) { part = record (d.known.part) { looks = d.known.part.looks ++ v.acked ∷ [] } }))
        (h.0 ∙ ap (stepped 1) (looked_is d.known v.slot w v.acked is)),
    h.2,
  )
  advances (Moved p) h = (
    h.0,
    h.1,
    (λ run. active_is ∙ h.2 run),
    moved_view p 2 d.known.part.readings h.3
        (ap (λ b. cond b (first_readings d.known.number v.slot w) d.known.part.readings) (ne_eqb p EXIT h.1)) ∙
        ap (λ b. makes 2 (acknowledges stop p b old)) (on_before (nat_lt p DISABLE_IRQ) (p == EXIT) (ne_eqb p EXIT h.1)),
    h.5,
  )
    where
      on_before : (b c : Bool) → c ≡ false → (b || c) ≡ b
      on_before true c e = refl
      on_before false c e = e
  advances Ran h = (
    h.0,
    active_is ∙ h.1,
    subst (RunsAt leads stop old (cpu_of e) f g) k.rests.1.kind
        (runs_at v.kind refl h.0 h.1 h.2),
  )
  advances Left h = (h.0, moved_view EXIT 2 (first_readings d.known.number v.slot w) h.1 refl, h.3)

  pub advance_answers : v.kind ≢ One → v.acked ≢ EXIT → (turn : Turn) → TurnAnswers leads d.known e.known v x f g turn →
      AdvanceAnswers leads old (cpu_of e) f g (Ok turn)
  advance_answers several more turn h = (
    record { stop = stop; is = ap inside_of is; several = λ one. several (k.rests.1.kind ∙ one); not_left = more },
    advances turn h,
  )
