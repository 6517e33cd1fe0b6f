-- What a table that was closed with one of its seats shows.
use Rattle.std.proofs.Common.{◌≡◌, ◌≢◌, ℕ, ◌%◌, ◌^◌, ◌<◌, ◌≤◌, ◌==◌, nat_lt, Bool, true, false, not, List, length, sym, refl, ap, ◌∙◌, arith, true≢false, inl}
use Rattle.std.proofs.Common.{inr}
use mathlib.Core.Option.{some}
use lib.ListN.{get_elem?}
use Rattle.std.proofs.lemmas.Bool.{eqb-true, eq-eqb, ltb-true, ltb-false}
use Rattle.atomic_table.specs.Table.{State}
use Rattle.smp_words.specs.Size.{cpus, records}
use Rattle.smp_call_steps.specs.Calls.{no_calls}
use Rattle.smp_call_steps.specs.Histories.{sent_to, calls_from}
use Rattle.smp_call_steps.specs.Threads.Known.{told_stage}
use Rattle.smp_call_steps.specs.Threads.Parts.{part_of}
use Rattle.smp_queue.specs.{Hand, Queued, Ran, Flags, KnownCalls, CallPart, CallSetting, CallSeatView, Left, Closes}
use Rattle.smp_queue.specs.{ClosesWith, AuditAnswers, HaveRun, IfDrained}
use Rattle.smp_queue.specs.{AreEqual, HasRowsOf, HasZerosFrom, has_lock, has_hand, left_in, nothing_left, number_in, TableValue, CpuValue, setting_of, cpu_of}
use Rattle.smp_queue.specs.{SeatValue, Ruled, known, IsCpuSeat}
use Rattle.smp_queue.specs.Names.{Audit}
use Rattle.smp_queue.proofs.TheRule.Keeps.{knows_as}
use Rattle.smp_call_steps.proofs.State.Drained.{HasLaws, Still, still_queued, still_ran, equal_tallies, all_ran, all_sent}
use Rattle.smp_call_steps.proofs.ReachedLaws.{reached_laws}
use Rattle.smp_queue.proofs.Audits.Auditing.{count_none}
use Rattle.smp_queue.proofs.TheRule.Cells.{no_hand, no_flags}
use Rattle.smp_queue.specs.audit

-- its words show some calls, of which the seat knows its part
pub closes : {S : Type 0} (k : CallSetting) (s : State S CallSeatView) (r : Ruled k s) (id : ℕ) (u : CallSeatView) → IsCpuSeat u → get_elem? s.views id ≡ some u
    → Closes k (known u) s.words
closes k s r id u is at =
    let m = knows_as k r.calls r.controls r.seat r.next id u is (r.each_seat id u at) in
    let few = r.few in
    let low = m.0 in
    record {
      calls = r.calls;
      reached = r.reached;
      controls = r.controls;
      shown = r.shown;
      sees = m.3;
      setting_is = m.2;
      below = omega arith;
      absent = λ cpu far. r.absent cpu (λ _. omega arith);
      offline = λ cpu off. r.absent cpu (λ on. absurd (true≢false (sym on ∙ off)));
      quiet = r.quiet;
    }

no_lock : (n : ℕ) → (n % 2 == 1) ≡ false → n % 2 ≢ 1
no_lock n e f = true≢false (sym (eq-eqb (n % 2) 1 f) ∙ e)

no_number : (n : ℕ) (b : Bool) → (n == 0) ≡ b → not b ≡ false → n ≡ 0
no_number n true e f = eqb-true n 0 e
no_number n false e f = cc

-- where no record is locked and no handling word is not 0, each is so, also those that are not there
pub still : (words : List ℕ) → left_in (number_in words) ≡ nothing_left → Still (number_in words)
still words e = record {
  unlocked = λ id. unlocked id _ refl;
  outside = λ cpu. outside cpu _ refl;
}
  where
    unlocked : (id : ℕ) (b : Bool) → nat_lt id records ≡ b → number_in words (Flags id) % 2 ≢ 1
    unlocked id true t =
        no_lock (number_in words (Flags id)) (count_none (has_lock (number_in words)) records id (ap (λ (l : Left). l.locked) e) (ltb-true id records t))
    unlocked id false t = let z = no_flags words id (ltb-false id records t) in λ f. (let g = f in omega arith)

    outside : (cpu : ℕ) (b : Bool) → nat_lt cpu cpus ≡ b → number_in words (Hand cpu) ≡ 0
    outside cpu true t =
        no_number (number_in words (Hand cpu)) _ refl (count_none (has_hand (number_in words)) cpus cpu (ap (λ (l : Left). l.handling) e) (ltb-true cpu cpus t))
    outside cpu false t = no_hand words cpu (ltb-false cpu cpus t)

laws : {k : CallSetting} {v : KnownCalls} {words : List ℕ} (c : Closes k v words) → HasLaws c.calls (number_in words)
laws {k} {v} {words} c = reached_laws c.calls (number_in words) c.reached

-- the tallies of a table that is drained are equal
pub drained_equal : (k : CallSetting) (v : KnownCalls) (words : List ℕ) (answer : Audit) → Closes k v words → AuditAnswers (number_in words) answer
    → IfDrained answer AreEqual
drained_equal k v words (audit.Drained t) c a = λ source to s d. a.1.queued_are source to s d
    ∙ (equal_tallies (laws c) (still words a.0) source to ∙ sym (a.1.ran_are to source d s))
drained_equal k v words (audit.Left left) c a = tt

-- a CPU's rows are those of its part
pub drained_rows : (k : CallSetting) (d : SeatValue) (words : List ℕ) (answer : Audit) → k.nr ≤ cpus → Closes k d.known words
    → AuditAnswers (number_in words) answer
    → IfDrained answer (HasRowsOf (cpu_of d))
drained_rows k d words (audit.Drained t) within c a = λ other below.
    let me = d.known.number in
    let b = c.below in
    let l : me < cpus = omega arith in
    let at = number_in words in
    let s = still words a.0 in (
      a.1.queued_are me other l below ∙ (still_queued (laws c) s me other ∙ ap (λ (p : CallPart). length (sent_to other p.sent) % 2 ^ 64) c.sees.part),
      a.1.ran_are me other l below ∙ (still_ran (laws c) s me other ∙ ap (λ (p : CallPart). length (calls_from other p.ran) % 2 ^ 64) c.sees.part),
    )
drained_rows k d words (audit.Left left) within c a = tt

-- nothing was queued for or by a CPU that is not there
pub drained_zeros : (k : CallSetting) (v : KnownCalls) (words : List ℕ) (answer : Audit) → Closes k v words → AuditAnswers (number_in words) answer
    → IfDrained answer (HasZerosFrom k.nr)
drained_zeros k v words (audit.Drained t) c a = λ cpu other l m past. (
  a.1.queued_are cpu other l m ∙ elim past [ inl p ↦ none_queued cpu other p | inr p ↦ equal cpu other ∙ none_ran other cpu p ],
  a.1.ran_are cpu other l m ∙ elim past [ inl p ↦ none_ran cpu other p | inr p ↦ sym (equal other cpu) ∙ none_queued other cpu p ],
)
  where
    equal : (source cpu : ℕ) → number_in words (Queued source cpu) ≡ number_in words (Ran cpu source)
    equal = equal_tallies (laws c) (still words a.0)

    none : (cpu : ℕ) → k.nr ≤ cpu → part_of c.calls cpu ≡ part_of no_calls cpu
    none cpu p = let sees = c.absent cpu p in sees.part

    none_queued : (source cpu : ℕ) → k.nr ≤ source → number_in words (Queued source cpu) ≡ 0
    none_queued source cpu p = still_queued (laws c) (still words a.0) source cpu ∙ ap (λ (q : CallPart). length (sent_to cpu q.sent) % 2 ^ 64) (none source p)

    none_ran : (cpu source : ℕ) → k.nr ≤ cpu → number_in words (Ran cpu source) ≡ 0
    none_ran cpu source p = still_ran (laws c) (still words a.0) cpu source ∙ ap (λ (q : CallPart). length (calls_from source q.ran) % 2 ^ 64) (none cpu p)
drained_zeros k v words (audit.Left left) c a = tt

-- all its calls have run
pub drained_run : (t : TableValue) (last : CpuValue) (words : List ℕ) (answer : Audit) (c : ClosesWith t last words) → AuditAnswers (number_in words) answer
    → IfDrained answer (λ t. HaveRun c.calls)
drained_run t last words (audit.Drained tally) c a =
    let l = reached_laws c.calls (number_in words) c.reached in record { taken = all_sent l (still words a.0); ran = all_ran l (still words a.0) }
drained_run t last words (audit.Left left) c a = tt

-- the words by the value of the CPU that closed the table, and by what it knew

pub closes_with : (t : TableValue) (d : SeatValue) (words : List ℕ) → d.table ≡ t.table → t.nr ≤ cpus → Closes (setting_of t) d.known words
    → ClosesWith t (cpu_of d) words
closes_with t d words e within c = search arith

module _ (t : TableValue) (last : CpuValue) (words : List ℕ) (c : ClosesWith t last words) where
  abbrev pub last_seat : SeatValue
  last_seat = record {
    table = t.table;
    known =
        record {
          setting = setting_of t;
          number = last.number;
          stage = told_stage (c.controls last.number).stage;
          drain = (c.controls last.number).drain;
          part = part_of c.calls last.number;
          tried = last.tried;
          heads = last.heads;
          log = last.log;
          direct = last.direct;
          steps = last.steps;
          sent_at = last.sent_at;
          asked_at = last.asked_at;
          asked_after = last.asked_after;
        };
  }

  pub last_view : cpu_of last_seat ≡ last
  last_view = sym c.view

  pub last_closes : Closes (setting_of t) last_seat.known words
  last_closes = search arith
