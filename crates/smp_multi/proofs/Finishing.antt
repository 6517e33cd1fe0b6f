-- A CPU that completes a stop of several CPUs: where it is, and what that leaves of its value.
use Rattle.std.proofs.Common.{◌≡◌, ◌≢◌, ℕ, Ok, ◌&&◌, ◌||◌, Bool, false, cond, Some, ◌∷◌, [], ◌++◌, slice_index_or, slice_set, inl, sym}
use Rattle.std.proofs.Common.{subst, refl, ap, ◌∙◌, arith}
use Rattle.atomic_table.specs.Seated.{TableId}
use Rattle.smp_mask.specs.Mask.{has}
use Rattle.smp_stop_steps.specs.Callings.{IsCalling, answer_in, with_answer}
use Rattle.smp_stop_steps.specs.Threads.Known.{carrying, stepped, told_calling}
use Rattle.smp_stop_steps.specs.Threads.KnownAfter.{completed_with, has_called}
use Rattle.smp_stop_steps.specs.Tells.{calls_at_run, is_multi, is_one}
use Rattle.smp_words.specs.declared.phase.TheConstants.{EXIT}
use Rattle.smp_stop_steps.specs.declared.stage.Visit.{Visit}
use Rattle.smp_multi.specs.Names.{Work, Kind, One, Multi, Patch, StopRole, In, Rests, Calling, Idle, Calls, Carries}
use Rattle.smp_multi.specs.Advance.{FinishAnswers, completes}
use Rattle.smp_multi.specs.Cells.{cells}
use Rattle.smp_multi.specs.Completes.{AtEnd}
use Rattle.smp_multi.specs.Cpu.{CallsNone, IsKept, answers, call_with, calls_with, cpu_of, inside_of, makes}
use Rattle.smp_multi.specs.Places.{work_in}
use Rattle.smp_multi.specs.Seat.{SeatValue}
use Rattle.smp_multi.specs.StepCounts.{completing}
use Rattle.smp_multi.proofs.Kept.{owned_idle}

-- who calls none completes with the answer that it carries, and calls none with 0
quiet_answer : (v : Visit) (x : ℕ) (f : Calling) → CallsNone (Some v) x f → answer_in (with_answer x f) ≡ x
quiet_answer v x Idle q = sym q
quiet_answer v x (Calls call) q = absurd q
quiet_answer v x (Carries answer) q = refl

is_several : (k : Kind) → k ≢ One → is_one k ≡ false
is_several One ne = absurd (ne refl)
is_several Multi ne = refl
is_several Patch ne = refl

module _ (t : TableId) (d : SeatValue) (number : ℕ) (v : Visit) (holds is_open : Bool) (k : IsKept d.known number (Some v) holds is_open)
    (several : v.kind ≢ One) (left : v.acked ≡ EXIT) where
  abbrev w : Work
  w = k.rests.0

  abbrev me : ℕ
  me = d.known.number

  abbrev x : ℕ
  x = d.known.carried

  is : d.known.seat ≡ In v.slot k.rests.0 EXIT EXIT Rests
  is = k.rests.2 ∙ (λ i. In v.slot k.rests.0 (left i) (left i) Rests)

  kind : k.rests.0.kind ≢ One
  kind one = several (k.rests.1.kind ∙ one)

  pub at_end : d.table ≡ t → t.words ≡ cells → AtEnd t d v.slot EXIT
  at_end table sized = record {
    table_is = table;
    sized = sized;
    low = k.low;
    idle = owned_idle is_open d.known.source k.owns;
    seat_is = is ∙ sym (ap (λ (x : StopRole). In v.slot (work_in x) EXIT EXIT Rests) is);
    through = inl refl;
  }

  -- who carries no answer is not active
  inactive : d.known.part.calling ≡ Idle → has w.active me ≡ false
  inactive idle = go (k.lives.stops.calling me) here (k.lives.sees.part_is.calling ∙ idle)
    where
      here : IsCalling me (In v.slot w EXIT EXIT Rests) (k.lives.stops.calling me)
      here = subst (λ y. IsCalling me y (k.lives.stops.calling me)) (k.lives.sees.seat_is ∙ is) (k.lives.shown.callings me)

      go : (f : Calling) → IsCalling me (In v.slot w EXIT EXIT Rests) f → told_calling f ≡ Idle → has w.active me ≡ false
      go Idle h e = h (omega arith)
      go (Calls call) h e = cc
      go (Carries answer) h e = cc

  -- an active CPU of a Multi stop has called its function, and no other has
  has_run : (f : Calling) → f ≡ d.known.part.calling → calls_with x me (work_in d.known.seat) d.known.part.calls f
      ≡ cond (has_called me w) (d.known.part.calls ++ call_with w x ∷ []) d.known.part.calls
  has_run Idle e = sym (ap (λ b. cond b (d.known.part.calls ++ call_with w x ∷ []) d.known.part.calls)
      (ap (λ b. b || calls_at_run me w) (is_several w.kind kind) ∙ ap (λ b. b && is_multi w.kind) (inactive (sym e))))
  has_run (Calls call) e = absurd (let P : Calling → Type 0 = λ f. CallsNone (Some v) x f in subst P (sym e) k.quiet)
  has_run (Carries answer) e =
      ap (λ (z : Work). cond (calls_at_run me z) (d.known.part.calls ++ call_with z x ∷ []) d.known.part.calls) (ap work_in is) ∙
      sym (ap (λ b. cond (b || calls_at_run me w) (d.known.part.calls ++ call_with w x ∷ []) d.known.part.calls) (is_several w.kind kind))

  -- its value once it has completed
  finished_view : (e : SeatValue) → e.table ≡ d.table
      → e.known ≡ stepped (completing x) (completed_with 0 v.slot (work_in d.known.seat) x (carrying 0 d.known))
      → cpu_of e ≡ completes v.slot (cpu_of d)
  finished_view e table same =
      let known : e.known ≡ stepped (completing x) (completed_with 0 v.slot w x (carrying 0 d.known))
      = same ∙ ap (λ (z : Work). stepped (completing x) (completed_with 0 v.slot z x (carrying 0 d.known))) (ap work_in is) in
      let answer = quiet_answer v x d.known.part.calling k.quiet in
      let calls = has_run d.known.part.calling refl in
      (λ i. cpu_of (record { table = table i; known = known i })) ∙
      (λ i. record (makes (completing (sym answer i)) (answers v.slot (sym answer i) (cpu_of d))) {
        part = record (d.known.part) {
          calling = Idle;
          answers = slice_set d.known.part.answers v.slot (slice_index_or d.known.part.answers v.slot [] ++ sym answer i ∷ []);
          calls = sym calls i;
        };
      })

  pub finish_answers : (e : SeatValue) → e.table ≡ d.table
      → e.known ≡ stepped (completing x) (completed_with 0 v.slot (work_in d.known.seat) x (carrying 0 d.known))
      → (u : Unit) → FinishAnswers (cpu_of d) (cpu_of e) (Ok u)
  finish_answers e table same u = (
    record {
      stop = record { slot = v.slot; work = w; acked = v.acked };
      is = ap inside_of k.rests.2;
      several = kind;
      left = left;
    },
    finished_view e table same,
  )
