-- The looks of a source, and the result that it collects.
use Rattle.std.proofs.Common.{◌≡◌, ℕ, ◌==◌, not, Bool, true, false, cond, Option, Some, None, Ok, [], ◌∷◌, ◌++◌, sym, refl, ap, subst, ◌∙◌, eqb-true}
use Rattle.atomic_table.specs.Seated.{TableId}
use Rattle.smp_stop_steps.specs.AnswerWords.{IsI32Word}
use Rattle.smp_stop_steps.specs.Threads.Known.{noting, stepped}
use Rattle.smp_multi.specs.Lives.{StopMoment}
use Rattle.smp_stop_steps.specs.Threads.KnownAfter.{done_by, done_known}
use Rattle.smp_stop_steps.specs.declared.stage.Visit.{Visit}
use Rattle.smp_stop_steps.specs.Threads.Moves.{LookDone, Collect}
use Rattle.smp_multi.specs.Names.{Slot, KnownStops, Load, Source, Owns, Collects}
use Rattle.smp_multi.specs.Names.own
use Rattle.smp_multi.specs.Names.field
use Rattle.smp_multi.specs.Answers.{PollAnswers}
use Rattle.smp_multi.specs.Cpu.{IsKept, cpu_of}
use Rattle.smp_multi.specs.Laws.{Finds}
use Rattle.smp_multi.specs.Places.{pending_of}
use Rattle.smp_multi.specs.Polls.{IsOwner, HasFound, own_work, looked}
use Rattle.smp_multi.specs.Seat.{SeatValue, Ready}
use Rattle.smp_multi.proofs.Cells.{slot_cell}
use Rattle.smp_multi.proofs.Showing.{finds, rests_ungiven}

module _ (t : TableId) (d : SeatValue) (number : ℕ) where
  pub ready_done : IsOwner t d number → Ready t d (Load (Slot number field.Done))
  ready_done a = record {
    able = record {
      table_is = a.table_is;
      sized = a.sized;
      can = record { move = LookDone (own_work d.known.source); may = a.owns; is_access = ap (λ n. Load (Slot n field.Done)) a.number_is };
      cell = slot_cell number field.Done a.below;
      fits = tt;
    };
    apart = tt;
  }

  pub ready_collect : HasFound t d number → Ready t d (Load (Slot number field.Result))
  ready_collect a = record {
    able = record {
      table_is = a.table_is;
      sized = a.sized;
      can = record { move = Collect (own_work d.known.source); may = a.collects; is_access = ap (λ n. Load (Slot n field.Result)) a.number_is };
      cell = slot_cell number field.Result a.below;
      fits = tt;
    };
    apart = tt;
  }

  abbrev told : Bool → Source → KnownStops
  told c y = stepped 1 (record (d.known) { source = y; moves = cond c (d.known.moves ++ own.NotDone ∷ []) d.known.moves })

  pub known_done : (found : ℕ) → IsOwner t d number → (b : Bool) → b ≡ not (found == 0)
      → stepped 1 (done_known found d.known) ≡ looked b d.known
  known_done found a b e = ap (λ (y : Source). told (found == 0) (done_by found y)) a.owns ∙ (go (found == 0) ∙ ap (λ c. looked c d.known) (sym e))
    where
      go : (c : Bool) → told c (cond c (Owns (own_work d.known.source)) (Collects (own_work d.known.source))) ≡ looked (not c) d.known
      go true = refl
      go false = refl

-- a result has the bits of an i32
pub result_fits : (v : KnownStops) (s n : ℕ) → StopMoment v (Slot s field.Result) n → IsI32Word n
result_fits v s n m = subst IsI32Word (sym m.number_is) (m.within.results s)

-- a CPU that has found done not set
pub poll_none : (d e : SeatValue) (number : ℕ) (visit : Option Visit) (holds : Bool) (n : ℕ) (b : Bool) → IsKept d.known number visit holds true
    → e.table ≡ d.table → e.known ≡ looked b d.known → StopMoment d.known (Slot number field.Done) n → b ≡ not (n == 0) → b ≡ false →
    PollAnswers (cpu_of d) (cpu_of e) (Ok None)
poll_none d e number visit holds n b kept table same m is none =
    let w = kept.owns.0 in
    let vain : KnownStops = stepped 1 (noting own.NotDone d.known) in
    let owned : looked false d.known ≡ vain = ap (λ y. record vain { source = Owns (own_work y) }) kept.owns.1
    ∙ sym (ap (λ y. record vain { source = y }) kept.owns.1) in
    let known : e.known ≡ vain = same ∙ (ap (λ c. looked c d.known) none ∙ owned) in
    let found : Finds (cpu_of d) (Slot number field.Done) n = finds d (Slot number field.Done) n (rests_ungiven visit d.known.seat kept.rests) m in (
      (λ (closed : pending_of d.known.source ≡ None). let some : pending_of d.known.source ≡ Some w = ap pending_of kept.owns.1 in
          let bad : None ≡ Some w = sym closed ∙ some in cc),
      (λ i. cpu_of (record { table = table i; known = known i })),
      subst (λ k. Finds (cpu_of d) (Slot k field.Done) 0) (sym kept.number_is)
          (subst (Finds (cpu_of d) (Slot number field.Done)) (at_zero (n == 0) refl (sym (sym is ∙ none))) found),
    )
  where
    at_zero : (c : Bool) → (n == 0) ≡ c → false ≡ not c → n ≡ 0
    at_zero true e f = eqb-true n 0 e
    at_zero false e f = cc
