-- A nudge of a key's count.
use Rattle.std.proofs.Common.{◌≡◌, ◌≢◌, ℕ, ◌<◌, ◌==◌, Bool, true, false, not, Result, Ok, Err, Some, None, sym, subst, refl, ap, ◌∙◌, eq-eqb}
use Rattle.atomic_table.specs.Seated.{TableId}
use Rattle.std.specs.Bool.{beq}
use Rattle.smp_labels.specs.Keys.{is_on, count_after}
use Rattle.smp_labels.specs.declared.words.TheConstants.{MOST_KEYS}
use Rattle.smp_mask.specs.Mask.{has}
use Rattle.smp_mask.specs.declared.error.SmpError.{SmpError}
use Rattle.smp_mask.specs.declared.error.SmpError.TheVariants as error
use Rattle.smp_multi.specs.Lives.{Lives, StopMoment}
use Rattle.smp_stop_steps.specs.Threads.Moves.{Nudge as NudgeKey}
use Rattle.smp_stop_steps.specs.Seats.{irq_of}
use Rattle.smp_stop_steps.specs.Sits.{IsNudge}
use Rattle.smp_stop_steps.specs.Stages.{nudge_of}
use Rattle.smp_multi.specs.Names.{Key, Exchange, KnownStops}
use Rattle.smp_multi.specs.Cpu.{cpu_of}
use Rattle.smp_multi.specs.Nudges.{LoadsCount, NudgeAnswers, NudgeKnown, StaysOn, loads_known, lost_known, nudged_known}
use Rattle.smp_multi.specs.Reads.{MayRead}
use Rattle.smp_multi.specs.Seat.{SeatValue, Ready}
use Rattle.smp_multi.specs.declared.nudge.Nudge.{Nudge}
use Rattle.smp_multi.specs.declared.nudge.Nudge.TheVariants.{Done, Lost, Stop}
use Rattle.smp_multi.proofs.Cells.{key_cell}
use Rattle.smp_multi.proofs.Reading.{reads_table}
use Rattle.smp_multi.proofs.Showing.{HasNotGiven, lives_at, finds_count}

pub ready_nudge : (t : TableId) (d : SeatValue) → MayRead t d → (k count next : ℕ) → k < MOST_KEYS → IsNudge count next
    → Ready t d (Exchange (Key k) count next)
ready_nudge t d m k count next low nudge = record {
  able = record {
    table_is = m.table_is;
    sized = m.sized;
    can = record { move = NudgeKey k count next; may = (m.irq, m.online, low, nudge); is_access = refl };
    cell = key_cell k low;
    fits = tt;
  };
  apart = tt;
}

-- a count that leaves a key as it is at m is none that turns it
kept_apart : (next n m : ℕ) → Some n ≡ Some next → is_on next ≡ is_on m → is_on n ≢ is_on m → ⊥
kept_apart next n m e same ne = let is : n ≡ next = cc in ne (ap is_on is ∙ same)

on_is_not_off : is_on 1 ≢ is_on 0
on_is_not_off e = let bad : true ≡ false = e in cc

-- a count whose next leaves the key on or off as it is: it is none at which that can't be
pub stays_on : (up : Bool) (count next : ℕ) → count_after (nudge_of up) count ≡ Some next → is_on next ≡ is_on count → StaysOn up count
stays_on true count next e same = (
  λ edge. let bad : None ≡ Some next = subst (λ n. count_after (nudge_of true) n ≡ Some next) edge e in cc,
  λ turn. let is : Some 1 ≡ Some next = subst (λ n. count_after (nudge_of true) n ≡ Some next) turn e in
      kept_apart next 1 0 is (subst (λ n. is_on next ≡ is_on n) turn same) on_is_not_off,
)
stays_on false count next e same = (
  λ edge. let bad : None ≡ Some next = subst (λ n. count_after (nudge_of false) n ≡ Some next) edge e in cc,
  λ turn. let is : Some 0 ≡ Some next = subst (λ n. count_after (nudge_of false) n ≡ Some next) turn e in
      kept_apart next 0 1 is (subst (λ n. is_on next ≡ is_on n) turn same) (λ x. on_is_not_off (sym x)),
)

pub same_tests : (a b : Bool) → not (beq a b) ≡ false → a ≡ b
same_tests true true e = refl
same_tests false false e = refl
same_tests true false e = cc
same_tests false true e = cc

-- an exchange that was not won has found another count
pub found_other : (found count : ℕ) (b : Bool) → b ≡ (found == count) → b ≡ false → found ≢ count
found_other found count b is lost same = let bad : true ≡ false = sym (eq-eqb found count same) ∙ (sym is ∙ lost) in cc

-- the CPU that has loaded a count
abbrev loaded : SeatValue → ℕ → ℕ → SeatValue
loaded d k count = record { table = d.table; known = loads_known k count d.known }

module _ (d e : SeatValue) (k : ℕ) (up : Bool) (table : e.table ≡ d.table) (lives : Lives e.known)
    (online : has d.known.setting.online d.known.number ≡ true) (on : irq_of d.known.seat ≡ true) (low : k < d.known.setting.labels.keys)
    (free : HasNotGiven d.known.seat) where
  loads : (count : ℕ) → StopMoment d.known (Key k) count → Lives (loads_known k count d.known) → LoadsCount (cpu_of d) k count
  loads count m l = record { key = (low, on); finds = finds_count d k count free m; reads = reads_table (loaded d k count) l online on }

  same_view : (w : KnownStops) → e.known ≡ w → cpu_of e ≡ cpu_of (record { table = d.table; known = w })
  same_view w same = λ i. cpu_of (record { table = table i; known = same i })

  lives_as : (w : KnownStops) → e.known ≡ w → Lives w
  lives_as w same = subst Lives same lives

  pub nudge_answers : (r : Result Nudge SmpError) → NudgeKnown k up d.known e.known r → NudgeAnswers k up (cpu_of d) (cpu_of e) r
  nudge_answers (Ok Done) h =
      let n = h.0 in
      (n, loads n h.1 (lives_at _ (Key k) n h.3), h.2, finds_count (loaded d k n) k n free h.3, same_view (nudged_known up k (loads_known k n d.known)) h.4)
  nudge_answers (Ok Lost) h =
      let n = h.0 in (
        n,
        h.1,
        loads n h.2 (lives_at _ (Key k) h.1 h.4),
        h.3,
        finds_count (loaded d k n) k h.1 free h.4,
        h.5,
        same_view
            (lost_known k (loads_known k n d.known)) h.6,
      )
  nudge_answers (Ok Stop) h = let n = h.0 in let w = loads_known k n d.known in (n, loads n h.1 (lives_as w h.3), h.2, same_view w h.3)
  nudge_answers (Err (error.KeyRange x)) h = let n = h.0 in let w = loads_known k n d.known in (n, loads n h.1 (lives_as w h.4), h.2, h.3, same_view w h.4)
  nudge_answers (Err _) h = absurd h
