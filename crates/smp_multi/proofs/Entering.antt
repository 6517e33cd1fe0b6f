-- The steps of a CPU that enters a stop: whose stop it is, and what is loaded of it.
use Rattle.std.proofs.Common.{◌≡◌, ℕ, ◌<◌, Bool, true, false, cond, Some, sym, subst, refl, ap, ◌∙◌}
use Rattle.std.proofs.lemmas.Bool.{and_parts}
use Rattle.atomic_table.specs.Seated.{TableId}
use Rattle.smp_mask.specs.Mask.{has}
use Rattle.smp_words.specs.Kinds.{kind_at}
use Rattle.smp_words.specs.Size.{cpus}
use Rattle.smp_stop_steps.specs.Threads.Known.{setup_in, stepped, told_source}
use Rattle.smp_multi.specs.Lives.{StopMoment}
use Rattle.smp_stop_steps.specs.Threads.KnownAfter.{entered_known}
use Rattle.smp_stop_steps.specs.Threads.Moves.{Enter, LoadField, IsPlain}
use Rattle.smp_stop_steps.specs.Slots.{IsWritten, SlotShows}
use Rattle.smp_stop_steps.specs.Sources.{SourceShows}
use Rattle.smp_stop_steps.specs.Stages.{all_but}
use Rattle.smp_stop_steps.specs.Stop.{Standing, Outside, Called, Stop, is_of, is_called}
use Rattle.smp_stop_steps.proofs.Steps.Facts.{work_words}
use Rattle.smp_stop_steps.proofs.Steps.Sources.{kind_back}
use Rattle.smp_multi.specs.Names.{Work, Slot, Field, Load, And, In, Source, Shut, Drafts, Owns, Collects, KnownStops, Duty}
use Rattle.smp_multi.specs.Names.field
use Rattle.smp_multi.specs.Places.{IsFree, HasEntered, IsCalled, entered, missed, pending_of}
use Rattle.smp_multi.specs.Seat.{SeatValue, Ready}
use Rattle.smp_multi.proofs.Cells.{slot_cell}

pub ready_roll : (t : TableId) (d : SeatValue) (number slot x : ℕ) → IsFree t d number → slot < cpus → x ≡ all_but number
    → Ready t d (And (Slot slot field.Roll) x)
ready_roll t d number slot x f low e = record {
  able = record {
    table_is = f.seated.table_is;
    sized = f.seated.sized;
    can =
        record {
          move = Enter slot;
          may = f.free;
          is_access = ap (λ n. And (Slot slot field.Roll) (all_but n)) f.seated.number_is
              ∙ ap (And (Slot slot field.Roll)) (sym e);
        };
    cell = slot_cell slot field.Roll low;
    fits = tt;
  };
  apart = tt;
}

-- what it knows after it
pub entered_or : (slot : ℕ) (work : Work) (b : Bool) (v : KnownStops) → stepped 1 (entered_known slot work b v) ≡ cond b (entered slot work v) (missed slot v)
entered_or slot work true v = refl
entered_or slot work false v = refl

called_is_of : (x : Standing) → is_called x ≡ true → is_of x ≡ true
called_is_of Outside e = cc
called_is_of Called e = refl
called_is_of _ e = cc

-- the stop whose roll has the CPU calls it
module _ (v : KnownStops) (slot found : ℕ) (m : StopMoment v (Slot slot field.Roll) found) where
  abbrev stop : Stop
  stop = m.stops.now.stop slot

  is_member : has found v.number ≡ true → (stop.is_open ≡ true) × (has stop.work.mask v.number ≡ true)
  is_member e =
      let shows : SlotShows cpus stop (λ f. m.at (Slot slot f)) = m.shown.present.slots slot in
      let on_roll = sym (shows.roll v.number) ∙ (ap (λ n. has n v.number) (sym m.number_is) ∙ e) in
      and_parts stop.is_open (has stop.work.mask v.number) (sym (shows.members v.number) ∙ called_is_of (stop.standing v.number) on_roll)

  is_own : stop.is_open ≡ true → slot ≡ v.number → pending_of v.source ≡ Some stop.work
  is_own opened same = go (m.source slot) (m.shown.sources slot) (ap (λ n. told_source (m.source n)) same ∙ m.sees.source_is)
    where
      go : (y : Source) → SourceShows (setup_in v.setting) m.stops.gate (m.stops.now.stop slot) (λ f. m.at (Slot slot f)) slot y → told_source y ≡ v.source
          → pending_of v.source ≡ Some (m.stops.now.stop slot).work
      go Shut shows e = cc
      go (Drafts w k) shows e = let shut = shows.shut in cc
      go (Owns w) shows e = subst (λ (x : Source). pending_of x ≡ Some (m.stops.now.stop slot).work) e (ap Some (sym shows.work_is))
      go (Collects w) shows e = subst (λ (x : Source). pending_of x ≡ Some (m.stops.now.stop slot).work) e (ap Some (sym shows.0.work_is))

  pub is_called_by : has found v.number ≡ true → IsCalled v slot (m.stops.now.stop slot).work
  is_called_by e = let a = is_member e in record { member = a.1; own = λ same. is_own a.0 same }

pub ready_plain : (t : TableId) (d : SeatValue) (slot : ℕ) (w : Work) (f : Field) → HasEntered t d slot w → IsPlain f → Ready t d (Load (Slot slot f))
ready_plain t d slot w f h plain = record {
  able =
      record {
        table_is = h.table_is;
        sized = h.sized;
        can = record { move = LoadField slot w 0 0 f; may = (plain, h.seat_is); is_access = refl };
        cell = slot_cell slot f h.low;
        fits = tt;
      };
  apart = tt;
}

pub entered_moved : (t : TableId) (d e : SeatValue) (slot : ℕ) (w : Work) (n : ℕ) → HasEntered t d slot w → e.table ≡ t → e.known ≡ stepped n d.known
    → HasEntered t e slot w
entered_moved t d e slot w n h table same = record {
  table_is = table;
  sized = h.sized;
  low = h.low;
  seat_is = ap (λ (k : KnownStops). k.seat) same ∙ h.seat_is;
}

-- what a CPU in a stop finds of its work
module _ (v : KnownStops) (slot : ℕ) (w : Work) (acked looked : ℕ) (duty : Duty) (is : v.seat ≡ In slot w acked looked duty) where
  pub finds_written : (f : Field) (n : ℕ) → StopMoment v (Slot slot f) n → (word : Field → ℕ) × IsWritten word w × (n ≡ word f)
  finds_written f n m = (
    (λ g. m.at (Slot slot g)),
    work_words (setup_in v.setting) m.stops m.at m.seat m.source m.shown slot v.number w acked looked duty
        (m.sees.seat_is ∙ is),
    m.number_is,
  )

  pub finds_kind : (n : ℕ) → StopMoment v (Slot slot field.Kind) n → kind_at n ≡ w.kind
  finds_kind n m = let f = finds_written field.Kind n m in ap kind_at (f.2 ∙ f.1.kind) ∙ kind_back w.kind

  pub finds_mask : (n : ℕ) → StopMoment v (Slot slot field.Mask) n → n ≡ w.mask
  finds_mask n m = let f = finds_written field.Mask n m in f.2 ∙ f.1.mask

  pub finds_active : (n : ℕ) → StopMoment v (Slot slot field.Active) n → n ≡ w.active
  finds_active n m = let f = finds_written field.Active n m in f.2 ∙ f.1.active

  pub finds_func : (n : ℕ) → StopMoment v (Slot slot field.Func) n → n ≡ w.func
  finds_func n m = let f = finds_written field.Func n m in f.2 ∙ f.1.func

  pub finds_arg : (n : ℕ) → StopMoment v (Slot slot field.Arg) n → n ≡ w.arg
  finds_arg n m = let f = finds_written field.Arg n m in f.2 ∙ f.1.arg
