-- The answer that a CPU carries: no step asks for it, and none changes it but those that take one.
use Rattle.std.proofs.Common.{◌≡◌, ℕ, not, Bool, true, false, cond, Option, Some, None, [], refl}
use Rattle.smp_mask.specs.Mask.{has}
use Rattle.smp_stop_steps.specs.Threads.Known.{Sees, carrying, setup_in, stepped}
use Rattle.smp_stop_steps.specs.Threads.KnownAfter.{acked_by, called_by, completed_by, drafted_known, is_drafting, is_patching, key_loaded_by}
use Rattle.smp_stop_steps.specs.Threads.KnownAfter.{known_entering, known_told, key_read_known, member_stored, opened_by, raised_by, slot_stored}
use Rattle.smp_stop_steps.specs.Threads.Moves.{Can, MayStep, Move, known_access, TakeGate, OpenGate, Draft, DraftMore, Open, Enter, Look, Acknowledge}
use Rattle.smp_stop_steps.specs.Threads.Moves.{AcknowledgePatch, Refill, Raise, Give, Count, CountGiven, Close, LookDone, Collect, ReadKey, ReadSite, Nudge}
use Rattle.smp_stop_steps.specs.Threads.Moves.{BeginPatch, Alter, LoadArg, LoadField, LoadEntry}
use Rattle.smp_stop_steps.specs.State.{StopState}
use Rattle.smp_stop_steps.specs.Stop.{Inside}
use Rattle.smp_stop_steps.specs.Tells.{may_call, plan_at}
use Rattle.smp_multi.specs.Names.{Word, Gate, Slot, Key, Entry, Site, Access, Field, Work, StopRole, Free, In, Alters, Rests}
use Rattle.smp_multi.specs.Names.{Source, Shut, KnownStops, Calls}
use Rattle.smp_multi.specs.Names.act
use Rattle.smp_multi.specs.Names.field

-- a CPU may make the same steps, whatever it carries
module _ (x : ℕ) (v : KnownStops) where
  can_by : (a : Access) (m : Move) → MayStep v m → known_access v m ≡ a → Can (carrying x v) a
  can_by a TakeGate h e = record { move = TakeGate; may = h; is_access = e }
  can_by a OpenGate h e = record { move = OpenGate; may = h; is_access = e }
  can_by a (Draft w) h e = record { move = Draft w; may = h; is_access = e }
  can_by a (DraftMore w f) h e = record { move = DraftMore w f; may = h; is_access = e }
  can_by a (Open w) h e = record { move = Open w; may = h; is_access = e }
  can_by a (Enter s) h e = record { move = Enter s; may = h; is_access = e }
  can_by a (Look s w b l) h e = record { move = Look s w b l; may = h; is_access = e }
  can_by a (Acknowledge s w b) h e = record { move = Acknowledge s w b; may = h; is_access = e }
  can_by a (AcknowledgePatch s w n made) h e = record { move = AcknowledgePatch s w n made; may = h; is_access = e }
  can_by a (Refill s w b l) h e = record { move = Refill s w b l; may = h; is_access = e }
  can_by a (Raise s w b l) h e = record { move = Raise s w b l; may = h; is_access = e }
  can_by a (Give s w b l n) h e = record { move = Give s w b l n; may = h; is_access = e }
  can_by a (Count s w b l) h e = record { move = Count s w b l; may = h; is_access = e }
  can_by a (CountGiven s w b n) h e = record { move = CountGiven s w b n; may = h; is_access = e }
  can_by a (Close s) h e = record { move = Close s; may = h; is_access = e }
  can_by a (LookDone w) h e = record { move = LookDone w; may = h; is_access = e }
  can_by a (Collect w) h e = record { move = Collect w; may = h; is_access = e }
  can_by a (ReadKey k) h e = record { move = ReadKey k; may = h; is_access = e }
  can_by a (ReadSite i) h e = record { move = ReadSite i; may = h; is_access = e }
  can_by a (Nudge k old new) h e = record { move = Nudge k old new; may = h; is_access = e }
  can_by a (BeginPatch s w) h e = record { move = BeginPatch s w; may = h; is_access = e }
  can_by a (Alter s w n made c rest) h e = record { move = Alter s w n made c rest; may = h; is_access = e }
  can_by a (LoadArg s w b l) h e = record { move = LoadArg s w b l; may = h; is_access = e }
  can_by a (LoadField s w b l f) h e = record { move = LoadField s w b l f; may = h; is_access = e }
  can_by a (LoadEntry s w n made rest i) h e = record { move = LoadEntry s w n made rest i; may = h; is_access = e }

  pub can_with : (a : Access) → Can v a → Can (carrying x v) a
  can_with a c = can_by a c.move c.may c.is_access

  pub sees_with : (p : StopState) (seat : ℕ → StopRole) (source : ℕ → Source) → Sees p seat source v → Sees p seat source (carrying x v)
  sees_with p seat source s =
      record { below = s.below; seat_is = s.seat_is; source_is = s.source_is; is_begun = s.is_begun; part_is = s.part_is }

-- no step changes it, but those that take one
keeps_cond : (b : Bool) (u v w : KnownStops) → v.carried ≡ u.carried → w.carried ≡ u.carried → (cond b v w).carried ≡ u.carried
keeps_cond true u v w e f = e
keeps_cond false u v w e f = f

called_keeps : (n : ℕ) (y : StopRole) (v : KnownStops) → (called_by n y v).carried ≡ v.carried
called_keeps n Free v = refl
called_keeps n (In s w a l t) v = keeps_cond (may_call v.number w (Inside a l)) v
    (record v { part = record (v.part) { calling = Calls (record { func = w.func; arg = n; answer = 0 }) } }) v refl refl
called_keeps n _ v = refl

key_keeps : (k n : ℕ) (y : StopRole) (v : KnownStops) → (key_loaded_by k n y v).carried ≡ v.carried
key_keeps k n Free v = refl
key_keeps k n (In s w a l t) v = keeps_cond (is_patching a l w) v
    (record v { seat = Alters s w n [] (plan_at (setup_in v.setting) w n) }) (key_read_known k n v) refl refl
key_keeps k n _ v = refl

pub load_keeps : (v : KnownStops) (w : Word) (n : ℕ)
    → (known_told v act.Load w (Some n) None).carried ≡ v.carried
load_keeps v (Slot s field.Kind) n = refl
load_keeps v (Slot s field.Mask) n = refl
load_keeps v (Slot s field.Active) n = refl
load_keeps v (Slot s field.Func) n = refl
load_keeps v (Slot s field.Arg) n = called_keeps n v.seat v
load_keeps v (Slot s field.State) n = refl
load_keeps v (Slot s field.Ack) n = refl
load_keeps v (Slot s field.Roll) n = refl
load_keeps v (Slot s field.Todo) n = refl
load_keeps v (Slot s field.Result) n = refl
load_keeps v (Slot s field.Done) n = refl
load_keeps v Gate n = refl
load_keeps v (Key k) n = key_keeps k n v.seat v
load_keeps v (Entry i) n = refl
load_keeps v (Site i) n = refl
load_keeps v _ n = refl

raised_keeps : (n : ℕ) (y : StopRole) (v : KnownStops) → (raised_by n y v).carried ≡ v.carried
raised_keeps n Free v = refl
raised_keeps n _ v = refl

opened_keeps : (y : Source) (v : KnownStops) → (opened_by y v).carried ≡ v.carried
opened_keeps Shut v = refl
opened_keeps _ v = refl

member_keeps : (f : Field) (n : ℕ) (v : KnownStops) → (member_stored f n v).carried ≡ v.carried
member_keeps field.Kind n v = refl
member_keeps field.State n v = raised_keeps n v.seat v
member_keeps _ n v = refl

either_keeps : (f : Field) (n : ℕ) (v : KnownStops)
    → (cond (is_drafting v.source) (drafted_known f n v) (member_stored f n v)).carried ≡ v.carried
either_keeps f n v = keeps_cond (is_drafting v.source) v (drafted_known f n v) (member_stored f n v) refl (member_keeps f n v)

-- a store that is due where the CPU drafts nothing, and else is counted
due_keeps : (v z : KnownStops) → z.carried ≡ v.carried → (cond (not (is_drafting v.source)) z (stepped 1 z)).carried ≡ v.carried
due_keeps v z e = keeps_cond (not (is_drafting v.source)) v z (stepped 1 z) e e

pub store_keeps : (v : KnownStops) (w : Word) (n : ℕ)
    → (known_told v act.Store w None (Some n)).carried ≡ v.carried
store_keeps v (Slot s field.Kind) n = refl
store_keeps v (Slot s field.Mask) n = either_keeps field.Mask n v
store_keeps v (Slot s field.Active) n = either_keeps field.Active n v
store_keeps v (Slot s field.Func) n = either_keeps field.Func n v
store_keeps v (Slot s field.Arg) n = either_keeps field.Arg n v
store_keeps v (Slot s field.State) n = due_keeps v (slot_stored field.State n v) (either_keeps field.State n v)
store_keeps v (Slot s field.Ack) n = due_keeps v (slot_stored field.Ack n v) (either_keeps field.Ack n v)
store_keeps v (Slot s field.Roll) n = opened_keeps v.source v
store_keeps v (Slot s field.Todo) n = either_keeps field.Todo n v
store_keeps v (Slot s field.Result) n = either_keeps field.Result n v
store_keeps v (Slot s field.Done) n = due_keeps v (slot_stored field.Done n v) (either_keeps field.Done n v)
store_keeps v Gate n = refl
store_keeps v (Key k) n = refl
store_keeps v (Entry i) n = refl
store_keeps v (Site i) n = refl
store_keeps v _ n = refl

pub exchange_keeps : (v : KnownStops) (w : Word) (n : ℕ) (o : Option ℕ)
    → (known_told v act.Cas w (Some n) o).carried ≡ v.carried
exchange_keeps v Gate n (Some m) = refl
exchange_keeps v Gate n None = refl
exchange_keeps v (Key k) n (Some m) = refl
exchange_keeps v (Key k) n None = refl
exchange_keeps v (Slot s field.Kind) n o = refl
exchange_keeps v (Slot s field.Mask) n o = refl
exchange_keeps v (Slot s field.Active) n o = refl
exchange_keeps v (Slot s field.Func) n o = refl
exchange_keeps v (Slot s field.Arg) n o = refl
exchange_keeps v (Slot s field.State) n o = refl
exchange_keeps v (Slot s field.Ack) n o = refl
exchange_keeps v (Slot s field.Roll) n o = refl
exchange_keeps v (Slot s field.Todo) n o = refl
exchange_keeps v (Slot s field.Result) n o = refl
exchange_keeps v (Slot s field.Done) n o = refl
exchange_keeps v (Entry i) n o = refl
exchange_keeps v (Site i) n o = refl
exchange_keeps v _ n o = refl

acked_keeps : (n : ℕ) (y : StopRole) (v : KnownStops) → (acked_by n y v).carried ≡ v.carried
acked_keeps n Free v = refl
acked_keeps n _ v = refl

completed_keeps : (n : ℕ) (y : StopRole) (v : KnownStops) → (completed_by n y v).carried ≡ v.carried
completed_keeps n Free v = refl
completed_keeps n _ v = refl

pub sub_keeps : (v : KnownStops) (w : Word) (n m : ℕ)
    → (known_told v act.Sub w (Some n) (Some m)).carried ≡ v.carried
sub_keeps v (Slot s field.Kind) n m = refl
sub_keeps v (Slot s field.Mask) n m = refl
sub_keeps v (Slot s field.Active) n m = refl
sub_keeps v (Slot s field.Func) n m = refl
sub_keeps v (Slot s field.Arg) n m = refl
sub_keeps v (Slot s field.State) n m = refl
sub_keeps v (Slot s field.Ack) n m = acked_keeps n v.seat v
sub_keeps v (Slot s field.Roll) n m = refl
sub_keeps v (Slot s field.Todo) n m = completed_keeps n v.seat v
sub_keeps v (Slot s field.Result) n m = refl
sub_keeps v (Slot s field.Done) n m = refl
sub_keeps v Gate n m = refl
sub_keeps v (Key k) n m = refl
sub_keeps v (Entry i) n m = refl
sub_keeps v (Site i) n m = refl
sub_keeps v _ n m = refl

pub and_keeps : (z : Work) (v : KnownStops) (w : Word) (n m : ℕ)
    → (known_entering z v act.And w (Some n) (Some m)).carried ≡ v.carried
and_keeps z v (Slot s field.Kind) n m = refl
and_keeps z v (Slot s field.Mask) n m = refl
and_keeps z v (Slot s field.Active) n m = refl
and_keeps z v (Slot s field.Func) n m = refl
and_keeps z v (Slot s field.Arg) n m = refl
and_keeps z v (Slot s field.State) n m = refl
and_keeps z v (Slot s field.Ack) n m = refl
and_keeps z v (Slot s field.Roll) n m =
    keeps_cond (has n v.number) v (record v { seat = In s z 0 0 Rests }) v refl refl
and_keeps z v (Slot s field.Todo) n m = refl
and_keeps z v (Slot s field.Result) n m = refl
and_keeps z v (Slot s field.Done) n m = refl
and_keeps z v Gate n m = refl
and_keeps z v (Key k) n m = refl
and_keeps z v (Entry i) n m = refl
and_keeps z v (Site i) n m = refl
and_keeps z v _ n m = refl
