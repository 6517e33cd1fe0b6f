-- Each step that a CPU may make is counted once, but for the stores that are due.
use Rattle.std.proofs.Common.{◌≡◌, ℕ, ◌+◌, ◌==◌, not, Bool, true, false, cond, Option, Some, None, refl, ap, ◌∙◌, arith}
use Rattle.smp_stop_steps.specs.{begun_value, cpus, has, mask_weight, seen_of, StopRole, Free, In, Source}
use Rattle.smp_stop_steps.specs.{Shut, Drafts, Act}
use Rattle.smp_stop_steps.specs.{Field, Work, acked_by, called_by, completed_by, drafted_known, entered_known, gate_known, is_drafting, key_known}
use Rattle.smp_stop_steps.specs.{key_loaded_by, learned, is_due, member_stored, opened_by, order, raised_by, slot_known, slot_stored, told_work}
use Rattle.smp_stop_steps.specs.{Slot, Threads.Known.KnownStops, Threads.Known.stepped, KnownLaws.KnownStepsCount, KnownLaws.weight_of}
use Rattle.smp_stop_steps.specs.Threads.Moves.{Move, TakeGate, DraftMore, Open, Enter, Acknowledge, AcknowledgePatch, Refill, Raise}
use Rattle.smp_stop_steps.specs.Threads.Moves.{Give, Count, CountGiven, Close, ReadKey, Nudge, BeginPatch, Alter, LoadArg}
use Rattle.smp_stop_steps.specs.Threads.Moves.{LoadField, MayStep, known_access}
use Rattle.smp_labels.specs.declared.patch.Place.TheVariants as place

-- what a step tells has no part in how many there were

either : (b : Bool) (x y : KnownStops) (n : ℕ) → x.steps ≡ n → y.steps ≡ n → (cond b x y).steps ≡ n
either true x y n e f = e
either false x y n e f = f

module _ (v : KnownStops) where
  gate : (put : Option ℕ) → (gate_known Act.Cas put v).steps ≡ v.steps
  gate (Some n) = refl
  gate None = refl

  opened : (y : Source) → (opened_by y v).steps ≡ v.steps
  opened Shut = refl
  opened _ = refl

  raised : (n : ℕ) (x : StopRole) → (raised_by n x v).steps ≡ v.steps
  raised n Free = refl
  raised n _ = refl

  acked : (found : ℕ) (x : StopRole) → (acked_by found x v).steps ≡ v.steps
  acked found Free = refl
  acked found _ = refl

  completed : (found : ℕ) (x : StopRole) → (completed_by found x v).steps ≡ v.steps
  completed found Free = refl
  completed found _ = refl

  called : (found : ℕ) (x : StopRole) → (called_by found x v).steps ≡ v.steps
  called found (In s w a l t) = either _ _ v v.steps refl refl
  called found _ = refl

  key_loaded : (k found : ℕ) (x : StopRole) → (key_loaded_by k found x v).steps ≡ v.steps
  key_loaded k found (In s w a l t) = either _ _ _ v.steps refl refl
  key_loaded k found _ = refl

  nudged : (k found : ℕ) (put : Option ℕ) → (key_known Act.Cas k (Some found) put v).steps ≡ v.steps
  nudged k found (Some n) = refl
  nudged k found None = refl

  entered : (s : ℕ) (w : Work) (b : Bool) → (entered_known s w b v).steps ≡ v.steps
  entered s w true = refl
  entered s w false = refl

  -- a store to a slot, of a CPU that drafts or not
  member : (f : Field) (n : ℕ) → (member_stored f n v).steps ≡ v.steps
  member Field.State n = raised n v.seat
  member _ n = refl

  drafted : (f : Field) (n : ℕ) → (cond (is_drafting v.source) (drafted_known f n v) (member_stored f n v)).steps ≡ v.steps
  drafted f n = either (is_drafting v.source) (drafted_known f n v) (member_stored f n v) v.steps refl (member f n)

  stored : (f : Field) (n : ℕ) → (slot_stored f n v).steps ≡ v.steps
  stored Field.Kind n = refl
  stored Field.Roll n = opened v.source
  stored f n = drafted f n

  loaded : (w : Work) (s n : ℕ) (f : Field) → (slot_known w v s Act.Load f (Some n) None).steps ≡ v.steps
  loaded w s n Field.Arg = called n v.seat
  loaded w s n _ = refl

  told : (m : Move) (found : ℕ) (w : Work) → let seen = seen_of v.number (known_access v m) found None in
      (learned w v seen.act seen.word seen.found seen.put).steps ≡ v.steps
  told TakeGate found w = gate (cond (found == 0) (Some (v.number + 1)) None)
  told (DraftMore x f) found w = stored f (begun_value cpus x f)
  told (Open x) found w = opened v.source
  told (Enter s) found w = entered s w (has found v.number)
  told (Acknowledge s x a) found w = acked found v.seat
  told (AcknowledgePatch s x count made) found w = acked found v.seat
  told (Refill s x a l) found w = stored Field.Ack (mask_weight cpus x.mask)
  told (Raise s x a l) found w = stored Field.State (a + 1)
  told (Give s x a l n) found w = stored Field.Result n
  told (Count s x a l) found w = completed found v.seat
  told (CountGiven s x a n) found w = completed found v.seat
  told (Close s) found w = stored Field.Done 1
  told (ReadKey k) found w = key_loaded k found v.seat
  told (Nudge k old new) found w = nudged k found (cond (found == old) (Some new) None)
  told (BeginPatch s x) found w = key_loaded x.func found v.seat
  told (Alter s x count made (place.Key k, n) rest) found w = refl
  told (Alter s x count made (place.Site i, n) rest) found w = refl
  told (LoadArg s x a l) found w = called found v.seat
  told (LoadField s x a l f) found w = loaded w s found f
  told _ found w = refl

  -- a step counts as its kind does

  one_unless : (due : Bool) (n : ℕ) (x : KnownStops) → cond due 0 1 ≡ n → x.steps ≡ v.steps → (cond due x (stepped 1 x)).steps ≡ v.steps + n
  one_unless true n x e f = f ∙ ((let z : v.steps ≡ v.steps + 0 = omega arith in z) ∙ ap (λ k. v.steps + k) e)
  one_unless false n x e f = ap (λ k. k + 1) f ∙ ap (λ k. v.steps + k) e

  -- a store to a slot, of a CPU that drafts, is none that is due
  drafts : (f : Field) (y : Source) (w : Work) (k : ℕ) → y ≡ Drafts w k
      → let one : ℕ = 1 in cond (is_due (is_drafting y) Act.Store (Slot v.number f)) 0 one ≡ one
  drafts f y w k is = search arith

  -- of one that does not, each store of a field that is due
  rests : is_drafting v.source ≡ false → let none : ℕ = 0 in cond (not (is_drafting v.source)) none 1 ≡ none
  rests is = ap (λ b. cond (not b) 0 1) is

  weighs : (m : Move) → MayStep v m → (found : ℕ) → let seen = seen_of v.number (known_access v m) found None in
      cond (is_due (is_drafting v.source) seen.act seen.word) 0 1 ≡ weight_of m
  weighs (DraftMore x f) may found = drafts f v.source (told_work (order f) x) (order f) may.0
  weighs (Refill s x a l) may found = rests may.1
  weighs (Raise s x a l) may found = rests may.1
  weighs (Close s) may found = rests may.1
  weighs (Alter s x count made (place.Key k, n) rest) may found = refl
  weighs (Alter s x count made (place.Site i, n) rest) may found = refl
  weighs _ may found = refl

pub known_steps_count : KnownStepsCount
known_steps_count v m may found w = search (one_unless, weighs, told, arith)
