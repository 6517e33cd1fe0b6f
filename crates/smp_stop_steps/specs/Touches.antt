-- The order in which the steps of a command of the stop half touch their words.
use Rattle.std.specs.Prelude.{◌≡◌, ◌≢◌, ◌⊎◌, ℕ, ◌+◌, ◌++◌, true, false, [], ◌∷◌, List, Option, Some, None, IsSomeAnd}
use Rattle.smp_stop_steps.specs.{Labels.Change, Stages.StopControlValue, Stages.stop_access, Stages.stop_outcome, Tells.is_multi}
use Rattle.smp_stop_steps.specs.Names.{has, word_of, Place, Word, Slot, Key, Field, StopStage, Begin, Enter, EnterKind, EnterMask, Advance, Complete, RUN}
use Rattle.smp_stop_steps.specs.Names.{LoadDone, Visit}
use Rattle.smp_stop_steps.specs.Names.field
use Rattle.smp_stop_steps.specs.Names.round
use Rattle.smp_stop_steps.specs.Names.completion

-- the step that follows is to this word, whatever the patch of this CPU is
abbrev pub IsTo : ℕ → Option StopStage → Word → Type 0
IsTo me next word = IsSomeAnd next (λ stage. (n : ℕ) (changes : List Change) → word_of (stop_access n me changes stage) ≡ word)

-- A begin stores kind, mask, active, func, arg, result, todo, done, ack, state and roll, in this order.
abbrev pub StoresThen : ℕ → Field → Option StopStage → Type 0
StoresThen me field.Kind next = IsTo me next (Slot me field.Mask)
StoresThen me field.Mask next = IsTo me next (Slot me field.Active)
StoresThen me field.Active next = IsTo me next (Slot me field.Func)
StoresThen me field.Func next = IsTo me next (Slot me field.Arg)
StoresThen me field.Arg next = IsTo me next (Slot me field.Result)
StoresThen me field.Result next = IsTo me next (Slot me field.Todo)
StoresThen me field.Todo next = IsTo me next (Slot me field.Done)
StoresThen me field.Done next = IsTo me next (Slot me field.Ack)
StoresThen me field.Ack next = IsTo me next (Slot me field.State)
StoresThen me field.State next = IsTo me next (Slot me field.Roll)
StoresThen me field.Roll next = next ≡ None

-- A turn that finds a new phase loads its function at RUN, phase 3, where it is active; else it acknowledges at once.
pub record LooksOn (me : ℕ) (v : Visit) (found : ℕ) (next : Option StopStage) : Type 0 where
  pub runs : found ≢ v.acked → found ≡ RUN → has v.active me ≡ true → IsTo me next (Slot v.slot field.Func)
  pub waits : found ≢ v.acked → (found ≢ RUN) ⊎ (has v.active me ≡ false) → IsTo me next (Slot v.slot field.Ack)

-- An enter touches roll, kind, mask and active; a function is loaded before its argument, and both before the acknowledgement; the
-- count is filled again before the next phase is stored; an answer is stored before its CPU counts itself as complete; done is
-- stored last, and loaded before the result; a nudge loads the key's word and exchanges it.
abbrev pub TouchesThen : ℕ → StopStage → ℕ → Option StopStage → Type 0
TouchesThen me (Begin work f) found next = StoresThen me f next
TouchesThen me (Enter slot) found next = has found me ≡ true → IsTo me next (Slot slot field.Kind)
TouchesThen me (EnterKind slot) found next = IsTo me next (Slot slot field.Mask)
TouchesThen me (EnterMask slot kind) found next = IsTo me next (Slot slot field.Active)
TouchesThen me (Advance v (round.Look answer)) found next = LooksOn me v found next
TouchesThen me (Advance v (round.LoadFunc answer)) found next = IsTo me next (Slot v.slot field.Arg)
TouchesThen me (Advance v (round.LoadArg answer func)) found next = (is_multi v.kind ≡ true → IsTo me next (Slot v.slot field.Ack)) ×
    (is_multi v.kind ≡ false → IsTo me next (Key func))
TouchesThen me (Advance v (round.Acknowledge answer ran)) found next = found ≡ 1 → IsTo me next (Slot v.slot field.Ack)
TouchesThen me (Advance v (round.Refill ran)) found next = IsTo me next (Slot v.slot field.State)
TouchesThen me (Complete v (completion.LoadFunc answer)) found next = IsTo me next (Slot v.slot field.Arg)
TouchesThen me (Complete v (completion.LoadArg answer func)) found next = (answer ≡ 0 → IsTo me next (Slot v.slot field.Todo)) ×
    (answer ≢ 0 → IsTo me next (Slot v.slot field.Result))
TouchesThen me (Complete v completion.StoreAnswer) found next = IsTo me next (Slot v.slot field.Todo)
TouchesThen me (Complete v completion.CountDown) found next = found ≡ 1 → IsTo me next (Slot v.slot field.Done)
TouchesThen me LoadDone found next = found ≢ 0 → IsTo me next (Slot me field.Result)
TouchesThen me _ found next = Unit {0}

abbrev pub WordsInOrder : Type 0
WordsInOrder = (me : ℕ) (c : StopControlValue) (stage : StopStage) (found : ℕ) →
    TouchesThen me stage found (stop_outcome me c stage found).control.stage

-- A patch loads the entries from site 0 on, one after the other, before its first store; then it makes its stores in the order of its list.
abbrev pub PatchGoesOn : StopStage → Option StopStage → Type 0
PatchGoesOn (Advance v (round.LoadKey key change)) (Some (Advance w (round.LoadEntry k word site))) = (k ≡ key) × (site ≡ 0)
PatchGoesOn (Advance v (round.LoadKey key change)) (Some (Advance w (round.StoreChange made))) = made ≡ 0
PatchGoesOn (Advance v (round.LoadKey key change)) (Some (Advance w (round.Acknowledge answer ran))) = Unit {0}
PatchGoesOn (Advance v (round.LoadKey key change)) _ = ⊥
PatchGoesOn (Advance v (round.LoadEntry key word site)) (Some (Advance w (round.LoadEntry k same next))) = (k ≡ key) × ((same ≡ word) × (next ≡ site + 1))
PatchGoesOn (Advance v (round.LoadEntry key word site)) (Some (Advance w (round.StoreChange made))) = made ≡ 0
PatchGoesOn (Advance v (round.LoadEntry key word site)) _ = ⊥
PatchGoesOn (Advance v (round.StoreChange made)) (Some (Advance w (round.StoreChange next))) = next ≡ made + 1
PatchGoesOn (Advance v (round.StoreChange made)) (Some (Advance w (round.Acknowledge answer ran))) = Unit {0}
PatchGoesOn (Advance v (round.StoreChange made)) _ = ⊥
PatchGoesOn _ next = Unit {0}

-- Its list begins with its key, and each entry adds its own site at most; so the key's word comes first, and the sites ascending.
abbrev pub PatchListsSo : StopStage → List Change → List Change → Type 0
PatchListsSo (Advance v (round.LoadKey key change)) before after = (after ≡ []) ⊎ ((new : ℕ) × (after ≡ (Place.Key key, new) ∷ []))
PatchListsSo (Advance v (round.LoadEntry key word site)) before after = (after ≡ before) ⊎ ((new : ℕ) × (after ≡ before ++ (Place.Site site, new) ∷ []))
PatchListsSo _ before after = after ≡ before

abbrev pub PatchesInOrder : Type 0
PatchesInOrder = (me : ℕ) (c : StopControlValue) (stage : StopStage) (found : ℕ) → let o = stop_outcome me c stage found in
    PatchGoesOn stage o.control.stage × PatchListsSo stage c.changes o.control.changes
