-- A record is locked from the `queue` of a call to its `unlock`.
use Rattle.std.specs.Prelude.{◌≡◌, ℕ, ◌<◌, Bool, true, false, ◌==◌, if◌then◌else◌, List, [], ◌∷◌, ◌++◌}
use Rattle.smp_labels.specs.declared.words.LabelWords.{LabelWords}
use Rattle.trace_model.specs.declared.event.CallEvent.TheVariants as calls
use Rattle.trace_model.specs.declared.event.Event.{Event}
use Rattle.trace_model.specs.declared.event.Event.TheVariants as event
use Rattle.trace_model.specs.declared.without.Setting.{Setting}
use Rattle.trace_model.specs.State.{StateValue}
use Rattle.trace_laws.specs.Traces.{IsTrace}

-- whether a record is locked after one more event
abbrev pub locked_next : ℕ → Bool → ℕ × Event → Bool
locked_next r locked (cpu, event.Call (calls.Queue id to class func info)) = if id == r then true else locked
locked_next r locked (cpu, event.Call (calls.Unlock id)) = if id == r then false else locked
locked_next r locked _ = locked

-- whether it is, as events tell it
unfoldable pub locked_from : ℕ → Bool → List (ℕ × Event) → Bool
locked_from r locked [] = locked
locked_from r locked (e ∷ es) = locked_from r (locked_next r locked e) es

-- a record that is locked is not queued and not seen free, and one that is not is not unlocked
abbrev pub Allows : ℕ → Bool → Event → Type 0
Allows r locked (event.Call (calls.Queue id to class func info)) = id ≡ r → locked ≡ false
Allows r locked (event.Call (calls.Free id)) = id ≡ r → locked ≡ false
Allows r locked (event.Call (calls.Unlock id)) = id ≡ r → locked ≡ true
Allows r locked _ = Unit {0}

-- where the order and the unlocks are told, a record is queued and unlocked in turn, and seen free only between
abbrev pub RecordsTakeTurns : Type 0
RecordsTakeTurns = (u : Setting) (words : LabelWords) (es : List (ℕ × Event)) (t : StateValue) (cpu : ℕ) (e : Event) → u.without.order ≡ false
    → u.without.unlocks ≡ false → IsTrace u words (es ++ (cpu, e) ∷ []) t → (r : ℕ) → r < 65536 → Allows r (locked_from r false es) e
