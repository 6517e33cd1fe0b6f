-- The meaning of a trace: its lines tell events, and the model goes by them.
use Rattle.std.specs.Prelude.{◌≡◌, ℕ, ◌+◌, ◌⊎◌, List, [], ◌∷◌, ◌++◌, length, Option, Some, None, Result, Ok, Err}
use Rattle.smp_mask.specs.declared.error.Cause.{Cause}
use Rattle.smp_words.specs.FirstFault.{◌>>=◌}
use Rattle.smp_script.specs.Lines.{Line, lines_of}
use Rattle.trace_model.specs.declared.event.Event.{Event}
use Rattle.trace_model.specs.declared.reason.Reason.{Reason}
use Rattle.trace_model.specs.declared.without.Setting.{Setting}
use Rattle.trace_model.specs.Opened.{opening}
use Rattle.trace_model.specs.Runs.{Runs}
use Rattle.trace_model.specs.State.{StateValue}
use Rattle.trace_model.specs.Step.{goes}
use Rattle.trace_judge.specs.declared.early_end.EarlyEnd.{EarlyEnd}
use Rattle.trace_judge.specs.declared.early_end.EarlyEnd.TheVariants as early_end
use Rattle.trace_judge.specs.Head.{HeadValue, head_of}
use Rattle.trace_judge.specs.Judged.{event_on, used_after}

-- what lines tell: their events, and how many bytes are used at their end
pub record Told : Type 0 where
  pub events : List (ℕ × Event)
  pub used : ℕ

-- an event before others; a comment tells none
abbrev pub with_told : Option (ℕ × Event) → Told → Told
with_told None rest = rest
with_told (Some e) rest = record { events = e ∷ rest.events; used = rest.used }

-- what these lines tell, of which the first has number n and comes after that number of bytes; or the first line at fault
unfoldable pub told_by : Setting → ℕ → ℕ → List Line → Result Told EarlyEnd
told_by u n used [] = Ok (record { events = []; used = used })
told_by u n used (l ∷ ls) = used_after n used l >>= λ more. event_on u n l.text >>= λ e. told_by u (n + 1) more ls >>= λ rest. Ok (with_told e rest)

-- After `before` events, these lines tell the rest of `count` events, and the model goes by them to this state.
pub record AreRun (u : Setting) (n used before : ℕ) (lines : List Line) (s : StateValue) (count : ℕ) (t : StateValue) : Type 0 where
  pub told : Told
  pub told_is : told_by u n used lines ≡ Ok told
  pub run : Runs s told.events t
  pub counted : before + length told.events ≡ count

-- The lines before this one tell events, and the model goes by them.
pub record GoesTo (u : Setting) (n used : ℕ) (lines : List Line) (s : StateValue) (line before : ℕ) (this : Line) (t : StateValue) : Type 0 where
  pub front : List Line
  pub back : List Line
  pub lines_are : lines ≡ front ++ this ∷ back
  pub line_is : line ≡ n + length front
  pub told : Told
  pub told_is : told_by u n used front ≡ Ok told
  pub used_is : told.used ≡ before
  pub run : Runs s told.events t

-- The lines before this one tell a run of the model, and there is no step for the event of this line: `why` is the first of its
-- premises that does not hold.
pub record IsBroken (u : Setting) (n used : ℕ) (lines : List Line) (s : StateValue) (line cpu : ℕ) (event : Event) (why : Reason) : Type 0 where
  pub before : ℕ
  pub more : ℕ
  pub this : Line
  pub state : StateValue
  pub goes_to : GoesTo u n used lines s line before this state
  pub fits : used_after line before this ≡ Ok more
  pub told : event_on u line this.text ≡ Ok (Some (cpu, event))
  pub refused : goes cpu event state ≡ Err why

-- a line at fault: it is not within the limits, or tells no event
abbrev pub TellsNone : Setting → ℕ → ℕ → Line → Cause → ℕ → Type 0
TellsNone u line before this cause more = (used_after line before this ≡ Ok more) × (event_on u line this.text ≡ Err (early_end.Fault line cause))

abbrev pub HasFault : Setting → ℕ → ℕ → Line → Cause → Type 0
HasFault u line before this cause = (used_after line before this ≡ Err (early_end.Fault line cause)) ⊎ ((more : ℕ) × TellsNone u line before this cause more)

-- The lines before this one tell a run of the model, and this is at fault.
pub record IsAtFault (u : Setting) (n used : ℕ) (lines : List Line) (s : StateValue) (line : ℕ) (cause : Cause) : Type 0 where
  pub before : ℕ
  pub this : Line
  pub state : StateValue
  pub goes_to : GoesTo u n used lines s line before this state
  pub fault : HasFault u line before this cause

-- what a verdict on these lines means
abbrev pub Means : Setting → ℕ → ℕ → ℕ → List Line → StateValue → Result (ℕ × StateValue) EarlyEnd → Type 0
Means u n used before lines s (Ok end) = AreRun u n used before lines s end.0 end.1
Means u n used before lines s (Err (early_end.Broken line cpu event why)) = IsBroken u n used lines s line cpu event why
Means u n used before lines s (Err (early_end.Fault line cause)) = IsAtFault u n used lines s line cause
Means u n used before lines s (Err early_end.NoMemory) = ⊥

-- what a verdict on the lines behind a head means, from a model in which nothing has happened
abbrev pub MeansBehind : HeadValue → Result (ℕ × StateValue) EarlyEnd → Type 0
MeansBehind h verdict = Means h.setting h.cursor.number h.cursor.used 0 h.cursor.lines (opening h.setting h.words) verdict

-- a text has this head, or is at fault in it
abbrev pub MeansWith : Result HeadValue EarlyEnd → Result (ℕ × StateValue) EarlyEnd → Type 0
MeansWith (Ok h) verdict = MeansBehind h verdict
MeansWith (Err why) verdict = verdict ≡ Err why

-- what a verdict on a text means
abbrev pub IsMeant : List ℕ → Result (ℕ × StateValue) EarlyEnd → Type 0
IsMeant text verdict = MeansWith (head_of (lines_of text)) verdict

-- the lines behind a head are a run, of that number of events and to this state
abbrev pub IsRunOf : HeadValue → ℕ → StateValue → Type 0
IsRunOf h count t = AreRun h.setting h.cursor.number h.cursor.used 0 h.cursor.lines (opening h.setting h.words) count t
