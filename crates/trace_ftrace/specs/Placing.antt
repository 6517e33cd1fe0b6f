-- The events of a text in an order of its appends, with the takes between them.
use Rattle.std.specs.Prelude.{◌≡◌, ℕ, Bool, true, not, ◌==◌, ◌&&◌, if◌then◌else◌, List, [], ◌∷◌, insert, Option, Some, None}
use Rattle.std.specs.Prelude.{Result, Ok, Err}
use Rattle.trace_model.specs.declared.event.CallEvent.TheVariants as calls
use Rattle.trace_model.specs.declared.event.Event.{Event}
use Rattle.trace_model.specs.declared.event.Event.TheVariants as event
use Rattle.trace_ftrace.specs.Kept.{or_first}
use Rattle.trace_ftrace.specs.Moments.{is_before, own_moment}
use Rattle.trace_ftrace.specs.Options.{◌>>?◌}
use Rattle.trace_ftrace.specs.declared.bounds.Bound.{Bound}
use Rattle.trace_ftrace.specs.declared.moment.Moment.{Moment}
use Rattle.trace_ftrace.specs.declared.placing.Choice.{Choice}
use Rattle.trace_ftrace.specs.declared.placing.Choice.TheVariants as choice
use Rattle.trace_ftrace.specs.declared.placing.Misplaced.{Misplaced}
use Rattle.trace_ftrace.specs.declared.placing.Misplaced.TheVariants as misplaced
use Rattle.trace_ftrace.specs.declared.placing.Step.{Step}
use Rattle.trace_ftrace.specs.declared.placing.Taken.{Taken}
use Rattle.trace_ftrace.specs.declared.told.Told.{Told}

-- what is placed, the events that are left, and where the appends of these can be
pub record PlacingValue : Type 0 where
  pub rest : List Told
  pub bounds : List Bound
  pub steps : List Step

-- how many steps there are up to the last that is not later than this moment
abbrev pub behind_step : Moment → List Step → ℕ
behind_step at [] = 0
behind_step at (s ∷ ss) = or_first (behind_step at ss) (not (is_before at s.at))

-- with an event at a moment, behind all that are not later
abbrev pub with_event_at : Moment → Told → List Step → List Step
with_event_at at x steps = insert steps (behind_step at steps) (record { at = at; told = x })

-- the record of an event by which a call is queued
abbrev pub queued_record : Event → Option ℕ
queued_record (event.Call (calls.Queue id to class func info)) = Some id
queued_record other = None

-- a record is seen free at the line of an event; a CPU takes its queue
abbrev pub free_of : Told → ℕ → Told
free_of x id = record { line = x.line; cpu = x.cpu; time = x.time; event = event.Call (calls.Free id) }

abbrev pub take_of : Taken → Told
take_of t = record { line = t.line; cpu = t.cpu; time = t.time; event = event.Call calls.Take }

-- an append can be at a moment: not before its line, and before the line by which it is over
abbrev pub is_until : Option Moment → Moment → Bool
is_until None at = true
is_until (Some until) at = is_before at until

abbrev pub is_within : Told → Bound → Moment → Bool
is_within x b at = b.line == x.line && not (is_before at (own_moment x)) && is_until b.until at

-- with an append at a moment; where that is behind its line, its record is seen free at the line
abbrev pub with_queue : Moment → Told → ℕ → List Step → List Step
with_queue at x id o =
    if is_before (own_moment x) at then with_event_at at x (with_event_at (own_moment x) (free_of x id) o) else with_event_at at x o

-- with the next event that a line tells
abbrev pub placed_queue : Moment → Told → ℕ → List Told → List Bound → List Step → Option PlacingValue
placed_queue at x id rest [] o = None
placed_queue at x id rest (b ∷ bs) o =
    if is_within x b at then Some (record { rest = rest; bounds = bs; steps = with_queue at x id o }) else None

abbrev pub placed_event : Moment → Told → Option ℕ → List Told → List Bound → List Step → Option PlacingValue
placed_event at x None rest bounds o = Some (record { rest = rest; bounds = bounds; steps = with_event_at (own_moment x) x o })
placed_event at x (Some id) rest bounds o = placed_queue at x id rest bounds o

abbrev pub placed_first : Moment → List Told → List Bound → List Step → Option PlacingValue
placed_first at [] bounds o = None
placed_first at (x ∷ xs) bounds o = placed_event at x (queued_record x.event) xs bounds o

abbrev pub placed_line : Moment → PlacingValue → Option PlacingValue
placed_line at p = placed_first at p.rest p.bounds p.steps

-- with what comes next, and with all that does
abbrev pub placed_one : Choice → PlacingValue → Option PlacingValue
placed_one (choice.Next at) p = placed_line at p
placed_one (choice.Take t) p = Some (record p { steps = with_event_at t.at (take_of t) p.steps })

abbrev pub placed_all : List Choice → PlacingValue → Option PlacingValue
placed_all [] p = Some p
placed_all (c ∷ cs) p = placed_one c p >>? placed_all cs

-- the events in the order that was chosen; none where an append is not where it can be, or an event is left
abbrev pub whole_order : List Told → List Step → Option (List Step)
whole_order [] o = Some o
whole_order (x ∷ xs) o = None

abbrev pub placed : List Choice → List Told → List Bound → Option (List Step)
placed choices told bounds =
    placed_all choices (record { rest = told; bounds = bounds; steps = [] }) >>? λ p. whole_order p.rest p.steps

-- what was made is that, unless memory ran out
abbrev pub Places : {S : Type 0} → Result (Unit {0}) Misplaced → S → Option S → Type 0
Places (Ok u) new made = made ≡ Some new
Places (Err misplaced.NoMemory) new made = Unit {0}
Places (Err misplaced.Bounds) new made = made ≡ None
