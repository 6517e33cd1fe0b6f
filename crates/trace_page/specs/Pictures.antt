-- The picture of what a kernel's tracer wrote around a line.
use Rattle.std.specs.Prelude.{◌≡◌, ℕ, ◌+◌, ◌-◌, ◌*◌, ◌/◌, ◌%◌, ◌==◌, true, false, if◌then◌else◌, List, [], ◌∷◌, ◌++◌, length, zero, suc, codes}
use Rattle.std.specs.Prelude.{Option, Some, None, Result, Ok, Err, Vec}
use Rattle.std.specs.Fmt.{decimal}
use Rattle.std.specs.List.{slice_get}
use Rattle.smp_words.specs.FirstFault.{◌>>=◌}
use Rattle.trace_ftrace.specs.Kept.{KeptValue}
use Rattle.trace_ftrace.specs.Names.{NamesValue}
use Rattle.trace_ftrace.specs.Reading.{reading_of}
use Rattle.trace_ftrace.specs.Telling.{TellingValue}
use Rattle.trace_ftrace.specs.declared.told.Told.{Told}
use Rattle.trace_ftrace.specs.declared.wrong.Refusal.{Refusal}
use Rattle.trace_ftrace.specs.declared.wrong.Refusal.TheVariants as refusal
use Rattle.trace_model.specs.declared.event.CallEvent.TheVariants as calls
use Rattle.trace_model.specs.declared.event.Event.{Event}
use Rattle.trace_model.specs.declared.event.Event.TheVariants as event
use Rattle.trace_model.specs.declared.event.StopEvent.TheVariants as stops
use Rattle.view.specs.Elements.{dot_text, words_text}
use Rattle.view.specs.Frame.{bottom_of}
use Rattle.view.specs.Legend.{head_text, lanes_text, mark_text, tick_text}
use Rattle.view.specs.declared.frame.Lane.{Lane}
use Rattle.trace_page.specs.Grids.{base_of, first_of, lanes_below, low_of, x_of, y_of}
use Rattle.trace_page.specs.Links.{links_text}
use Rattle.trace_page.specs.Titles.{time_text, title_of}
use Rattle.trace_page.specs.Windows.{marked, window_of, HasLine}
use Rattle.trace_page.specs.declared.picture.NoPicture.{NoPicture}
use Rattle.trace_page.specs.declared.picture.NoPicture.TheVariants as missing
use Rattle.trace_page.specs.declared.picture.TheConstants.{LEGEND}

-- the dot of an event: of a call that is queued, of a function that is entered, of a call that ends, of a stop
abbrev pub dot_name : Event → List ℕ
dot_name (event.Call (calls.Queue id to class func info)) = codes "store"
dot_name (event.Call (calls.Begin id func info)) = codes "run"
dot_name (event.Stop (stops.Run func arg)) = codes "run"
dot_name (event.Call e) = codes "load"
dot_name e = codes "swap"

-- the dot of the event of this number, with what it is
unfoldable pub event_text : NamesValue → ℕ → List Lane → ℕ → Told → List ℕ
event_text n low lanes i x = dot_text (dot_name x.event) (x_of i) (y_of low lanes i x.cpu) (title_of n x)

abbrev pub events_text : NamesValue → ℕ → List Lane → ℕ → List Told → List ℕ
events_text n low lanes i [] = []
events_text n low lanes i (x ∷ xs) = event_text n low lanes i x ++ events_text n low lanes (i + 1) xs

-- a time above the column of an event
unfoldable pub time_above : ℕ → ℕ → ℕ → List ℕ
time_above low i time = let base = base_of low i in tick_text (x_of i) base (bottom_of base low) (time_text time)

-- the time of each fifth event
abbrev pub tick_of : ℕ → ℕ → ℕ → List ℕ
tick_of low i time = if i % 5 == 0 then time_above low i time else []

abbrev pub ticks_text : ℕ → ℕ → ℕ → List Told → List ℕ
ticks_text low start i [] = []
ticks_text low start i (x ∷ xs) = tick_of low i (x.time - start) ++ ticks_text low start (i + 1) xs

-- the lanes of this number of rows
abbrev pub rows_text : ℕ → List Lane → ℕ → List ℕ
rows_text low lanes zero = []
rows_text low lanes (suc n) = rows_text low lanes n ++ lanes_text (base_of low (n * 30)) low lanes

-- the time of the first event, the line of one, and how many rows there are
abbrev pub time_or : Option Told → ℕ
time_or None = 0
time_or (Some x) = x.time

abbrev pub start_of : List Told → ℕ
start_of events = time_or (slice_get events 0)

abbrev pub line_or : Option Told → ℕ
line_or None = 0
line_or (Some x) = x.line

abbrev pub line_at : List Told → ℕ → ℕ
line_at events place = line_or (slice_get events place)

abbrev pub rows_of : List Told → ℕ
rows_of events = (length events + 29) / 30

-- which line is marked, and from when on the times count
unfoldable pub note_text : ℕ → ℕ → List ℕ
note_text line start =
    words_text (codes "key") 12 73 (codes "line " ++ decimal line ++ codes " is marked; times in microseconds from " ++ time_text start ++ codes " on")

-- what is above the rows, and their lanes
unfoldable pub front_text : ℕ → List Lane → ℕ → List Told → List ℕ
front_text low lanes mark events =
    let rows = rows_of events in
    head_text 900 (base_of low (rows * 30)) ++ LEGEND.now ++ note_text (line_at events mark) (start_of events) ++ rows_text low lanes rows

-- what is in the rows
unfoldable pub body_text : NamesValue → ℕ → List Lane → ℕ → List Told → List ℕ
body_text n low lanes mark events =
    ticks_text low (start_of events) 0 events ++ mark_text true (first_of mark) (first_of mark + 29) (base_of low mark) low mark
    ++ links_text n low lanes 0 events ++ events_text n low lanes 0 events

-- the picture of events, of which one is marked
unfoldable pub picture_text : NamesValue → ℕ → List Told → List ℕ
picture_text n mark events =
    let lanes = lanes_below events 512 in
    front_text (low_of lanes) lanes mark events ++ body_text n (low_of lanes) lanes mark events ++ codes "</svg>\n"

-- the picture of what was read, around a line
abbrev pub picture_of : ℕ → KeptValue → TellingValue → List ℕ
picture_of line k t = picture_text (record { addresses = t.addresses; functions = k.names }) (marked line t.told) (window_of line t.told)

-- the same of what is read of a text
abbrev pub made_of : ℕ → Result (KeptValue × TellingValue) Refusal → Result (List ℕ) Refusal
made_of line reading = reading >>= λ r. Ok (picture_of line r.0 r.1)

-- what was answered is that picture, or there is no event, or memory ran out
abbrev pub IsPicture : {A : Type 0} → Result (Vec ℕ A) NoPicture → ℕ → KeptValue → TellingValue → Type 0
IsPicture (Ok out) line k t = out.items ≡ picture_of line k t
IsPicture (Err missing.Events) line k t = t.told ≡ []
IsPicture (Err (missing.Text refusal.NoMemory)) line k t = Unit {0}
IsPicture (Err why) line k t = ⊥

-- the same of a text: it has such a line and is read, or there is no such line, or the text can't be judged
abbrev pub PicturesKernel : {A : Type 0} → Result (Vec ℕ A) NoPicture → ℕ → ℕ → List ℕ → Type 0
PicturesKernel (Err missing.Line) skip line text = HasLine false line text
PicturesKernel (Err (missing.Text refusal.NoMemory)) skip line text = HasLine true line text
PicturesKernel (Err (missing.Text why)) skip line text = HasLine true line text × (reading_of skip text ≡ Err why)
PicturesKernel made skip line text =
    HasLine true line text × (k : KeptValue) × (t : TellingValue) × (reading_of skip text ≡ Ok (k, t)) × IsPicture made line k t
