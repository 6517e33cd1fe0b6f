-- The page of a trace of events, and of a text of a kernel's tracer.
use Rattle.std.specs.Prelude.{◌≡◌, ℕ, ◌-◌, List, [], ◌∷◌, ◌++◌, take, unwrap_or, Result, Ok, Err, Vec, codes}
use Rattle.std.specs.Fmt.{decimal}
use Rattle.std.specs.List.{flat_map, slice_get}
use Rattle.smp_script.specs.Lines.{parts_of}
use Rattle.trace_events.specs.Text.{numbered_line}
use Rattle.trace_judge.specs.Traces.{IsRuled}
use Rattle.trace_judge.specs.declared.trace.Ruling.{Ruling}
use Rattle.trace_ftrace.specs.Kept.{KeptValue}
use Rattle.trace_ftrace.specs.Reading.{reading_of}
use Rattle.trace_ftrace.specs.Telling.{TellingValue}
use Rattle.trace_ftrace.specs.Text.{Prints}
use Rattle.trace_ftrace.specs.Verdict.{start}
use Rattle.trace_ftrace.specs.declared.told.Told.{Told}
use Rattle.trace_ftrace.specs.declared.wrong.Refusal.{Refusal}
use Rattle.trace_ftrace.specs.declared.wrong.Refusal.TheVariants as refusal
use Rattle.view.specs.declared.page_script.TheConstants.{HELPERS, LANES}
use Rattle.view.specs.declared.page_style.TheConstants.{STYLE}
use Rattle.trace_page.specs.Escapes.{escaped}
use Rattle.trace_page.specs.Shown.{shown_count}
use Rattle.trace_page.specs.declared.page_trace.TheConstants.{BEFORE_EVENTS, BEFORE_VERDICT, PARTS, TRACE}

-- a text, the lines of events and a verdict, each between constants
unfoldable pub page_of : List ℕ → List ℕ → List ℕ → List ℕ
page_of text events said =
    STYLE.now ++ PARTS.now ++ text ++ BEFORE_EVENTS.now ++ events ++ BEFORE_VERDICT.now ++ said ++ HELPERS.now ++ TRACE.now ++ LANES.now

-- the page of a trace, whose lines are its events
abbrev pub trace_page : List ℕ → List ℕ → List ℕ
trace_page text said = page_of (escaped text) [] (escaped said)

-- The trace in this text has a verdict, it is lawful or not, and this is the page of both.
pub record IsTracePage (text out : List ℕ) (ruling : Ruling) : Type 0 where
  pub said : List ℕ
  pub ruled : IsRuled text said ruling
  pub page : out ≡ trace_page text said

-- the events of a page: those up to the first one that the model has no step for, with it
abbrev pub shown : List Told → List Told
shown told = take (shown_count told start) told

-- the line of an event: the number of the line that tells it, its CPU, and the event
abbrev pub event_line : Told → List ℕ
event_line x = decimal x.line ++ codes " " ++ numbered_line x.cpu x.event

-- the line that tells an event, of these lines
abbrev pub told_by : List (List ℕ) → Told → List ℕ
told_by lines x = unwrap_or (slice_get lines (x.line - 1)) []

-- the same as a page has it
abbrev pub source_line : List (List ℕ) → Told → List ℕ
source_line lines x = escaped (told_by lines x) ++ 10 ∷ []

-- the page of a text that tells these events: for each of them the line that tells it, and the event
abbrev pub kernel_page : List ℕ → List Told → List ℕ → List ℕ
kernel_page text events said = page_of (flat_map (source_line (parts_of 10 text)) events) (flat_map event_line events) (escaped said)

-- This is printed of the verdict on the text, which is lawful or not, and this is the page of what the text tells.
pub record IsKernelPage (A : Type 0) (skip : ℕ) (text out : List ℕ) (ruling : Ruling) : Type 0 where
  pub said : Vec ℕ A
  pub printed : Prints (Ok (said, ruling)) text 100000000 (reading_of skip text)
  pub kept : KeptValue
  pub telling : TellingValue
  pub read : reading_of skip text ≡ Ok (kept, telling)
  pub page : out ≡ kernel_page text (shown telling.told) said.items

-- What was answered is the page, or the same refusal as a judge's, or memory ran out.
abbrev pub PagesKernel : {A : Type 0} → ℕ → List ℕ → Result (Vec ℕ A × Ruling) Refusal → Type 0
PagesKernel {A = A} skip text (Ok (out, ruling)) = IsKernelPage A skip text out.items ruling
PagesKernel skip text (Err refusal.NoMemory) = Unit {0}
PagesKernel {A = A} skip text (Err why) = Prints {A = A} (Err why) text 100000000 (reading_of skip text)
