-- What is printed of the verdict on a text.
use Rattle.std.specs.Prelude.{◌≡◌, ℕ, ◌+◌, Bool, true, false, ◌==◌, ◌&&◌, nat_lt, if◌then◌else◌, List, [], ◌∷◌, ◌++◌}
use Rattle.std.specs.Prelude.{Option, Some, None, Result, Ok, Err, Vec, codes}
use Rattle.std.specs.Fmt.{decimal}
use Rattle.smp_script.specs.Lines.{Line, lines_of}
use Rattle.smp_words.specs.FirstFault.{◌>>=◌}
use Rattle.trace_model.specs.State.{StateValue}
use Rattle.trace_model.specs.declared.event.CallEvent.{CallEvent}
use Rattle.trace_model.specs.declared.event.CallEvent.TheVariants as calls
use Rattle.trace_model.specs.declared.event.Event.{Event}
use Rattle.trace_model.specs.declared.event.Event.TheVariants as event
use Rattle.trace_model.specs.declared.reason.Reason.{Reason}
use Rattle.trace_model.specs.declared.reason.Reason.TheVariants as reason
use Rattle.trace_judge.specs.Text.{lawful_text}
use Rattle.trace_judge.specs.declared.early_end.EarlyEnd.{EarlyEnd}
use Rattle.trace_judge.specs.declared.early_end.EarlyEnd.TheVariants as early_end
use Rattle.trace_judge.specs.declared.trace.Ruling.{Ruling}
use Rattle.trace_judge.specs.declared.trace.Ruling.TheVariants as rulings
use Rattle.trace_judge.specs.declared.verdict.Verdict.{Verdict}
use Rattle.trace_judge.specs.declared.verdict.Verdict.TheVariants.{Lawful, Broken}
use Rattle.trace_ftrace.specs.Counts.{counts_of}
use Rattle.trace_ftrace.specs.Kept.{KeptValue}
use Rattle.trace_ftrace.specs.Names.{NamesValue, broken_line}
use Rattle.trace_ftrace.specs.Offline.{unless_hidden}
use Rattle.trace_ftrace.specs.Telling.{TellingValue}
use Rattle.trace_ftrace.specs.Bounds.{shows_order}
use Rattle.trace_ftrace.specs.Ordered.{FailsInOrder, HasRun, verdict_on}
use Rattle.trace_ftrace.specs.Verdict.{ruling_of as ruling_of_told}
use Rattle.trace_ftrace.specs.Waits.{is_queue, waits_text}
use Rattle.trace_ftrace.specs.declared.counts.Counts.{Counts}
use Rattle.trace_ftrace.specs.declared.kept.Mark.{Mark}
use Rattle.trace_ftrace.specs.declared.names.BrokenEvent.{BrokenEvent}
use Rattle.trace_ftrace.specs.declared.verdict_text.OrderJudged.{OrderJudged}
use Rattle.trace_ftrace.specs.declared.verdict_text.OrderJudged.TheVariants as order
use Rattle.trace_ftrace.specs.declared.told.Told.{Told}
use Rattle.trace_ftrace.specs.declared.wrong.Refusal.{Refusal}
use Rattle.trace_ftrace.specs.declared.wrong.Refusal.TheVariants as refusal
use Rattle.trace_ftrace.specs.declared.wrong.Wrong.TheVariants as wrong

-- a text, with the kernel's names in it, what its lines show, the events that these tell, and what wait of a call is told
pub record SourceValue : Type 0 where
  pub text : List ℕ
  pub names : NamesValue
  pub marks : List Mark
  pub offline : Option ℕ
  pub told : List Told
  pub order : OrderJudged
  pub slow : ℕ

abbrev pub source_of : List ℕ → ℕ → KeptValue → TellingValue → SourceValue
source_of text slow k t = record {
  text = text;
  names = record { addresses = t.addresses; functions = k.names };
  marks = k.marks;
  offline = k.offline;
  told = t.told;
  order = order.Unasked;
  slow = slow;
}

abbrev pub asked_of : OrderJudged → List ℕ → ℕ → KeptValue → TellingValue → SourceValue
asked_of order text slow k t = record (source_of text slow k t) { order = order }

-- the line of a number, where the first has number k
abbrev pub line_from : ℕ → ℕ → List Line → List ℕ
line_from k number [] = []
line_from k number (l ∷ ls) = if k == number then l.text else line_from (k + 1) number ls

abbrev pub line_behind : List ℕ → ℕ → List ℕ
line_behind text line = line_from 1 line (lines_of text) ++ 10 ∷ []

-- the record that is wrong where an event is refused: that of the reason, or else that of the event
abbrev pub named_record : Reason → Option ℕ
named_record (reason.RecordFree id) = Some id
named_record (reason.RecordQueued id cpu) = Some id
named_record (reason.RecordRuns id cpu) = Some id
named_record (reason.ComesFirst id) = Some id
named_record (reason.NotOver id) = Some id
named_record _ = None

abbrev pub call_record : CallEvent → Option ℕ
call_record (calls.Queue id to class func info) = Some id
call_record (calls.Begin id func info) = Some id
call_record (calls.End id) = Some id
call_record (calls.Free id) = Some id
call_record _ = None

abbrev pub event_record : Event → Option ℕ
event_record (event.Call call) = call_record call
event_record _ = None

abbrev pub or_event : Option ℕ → Event → Option ℕ
or_event (Some id) e = Some id
or_event None e = event_record e

abbrev pub broken_record : Event → Reason → Option ℕ
broken_record e why = or_event (named_record why) e

-- the line before this one that has queued a record last, or else what was found before
abbrev pub last_queue : ℕ → ℕ → List Told → Option ℕ → Option ℕ
last_queue id line [] found = found
last_queue id line (x ∷ xs) found = last_queue id line xs (if nat_lt x.line line && is_queue id x.event then Some x.line else found)

abbrev pub queue_of : Option ℕ → ℕ → List Told → Option ℕ
queue_of None line told = None
queue_of (Some id) line told = last_queue id line told None

-- the lines behind an event that is refused
unfoldable pub front_text : ℕ → List ℕ
front_text line = codes "queued last: line " ++ decimal line ++ codes ": "

abbrev pub queued_text : List ℕ → Option ℕ → List ℕ
queued_text text None = []
queued_text text (Some line) = front_text line ++ line_behind text line

unfoldable pub source_text : List ℕ → List Told → ℕ → Option ℕ → List ℕ
source_text text told line broken = line_behind text line ++ queued_text text (queue_of broken line told)

-- whether class and order are judged
unfoldable pub class_text : ℕ → List ℕ
class_text unshown =
    if unshown == 0 then codes "class: judged\norder: " else codes "class: not judged of " ++ decimal unshown ++ codes " calls\norder: "

abbrev pub order_text : OrderJudged → List ℕ
order_text order.Unasked = codes "not judged\n"
order_text order.Hidden = codes "not judged: the lines do not show it\n"
order_text order.Judged = codes "judged\n"

abbrev pub judged_text : OrderJudged → ℕ → List ℕ
judged_text o unshown = class_text unshown ++ order_text o

-- how many lines show what is not judged, and whether class and order are
unfoldable pub count_text : List ℕ → ℕ → List ℕ → List ℕ
count_text front n back = front ++ decimal n ++ back

unfoldable pub direct_text : ℕ → List ℕ
direct_text n = count_text (codes "not judged: ") n (codes " direct calls")

unfoldable pub wakes_text : ℕ → List ℕ
wakes_text n = count_text (codes ", ") n (codes " wakes")

unfoldable pub works_text : ℕ → List ℕ
works_text n = count_text (codes ", ") n (codes " irq works")

unfoldable pub earlier_text : ℕ → List ℕ
earlier_text n = count_text (codes ", ") n (codes " earlier calls\n")

unfoldable pub first_counts : Counts → List ℕ
first_counts c = direct_text c.direct ++ wakes_text c.wakes

unfoldable pub last_counts : Counts → List ℕ
last_counts c = works_text c.works ++ earlier_text c.earlier

abbrev pub counts_text : OrderJudged → Counts → List ℕ
counts_text o c = first_counts c ++ last_counts c ++ judged_text o c.unshown

-- what is printed of a lawful text, and of one with an event that no run has
unfoldable pub lawful_lines : OrderJudged → ℕ → StateValue → Counts → List ℕ
lawful_lines o events s c = lawful_text events s ++ counts_text o c

unfoldable pub broken_lines : SourceValue → BrokenEvent → ℕ → List ℕ
broken_lines x b unshown =
    broken_line x.names b ++ source_text x.text x.told b.line (broken_record b.event b.why) ++ judged_text x.order unshown

-- what is printed of a verdict
abbrev pub broken_of : ℕ → ℕ → Event → Reason → BrokenEvent
broken_of line cpu e why = record { line = line; cpu = cpu; event = e; why = why }

unfoldable pub verdict_text : {A : Type 0} → SourceValue → Verdict A → List ℕ
verdict_text x (Lawful events state) = lawful_lines x.order events state (counts_of x.marks x.told)
verdict_text x (Broken line cpu e why) = broken_lines x (broken_of line cpu e why) (counts_of x.marks x.told).unshown

-- and behind it the calls that wait
abbrev pub waits_of : SourceValue → List ℕ
waits_of x = waits_text x.names x.slow x.told []

unfoldable pub shown_text : {A : Type 0} → SourceValue → Verdict A → List ℕ
shown_text x v = verdict_text x v ++ waits_of x

-- whether a verdict is that the text is lawful
abbrev pub ruling_of : {A : Type 0} → Verdict A → Ruling
ruling_of (Lawful events state) = rulings.Lawful
ruling_of (Broken line cpu event why) = rulings.Broken

-- this is printed of a verdict, and the text is lawful or not
abbrev pub IsPrinted : List ℕ → Ruling → SourceValue → Result (ℕ × StateValue) EarlyEnd → Type 0
IsPrinted out ruling x (Ok (events, state)) =
    (out ≡ lawful_lines x.order events state (counts_of x.marks x.told) ++ waits_of x) × (ruling ≡ rulings.Lawful)
IsPrinted out ruling x (Err (early_end.Broken line cpu e why)) =
    (out ≡ broken_lines x (broken_of line cpu e why) (counts_of x.marks x.told).unshown ++ waits_of x) × (ruling ≡ rulings.Broken)
IsPrinted out ruling x (Err _) = ⊥

abbrev pub PrintsVerdict : List ℕ → Ruling → SourceValue → Result (Result (ℕ × StateValue) EarlyEnd) Refusal → Type 0
PrintsVerdict out ruling x (Ok made) = IsPrinted out ruling x made
PrintsVerdict out ruling x (Err why) = ⊥

-- what was answered is what is printed of a verdict, or the line that hides it, or memory ran out
abbrev pub PrintsSeen : {A : Type 0} → Result (Vec ℕ A × Ruling) Refusal → SourceValue → Result (Result (ℕ × StateValue) EarlyEnd) Refusal
    → Type 0
PrintsSeen (Ok (out, ruling)) x seen = PrintsVerdict out.items ruling x seen
PrintsSeen (Err refusal.NoMemory) x seen = Unit {0}
PrintsSeen (Err (refusal.Wrong line wrong.Offline)) x seen = seen ≡ Err (refusal.Wrong line wrong.Offline)
PrintsSeen (Err why) x seen = ⊥

-- what was answered is what is printed of that verdict on these events, unless memory ran out
abbrev pub PrintsRuling : {A : Type 0} → Result (Vec ℕ A × Ruling) Refusal → SourceValue → Result (Result (ℕ × StateValue) EarlyEnd) Refusal
    → Type 0
PrintsRuling (Ok (out, ruling)) x made = PrintsVerdict out.items ruling x made
PrintsRuling (Err refusal.NoMemory) x made = Unit {0}
PrintsRuling (Err why) x made = made ≡ Err why

-- the verdict on events, unless this line hides it
abbrev pub ruling_unless : Option ℕ → List Told → Result (Result (ℕ × StateValue) EarlyEnd) Refusal
ruling_unless offline told = ruling_of_told told >>= unless_hidden offline

-- the same of a text, by what is read of it
abbrev pub Prints : {A : Type 0} → Result (Vec ℕ A × Ruling) Refusal → List ℕ → ℕ → Result (KeptValue × TellingValue) Refusal → Type 0
Prints answer text slow (Ok (k, t)) = PrintsRuling answer (source_of text slow k t) (ruling_unless k.offline t.told)
Prints (Ok (out, ruling)) text slow (Err why) = ⊥
Prints (Err refusal.NoMemory) text slow (Err why) = Unit {0}
Prints (Err told) text slow (Err why) = why ≡ told

-- why nothing is printed of a verdict on an order of the events
abbrev pub FailsRun : Refusal → SourceValue → Type 0
FailsRun (refusal.Wrong line wrong.Offline) x =
    HasRun x.marks x.told (λ steps. unless_hidden x.offline (verdict_on steps) ≡ Err (refusal.Wrong line wrong.Offline))
FailsRun why x = FailsInOrder why x.marks x.told

-- the same with order asked for: where the lines show it, what is printed is the verdict on an order of the events
abbrev pub PrintsRun : {A : Type 0} → Result (Vec ℕ A × Ruling) Refusal → SourceValue → Type 0
PrintsRun (Ok (out, ruling)) x = HasRun x.marks x.told (λ steps. PrintsVerdict out.items ruling x (unless_hidden x.offline (verdict_on steps)))
PrintsRun (Err why) x = FailsRun why x

abbrev pub PrintsShown : {A : Type 0} → Result (Vec ℕ A × Ruling) Refusal → Bool → List ℕ → ℕ → KeptValue → TellingValue → Type 0
PrintsShown answer true text slow k t = PrintsRun answer (asked_of order.Judged text slow k t)
PrintsShown answer false text slow k t = PrintsRuling answer (asked_of order.Hidden text slow k t) (ruling_unless k.offline t.told)

abbrev pub PrintsInOrder : {A : Type 0} → Result (Vec ℕ A × Ruling) Refusal → List ℕ → ℕ → Result (KeptValue × TellingValue) Refusal → Type 0
PrintsInOrder answer text slow (Ok (k, t)) = PrintsShown answer (shows_order k.marks) text slow k t
PrintsInOrder (Ok (out, ruling)) text slow (Err why) = ⊥
PrintsInOrder (Err refusal.NoMemory) text slow (Err why) = Unit {0}
PrintsInOrder (Err told) text slow (Err why) = why ≡ told
