-- What the calls of C about stops, keys and sites do, by the calls of the stop table.
use Rattle.std.specs.Prelude.{◌≡◌, ◌⊎◌, ℕ, ℤ, pos, Bool, true, false, if◌then◌else◌, Option, None, Some, Result, Ok, Err}
use Rattle.smp_labels.specs.declared.kinds.SiteKind.{SiteKind}
use Rattle.smp_labels.specs.declared.kinds.SiteKind.TheVariants.{Nop, Jmp}
use Rattle.smp_mask.specs.declared.error.SmpError.{SmpError}
use Rattle.smp_mask.specs.declared.error.SmpError.TheVariants as error
use Rattle.smp_words.specs.Kinds.{kind_word}
use Rattle.smp_words.specs.declared.work.Kind.{Kind}
use Rattle.smp_words.specs.declared.work.Work.{Work}
use Rattle.smp_queue.specs.Cpu.{CpuValue}
use Rattle.smp_multi.specs.Advance.{FinishAnswers}
use Rattle.smp_multi.specs.Answers.{BeginAnswers, Enters, RefusesEntry, PollAnswers}
use Rattle.smp_multi.specs.ByValue.{Answered, OneAnswers, TurnedAnswers}
use Rattle.smp_multi.specs.Cpu.{CpuValue as StopValue, AnsweringValue, IsAt, TableValue as StopTableValue, gives_gate, misses_gate, takes_gate}
use Rattle.smp_multi.specs.Laws.{FindsHeld}
use Rattle.smp_multi.specs.Nudges.{NudgeAnswers}
use Rattle.smp_multi.specs.Reads.{KeyAnswers, SiteAnswers}
use Rattle.smp_multi.specs.declared.answering.Turned.{Turned}
use Rattle.smp_multi.specs.declared.answering.Turned.TheVariants as turned
use Rattle.smp_multi.specs.declared.nudge.Nudge.{Nudge}
use Rattle.smp_multi.specs.declared.nudge.Nudge.TheVariants.{Done, Lost, Stop}
use Rattle.smp_tables_c.specs.SeatValue.{SeatValue}
use Rattle.smp_tables_c.specs.Status.{bit_of, number_of, status_of, yes_of}
use Rattle.smp_tables_c.specs.Places.{ByStops, OfStops, IsRefused, IsRefusedWith, WhereInStop, WhereOut}
use Rattle.smp_tables_c.specs.declared.place.CpuPlace.TheVariants.{Out, InStop}
use Rattle.smp_tables_c.specs.declared.record.SmpCall.{SmpCall}

-- try_gate: it is `try_gate` of the stop table
abbrev pub GateBy : StopValue → StopValue → ℤ → Type 0
GateBy m d r =
    (taken : Bool) × (d ≡ if taken then takes_gate m else misses_gate m)
    × (m.part.holds ≡ true → taken ≡ false) × (taken ≡ false → FindsHeld m) × (r ≡ bit_of taken)

abbrev pub TriesGate : ℤ → SeatValue → SeatValue → Type 0
TriesGate r s t = ByStops GateBy r s t

-- open_gate: it is `open_gate` of the stop table
abbrev pub GivesGate : StopValue → StopValue → Result Unit SmpError → Type 0
GivesGate m d (Ok u) = (m.part.holds ≡ true) × (d ≡ gives_gate m)
GivesGate m d (Err e) = (e ≡ error.BadArgument) × (m.part.holds ≡ false) × (d ≡ m)

abbrev pub GiveBy : StopValue → StopValue → ℤ → Type 0
GiveBy m d r = (answer : Result Unit SmpError) × GivesGate m d answer × (r ≡ status_of answer)

abbrev pub OpensGate : ℤ → SeatValue → SeatValue → Type 0
OpensGate r s t = ByStops GiveBy r s t

-- begin: it is `begin` of the stop table
abbrev pub BeginBy : StopTableValue → Work → StopValue → StopValue → ℤ → Type 0
BeginBy t work m d r = (answer : Result Unit SmpError) × BeginAnswers t m d work answer × (r ≡ status_of answer)

abbrev pub Begins : Work → ℤ → SeatValue → SeatValue → Type 0
Begins work r s t = ByStops (BeginBy s.stops work) r s t

-- enter: it is `enter` of the stop table, and the seat keeps the slot
abbrev pub EnterAnswers : StopTableValue → ℕ → StopValue → StopValue → Result Kind SmpError → Type 0
EnterAnswers t slot m d (Ok kind) = Enters t slot m d kind
EnterAnswers t slot m d (Err e) = (e ≡ error.Stale) × RefusesEntry t slot m d

abbrev pub slot_after : ℕ → ℕ → Result Kind SmpError → ℕ
slot_after old slot (Ok kind) = slot
slot_after old slot (Err e) = old

abbrev pub kind_or : Result Kind SmpError → ℤ
kind_or (Ok kind) = pos (kind_word kind)
kind_or (Err e) = number_of e

abbrev pub EnterBy : StopTableValue → ℕ → StopValue → StopValue → ℕ → ℕ → ℤ → Type 0
EnterBy t slot m d before after r =
    (answer : Result Kind SmpError) × EnterAnswers t slot m d answer × (after ≡ slot_after before slot answer) × (r ≡ kind_or answer)

abbrev pub EnterIs : ℕ → SeatValue → SeatValue → ℤ → CpuValue → StopValue → Type 0
EnterIs slot s t r c m =
    (d : StopValue) × (after : ℕ) × EnterBy s.stops slot m d s.slot after r × (t ≡ record s { place = Out c d; slot = after })

abbrev pub EntersStop : ℕ → ℤ → SeatValue → SeatValue → Type 0
EntersStop slot r s t = WhereOut (EnterIs slot s t r) (IsRefused s t r) s.place

-- the function of a stop, as C gets it
abbrev pub stop_call : ℕ → AnsweringValue → SmpCall
stop_call slot a = record { info = a.arg; src = slot; func = a.func }

-- the function of a stop is out
abbrev pub HandsOut : SeatValue → SeatValue → SmpCall → SmpCall → ℤ → CpuValue → AnsweringValue → Type 0
HandsOut s t before after r c a = (t ≡ record s { place = InStop c a }) × (after ≡ stop_call s.slot a) × (r ≡ pos 1)

-- it is outside after a turn, and this is told of it
abbrev pub StaysOut : SeatValue → SeatValue → SmpCall → SmpCall → ℤ → CpuValue → StopValue → ℤ → Type 0
StaysOut s t before after r c d n = (t ≡ record s { place = Out c d }) × (after ≡ before) × (r ≡ n)

-- what a turn has done is told: 0 nothing, 2 a phase, 3 the last one, 4 a patch, or 1 with the function that is out
abbrev pub TurnsOn : SeatValue → SeatValue → SmpCall → SmpCall → ℤ → CpuValue → Result Turned StopValue → Type 0
TurnsOn s t before after r c (Ok (turned.Same d)) = StaysOut s t before after r c d (pos 0)
TurnsOn s t before after r c (Ok (turned.Moved d phase)) = StaysOut s t before after r c d (pos 2)
TurnsOn s t before after r c (Ok (turned.Left d)) = StaysOut s t before after r c d (pos 3)
TurnsOn s t before after r c (Ok (turned.Ran d)) = StaysOut s t before after r c d (pos 4)
TurnsOn s t before after r c (Ok (turned.Call a)) = HandsOut s t before after r c a
TurnsOn s t before after r c (Err d) = StaysOut s t before after r c d (number_of error.BadArgument)

-- turn: it is `begin_one` of the stop table, or where that has no function to call `turn`
abbrev pub TurnIs : SeatValue → SeatValue → SmpCall → SmpCall → ℤ → CpuValue → StopValue → Type 0
TurnIs s t before after r c m =
    ((a : AnsweringValue) × OneAnswers m (Ok a) × HandsOut s t before after r c a)
    ⊎ (OneAnswers m (Err m) × (answer : Result Turned StopValue) × TurnedAnswers m answer × TurnsOn s t before after r c answer)

abbrev pub Turns : SmpCall → SmpCall → ℤ → SeatValue → SeatValue → Type 0
Turns before after r s t = WhereOut (TurnIs s t before after r) (IsRefusedWith s t before after r) s.place

-- answer: it is `answer` of the stop table, of the function that is out
abbrev pub AnswerIs : ℤ → SeatValue → SeatValue → ℤ → CpuValue → AnsweringValue → Type 0
AnswerIs v s t r c a = (d : StopValue) × Answered a v d × (t ≡ record s { place = Out c d }) × (r ≡ pos 0)

abbrev pub AnswersStop : ℤ → ℤ → SeatValue → SeatValue → Type 0
AnswersStop v r s t = WhereInStop (AnswerIs v s t r) (IsRefused s t r) s.place

-- finish: it is `finish` of the stop table
abbrev pub FinishBy : StopValue → StopValue → ℤ → Type 0
FinishBy m d r = (answer : Result Unit SmpError) × FinishAnswers m d answer × (r ≡ status_of answer)

abbrev pub Finishes : ℤ → SeatValue → SeatValue → Type 0
Finishes r s t = ByStops FinishBy r s t

-- what a poll has found is told: 0 not yet, 1 with the result
abbrev pub Tells : ℤ → ℤ → ℤ → Result (Option ℤ) SmpError → Type 0
Tells before after r (Ok None) = (after ≡ before) × (r ≡ pos 0)
Tells before after r (Ok (Some v)) = (after ≡ v) × (r ≡ pos 1)
Tells before after r (Err e) = (after ≡ before) × (r ≡ number_of e)

-- poll_done: it is `poll_done` of the stop table
abbrev pub PollBy : ℤ → ℤ → StopValue → StopValue → ℤ → Type 0
PollBy before after m d r = (answer : Result (Option ℤ) SmpError) × PollAnswers m d answer × Tells before after r answer

abbrev pub Polls : ℤ → ℤ → ℤ → SeatValue → SeatValue → Type 0
Polls before after r s t = WhereOut (OfStops (PollBy before after) s t r) (IsRefusedWith s t before after r) s.place

-- read_key: it is `read_key` of the stop table
abbrev pub KeyBy : ℕ → StopValue → StopValue → ℤ → Type 0
KeyBy k m d r = (answer : Result Bool SmpError) × KeyAnswers k m d answer × (r ≡ yes_of answer)

abbrev pub ReadsKey : ℕ → ℤ → SeatValue → SeatValue → Type 0
ReadsKey k r s t = ByStops (KeyBy k) r s t

-- read_site: it is `read_site` of the stop table
abbrev pub site_or : Result SiteKind SmpError → ℤ
site_or (Ok Nop) = pos 0
site_or (Ok Jmp) = pos 1
site_or (Err e) = number_of e

abbrev pub SiteBy : ℕ → StopValue → StopValue → ℤ → Type 0
SiteBy i m d r = (answer : Result SiteKind SmpError) × SiteAnswers i m d answer × (r ≡ site_or answer)

abbrev pub ReadsSite : ℕ → ℤ → SeatValue → SeatValue → Type 0
ReadsSite i r s t = ByStops (SiteBy i) r s t

-- try_key: it is `try_key` of the stop table
abbrev pub nudge_or : Result Nudge SmpError → ℤ
nudge_or (Ok Done) = pos 0
nudge_or (Ok Lost) = pos 1
nudge_or (Ok Stop) = pos 2
nudge_or (Err e) = number_of e

abbrev pub NudgeBy : ℕ → Bool → StopValue → StopValue → ℤ → Type 0
NudgeBy k up m d r = (answer : Result Nudge SmpError) × NudgeAnswers k up m d answer × (r ≡ nudge_or answer)

abbrev pub TriesKey : ℕ → Bool → ℤ → SeatValue → SeatValue → Type 0
TriesKey k up r s t = ByStops (NudgeBy k up) r s t

-- what has come of a turn is of this stop table
abbrev pub IsTurnedAt : StopTableValue → Result Turned StopValue → Type 0
IsTurnedAt t (Ok (turned.Same d)) = IsAt t d
IsTurnedAt t (Ok (turned.Moved d phase)) = IsAt t d
IsTurnedAt t (Ok (turned.Left d)) = IsAt t d
IsTurnedAt t (Ok (turned.Ran d)) = IsAt t d
IsTurnedAt t (Ok (turned.Call a)) = IsAt t a.cpu
IsTurnedAt t (Err d) = IsAt t d
