-- What the calls of C about cross-CPU calls do, by the calls of the call table.
use Rattle.std.specs.Prelude.{◌≡◌, ◌⊎◌, ℕ, ℤ, pos, ◌==◌, ◌&&◌, nat_lt, Bool, true, false, if◌then◌else◌, List, Option, None, Some, Result, Ok, Err}
use Rattle.smp_mask.specs.Mask.{has}
use Rattle.smp_mask.specs.declared.error.SmpError.{SmpError}
use Rattle.smp_mask.specs.declared.error.SmpError.TheVariants as error
use Rattle.smp_words.specs.declared.call.Call.{Call}
use Rattle.smp_words.specs.declared.call.Class.{Class}
use Rattle.smp_words.specs.declared.call.Class.TheVariants.{Sync, Async}
use Rattle.smp_call_steps.specs.Start.{has_record}
use Rattle.smp_queue.specs.Cpu.{CpuValue, TableValue, PostAnswers, confirms, looks, sends}
use Rattle.smp_queue.specs.Handling.{asks, heard_of}
use Rattle.smp_queue.specs.HandsOut.{NextIs}
use Rattle.smp_queue.specs.Serving.{ends, takes}
use Rattle.smp_queue.specs.ServingValue.{ServingValue}
use Rattle.smp_queue.specs.declared.handler.Heard.{Heard}
use Rattle.smp_queue.specs.declared.serving.Next.{Next}
use Rattle.smp_queue.specs.declared.serving.Next.TheVariants as next
use Rattle.smp_multi.specs.Cpu.{CpuValue as StopValue}
use Rattle.smp_tables_c.specs.SeatValue.{SeatValue}
use Rattle.smp_tables_c.specs.Status.{number_of, status_of, yes_of}
use Rattle.smp_tables_c.specs.Places.{ByCalls, IfOpen, IsRefusedWith, WhereOut, WhereInCall}
use Rattle.smp_tables_c.specs.declared.place.CpuPlace.TheVariants.{Out, InCall}
use Rattle.smp_tables_c.specs.declared.record.SmpCall.{SmpCall}

-- post: it is `post_within` of the call table
abbrev pub PostBy : TableValue → ℕ → ℕ → Class → ℕ → ℕ → ℕ → CpuValue → CpuValue → ℤ → Type 0
PostBy t k to class func info tries c d r =
    (answer : Result Bool SmpError) × PostAnswers t c d k to class func info tries answer × (r ≡ yes_of answer)

abbrev pub Posts : ℕ → ℕ → Class → ℕ → ℕ → ℕ → ℤ → SeatValue → SeatValue → Type 0
Posts k to class func info tries r s t = ByCalls (PostBy s.calls k to class func info tries) r s t

-- the class and the function of these numbers, where there are such
abbrev pub class_at : ℕ → Class
class_at class = if class == 0 then Sync else Async

abbrev pub named : ℕ → ℕ → Option (Class × ℕ)
named class func = if nat_lt class 2 && nat_lt func 65536 then Some (class_at class, func) else None

-- post by numbers: E4 where there is no such class or function, which changes nothing
abbrev pub PostsNamed : Option (Class × ℕ) → ℕ → ℕ → ℕ → ℕ → ℤ → Option SeatValue → Option SeatValue → Type 0
PostsNamed None k to info tries r old new = (r ≡ number_of error.BadArgument) × (new ≡ old)
PostsNamed (Some (class, func)) k to info tries r old new = IfOpen (Posts k to class func info tries r) r old new

-- send: it is `interrupt` of the call table
abbrev pub SendAnswers : TableValue → CpuValue → CpuValue → ℕ → Result Unit SmpError → Type 0
SendAnswers t c d to (Ok u) = (has t.online to ≡ true) × (d ≡ sends to c)
SendAnswers t c d to (Err e) = (e ≡ error.NoCpu) × (has t.online to ≡ false) × (d ≡ c)

abbrev pub SendBy : TableValue → ℕ → CpuValue → CpuValue → ℤ → Type 0
SendBy t to c d r = (answer : Result Unit SmpError) × SendAnswers t c d to answer × (r ≡ status_of answer)

abbrev pub Sends : ℕ → ℤ → SeatValue → SeatValue → Type 0
Sends to r s t = ByCalls (SendBy s.calls to) r s t

-- is_done: it is `is_done` of the call table
abbrev pub DoneAnswers : TableValue → CpuValue → CpuValue → ℕ → Result Bool SmpError → Type 0
DoneAnswers t c d k (Ok done) = (has_record t.nr k ≡ true) × (d ≡ looks (if done then confirms k c else c))
DoneAnswers t c d k (Err e) = (e ≡ error.BadArgument) × (has_record t.nr k ≡ false) × (d ≡ c)

abbrev pub DoneBy : TableValue → ℕ → CpuValue → CpuValue → ℤ → Type 0
DoneBy t k c d r = (answer : Result Bool SmpError) × DoneAnswers t c d k answer × (r ≡ yes_of answer)

abbrev pub AsksDone : ℕ → ℤ → SeatValue → SeatValue → Type 0
AsksDone k r s t = ByCalls (DoneBy s.calls k) r s t

-- a call as C gets it
abbrev pub call_of : Heard → SmpCall
call_of h = record { info = h.info; src = h.src; func = h.func }

-- what has come next of its calls is handed out: 0 where there was no interrupt, 1 with the call that is out, 2 where none is left
abbrev pub GoesOn : SeatValue → SeatValue → SmpCall → SmpCall → ℤ → StopValue → Next → Type 0
GoesOn s t before after r m (next.Idle d) = (t ≡ record s { place = Out d m }) × (after ≡ before) × (r ≡ pos 0)
GoesOn s t before after r m (next.Run v) = (t ≡ record s { place = InCall v m }) × (after ≡ call_of (heard_of v.call)) × (r ≡ pos 1)
GoesOn s t before after r m (next.Done d) = (t ≡ record s { place = Out d m }) × (after ≡ before) × (r ≡ pos 2)

-- handle: it is `begin_handle` of the call table
abbrev pub HandleIs : SeatValue → SeatValue → SmpCall → SmpCall → ℤ → CpuValue → StopValue → Type 0
HandleIs s t before after r c m =
    (n : Next) × ((n ≡ next.Idle (asks false c)) ⊎ ((queue : List Call) × NextIs (takes queue (asks true c)) n)) × GoesOn s t before after r m n

abbrev pub Handles : SmpCall → SmpCall → ℤ → SeatValue → SeatValue → Type 0
Handles before after r s t = WhereOut (HandleIs s t before after r) (IsRefusedWith s t before after r) s.place

-- next: it is `resume` of the call table, of the call that is out
abbrev pub ResumeIs : SeatValue → SeatValue → SmpCall → SmpCall → ℤ → ServingValue → StopValue → Type 0
ResumeIs s t before after r v m = (n : Next) × NextIs (ends v.call v.cpu) n × GoesOn s t before after r m n

abbrev pub Resumes : SmpCall → SmpCall → ℤ → SeatValue → SeatValue → Type 0
Resumes before after r s t = WhereInCall (ResumeIs s t before after r) (IsRefusedWith s t before after r) s.place

-- what has come is of this call table
abbrev pub IsNextAt : TableValue → Next → Type 0
IsNextAt t (next.Idle d) = d.table ≡ t.table
IsNextAt t (next.Run v) = v.cpu.table ≡ t.table
IsNextAt t (next.Done d) = d.table ≡ t.table
