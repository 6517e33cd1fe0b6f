-- A seat whose CPU is outside makes a call of one of its tables; another is refused.
use Rattle.std.proofs.Common.{◌≡◌, ℕ, ℤ, pos, Result, Ok, Err, inr, refl, sym, ap, subst, ◌∙◌}
use Rattle.smp_queue.specs.Cpu.{CpuValue}
use Rattle.smp_multi.specs.ByValue.{Answered, OneAnswers, TurnedAnswers}
use Rattle.smp_multi.specs.Cpu.{AnsweringValue, CpuValue as StopValue}
use Rattle.smp_multi.specs.declared.answering.Turned.{Turned}
use Rattle.smp_multi.specs.declared.answering.Turned.TheVariants as turned
use Rattle.smp_tables_c.specs.Places.{ByCalls, ByStops, IsRefused, IsRefusedWith, OfCalls, OfStops, WhereInStop, WhereOut}
use Rattle.smp_tables_c.specs.SeatValue.{SeatValue}
use Rattle.smp_tables_c.specs.Stops.{AnswerIs, AnswersStop, EnterBy, EnterIs, EntersStop, TurnIs, Turns, TurnsOn, stop_call}
use Rattle.smp_tables_c.specs.declared.place.CpuPlace.{CpuPlace}
use Rattle.smp_tables_c.specs.declared.place.CpuPlace.TheVariants.{InStop, Out}
use Rattle.smp_tables_c.specs.declared.record.SmpCall.{SmpCall}

-- seen at the seat as it is kept
pub seated : (C : ℤ → SeatValue → SeatValue → Type 0) (r v : ℤ) (s s' t t' : SeatValue) → C v s t → r ≡ v → s ≡ s' → t' ≡ t → C r s' t'
seated C r v s s' t t' done told before after =
    subst (λ (x : ℤ). C x s' t') (sym told) (subst (λ (x : SeatValue). C v x t') before (subst (λ (x : SeatValue). C v s x) (sym after) done))

pub by_calls : (By : CpuValue → CpuValue → ℤ → Type 0) (s : SeatValue) (c d : CpuValue) (m : StopValue) (r : ℤ) → s.place ≡ Out c m → By c d r
    → ByCalls By r s (record s { place = Out d m })
by_calls By s c d m r at by =
    let t = record s { place = Out d m } in
    subst (λ (p : CpuPlace). WhereOut (OfCalls By s t r) (IsRefused s t r) p) (sym at) (d, by, refl)

pub by_stops : (By : StopValue → StopValue → ℤ → Type 0) (s : SeatValue) (c : CpuValue) (m d : StopValue) (r : ℤ) → s.place ≡ Out c m → By m d r
    → ByStops By r s (record s { place = Out c d })
by_stops By s c m d r at by =
    let t = record s { place = Out c d } in
    subst (λ (p : CpuPlace). WhereOut (OfStops By s t r) (IsRefused s t r) p) (sym at) (d, by, refl)

-- the seat keeps the slot of the stop that was entered
pub by_enter : (s : SeatValue) (slot after : ℕ) (c : CpuValue) (m d : StopValue) (r : ℤ) → s.place ≡ Out c m → EnterBy s.stops slot m d s.slot after r
    → EntersStop slot r s (record s { place = Out c d; slot = after })
by_enter s slot after c m d r at by =
    let t = record s { place = Out c d; slot = after } in
    subst (λ (p : CpuPlace). WhereOut (EnterIs slot s t r) (IsRefused s t r) p) (sym at) (d, after, by, refl)

-- what a turn does leaves nothing of where its seat was
turns_from : (s s' t : SeatValue) (before after : SmpCall) (r : ℤ) (c : CpuValue) (answer : Result Turned StopValue)
    → ((p : CpuPlace) → record s' { place = p } ≡ record s { place = p }) → s'.slot ≡ s.slot → TurnsOn s' t before after r c answer
    → TurnsOn s t before after r c answer
turns_from s s' t before after r c (Ok (turned.Same d)) same slot on = (on.0 ∙ same (Out c d), on.1, on.2)
turns_from s s' t before after r c (Ok (turned.Moved d phase)) same slot on = (on.0 ∙ same (Out c d), on.1, on.2)
turns_from s s' t before after r c (Ok (turned.Left d)) same slot on = (on.0 ∙ same (Out c d), on.1, on.2)
turns_from s s' t before after r c (Ok (turned.Ran d)) same slot on = (on.0 ∙ same (Out c d), on.1, on.2)
turns_from s s' t before after r c (Ok (turned.Call a)) same slot on =
    (on.0 ∙ same (InStop c a), on.1 ∙ ap (λ (k : ℕ). stop_call k a) slot, on.2)
turns_from s s' t before after r c (Err d) same slot on = (on.0 ∙ same (Out c d), on.1, on.2)

-- there is no function to call of a stop of one CPU, and a turn is made
pub by_turn : (s s' t : SeatValue) (before after : SmpCall) (r : ℤ) (c : CpuValue) (m m' : StopValue) (answer : Result Turned StopValue)
    → ((p : CpuPlace) → record s' { place = p } ≡ record s { place = p }) → s'.slot ≡ s.slot → s.place ≡ Out c m → OneAnswers m (Err m')
    → TurnedAnswers m' answer → TurnsOn s' t before after r c answer → Turns before after r s t
by_turn s s' t before after r c m m' answer same slot at one gone on =
    subst (λ (q : CpuPlace). WhereOut (TurnIs s t before after r) (IsRefusedWith s t before after r) q) (sym at)
    (inr ((one.0, refl), answer, subst (λ (x : StopValue). TurnedAnswers x answer) one.1 gone, turns_from s s' t before after r c answer same slot on))

-- the function of a stop is out, and its answer is given
pub by_answer : (s : SeatValue) (v : ℤ) (c : CpuValue) (a : AnsweringValue) (d : StopValue) → s.place ≡ InStop c a → Answered a v d
    → AnswersStop v (pos 0) s (record s { place = Out c d })
by_answer s v c a d at is =
    let t = record s { place = Out c d } in
    subst (λ (q : CpuPlace). WhereInStop (AnswerIs v s t (pos 0)) (IsRefused s t (pos 0)) q) (sym at) (d, is, refl, refl)
