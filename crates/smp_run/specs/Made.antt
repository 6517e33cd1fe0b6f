-- Which stops the lines of a script ask a CPU to make, and what is answered.
use Rattle.std.specs.List.{AllByRecursion, flat_map}
use Rattle.std.specs.Prelude.{◌≡◌, ◌≢◌, ◌⊎◌, ℕ, ℤ, pos, ◌<◌, true, List, [], ◌∷◌, ◌++◌, length, map, slice_index_or}
use Rattle.smp_labels.specs.declared.keys.Change.TheVariants.{Up, Down}
use Rattle.smp_mask.specs.declared.error.SmpError.TheVariants as error
use Rattle.smp_multi.specs.Answers.{answer_in}
use Rattle.smp_multi.specs.Cpu.{TableValue}
use Rattle.smp_multi.specs.Names.{Work}
use Rattle.smp_machine.specs.Keys.{IsPatchOf, state_of}
use Rattle.smp_machine.specs.MachineCpu.{MachineValue, MachineCpuValue}
use Rattle.smp_machine.specs.Stops.{IsOneWork, IsTwoWork, IsMachineWork}
use Rattle.smp_script.specs.declared.directive.Directive.{Directive}
use Rattle.smp_script.specs.declared.directive.Directive.TheVariants.{Do}
use Rattle.smp_script.specs.declared.request.Request.{Request}
use Rattle.smp_script.specs.declared.request.Request.TheVariants.{One, Two, Machine, Set, Inc, Dec}
use Rattle.smp_run.specs.Answers.{IsAnswer}
use Rattle.smp_run.specs.Seats.{keys_at}
use Rattle.smp_run.specs.declared.answer.Answer.{Answer}
use Rattle.smp_run.specs.declared.answer.Answer.TheVariants.{Number, Turned, Refused}

-- a stop that was made: its work, and its result as a word
pub record Stop : Type 0 where
  pub work : Work
  pub word : ℕ

-- a request that was made once: the stops that it made, and its answer
pub record Making : Type 0 where
  pub stops : List Stop
  pub answer : Answer

-- since then a CPU has begun the works of these stops and collected their results, in order, and no others
pub record HasMade (stops : List Stop) (old new : MachineCpuValue) : Type 0 where
  pub begun : new.stops.part.begun ≡ old.stops.part.begun ++ map (λ s. s.work) stops
  pub collected : new.stops.part.collected ≡ old.stops.part.collected ++ map (λ s. s.word) stops

-- one stop, of such a work, whose answer is such
pub record IsOneStop (Fits : Work → Type 0) (Says : ℤ → Type 0) (stops : List Stop) : Type 0 where
  pub stop : Stop
  pub fits : Fits stop.work
  pub says : Says (answer_in stop.word)
  pub stops_are : stops ≡ stop ∷ []

-- of a stop: it is made where it is not refused, and its result is the answer
abbrev pub IsStopOf : (Work → Type 0) → Answer → List Stop → Type 0
IsStopOf Fits (Number n) stops = IsOneStop Fits (λ x. n ≡ x) stops
IsStopOf Fits _ stops = stops ≡ []

-- of a key that is set: one patch turned it exactly where the answer is true
abbrev pub IsStopOfSet : (Work → Type 0) → Answer → List Stop → Type 0
IsStopOfSet Fits (Turned true) stops = IsOneStop Fits (λ x. Unit {0}) stops
IsStopOfSet Fits _ stops = stops ≡ []

-- of a key that is counted: the same; E13 was found by a load, or by a patch that has changed nothing
abbrev pub IsStopOfCount : (Work → Type 0) → Answer → List Stop → Type 0
IsStopOfCount Fits (Turned true) stops = IsOneStop Fits (λ x. x ≡ pos 0) stops
IsStopOfCount Fits (Refused (error.KeyRange e)) stops = (stops ≡ []) ⊎ IsOneStop Fits (λ x. x ≢ pos 0) stops
IsStopOfCount Fits _ stops = stops ≡ []

-- the stops of a request with this answer
abbrev pub AreStopsOf : TableValue → Request → Answer → List Stop → Type 0
AreStopsOf t (One dst func arg) answer stops = IsStopOf (IsOneWork dst func arg) answer stops
AreStopsOf t (Two a b func arg) answer stops = IsStopOf (IsTwoWork a b func arg) answer stops
AreStopsOf t (Machine active func arg) answer stops = IsStopOf (IsMachineWork t func arg active) answer stops
AreStopsOf t (Set k on) answer stops = IsStopOfSet (IsPatchOf t k (state_of on)) answer stops
AreStopsOf t (Inc k) answer stops = IsStopOfCount (IsPatchOf t k Up) answer stops
AreStopsOf t (Dec k) answer stops = IsStopOfCount (IsPatchOf t k Down) answer stops
AreStopsOf t _ answer stops = stops ≡ []

-- what a CPU has done that made a request once: it has made the stops of this answer
abbrev pub Makes : TableValue → Request → Answer → MachineCpuValue → MachineCpuValue → Type 0
Makes t request answer old new = (stops : List Stop) × AreStopsOf t request answer stops × HasMade stops old new

-- an answer of this request by this CPU, and the stops of that answer
abbrev pub IsMaking : MachineValue → ℕ → Request → Making → Type 0
IsMaking m this request x = IsAnswer m.calls.online (keys_at m) this request x.answer × AreStopsOf m.stops request x.answer x.stops

-- a request this number of times; the answer is the last one's
pub record AreMakings (m : MachineValue) (this : ℕ) (request : Request) (count : ℕ) (answer : Answer) (makings : List Making) : Type 0 where
  pub sized : length makings ≡ count
  pub each : AllByRecursion (IsMaking m this request) makings
  pub before : List Making
  pub last : Making
  pub makings_are : makings ≡ before ++ last ∷ []
  pub answer_is : answer ≡ last.answer

-- a line, as often as it says, where it is this CPU's own
abbrev pub IsLineMade : MachineValue → ℕ → Directive → Answer → List Making → Type 0
IsLineMade m this (Do cpu count request) answer makings = (cpu ≡ this → AreMakings m this request count answer makings) × (cpu ≢ this → makings ≡ [])
IsLineMade m this _ answer makings = makings ≡ []

-- the first n lines: the requests made for each
pub record AreLinesMade (m : MachineValue) (this : ℕ) (lines : List Directive) (answers : List Answer) (n : ℕ) (made : List (List Making)) : Type 0 where
  pub sized : length made ≡ n
  pub each : (i : ℕ) (l : Directive) (a : Answer) (x : List Making) → i < n
      → IsLineMade m this (slice_index_or lines i l) (slice_index_or answers i a) (slice_index_or made i x)

-- the stops of some requests
abbrev pub stops_of : List Making → List Stop
stops_of makings = flat_map (λ x. x.stops) makings

-- Since then a CPU has made its own lines, in the order of the script: the stops of each repetition of each line, and no
-- others; and the answer of a line is that of its last repetition.
pub record HasPlayed (m : MachineValue) (lines : List Directive) (answers : List Answer) (old new : MachineCpuValue) : Type 0 where
  pub made : List (List Making)
  pub lines_are : AreLinesMade m old.calls.number lines answers (length lines) made
  pub stops : HasMade (flat_map stops_of made) old new
