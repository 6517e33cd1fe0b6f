-- What a call of C does by where its CPU is.
use Rattle.std.specs.Prelude.{◌≡◌, ℤ, Option, None, Some}
use Rattle.smp_queue.specs.Cpu.{CpuValue}
use Rattle.smp_queue.specs.ServingValue.{ServingValue}
use Rattle.smp_multi.specs.Cpu.{CpuValue as StopValue, AnsweringValue}
use Rattle.smp_tables_c.specs.SeatValue.{SeatValue}
use Rattle.smp_tables_c.specs.Status.{closed, inside, outside}
use Rattle.smp_tables_c.specs.declared.place.CpuPlace.{CpuPlace}
use Rattle.smp_tables_c.specs.declared.place.CpuPlace.TheVariants.{Out, InCall, InStop, Moving}

-- outside it does this; while a function is out it is refused
abbrev pub WhereOut : (CpuValue → StopValue → Type 0) → (ℤ → Type 0) → CpuPlace → Type 0
WhereOut Does Refused (Out c m) = Does c m
WhereOut Does Refused (InCall s m) = Refused inside
WhereOut Does Refused (InStop c a) = Refused inside
WhereOut Does Refused Moving = Refused closed

-- while the function of a call is out it does this; else it is refused
abbrev pub WhereInCall : (ServingValue → StopValue → Type 0) → (ℤ → Type 0) → CpuPlace → Type 0
WhereInCall Does Refused (Out c m) = Refused outside
WhereInCall Does Refused (InCall s m) = Does s m
WhereInCall Does Refused (InStop c a) = Refused inside
WhereInCall Does Refused Moving = Refused closed

-- while the function of a stop is out it does this; else it is refused
abbrev pub WhereInStop : (CpuValue → AnsweringValue → Type 0) → (ℤ → Type 0) → CpuPlace → Type 0
WhereInStop Does Refused (Out c m) = Refused outside
WhereInStop Does Refused (InCall s m) = Refused inside
WhereInStop Does Refused (InStop c a) = Does c a
WhereInStop Does Refused Moving = Refused closed

-- a refusal changes nothing, and this is its number
abbrev pub IsRefused : SeatValue → SeatValue → ℤ → ℤ → Type 0
IsRefused s t r n = (t ≡ s) × (r ≡ n)

-- nor is what the caller passes to be written
abbrev pub IsRefusedWith : {A : Type 0} → SeatValue → SeatValue → A → A → ℤ → ℤ → Type 0
IsRefusedWith s t before after r n = (t ≡ s) × (after ≡ before) × (r ≡ n)

-- what a call of the call table does of its CPU, and answers, is done of the seat
abbrev pub OfCalls : (CpuValue → CpuValue → ℤ → Type 0) → SeatValue → SeatValue → ℤ → CpuValue → StopValue → Type 0
OfCalls By s t r c m = (d : CpuValue) × By c d r × (t ≡ record s { place = Out d m })

-- the same of a call of the stop table
abbrev pub OfStops : (StopValue → StopValue → ℤ → Type 0) → SeatValue → SeatValue → ℤ → CpuValue → StopValue → Type 0
OfStops By s t r c m = (d : StopValue) × By m d r × (t ≡ record s { place = Out c d })

-- outside a call of the call table is made; else it is refused
abbrev pub ByCalls : (CpuValue → CpuValue → ℤ → Type 0) → ℤ → SeatValue → SeatValue → Type 0
ByCalls By r s t = WhereOut (OfCalls By s t r) (IsRefused s t r) s.place

-- outside a call of the stop table is made; else it is refused
abbrev pub ByStops : (StopValue → StopValue → ℤ → Type 0) → ℤ → SeatValue → SeatValue → Type 0
ByStops By r s t = WhereOut (OfStops By s t r) (IsRefused s t r) s.place

-- an open handle stays open, and this is done at its seat; a closed one stays closed, and is refused
abbrev pub IfOpen : (SeatValue → SeatValue → Type 0) → ℤ → Option SeatValue → Option SeatValue → Type 0
IfOpen Does r None None = r ≡ closed
IfOpen Does r (Some s) (Some t) = Does s t
IfOpen Does r _ _ = ⊥
