-- The work of a stop by its numbers.
use Rattle.std.specs.Prelude.{◌≡◌, ℤ, ◌&&◌, nat_lt, if◌then◌else◌, Option, None, Some}
use Rattle.smp_mask.specs.declared.error.SmpError.TheVariants as error
use Rattle.smp_words.specs.Kinds.{kind_at}
use Rattle.smp_words.specs.declared.work.Work.{Work}
use Rattle.smp_tables_c.specs.Places.{IfOpen}
use Rattle.smp_tables_c.specs.SeatValue.{SeatValue}
use Rattle.smp_tables_c.specs.Status.{number_of}
use Rattle.smp_tables_c.specs.Stops.{Begins}
use Rattle.smp_tables_c.specs.declared.record.SmpWork.{SmpWork}

-- the work of these numbers, where there is such a kind and such a function
abbrev pub work_named : SmpWork → Option Work
work_named w =
    if nat_lt w.kind 3 && nat_lt w.func 65536
    then Some (record { kind = kind_at w.kind; mask = w.mask; active = w.active; func = w.func; arg = w.arg })
    else None

-- begin by numbers: E4 where they name no work, which changes nothing
abbrev pub BeginsNamed : Option Work → ℤ → Option SeatValue → Option SeatValue → Type 0
BeginsNamed None r old new = (r ≡ number_of error.BadArgument) × (new ≡ old)
BeginsNamed (Some work) r old new = IfOpen (Begins work r) r old new
