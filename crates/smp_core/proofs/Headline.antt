-- The headline, of a replay on a new machine.
use Rattle.std.proofs.Common.{◌≡◌, IfOk, Result, Ok, Err, List, arith}
use Rattle.std.proofs.lemmas.List.{get_or-replicate}
use Rattle.smp_words.specs.Layout.{number_in}
use Rattle.smp_words.specs.Size.{table_size}
use Rattle.smp_words.specs.declared.size.TheConstants.{HANDS}
use Rattle.smp_words.specs.declared.word.Word.TheVariants.{Hand}
use Rattle.smp_words.specs.declared.command.Event.{Event}
use Rattle.smp_words.specs.declared.seen.Seen.{Seen}
use Rattle.smp_stop_steps.specs.Table.{stop_number}
use Rattle.smp_stop_steps.specs.Value.{StopShown}
use Rattle.smp_stop_steps.specs.StopLaws.{KeepsStopLaws}
use Rattle.smp_stop_steps.proofs.Promises.StopLaws.{keeps_laws}
use Rattle.smp_core.specs.Broken.{all_ones}
use Rattle.smp_core.specs.Headline.{HasState, stops_after}
use Rattle.smp_core.specs.Machine.{setup_in}
use Rattle.smp_core.specs.Value.{CoreValue}

-- what holds of a value that came
pub ok_then : {T E : Type 0} {P Q : T → Type 0} (r : Result T E) → IfOk r P → ((x : T) → P x → Q x) → IfOk r Q
ok_then (Ok x) k f = f x k
ok_then (Err e) k f = tt

-- the laws of the stops that a replay tells
pub laws_after : (first core : CoreValue) (events : List Event) (seen : List Seen) → StopShown (stops_after first events seen) core.stops
    → KeepsStopLaws (setup_in core) (stops_after first events seen) (stop_number core.stops.table)
laws_after first core events seen shown =
    keeps_laws (setup_in core) (stops_after first events seen) (stop_number core.stops.table) shown.seat shown.source shown.shows

-- a hand is 0 while its CPU is outside a command
pub shows_no_state : HasState all_ones → ⊥
shows_no_state h =
    let zero_ : number_in all_ones.words (Hand 0) ≡ 0 = h.shows_calls.hands 0 in
    let one : number_in all_ones.words (Hand 0) ≡ 1 = get_or-replicate table_size HANDS 1 0 (omega arith) in
    omega (arith, zero_, one)
