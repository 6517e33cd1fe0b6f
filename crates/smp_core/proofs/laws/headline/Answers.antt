use Rattle.smp_call_steps.proofs.Headline.{shown_laws, in_one_place, run_once, run_in_order, run_equal_queued}
use Rattle.smp_stop_steps.proofs.Promises.Headline.{disabled_at_seats, lawful_at_seats}
use Rattle.smp_core.proofs.laws.headline.Goals as goal

pub returns-clause-state : goal.returns-clause-state
returns-clause-state g c = let w = c.is_whole.ensures in record {
  calls = w.sound.table.calls;
  shows_calls = w.sound.table.shown;
  stops = w.stops.stops;
  shows_stops = let s = w.stops.shown in record { seat = s.seat; present = s.shows.present; callings = s.shows.callings };
}

pub returns-clause-place : goal.returns-clause-place
returns-clause-place g c a shown = in_one_place (shown_laws shown)

pub returns-clause-once : goal.returns-clause-once
returns-clause-once g c a shown = run_once (shown_laws shown)

pub returns-clause-order : goal.returns-clause-order
returns-clause-order g c a shown = run_in_order (shown_laws shown)

pub returns-clause-function : goal.returns-clause-function
returns-clause-function g c p shown = disabled_at_seats shown

pub returns-clause-lawful : goal.returns-clause-lawful
returns-clause-lawful g c p shown = lawful_at_seats shown

pub returns-clause-drained : goal.returns-clause-drained
returns-clause-drained g c a shown = run_equal_queued (shown_laws shown)
