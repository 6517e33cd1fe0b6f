use Rattle.std.proofs.Common.{◌≡◌, List, length, take}
use Rattle.std.specs.List.{flat_map}
use Rattle.smp_run.specs.Answers.{AnsweredBelow}
use Rattle.smp_run.specs.Made.{Making, AreLinesMade, HasMade, stops_of}
use Rattle.smp_run.specs.Seats.{keys_at}
use Rattle.smp_run.specs.Sent.{HasCalled, script_calls, script_direct}
use Rattle.smp_run.specs.Stays.{Stays}
use Rattle.smp_run.proofs.driver.answer_all.Given as goal

abbrev pub invariant-loop-at : goal.invariant-loop-at
invariant-loop-at g l = let first = l.initial.seat in let m = first.machine in let this = first.cpu.calls.number in
    Stays first l.seat × (length l.answers ≡ length l.lines)
    × AnsweredBelow m.calls.online (keys_at m) (λ c. c ≡ this) l.lines l.answers l.at
    × HasCalled (script_calls m.calls.online this (take l.at l.lines)) (script_direct this (take l.at l.lines)) first.cpu l.seat.cpu
    × ((made : List (List Making)) × AreLinesMade m this l.lines l.answers l.at made × HasMade (flat_map stops_of made) first.cpu l.seat.cpu)
