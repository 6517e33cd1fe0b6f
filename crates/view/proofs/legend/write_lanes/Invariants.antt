use Rattle.std.proofs.Common.{◌≡◌, ◌++◌, take, string_bytes}
use Rattle.view.specs.Legend.{lanes_text, lane_text}
use Rattle.std.specs.List.{flat_map}
use Rattle.view.proofs.legend.write_lanes.Given as goal

abbrev pub invariant-loop-lane : goal.invariant-loop-lane
invariant-loop-lane g l =
    string_bytes l.out ≡ string_bytes l.initial.out ++ flat_map (lane_text l.frame.base l.frame.low l.frame.lanes.now) (take l.lane-index l.frame.lanes.now)
