use Rattle.smp_machine.proofs.Crews.{played_is}
use Rattle.smp_machine.proofs.threads.drive.Goals as goal

pub returns : goal.returns
returns g c =
    let back = c.into_parts-cpu in let crew = c.args.crew.now in let last = c.poll_to_the_end.ensures in
    played_is g.H.Handler.leads g.F.StopFunc.leads (g.C.Crew.begins crew) (g.C.Crew.plays crew) (g.C.Crew.leaves crew) c.args.machine.now c.args.member
    c.new-seat.result c.play.new.seat c.poll_to_the_end.new.seat
    (record { cpu = back.result.0; handler = back.result.1; functions = back.result.2 }) c.requires.member c.new-seat.ensures c.play.ensures.plays
    c.play.ensures.same last.works last.same last.ended back.ensures.parts back.ensures.at
    (record { calls = c.is_shown.ensures.calls; stops = c.is_shown.ensures.stops })
