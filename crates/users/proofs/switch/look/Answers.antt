use Rattle.users.proofs.Looking.{look_is}
use Rattle.users.proofs.switch.look.Goals as goal

pub returns-clause-lawful : goal.returns-clause-lawful
returns-clause-lawful g c =
    look_is c.kinds_follow_keys.ensures c.args.seat.now.cpu.stops c.read_key.new.self.cpu.stops c.read_site.new.self.cpu.stops c.args.site c.in_ok-on.on
    c.in_ok-kind.kind c.in_ok-on.ensures.answers c.in_ok-kind.ensures.answers
