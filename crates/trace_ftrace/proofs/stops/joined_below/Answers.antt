use Rattle.trace_model.proofs.Masks.{is_joined}
use Rattle.trace_ftrace.proofs.stops.joined_below.Goals as goal

pub returns-in-Ok : goal.returns-in-Ok
returns-in-Ok c = is_joined c.args.mask c.args.cpu _ c.requires c.in-Ok.ensures.members
