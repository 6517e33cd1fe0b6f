-- So many have been made.
use Rattle.std.proofs.Common.{◌≡◌, replicate}
use Rattle.trace_model.specs.declared.call.Place.TheVariants.{Free}
use Rattle.trace_model.proofs.open.free_places.Given as goal

abbrev pub invariant-loop-id : goal.invariant-loop-id
invariant-loop-id g l = l.places.items ≡ replicate l._id Free
