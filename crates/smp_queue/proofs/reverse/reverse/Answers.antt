use Rattle.std.proofs.Common.{refl, sym}
use Rattle.smp_queue.proofs.reverse.reverse.Goals as goal

pub loop-next-init : goal.loop-next-init
loop-next-init c = record { at = c.requires.at; calls_are = sym c.requires.none; known_is = refl }
