use Rattle.std.proofs.Common.{ℕ, ap}
use Rattle.smp_queue.specs.{Head, Swap}
use Rattle.smp_queue.proofs.Handling.Going.{moment_fits}
use Rattle.smp_queue.proofs.Handling.Handles.{in_handle_ready}
use Rattle.smp_queue.specs.handle
use Rattle.smp_queue.proofs.handle.take.Goals as goal

pub swap-link-requires : goal.swap-link-requires
swap-link-requires c = in_handle_ready c.requires.at (Swap (Head c.args.number) 0) tt (ap (λ (n : ℕ). Swap (Head n) 0) c.requires.me)

pub linked-requires : goal.linked-requires
linked-requires c = moment_fits _ _ handle.Take c.requires.at (Head c.args.number) c.swap-link.result c.swap-link.ensures.known.0
    (ap (λ (n : ℕ). Head n) c.requires.me)
