-- A seat between two calls, and what stays of it.
use Rattle.smp_machine.specs.Seats.{IsSameSeat, SeatValue}
use Rattle.smp_run.specs.Seats.{IsSeated}
use Rattle.smp_run.specs.Sent.{HasWaited}

module _ {H F : Type 0} where
  -- its CPU is online and in no stop, and each of its calls that waits has ended
  pub record IsAtRest (s : SeatValue H F) : Type 0 where
    pub seated : IsSeated s.machine s.cpu
    pub waited : HasWaited s.cpu

  -- it is the same seat, and at rest again
  pub record Stays (old new : SeatValue H F) : Type 0 where
    pub same : IsSameSeat old new
    pub rest : IsAtRest new
