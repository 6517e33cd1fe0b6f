-- What the exchanges of a post leave of its CPU.
use Rattle.std.specs.Prelude.{◌≡◌, Bool, ◌==◌}
use Rattle.smp_call_steps.specs.Threads.Heads.{Found, last_found, AreOthers}
use Rattle.smp_call_steps.specs.Threads.Known.{queued_known, outside_known, stepped, lost_tries}
use Rattle.smp_call_steps.specs.Stands.{posted}
use Rattle.smp_queue.specs.Names.{KnownCalls, Posting}

-- it has counted its call, has found these numbers, has lost an exchange at each but the last, and has queued its call at that
pub record Appends (p : Posting) (first : Bool) (found : Found) (v w : KnownCalls) : Type 0 where
  pub others : AreOthers found
  pub first_is : first ≡ (last_found found == 0)
  pub known_is : w ≡ queued_known (posted p) p.to first (last_found found) (lost_tries found v)

-- it has counted its call, has found these numbers, has lost an exchange at each but the last, and has given up by two steps
pub record GivesUp (found : Found) (v w : KnownCalls) : Type 0 where
  pub others : AreOthers found
  pub known_is : w ≡ outside_known (stepped 2 (lost_tries found v))
