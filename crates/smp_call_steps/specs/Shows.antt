-- What holds between the calls, the words and the stage of each CPU, between any two steps.
use Rattle.std.specs.Prelude.{◌≡◌, ℕ}
use Rattle.smp_call_steps.specs.Calls.{CallState}
use Rattle.smp_call_steps.specs.Stages.{ControlValue}
use Rattle.smp_call_steps.specs.Places.{Placed}
use Rattle.smp_call_steps.specs.Words.{Written, Chained, Linked, Noticed, flags_in, funcs_in, infos_in, nexts_in, heads_in, intrs_in, hands_in, queued_in}
use Rattle.smp_call_steps.specs.Words.{ran_in}
use Rattle.smp_call_steps.specs.Histories.{Recorded, Tallied}
use Rattle.smp_call_steps.specs.Stands.{CallStands, share_of, held_of, HandIs}
use Rattle.smp_call_steps.specs.Names.{Word}

pub record Shows (a : CallState) (at : Word → ℕ) (control : ℕ → ControlValue) : Type 0 where
  -- each CPU holds what its stage says, and is where it may be
  pub held : (cpu : ℕ) → a.held cpu ≡ held_of (control cpu).stage
  pub stands : (cpu : ℕ) → CallStands a.place at (share_of a cpu) cpu (control cpu)
  pub hands : (cpu : ℕ) → HandIs (control cpu).stage (hands_in at cpu)
  -- the place law
  pub placed : Placed a.place a.held a.queue a.batch a.running a.confirmed
  -- the words
  pub written : Written (flags_in at) (funcs_in at) (infos_in at) a.place a.queue a.batch a.running
  pub chained : Chained (heads_in at) (nexts_in at) a.queue
  pub links : Linked (nexts_in at) a.held a.linked
  -- the interrupt law
  pub noticed : Noticed (intrs_in at) a.queue a.pending a.accepted a.owes
  -- the queue history and the tally law
  pub recorded : Recorded a.sent a.taken a.queue a.ran a.running a.batch
  pub tallied : Tallied (queued_in at) (ran_in at) a.sent a.held a.ran a.running
