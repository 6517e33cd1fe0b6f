-- States of calls, and words, that break the headline: no core shows them.
use Rattle.std.specs.Prelude.{ℕ, ◌==◌, false, true, cond, Some, List, [], ◌∷◌}
use Rattle.smp_words.specs.Put.{put}
use Rattle.smp_call_steps.specs.State.{CallState, Sending, no_calls}
use Rattle.smp_call_steps.specs.Names.{Call, Sync, Word, Flags, Queued}
use Rattle.smp_call_steps.specs.Names.place
pub use Rattle.smp_call_steps.specs.Reached.{no_words}

-- the SYNC call by this record of CPU 0, and as CPU 0 has sent it to CPU 1
abbrev pub call_by : ℕ → Call
call_by id = record { id = id; class = Sync; func = 0; info = 0 }

abbrev pub sending : ℕ → Sending
sending id = record { call = call_by id; to = 1; is_first = true }

-- words in which record 0 alone is locked; those in which CPU 0 has counted a call for CPU 1
abbrev pub one_locked : Word → ℕ
one_locked (Flags id) = cond (id == 0) 1 0
one_locked w = 0

abbrev pub one_counted : Word → ℕ
one_counted (Queued source cpu) = 1
one_counted w = 0

-- record 0 is said to be in the queue of CPU 1, and is in it, in these two, and twice in it
abbrev pub queued_as : (ℕ → List Call) → CallState
queued_as queue = record no_calls { place = put no_calls.place 0 (place.Queued 1); queue = queue }

abbrev pub in_a_queue : CallState
in_a_queue = queued_as (put no_calls.queue 1 (call_by 0 ∷ []))

abbrev pub in_two_queues : CallState
in_two_queues = queued_as (λ cpu. call_by 0 ∷ [])

abbrev pub twice_in_a_queue : CallState
twice_in_a_queue = queued_as (put no_calls.queue 1 (call_by 0 ∷ call_by 0 ∷ []))

-- CPU 1 holds record 0, which is of CPU 0
abbrev pub held_by_another : CallState
held_by_another = record no_calls {
  place = put no_calls.place 0 place.Held;
  held = λ cpu. Some (record { call = call_by 0; to = 1; is_counted = false });
}

-- CPU 0 has sent one call to CPU 1: where it waits nowhere and has not begun; where it has ended twice
abbrev pub lost : CallState
lost = record no_calls { sent = put no_calls.sent 0 (sending 0 ∷ []) }

abbrev pub ran_twice : CallState
ran_twice = record lost { ran = put no_calls.ran 1 (call_by 0 ∷ call_by 0 ∷ []) }

-- CPU 0 has sent none, and one has ended on CPU 1
abbrev pub ran_unsent : CallState
ran_unsent = record no_calls { ran = put no_calls.ran 1 (call_by 0 ∷ []) }

-- CPU 0 has sent two calls to CPU 1: where the second has begun, and the first has not; where the second joined the queue first
abbrev pub both_sent : CallState
both_sent = record no_calls { sent = put no_calls.sent 0 (sending 0 ∷ sending 1 ∷ []) }

abbrev pub second_begins : CallState
second_begins = record both_sent {
  taken = put no_calls.taken 1 ((call_by 0 ∷ call_by 1 ∷ []) ∷ []);
  batch = put no_calls.batch 1 (call_by 0 ∷ []);
  ran = put no_calls.ran 1 (call_by 1 ∷ []);
}

abbrev pub second_joins : CallState
second_joins = record both_sent { queue = put no_calls.queue 1 (call_by 1 ∷ call_by 0 ∷ []) }
