-- The queue history after each kind of step, whatever words there are: a call joins a queue, a queue is taken, a call begins, or it
-- is counted or ended.
use Rattle.std.proofs.Common.{◌≡◌, ◌≢◌, ℕ, Bool, List, [], ◌∷◌, ◌++◌, sym, ap, ◌∙◌, append_assoc, arith}
use Rattle.std.proofs.lemmas.List.{append-nil}
use Rattle.smp_words.specs.Put.{put}
use Rattle.smp_words.specs.Size.{owner}
use Rattle.smp_call_steps.specs.{CallState, Sending, Running, Nothing, is_nil, order, mark, marked, batches_marked, history_of, sent_to, marked_from, orders}
use Rattle.smp_call_steps.specs.{running_call, Recorded, Call}
use Rattle.smp_words.proofs.Puts.{at_test}
use Rattle.smp_call_steps.proofs.Basics.Lists.{sent_to-push, marked_from-push, history-push, one_if-same, one_if-other}

pub sent_else : (cpu to : ℕ) (sent : List Sending) (call : Call) (first : Bool) → cpu ≢ to
    → sent_to cpu (sent ++ record { call = call; to = to; is_first = first } ∷ []) ≡ sent_to cpu sent
sent_else cpu to sent call first ne = search (sent_to-push, one_if-other, append-nil, arith)

pub sent_here : (to : ℕ) (sent : List Sending) (call : Call) (first : Bool)
    → sent_to to (sent ++ record { call = call; to = to; is_first = first } ∷ []) ≡ sent_to to sent ++ mark first call ∷ []
sent_here to sent call first = search (sent_to-push, one_if-same, arith)

from_else : (source : ℕ) (taken : List (List Call)) (queue : List Call) (call : Call) → owner call.id ≢ source
    → marked_from source (history_of taken (queue ++ call ∷ [])) ≡ marked_from source (history_of taken queue)
from_else source taken queue call ne = search (history-push, marked_from-push, one_if-other, append-nil, arith)

from_here : (source : ℕ) (taken : List (List Call)) (queue : List Call) (call : Call) → owner call.id ≡ source
    → marked_from source (history_of taken (queue ++ call ∷ [])) ≡ marked_from source (history_of taken queue) ++ mark (is_nil queue) call ∷ []
from_here source taken queue call e = search (history-push, marked_from-push, one_if-same, arith)

-- the histories with one batch more

batches_marked-push : (batches : List (List Call)) (batch : List Call) → batches_marked (batches ++ batch ∷ []) ≡ batches_marked batches ++ marked batch
batches_marked-push [] batch = append-nil (marked batch)
batches_marked-push (x ∷ xs) batch = ap (λ k. marked x ++ k) (batches_marked-push xs batch) ∙ sym (append_assoc (marked x) (batches_marked xs) (marked batch))

orders-push : (batches : List (List Call)) (batch : List Call) → orders (batches ++ batch ∷ []) ≡ orders batches ++ order batch
orders-push [] batch = append-nil (order batch)
orders-push (x ∷ xs) batch = ap (λ k. order x ++ k) (orders-push xs batch) ∙ sym (append_assoc (order x) (orders xs) (order batch))

-- the same calls, in one batch more and an empty queue
history-taken : (taken : List (List Call)) (queue : List Call) → history_of (taken ++ queue ∷ []) [] ≡ history_of taken queue
history-taken taken queue = append-nil (batches_marked (taken ++ queue ∷ [])) ∙ batches_marked-push taken queue

module _ (a : CallState) (me : ℕ) (r : Recorded a.sent a.taken a.queue a.ran a.running a.batch) where
  -- the held call joins a queue
  pub recorded_appended : (to : ℕ) (call : Call) → owner call.id ≡ me
      → Recorded (put a.sent me (a.sent me ++ record { call = call; to = to; is_first = is_nil (a.queue to) } ∷ [])) a.taken
      (put a.queue to (a.queue to ++ call ∷ [])) a.ran a.running a.batch
  recorded_appended to call own = search (at_test, sent_here, from_here, sent_else, from_else, arith)

  -- a whole queue becomes a batch
  pub recorded_taken : a.batch me ≡ [] → a.running me ≡ Nothing
      → Recorded a.sent (put a.taken me (a.taken me ++ a.queue me ∷ [])) (put a.queue me []) a.ran a.running (put a.batch me (order (a.queue me)))
  recorded_taken none idle = search (at_test, history-taken, append-nil, orders-push, arith)

  -- the front of the batch runs
  pub recorded_begun : (call : Call) (rest : List Call) (run : Running) → a.batch me ≡ call ∷ rest → a.running me ≡ Nothing → running_call run ≡ call ∷ []
      → Recorded a.sent a.taken a.queue a.ran (put a.running me run) (put a.batch me rest)
  recorded_begun call rest run front idle runs = search (at_test, arith)

  -- the call that runs is counted, or ends
  pub recorded_counted : (run : Running) (ran' : ℕ → List Call) → ((cpu : ℕ) → cpu ≢ me → ran' cpu ≡ a.ran cpu)
      → ran' me ++ running_call run ≡ a.ran me ++ running_call (a.running me) → Recorded a.sent a.taken a.queue ran' (put a.running me run) a.batch
  recorded_counted run ran' others ended = search (at_test, append_assoc, arith)
