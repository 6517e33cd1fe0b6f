-- The compare-exchange that wins: the held call joins the queue.
use Rattle.std.proofs.Common.{◌≡◌, ◌≢◌, ℕ, ◌+◌, ◌%◌, ◌^◌, Bool, true, cond, Option, None, List, [], ◌∷◌, ◌++◌, length, sym, refl, ap, ◌∙◌}
use Rattle.std.proofs.Common.{◌⊎◌, inl, inr, arith, length-append}
use Rattle.std.proofs.lemmas.Bool.{ne_eqb, cases_eq}
use Rattle.smp_call_steps.proofs.Steps.Placings.{counted_hold, placed_appended}
use Rattle.smp_call_steps.proofs.State.Recordings.{recorded_appended, sent_here, sent_else}
use Rattle.smp_words.specs.Put.{put, put_word}
use Rattle.smp_words.specs.Size.{owner}
use Rattle.smp_call_steps.specs.{CallState, Holding, Sending, appended, is_nil, ControlValue, IsCall}
use Rattle.smp_call_steps.specs.{Chained, Leads, Linked, Noticed, IsNoticed, is_pending, is_accepted, is_owed, IsEmpty, nexts_in, heads_in, intrs_in}
use Rattle.smp_call_steps.specs.{queued_in, ran_in, IsWrittenIn, WrittenIn, Tallied, sent_to, one_held, share_of}
use Rattle.smp_call_steps.specs.{held_of, HandIs, Call, Word, Head, Hand, Next, RecPlace}
use Rattle.smp_call_steps.specs.Stands.{CallStands}
use Rattle.smp_call_steps.specs.Shows.{Shows}
use Rattle.smp_words.proofs.Puts.{at_test, put_all, put_other, put_same}
use Rattle.smp_call_steps.proofs.Basics.Alls.{every_push}
use Rattle.smp_call_steps.proofs.Steps.Frames.{Touches, leaves_others, CallStands-kept}
use Rattle.smp_call_steps.specs.place

-- one more, above what the head was
pub Leads-push : (nexts : ℕ → ℕ) (link : ℕ) (calls : List Call) (below : ℕ) (new : Call) → nexts new.id ≡ link → Leads nexts link calls below
    → Leads nexts (new.id + 1) (calls ++ new ∷ []) below
Leads-push nexts link [] below new e l = (e ∙ l, refl)
Leads-push nexts link (call ∷ rest) below new e l = (l.0, Leads-push nexts link rest (call.id + 1) new e l.1)

-- owed by now, and owed before
owes_more : (first : Bool) (f : ℕ → ℕ → Bool) (me to source cpu : ℕ) → f source cpu ≡ true → cond first (put f me (put (f me) to true)) f source cpu ≡ true
owes_more x f me to source cpu e = search (at_test, arith)

owes_new : (f : ℕ → ℕ → Bool) (me to : ℕ) → put f me (put (f me) to true) me to ≡ true
owes_new f me to = ap (λ (g : ℕ → Bool). g to) (put_same f me (put (f me) to true)) ∙ put_same (f me) to true

-- the CPU is noticed at the append: it was, where calls stood there, and else it is owed an interrupt now
noticed_there : (a : CallState) (me to : ℕ) (calls : List Call) → IsEmpty calls ⊎ IsNoticed a.pending a.accepted a.owes to →
    IsNoticed a.pending a.accepted (cond (is_nil calls) (put a.owes me (put (a.owes me) to true)) a.owes) to
noticed_there a me to [] n = is_owed me (owes_new a.owes me to)
noticed_there a me to (x ∷ xs) (inl e) = absurd e
noticed_there a me to (x ∷ xs) (inr n) = n

noticed_else : (a : CallState) (first : Bool) (me to cpu : ℕ) → IsNoticed a.pending a.accepted a.owes cpu
    → IsNoticed a.pending a.accepted (cond first (put a.owes me (put (a.owes me) to true)) a.owes) cpu
noticed_else a first me to cpu (is_pending e) = is_pending e
noticed_else a first me to cpu (is_accepted e) = is_accepted e
noticed_else a first me to cpu (is_owed source o) = is_owed source (owes_more first a.owes me to source cpu o)

-- where each CPU with a queue was noticed, it is noticed after the append
pub noticed_appended : (a : CallState) → ((cpu : ℕ) → IsEmpty (a.queue cpu) ⊎ IsNoticed a.pending a.accepted a.owes cpu) → (me to : ℕ) (call : Call) (cpu : ℕ)
    → IsEmpty (put a.queue to (a.queue to ++ call ∷ []) cpu)
    ⊎ IsNoticed a.pending a.accepted (cond (is_nil (a.queue to)) (put a.owes me (put (a.owes me) to true)) a.owes) cpu
noticed_appended a n me to call cpu = elim (cases_eq cpu to) [
  | inl e ↦ inr (rw e (noticed_there a me to (a.queue to) (n to)))
  | inr ne ↦ rw (put_other a.queue to (a.queue to ++ call ∷ []) cpu ne)
      (elim (n cpu) [ inl empty ↦ inl empty | inr m ↦ inr (noticed_else a (is_nil (a.queue to)) me to cpu m) ])
]

one_held-else : (held : Option Holding) (call : Call) (to cpu : ℕ) → held ≡ counted_hold call to → cpu ≢ to → one_held held cpu ≡ 0
one_held-else held call to cpu e ne = rw (e, ne_eqb to cpu (λ f. ne (sym f))) refl

-- the count goes from the call that was held to the one that was sent
tally_here : (n to : ℕ) (sent : List Sending) (call : Call) (first : Bool) (held : Option Holding) → held ≡ counted_hold call to →
    n ≡ (length (sent_to to sent) + one_held held to) % 2 ^ 64
    → n ≡ (length (sent_to to (sent ++ record { call = call; to = to; is_first = first } ∷ [])) + 0) % 2 ^ 64
tally_here n to sent call first held e t = search (sent_here, length-append, arith)

tally_else : (n to cpu : ℕ) (sent : List Sending) (call : Call) (first : Bool) (held : Option Holding) → held ≡ counted_hold call to → cpu ≢ to →
    n ≡ (length (sent_to cpu sent) + one_held held cpu) % 2 ^ 64
    → n ≡ (length (sent_to cpu (sent ++ record { call = call; to = to; is_first = first } ∷ [])) + 0) % 2 ^ 64
tally_else n to cpu sent call first held e ne t = rw (sent_else cpu to sent call first ne) (rw (one_held-else held call to cpu e ne) at t)

-- the tallies after the append
pub tallied_appended : (a : CallState) (queued ran_words : ℕ → ℕ → ℕ) (me to : ℕ) (call : Call) → a.held me ≡ counted_hold call to
    → Tallied queued ran_words a.sent a.held a.ran a.running
    → Tallied queued ran_words (put a.sent me (a.sent me ++ record { call = call; to = to; is_first = is_nil (a.queue to) } ∷ []))
    (put a.held me None) a.ran a.running
tallied_appended a queued ran_words me to call holds t = search (at_test, cases_eq, tally_here, tally_else, arith)

module _ (a : CallState) (at : Word → ℕ) (control : ℕ → ControlValue) (me to : ℕ) (call : Call) (next : ControlValue) (s : Shows a at control)
    (own : owner call.id ≡ me) (holds : a.held me ≡ counted_hold call to) (is_call : IsCall call) (placed : a.place call.id ≡ place.Held)
    (written : IsWrittenIn at call) (link : at (Next call.id) ≡ at (Head to)) where
  places' : ℕ → RecPlace
  places' = put a.place call.id (place.Queued to)

  at' : Word → ℕ
  at' = put_word at (Head to) (call.id + 1)

  held' : ℕ → Option Holding
  held' = put a.held me None

  queue' : ℕ → List Call
  queue' = put a.queue to (a.queue to ++ call ∷ [])

  touches : Touches call.id a.place (put a.place call.id (place.Queued to)) at (put_word at (Head to) (call.id + 1))
  touches = search (put_other, arith)

  written' : WrittenIn at (put a.place call.id (place.Queued to)) (put a.queue to (a.queue to ++ call ∷ [])) a.batch a.running
  written' = search (at_test, every_push, arith)

  chained' : Chained (heads_in (put_word at (Head to) (call.id + 1))) (nexts_in at) (put a.queue to (a.queue to ++ call ∷ []))
  chained' = search (at_test, Leads-push, arith)

  links' : Linked (nexts_in at) (put a.held me None) a.linked
  links' = search (at_test, arith)

  noticed' : Noticed (intrs_in at) (put a.queue to (a.queue to ++ call ∷ [])) a.pending a.accepted
      (cond (is_nil (a.queue to)) (put a.owes me (put (a.owes me) to true)) a.owes)
  noticed' = search (noticed_appended, arith)

  -- append: the held call is queued, and its holder holds none
  pub append_kept : held_of next.stage ≡ None → CallStands (put a.place call.id (place.Queued to)) (put_word at (Head to) (call.id + 1)) (share_of a me) me next
      → HandIs next.stage (at (Hand me)) →
      Shows (appended a me to (counted_hold call to)) (put_word at (Head to) (call.id + 1)) (put control me next)
  append_kept none stands hand = record {
    held = λ cpu. at_test cpu me (λ b. cond b None (a.held cpu) ≡ held_of (cond b next (control cpu)).stage) (λ _. sym none) (λ _. s.held cpu);
    stands = put_all (λ cpu x. CallStands (put a.place call.id (place.Queued to)) (put_word at (Head to) (call.id + 1)) (share_of a cpu) cpu x)
        control me next stands
        (λ cpu ne. CallStands-kept (leaves_others me call.id a.place (put a.place call.id (place.Queued to)) at (put_word at (Head to) (call.id + 1))
        (rw placed own) touches cpu ne) (share_of a cpu) (control cpu) (s.placed.batched cpu) (s.stands cpu));
    hands = put_all (λ cpu (x : ControlValue). HandIs x.stage (at (Hand cpu))) control me next hand (λ cpu _. s.hands cpu);
    placed = placed_appended a s.placed me to call own holds is_call placed;
    written = written';
    chained = chained';
    links = links';
    noticed = noticed';
    recorded = recorded_appended a me s.recorded to call own;
    tallied = tallied_appended a (queued_in at) (ran_in at) me to call holds s.tallied;
  }
