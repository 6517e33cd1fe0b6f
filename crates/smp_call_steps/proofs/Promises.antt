-- The laws of the call half.
use Rattle.std.proofs.Common.{arith, ◌≡◌, ◌≢◌, ℕ, ◌==◌, Bool, cond, List, [], ◌∷◌, ◌++◌, inl, inr, sym, subst, refl, ap, ◌∙◌}
use Rattle.std.specs.List.{AllByRecursion}
use Rattle.smp_words.specs.Size.{owner}
use Rattle.smp_call_steps.specs.{CallState, Sending, batches, Marked, mark, marked, others_marked, batches_marked, history_of, sent_to, marked_from}
use Rattle.smp_call_steps.specs.{calls_from, Holds, HasRecord, IsPlaced, IsThere, NothingCalled, StepsAreTold, calls_to, RunAtMostOnce}
use Rattle.smp_call_steps.specs.{if_class, of_class, IsPrefix, Call, Class, RecPlace}
use Rattle.smp_call_steps.specs.Reached.{ArePlaced}
use Rattle.smp_call_steps.proofs.Knows.OneStep.{known_step}
use Rattle.smp_call_steps.proofs.State.QueueOrder.{run_in_queue_order}
use Rattle.smp_call_steps.proofs.Machine.Starts.{zeros_shown}
use Rattle.smp_call_steps.specs.place

pub nothing_called : NothingCalled
nothing_called at control zeros outside = zeros_shown at control zeros outside

pub steps_are_told : StepsAreTold
steps_are_told a at control v shown sees stage may access is = known_step shown sees stage may access is

-- the place of a record that a list has
placed_there : (places : ℕ → RecPlace) (p : RecPlace) (id : ℕ) (calls : List Call) → AllByRecursion (IsPlaced places p) calls → HasRecord id calls
    → places id ≡ p
placed_there places p id [] all h = absurd h
placed_there places p id (call ∷ rest) all (inl e) = subst (λ (k : ℕ). places k ≡ p) e all.0.placed
placed_there places p id (call ∷ rest) all (inr h) = placed_there places p id rest all.1 h

-- where a record is, by the place law alone
module _ (a : CallState) (placed : ArePlaced a) (home : (cpu id : ℕ) → Holds (a.held cpu) id → a.place id ≡ place.Held) where
  pub only_there : (id : ℕ) (p : RecPlace) → p ≢ place.Free → IsThere a.held a.queue a.batch a.running id p → a.place id ≡ p
  only_there id x ne h = search (placed_there, arith)

-- of a class and of a source, one after the other

module _ (source : ℕ) where
  class_from : (class of : Class) (call : Call) (rest : List Call) → call.class ≡ of
      → of_class class (calls_from source rest) ≡ calls_from source (of_class class rest) →
      of_class class (calls_from source (call ∷ rest)) ≡ calls_from source (if_class class of call ++ of_class class rest)
  class_from x y call rest e h = search arith

  pub from_class : (class : Class) (calls : List Call) → of_class class (calls_from source calls) ≡ calls_from source (of_class class calls)
  from_class class [] = refl
  from_class class (call ∷ rest) = class_from class call.class call rest refl (from_class class rest)

  from_one : (b : Bool) (x : Call) (xs ys : List Call) → calls_from source (xs ++ ys) ≡ calls_from source xs ++ calls_from source ys →
      cond b (x ∷ calls_from source (xs ++ ys)) (calls_from source (xs ++ ys)) ≡ cond b (x ∷ calls_from source xs) (calls_from source xs)
      ++ calls_from source ys
  from_one x y xs ys e = search arith

  pub from-append : (xs ys : List Call) → calls_from source (xs ++ ys) ≡ calls_from source xs ++ calls_from source ys
  from-append [] ys = refl
  from-append (x ∷ xs) ys = from_one (owner x.id == source) x xs ys (from-append xs ys)

-- calls without their marks

abbrev pub unmarked : List Marked → List Call
unmarked [] = []
unmarked (m ∷ rest) = m.call ∷ unmarked rest

unmarked-append : (xs ys : List Marked) → unmarked (xs ++ ys) ≡ unmarked xs ++ unmarked ys
unmarked-append [] ys = refl
unmarked-append (x ∷ xs) ys = ap (λ (k : List Call). x.call ∷ k) (unmarked-append xs ys)

unmarked_if : (b : Bool) (m : Marked) (ms : List Marked) (calls : List Call) → unmarked ms ≡ calls
    → unmarked (cond b (m ∷ ms) ms) ≡ cond b (m.call ∷ calls) calls
unmarked_if x m ms calls e = search arith

pub unmarked_sent : (cpu : ℕ) (sent : List Sending) → unmarked (sent_to cpu sent) ≡ calls_to cpu sent
unmarked_sent cpu [] = refl
unmarked_sent cpu (s ∷ rest) = unmarked_if (s.to == cpu) (mark s.is_first s.call) (sent_to cpu rest) (calls_to cpu rest) (unmarked_sent cpu rest)

pub unmarked_from : (source : ℕ) (ms : List Marked) → unmarked (marked_from source ms) ≡ calls_from source (unmarked ms)
unmarked_from source [] = refl
unmarked_from source (m ∷ rest) = search (unmarked_if, unmarked_from source rest, arith)

unmarked_others : (calls : List Call) → unmarked (others_marked calls) ≡ calls
unmarked_others [] = refl
unmarked_others (call ∷ rest) = ap (λ (k : List Call). call ∷ k) (unmarked_others rest)

unmarked_all : (calls : List Call) → unmarked (marked calls) ≡ calls
unmarked_all x = search (unmarked_others, arith)

pub unmarked_batches : (taken : List (List Call)) → unmarked (batches_marked taken) ≡ batches taken
unmarked_batches [] = refl
unmarked_batches (batch ∷ rest) = search (unmarked-append, unmarked_all, unmarked_batches rest, arith)

pub unmarked_history : (taken : List (List Call)) (queue : List Call) → unmarked (history_of taken queue) ≡ batches taken ++ queue
unmarked_history taken queue = search (unmarked-append, unmarked_batches, unmarked_all, arith)

pub run_at_most_once : RunAtMostOnce
run_at_most_once a at control s source cpu class =
    let p : IsPrefix (of_class class (a.ran cpu)) (of_class class (batches (a.taken cpu) ++ a.queue cpu)) = run_in_queue_order a at control s cpu class in
    let sent : calls_to cpu (a.sent source) ≡ calls_from source (batches (a.taken cpu) ++ a.queue cpu) =
    sym (unmarked_sent cpu (a.sent source)) ∙ (ap unmarked (s.recorded.in_order source cpu) ∙
    (unmarked_from source (history_of (a.taken cpu) (a.queue cpu)) ∙ ap (calls_from source) (unmarked_history (a.taken cpu) (a.queue cpu)))) in (
      calls_from source p.0,
      ap (of_class class) sent ∙ (from_class source class (batches (a.taken cpu) ++ a.queue cpu) ∙ (ap (calls_from source) p.1 ∙
          (from-append source (of_class class (a.ran cpu)) p.0
          ∙ ap (λ (k : List Call). k ++ calls_from source p.0) (sym (from_class source class (a.ran cpu)))))),
    )
