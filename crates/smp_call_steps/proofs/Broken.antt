-- What breaks the headline of calls.
use Rattle.std.proofs.Common.{◌≡◌, ◌≢◌, ℕ, ◌%◌, inl, List, [], ◌∷◌, length, IsPermutation, refl, ap, arith}
use Rattle.std.proofs.lemmas.List.Sorted.{length_permutation}
use Rattle.smp_words.specs.Size.{owner}
use Rattle.smp_call_steps.specs.{Call, Sync, no_calls}
use Rattle.smp_call_steps.specs.Broken.{no_words, one_locked, one_counted, in_a_queue, in_two_queues, twice_in_a_queue, held_by_another}
use Rattle.smp_call_steps.specs.Broken.{lost, ran_twice, ran_unsent, second_begins, second_joins}
use Rattle.smp_call_steps.specs.Headline.{InOnePlace, RunOnce, RunInOrder, IsDrained, RunEqualQueued}
use Rattle.smp_call_steps.specs.Reached.{IsReached, IsNever, ArePlaced, HoldTheirOwn}
use Rattle.smp_call_steps.proofs.ReachedLaws.{reached_in_one_place, reached_run_once, reached_run_in_order, reached_run_equal_queued, reached_placed}
use Rattle.smp_call_steps.proofs.ReachedLaws.{reached_hold}
use Rattle.smp_call_steps.specs.place

-- place

pub two_queues : InOnePlace in_two_queues one_locked → ⊥
two_queues h = let e : place.Queued 2 ≡ place.Queued 1 = (h.each 0).only (place.Queued 2) (inl refl) in absurd cc

pub queued_twice : InOnePlace twice_in_a_queue one_locked → ⊥
queued_twice h = (h.queue_apart 1).0.0 refl

pub unlocked : InOnePlace in_a_queue no_words → ⊥
unlocked h =
    let queued : place.Queued 1 ≢ place.Free = λ e. cc in
    let odd : 0 % 2 ≡ 1 = (h.each 0).locked queued in omega (arith, odd)

pub held_elsewhere : InOnePlace held_by_another one_locked → ⊥
unfolding owner
held_elsewhere h = let e : 0 ≡ 1 = (h.each 0).held 1 refl in omega (arith, e)

-- once

as_many : (xs ys : List Call) (n m : ℕ) → IsPermutation xs ys → length xs ≡ n → length ys ≡ m → m ≡ n
as_many xs ys n m h is are = let e = length_permutation xs ys h in omega (arith, e, is, are)

pub one_lost : RunOnce lost → ⊥
one_lost h = let e : 0 ≡ 1 = as_many _ _ 1 0 (h 0 1) refl refl in omega (arith, e)

pub one_twice : RunOnce ran_twice → ⊥
unfolding owner
one_twice h = let e : 2 ≡ 1 = as_many _ _ 1 2 (h 0 1) refl refl in omega (arith, e)

pub one_unsent : RunOnce ran_unsent → ⊥
unfolding owner
one_unsent h = let e : 1 ≡ 0 = as_many _ _ 0 1 (h 0 1) refl refl in omega (arith, e)

-- order

abbrev first_id : List Call → ℕ
first_id [] = 2
first_id (call ∷ rest) = call.id

pub begins_first : RunInOrder second_begins → ⊥
begins_first h = let e : 0 ≡ 1 = ap first_id (h.begin 1 Sync).1 in omega (arith, e)

pub joins_first : RunInOrder second_joins → ⊥
unfolding owner
joins_first h = let e : 1 ≡ 0 = ap first_id (h.join 0 1) in omega (arith, e)

-- drained

none_locked : IsDrained no_words
none_locked = record { heads = λ cpu. refl; flags = λ id. refl; hands = λ cpu. refl }

counted_drained : IsDrained one_counted
counted_drained = record { heads = λ cpu. refl; flags = λ id. refl; hands = λ cpu. refl }

pub not_run : RunEqualQueued lost no_words → ⊥
not_run h = let e : 0 ≡ 1 = as_many _ _ 1 0 (h none_locked 0 1).calls refl refl in omega (arith, e)

pub not_counted : RunEqualQueued no_calls one_counted → ⊥
not_counted h = let e : 1 ≡ 0 = (h counted_drained 0 1).counts in omega (arith, e)

-- no steps that CPUs may make lead there

placed_twice : ArePlaced in_two_queues → ⊥
placed_twice p = let e : place.Queued 1 ≡ place.Queued 2 = (p.queued 2).0.placed in absurd cc

placed_again : ArePlaced twice_in_a_queue → ⊥
placed_again p = (p.queue_apart 1).0.0 refl

not_its_own : HoldTheirOwn held_by_another → ⊥
unfolding owner
not_its_own h = let e : 0 ≡ 1 = (h 1 0 refl).0 in omega (arith, e)

pub no_two_queues : IsNever in_two_queues
no_two_queues at r = placed_twice (reached_placed in_two_queues at r)

pub not_queued_twice : IsNever twice_in_a_queue
not_queued_twice at r = placed_again (reached_placed twice_in_a_queue at r)

pub not_held_elsewhere : IsNever held_by_another
not_held_elsewhere at r = not_its_own (reached_hold held_by_another at r)

pub none_lost : IsNever lost
none_lost at r = one_lost (reached_run_once lost at r)

pub none_twice : IsNever ran_twice
none_twice at r = one_twice (reached_run_once ran_twice at r)

pub none_unsent : IsNever ran_unsent
none_unsent at r = one_unsent (reached_run_once ran_unsent at r)

pub not_begun_first : IsNever second_begins
not_begun_first at r = begins_first (reached_run_in_order second_begins at r)

pub not_joined_first : IsNever second_joins
not_joined_first at r = joins_first (reached_run_in_order second_joins at r)

pub none_unlocked : IsReached in_a_queue no_words → ⊥
none_unlocked r = unlocked (reached_in_one_place in_a_queue no_words r)

pub none_counted : IsReached no_calls one_counted → ⊥
none_counted r = not_counted (reached_run_equal_queued no_calls one_counted r)
