-- What a post shows of the calls: the record that it gave up is free, and its mark is that of the queue history.
use Rattle.std.proofs.Common.{arith, ◌≡◌, ℕ, Bool}
use Rattle.smp_words.specs.Size.{record_of}
use Rattle.smp_call_steps.specs.Calls.{CallState}
use Rattle.smp_call_steps.specs.Threads.Heads.{Found}
use Rattle.smp_call_steps.specs.Threads.Known.{standing, stepped, Lives}
use Rattle.smp_call_steps.proofs.Basics.Lists.{sent_to-push, one_if-same}
use Rattle.smp_call_steps.proofs.Knows.Restages.{free_outside}
use Rattle.smp_queue.specs.{Class, KnownCalls, Posting, GivesUp, CpuValue, MayQueue, cpu_of, posts, ShowsThat, IsFree, call_by, IsMarked, SeatValue, uncounted}
use Rattle.smp_queue.specs.post

module _ (d : SeatValue) (l : Lives d.known) where
  -- what holds of the calls that the table shows
  shows_that : (P : CallState → Type 0) → P l.calls → ShowsThat (cpu_of d) P
  shows_that P h = search arith

  -- a CPU that has given a record up
  pub free_then : (v w : KnownCalls) (new : CpuValue) (p : Posting) (k : ℕ) (found : Found) → GivesUp found w d.known
      → w ≡ standing (uncounted p) post.Count (stepped 3 v) →
      v.part ≡ new.part → v.number ≡ new.number → MayQueue new p → p.id ≡ record_of new.number k → ShowsThat (cpu_of d) (IsFree (cpu_of d) k)
  free_then v w new p k found left stands part number may is = search (shows_that, free_outside, arith)

  -- a CPU that has queued a call
  pub marked_then : (old : CpuValue) (k to func info : ℕ) (class : Class) (first : Bool) (found : Found)
      → cpu_of d ≡ posts k to class func info first found old →
      ShowsThat (cpu_of d) (IsMarked old to (call_by old k class func info) first)
  marked_then old k to func info class first found is = search (sent_to-push, one_if-same, shows_that, arith)
