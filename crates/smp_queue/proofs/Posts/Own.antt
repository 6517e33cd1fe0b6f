-- A CPU's own records, and what a post leaves of its CPU.
use Rattle.std.proofs.Common.{◌≡◌, ℕ, zero, suc, ◌^◌, ◌<◌, Bool, false, not, ◌||◌, ◌==◌, nat_lt, None, List, [], ◌∷◌, set, refl, ap, arith}
use Rattle.std.proofs.lemmas.Bool.{or_parts, ltb-true}
use Rattle.std.proofs.lemmas.List.{get_or-set_same}
use Rattle.atomic_table.specs.Seated.{TableId}
use Rattle.smp_call_steps.proofs.Machine.Starts.{then_none, not_false}
use Rattle.smp_words.specs.Size.{cpus, records_of_one, record_of}
use Rattle.smp_call_steps.specs.Start.{command_refusal}
use Rattle.smp_call_steps.specs.Threads.Heads.{Found}
use Rattle.smp_call_steps.specs.Threads.Known.{posting_of, standing, stepped, confirmed_known}
use Rattle.smp_words.proofs.Sizes.{owner-of_record, record_of-below}
use Rattle.smp_queue.specs.{Class, KnownCalls, Posting, cells, SeatValue, OwnsRecord, IsMine, uncounted, GivesUp, CpuValue, IsKept, MayQueue, cpu_of}
use Rattle.smp_queue.specs.{confirms, looks}
use Rattle.smp_queue.specs.{loses, posts}
use Rattle.smp_queue.specs.Appends.{Appends}
use Rattle.smp_queue.specs.post
use Rattle.smp_words.specs.declared.command.Command.TheVariants as command

pub at_own : (table : TableId) (d : SeatValue) (number k id : ℕ) (queued ran : List ℕ) → IsKept d.known number queued ran → d.table ≡ table
    → table.words ≡ cells → k < records_of_one → id ≡ record_of number k → OwnsRecord table d id
at_own table d number k id queued ran m is sized l e = search (owner-of_record, record_of-below, arith)

-- a post that is not misused is by a record of its CPU
pub small_record : (k to number tries : ℕ) (fits : Bool) → ((((not (nat_lt k records_of_one) || tries == 0) || to == number)) || fits) ≡ false
    → k < records_of_one
small_record k to number tries fits e = search (or_parts, ltb-true, not_false, arith)

pub allowed_record : (nr online number k to func info tries : ℕ) (class : Class)
    → command_refusal nr online number (command.Post k to class func info tries) ≡ None → k < records_of_one
allowed_record nr online number k to func info tries class e = small_record k to number tries _ (then_none _ _ e)

-- once a CPU's record k is seen confirmed, it may queue a call by it
pub may_queue : (s s' : SeatValue) (number k id to func info : ℕ) (class : Class) (queued ran : List ℕ) → IsKept s.known number queued ran → k < records_of_one
    → id ≡ record_of number k →
    to < cpus → func < 2 ^ 16 → info < 2 ^ 64 → s'.known ≡ stepped 1 (confirmed_known id s.known) → MayQueue (cpu_of s') (posting_of id class func info to)
may_queue s s' number k id to func info class queued ran m l e below f i known = search (record_of-below, owner-of_record, get_or-set_same, arith)

-- the record is the CPU's own, as its seat shows
pub mine_of : (table : TableId) (s : SeatValue) (c : CpuValue) (p : Posting) → cpu_of s ≡ c → c.table ≡ table → table.words ≡ cells → MayQueue c p
    → IsMine table s p
mine_of table s c p view is sized m = search arith

set_twice : {A : Type 0} (xs : List A) (i : ℕ) (x y : A) → set (set xs i x) i y ≡ set xs i y
set_twice [] i x y = refl
set_twice (z ∷ zs) zero x y = refl
set_twice (z ∷ zs) (suc i) x y = ap (λ (ws : List _). z ∷ ws) (set_twice zs i x y)

-- what a CPU leaves that has queued the call of this post
pub posts_then : (s s' : SeatValue) (w : KnownCalls) (old new : CpuValue) (k to func info : ℕ) (class : Class) (p : Posting) (first : Bool) (found : Found)
    → cpu_of s ≡ new
    → new ≡ looks (confirms k old) →
    p ≡ posting_of (record_of old.number k) class func info to → s'.table ≡ old.table → w ≡ standing (uncounted p) post.Count (stepped 3 s.known)
    → Appends p first found w s'.known → cpu_of s' ≡ posts k to class func info first found old
posts_then s s' w old new k to func info class p first found view confirmed posting table stands queued = search (set_twice, arith)

-- what a CPU leaves that has given up
pub gives_up_then : (s s' : SeatValue) (w : KnownCalls) (old new : CpuValue) (k : ℕ) (p : Posting) (found : Found) → cpu_of s ≡ new
    → new ≡ looks (confirms k old)
    → s'.table ≡ old.table → w ≡ standing (uncounted p) post.Count (stepped 3 s.known) → GivesUp found w s'.known → cpu_of s' ≡ confirms k (loses found old)
gives_up_then s s' w old new k p found view confirmed table stands left = search arith
