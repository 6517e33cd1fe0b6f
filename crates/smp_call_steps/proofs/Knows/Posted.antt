-- What a CPU knows after each step of a post, of a send and of a question for a record.
use Rattle.std.proofs.Common.{◌≡◌, ℕ, ◌+◌, ◌%◌, ◌^◌, Bool, true, false, ◌==◌, cond, Some, None, length, ap, ◌∙◌, arith, true≢false, eq-eqb}
use Rattle.smp_words.specs.Flags.{flags_of}
use Rattle.smp_call_steps.specs.{stepped}
use Rattle.smp_call_steps.specs.{sent_to, posted, known_told, known_access, posting_of, standing, outside_known, confirmed_known, queued_known, looked_known}
use Rattle.smp_call_steps.specs.{lost_one, Class, Head, Queued, Flags, Func, Info, Next, Store, Posting, PostStage, Post}
use Rattle.smp_call_steps.specs.declared.known.KnownCalls.{KnownCalls}
use Rattle.smp_call_steps.specs.act
use Rattle.smp_call_steps.specs.post

-- a CPU outside a command
pub outside_as : (v : KnownCalls) → v.stage ≡ None → v ≡ outside_known v
outside_as v e = λ i. record v { stage = e i }

pub stands_as : (v : KnownCalls) (p : Posting) (st : PostStage) → v.stage ≡ Some (Post p st) → v ≡ standing p st v
stands_as v p st e = λ i. record v { stage = e i }

-- a load of the own flags, outside a command
pub loaded_known : (v : KnownCalls) (id found : ℕ) → v.stage ≡ None
    → known_told v act.Load (Flags id) (Some found) None ≡ stepped 1 (cond (found % 2 == 1) v (confirmed_known id v))
loaded_known v id found e = search (outside_as, arith)

pub locked_known : (v v' : KnownCalls) (id flags : ℕ) (c : Class) → v.stage ≡ None → v' ≡ known_told v act.Store (Flags id) None (Some flags)
    → flags ≡ flags_of c
    → v' ≡ standing (posting_of id c 0 0 0) post.StoreFunc (stepped 1 v)
locked_known v v' id flags c o e f = search (outside_as, arith)

pub func_known : (v v' w : KnownCalls) (id n : ℕ) (p : Posting) → v' ≡ known_told w act.Store (Func id) None (Some n) → w ≡ standing p post.StoreFunc v
    → v' ≡ standing (record p { func = n }) post.StoreInfo (stepped 1 v)
func_known v v' w id n p e f = e ∙ ap (λ (u : KnownCalls). known_told u act.Store (Func id) None (Some n)) f

pub info_known : (v v' w : KnownCalls) (id n : ℕ) (p : Posting) → v' ≡ known_told w act.Store (Info id) None (Some n) → w ≡ standing p post.StoreInfo v
    → v' ≡ standing (record p { info = n }) post.Count (stepped 1 v)
info_known v v' w id n p e f = e ∙ ap (λ (u : KnownCalls). known_told u act.Store (Info id) None (Some n)) f

pub count_known : (v v' w : KnownCalls) (me to n : ℕ) (p : Posting) → v' ≡ known_told w act.Store (Queued me to) None (Some n) → w ≡ standing p post.Count v
    → v' ≡ standing (record p { to = to }) post.LoadHead (stepped 1 v)
count_known v v' w me to n p e f = e ∙ ap (λ (u : KnownCalls). known_told u act.Store (Queued me to) None (Some n)) f

pub uncount_known : (v v' w : KnownCalls) (me to n : ℕ) (p : Posting) → v' ≡ known_told w act.Store (Queued me to) None (Some n)
    → w ≡ standing p post.LoadHead v
    → v' ≡ standing p post.Release (stepped 1 v)
uncount_known v v' w me to n p e f = e ∙ ap (λ (u : KnownCalls). known_told u act.Store (Queued me to) None (Some n)) f

pub head_known : (v v' w : KnownCalls) (to found : ℕ) (p : Posting) → v' ≡ known_told w act.Load (Head to) (Some found) None
    → w ≡ standing p post.LoadHead (stepped 1 v)
    → v' ≡ standing p post.LoadHead (looked_known found v)
head_known v v' w to found p e f = search arith

pub next_known : (v v' w : KnownCalls) (id n : ℕ) (p : Posting) → v' ≡ known_told w act.Store (Next id) None (Some n) → w ≡ standing p post.LoadHead v
    → v' ≡ standing p (post.Exchange n 0) (stepped 1 v)
next_known v v' w id n p e f = e ∙ ap (λ (u : KnownCalls). known_told u act.Store (Next id) None (Some n)) f

pub won_known : (v v' w : KnownCalls) (to link n found : ℕ) (p : Posting) (b : Bool) → b ≡ true
    → v' ≡ known_told w act.Cas (Head to) (Some found) (cond b (Some n) None) → w ≡ standing p (post.Exchange link 0) (stepped 1 v) →
    found ≡ link → v' ≡ queued_known (posted p) to (link == 0) link v
won_known v v' w to link n found p u t e f is = search (true≢false, arith)

pub lost_known : (v v' w : KnownCalls) (to link n found : ℕ) (p : Posting) (b : Bool) → b ≡ false
    → v' ≡ known_told w act.Cas (Head to) (Some found) (cond b (Some n) None) → w ≡ standing p (post.Exchange link 0) (stepped 1 v)
    → v' ≡ standing p post.LoadHead (lost_one link found v)
lost_known v v' w to link n found p u t e f = search (true≢false, arith)

pub released_known : (v v' w : KnownCalls) (id : ℕ) (p : Posting) → v' ≡ known_told w act.Store (Flags id) None (Some 0) → w ≡ standing p post.Release v
    → v' ≡ outside_known (stepped 1 v)
released_known v v' w id p e f = e ∙ ap (λ (u : KnownCalls). known_told u act.Store (Flags id) None (Some 0)) f

-- the numbers that a post stores in its tally word
pub count_access : (v : KnownCalls) (p : Posting) (me count : ℕ) → v.number ≡ me → count ≡ length (sent_to p.to v.part.sent) % 2 ^ 64
    → known_access v (Post p post.Count) ≡ Store (Queued me p.to) ((count + 1) % 2 ^ 64)
count_access v p me count n e = search arith

pub uncount_access : (v : KnownCalls) (p : Posting) (me count : ℕ) → v.number ≡ me → count ≡ length (sent_to p.to v.part.sent) % 2 ^ 64
    → known_access v (Post p post.Uncount) ≡ Store (Queued me p.to) count
uncount_access v p me count n e = search (eq-eqb, arith)
