-- When a CPU may make the steps of a post, of a send and of a question for a record.
use Rattle.std.proofs.Common.{◌≡◌, ℕ, ◌<◌, true, None, refl, subst, arith}
use Rattle.atomic_table.specs.Seated.{TableId}
use Rattle.smp_words.specs.Size.{cpus}
use Rattle.smp_words.specs.Access.{word_of}
use Rattle.smp_call_steps.specs.Stands.{PostGoes}
use Rattle.smp_call_steps.specs.Threads.Known.{IsLockable, told_post, known_access, posting_of}
use Rattle.smp_words.proofs.Links.{IsInTable}
use Rattle.smp_mask.specs.Mask.{has}
use Rattle.smp_queue.specs.{Flags, CallSetting, Reaches, Access, Load, KnownCalls, Posting, PostStage, Done, Post, SeatValue, Ready, OwnsRecord, IsMine}
use Rattle.smp_queue.specs.{counted, HasCell}
use Rattle.smp_queue.proofs.TheRule.Cells.{has_cell}
use Rattle.smp_queue.specs.post

-- a seat after a step of its CPU
pub at_moved : (t : TableId) (d d' : SeatValue) (id : ℕ) (v : KnownCalls) → OwnsRecord t d id → d'.table ≡ t → d'.known ≡ v → v.number ≡ d.known.number
    → OwnsRecord t d' id
at_moved t d d' id v a table known same = search arith

pub mine_moved : (t : TableId) (d d' : SeatValue) (p : Posting) (v : KnownCalls) → IsMine t d p → d'.table ≡ t → d'.known ≡ v → v.number ≡ d.known.number
    → IsMine t d' p
mine_moved t d d' p v m table known same = record { at = at_moved t d d' p.id v m.at table known same; is_call = m.is_call; to_in_range = m.to_in_range }

pub ready_done : (t : TableId) (k : CallSetting) (d : SeatValue) (id : ℕ) → OwnsRecord t d id → d.known.stage ≡ None → Ready t k d (Load (Flags id))
ready_done t k d id a out = record {
  table_is = a.table_is;
  sized = a.sized;
  can = record { stage = Done id; aims = (out, a.owned, a.in_range); is_access = refl };
  apart = tt;
  reaches = tt;
  cell = has_cell (Flags id) a.in_range;
}

-- the word of each step of a post is in the table
post_in_table : (t : TableId) (d : SeatValue) (p : Posting) (st : PostStage) → IsMine t d p
    → IsInTable (word_of (known_access d.known (Post (posting_of p.id p.class p.func p.info p.to) st)))
post_in_table t d p post.Count m = (m.at.me_in_range, m.to_in_range)
post_in_table t d p post.LoadHead m = m.to_in_range
post_in_table t d p (post.Exchange link tries) m = m.to_in_range
post_in_table t d p post.Uncount m = (m.at.me_in_range, m.to_in_range)
post_in_table t d p _ m = m.at.in_range

goes : (p : Posting) (st : PostStage) → p.to < cpus → PostGoes (counted p) st
goes p post.LoadFlags l = λ _. l
goes p _ l = l

-- a compare-exchange is of the head of a CPU that is online
abbrev pub ExchangesOnline : CallSetting → Posting → PostStage → Type 0
ExchangesOnline k p (post.Exchange link tries) = has k.online p.to ≡ true
ExchangesOnline k p _ = Unit {0}

post_reaches : (k : CallSetting) (v : KnownCalls) (p : Posting) (st : PostStage) → ExchangesOnline k p st → Reaches k v (known_access v (Post (counted p) st))
post_reaches k v p (post.Exchange link tries) on = on
post_reaches k v p _ on = tt

-- a step of a post, of the call as it will be once all is told of it
pub ready_post : {k : CallSetting} (t : TableId) (d : SeatValue) (p : Posting) (st : PostStage) (access : Access) → IsMine t d p
    → told_post (counted p) st ≡ d.known.stage → IsLockable d.known p.id st → known_access d.known (Post (counted p) st) ≡ access
    → ExchangesOnline k p st → Ready t k d access
ready_post {k} t d p st access m told ready same on = record {
  table_is = m.at.table_is;
  sized = m.at.sized;
  can = record {
    stage = Post (counted p) st;
    aims = record { told = told; owned = m.at.owned; is_call = m.is_call; me_in_range = m.at.me_in_range; goes = goes p st m.to_in_range; ready = ready };
    is_access = same;
  };
  apart = tt;
  reaches = subst (λ (x : Access). Reaches k d.known x) same (post_reaches k d.known p st on);
  cell = subst (λ (x : Access). HasCell (word_of x)) same (has_cell (word_of (known_access d.known (Post (counted p) st))) (post_in_table t d p st m));
}
