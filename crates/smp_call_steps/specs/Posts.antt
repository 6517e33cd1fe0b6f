-- The steps of a post, one after another.
use Rattle.std.specs.Prelude.{ℕ, ◌+◌, ◌-◌, ◌%◌, ◌^◌, ◌==◌, nat_lt, if◌then◌else◌, Some, None}
use Rattle.smp_words.specs.Flags.{flags_of}
use Rattle.smp_call_steps.specs.Names.{Head, Queued, Flags, Func, Info, Next, Access, Load, Store, Exchange, Note, Posting, PostStage, CallOutcome, Stage, Post}
use Rattle.smp_call_steps.specs.Names.note
use Rattle.smp_call_steps.specs.Names.post

abbrev pub go_on : Stage → CallOutcome
go_on stage = record { next = Some stage; note = None }

abbrev pub ends : Note → CallOutcome
ends n = record { next = None; note = Some n }

abbrev pub goes_to : Posting → PostStage → CallOutcome
goes_to p stage = go_on (Post p stage)

-- what a post does next; queued is the number in its tally word
abbrev pub post_access : Posting → ℕ → PostStage → ℕ → Access
post_access p me post.LoadFlags queued = Load (Flags p.id)
post_access p me post.Lock queued = Store (Flags p.id) (flags_of p.class)
post_access p me post.StoreFunc queued = Store (Func p.id) p.func
post_access p me post.StoreInfo queued = Store (Info p.id) p.info
post_access p me post.Count queued = Store (Queued me p.to) ((queued + 1) % 2 ^ 64)
post_access p me post.LoadHead queued = Load (Head p.to)
post_access p me (post.StoreNext link tries) queued = Store (Next p.id) link
post_access p me (post.Exchange link tries) queued = Exchange (Head p.to) link (p.id + 1)
post_access p me post.Uncount queued = Store (Queued me p.to) ((queued + (2 ^ 64 - 1)) % 2 ^ 64)
post_access p me post.Release queued = Store (Flags p.id) 0

-- what follows, by the number that the step found
abbrev pub post_outcome : Posting → PostStage → ℕ → CallOutcome
post_outcome p post.LoadFlags found =
    if found % 2 == 1 then ends note.Busy
    else if p.is_online then goes_to p post.Lock else ends note.NoCpu
post_outcome p post.Lock found = goes_to p post.StoreFunc
post_outcome p post.StoreFunc found = goes_to p post.StoreInfo
post_outcome p post.StoreInfo found = goes_to p post.Count
post_outcome p post.Count found = goes_to p post.LoadHead
post_outcome p post.LoadHead found = goes_to p (post.StoreNext found p.tries)
post_outcome p (post.StoreNext link tries) found = goes_to p (post.Exchange link tries)
post_outcome p (post.Exchange link tries) found =
    if found == link then ends (if link == 0 then note.Owed else note.Queued)
    else if nat_lt 1 tries then goes_to p (post.StoreNext found (tries - 1)) else goes_to p post.Uncount
post_outcome p post.Uncount found = goes_to p post.Release
post_outcome p post.Release found = ends note.Contended
