-- How many calls of a batch are ahead of a CPU that goes along its chain.
use Rattle.smp_words.proofs.Puts.{test_here, test_else}
use Rattle.std.proofs.Common.{◌≡◌, ◌≢◌, ℕ, suc, ◌+◌, ◌==◌, ◌<◌, cond, Option, Some, None, List, [], ◌∷◌, ◌++◌, length, sym, subst, refl, ap, ◌∙◌, arith}
use Rattle.std.proofs.Common.{append_assoc}
use Rattle.atomic_table.specs.Seated.{TableId}
use Rattle.smp_call_steps.specs.Drains.{DrainValue, link_to, record_at}
use Rattle.smp_call_steps.specs.Threads.Known.{CallMoment}
use Rattle.smp_call_steps.specs.Places.{IsApart}
use Rattle.smp_call_steps.specs.Stands.{Share, Walks}
use Rattle.smp_call_steps.specs.Words.{Path, last_batch, nexts_in}
use Rattle.smp_call_steps.proofs.Basics.Alls.{every_right}
use Rattle.smp_call_steps.proofs.Knows.Handling.{lives_stands, share_in}
use Rattle.smp_call_steps.proofs.State.Walks.{link_back, same_record}
use Rattle.smp_queue.specs.{Call, Next, Nothing, Walk, SeatValue, InHandle}
use Rattle.smp_queue.specs.handle

-- the calls from this record on
abbrev pub left_from : Option ℕ → List Call → ℕ
left_from None calls = 0
left_from (Some id) [] = 0
left_from (Some id) (call ∷ rest) = cond (call.id == id) (suc (length rest)) (left_from (Some id) rest)

pub left_here : (passed : List Call) (call : Call) (rest : List Call) → IsApart (passed ++ call ∷ rest)
    → left_from (Some call.id) (passed ++ call ∷ rest) ≡ suc (length rest)
left_here [] call rest a = test_here call.id (suc (length rest)) (left_from (Some call.id) rest)
left_here (x ∷ xs) call rest a =
    let absent = every_right (λ c. c.id ≢ x.id) xs (call ∷ rest) a.0 in
    test_else x.id call.id (suc (length (xs ++ call ∷ rest))) (left_from (Some call.id) (xs ++ call ∷ rest)) (λ e. absent.0 (sym e))
    ∙ left_here xs call rest a.1

pub left_next : (nexts : ℕ → ℕ) (next : Option ℕ) (passed : List Call) (rest : List Call) → Path nexts (link_to next) rest 0 → IsApart (passed ++ rest)
    → left_from next (passed ++ rest) ≡ length rest
left_next nexts None passed [] l a = refl
left_next nexts None passed (x ∷ xs) l a = absurd (let e = l.0 in omega arith)
left_next nexts (Some id) passed [] l a = absurd (let e : id + 1 ≡ 0 = l in omega arith)
left_next nexts (Some id) passed (x ∷ xs) l a =
    let same : x.id ≡ id = (let e = l.0 in omega arith) in
    subst (λ (k : ℕ). left_from (Some k) (passed ++ x ∷ xs) ≡ length (x ∷ xs)) same (left_here passed x xs a)

-- from one record to the record that it leads to, there is one call less
walks_less : (nexts : ℕ → ℕ) (s : Share) (d : DrainValue) (walk : Walk) (id n : ℕ) (call : Call) (rest : List Call)
    → Walks nexts s d walk (id + 1) [] (call ∷ rest) Nothing → n ≡ nexts id →
    left_from (record_at n) s.last < left_from (Some id) s.last
walks_less nexts s d walk id n call rest w found =
    let same : call.id ≡ id = same_record id call w.leads_on.0 in
    let whole : s.last ≡ (w.passed ++ call ∷ []) ++ rest = w.whole ∙ sym (append_assoc w.passed (call ∷ []) rest) in
    let leads : Path nexts (link_to (record_at n)) rest 0 =
    subst (λ (k : ℕ). Path nexts k rest 0) (ap nexts same ∙ (sym found ∙ sym (link_back n))) w.leads_on.1 in
    search (same, left_here, whole, left_next, leads, arith)

-- the same at the load of the link
pub ahead_less : (t : TableId) (d : SeatValue) (walk : Walk) (id n : ℕ) → InHandle t d (handle.LoadNext walk id) → CallMoment d.known (Next id) n →
    left_from (record_at n) (last_batch d.known.part.taken) < left_from (Some id) (last_batch d.known.part.taken)
ahead_less t d walk id n at m =
    let k = lives_stands m.lives (handle.LoadNext walk id) at.stage_is in
    walks_less (nexts_in m.lives.at) (share_in d.known.part) d.known.drain walk id n k.0 k.1 k.2 m.number_is

-- and so it is when the CPU has gone on, for it has taken no queue since
pub ahead_then : (taken taken' : List (List Call)) (here next : Option ℕ) (id n : ℕ) → here ≡ Some id → next ≡ record_at n → taken' ≡ taken
    → left_from (record_at n) (last_batch taken) < left_from (Some id) (last_batch taken) →
    left_from next (last_batch taken') < left_from here (last_batch taken)
ahead_then taken taken' here next id n e f t l = search arith
