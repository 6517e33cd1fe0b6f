-- What a TLB holds after some calls.
use Rattle.std.proofs.Common.{◌≡◌, ◌≢◌, ℕ, ◌==◌, not, Bool, true, false, cond, List, [], ◌∷◌, ◌++◌, arith, sym, ap, ◌∙◌, append-nil, append_assoc}
use Rattle.std.proofs.lemmas.Bool.{eq-eqb}
use Rattle.std.proofs.lemmas.Bool.Decides.{nat_tests}
use Rattle.std.proofs.lemmas.List.Elements.{All-filter, All-weaker, All-push, filter_passes}
use Rattle.smp_words.specs.declared.call.Call.{Call}
use Rattle.smp_call_steps.specs.Histories.{orders}
use Rattle.smp_calls.specs.Handles.{Handles, batches}
use Rattle.smp_queue.specs.Cpu.{CpuValue}
use Rattle.smp_queue.specs.declared.handler.Heard.{Heard}
use Rattle.smp_queue.specs.Handling.{Grows, heard_of}
use Rattle.users.specs.declared.shootdown.tlb.Entry.{Entry}
use Rattle.users.specs.declared.shootdown.tlb.Tlb.{Tlb}
use Rattle.users.specs.Tlb.{without, left_by, left_by_all, IsGone, AreFlushed, IsFlushed}

-- what a call leads to
abbrev pub Leads : Tlb → Heard → Tlb → Type 0
Leads before call after = after.entries.items ≡ left_by call before.entries.items

apart : (a b : ℕ) → not (a == b) ≡ true → a ≢ b
apart a b h e = grind (arith, nat_tests)

-- an address space that was flushed is gone
pub gone : (space : ℕ) (entries : List Entry) → IsGone space (without space entries)
gone space entries =
    All-weaker (λ (e : Entry). not (e.space == space) ≡ true) (λ e. e.space ≢ space) (λ e h. apart e.space space h) (without space entries)
    (filter_passes (λ (e : Entry). not (e.space == space)) entries)

-- what is gone stays gone, whatever else is flushed
pub still_flushed : (calls : List Call) (other : ℕ) (entries : List Entry) → AreFlushed calls entries → AreFlushed calls (without other entries)
still_flushed calls other entries h =
    All-weaker (λ (call : Call). call.func ≡ 1 → IsGone call.info entries) (λ call. call.func ≡ 1 → IsGone call.info (without other entries))
    (λ call k is. All-filter (λ (e : Entry). not (e.space == other)) (λ e. e.space ≢ call.info) entries (k is)) calls h

left_flushed : (b : Bool) (calls : List Call) (other : ℕ) (entries : List Entry) → AreFlushed calls entries
    → AreFlushed calls (cond b (without other entries) entries)
left_flushed true calls other entries h = still_flushed calls other entries h
left_flushed false calls other entries h = h

-- one call more
flushed_more : (calls : List Call) (call : Call) (entries : List Entry) → AreFlushed calls entries
    → AreFlushed (calls ++ call ∷ []) (left_by (heard_of call) entries)
flushed_more calls call entries h =
    All-push (λ (c : Call). c.func ≡ 1 → IsGone c.info (left_by (heard_of call) entries)) calls call
    (left_flushed (call.func == 1) calls call.info entries h) (λ is. rw (eq-eqb call.func 1 is) (gone call.info entries))

-- calls, one after the other
flushed_all : (old calls : List Call) (entries : List Entry) → AreFlushed old entries → AreFlushed (old ++ calls) (left_by_all calls entries)
unfolding left_by_all
flushed_all old [] entries h = rw append-nil h
flushed_all old (c ∷ cs) entries h = rw append_assoc at (flushed_all (old ++ c ∷ []) cs (left_by (heard_of c) entries) (flushed_more old c entries h))

-- what they leave
pub left_all : (before : Tlb) (calls : List Call) (after : Tlb) → Grows Leads before calls after
    → after.entries.items ≡ left_by_all calls before.entries.items
unfolding left_by_all
left_all before [] after grows = ap (λ (t : Tlb). t.entries.items) (sym grows)
left_all before (c ∷ cs) after grows = left_all grows.0 cs after grows.2 ∙ ap (left_by_all cs) grows.1

-- of a CPU that has handled meanwhile
pub flushed_handled : (old new : CpuValue) (before after : Tlb) → Handles Leads old before new after → IsFlushed old before.entries.items
    → IsFlushed new after.entries.items
flushed_handled old new before after made h =
    let calls = orders (batches made.turns) in
    rw (made.ran_is, left_all before calls after made.grows) (flushed_all old.part.ran calls before.entries.items h)
