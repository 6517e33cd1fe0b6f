-- A CPU that runs its batch: what it knows after each call.
use Rattle.std.proofs.Common.{◌≡◌, ℕ, ◌+◌, ◌%◌, ◌^◌, ◌<◌, true, Option, None, List, [], ◌∷◌, ◌++◌, length, length-set, get_or, set}
use Rattle.std.proofs.Common.{append-nil, append_assoc, sym, refl, ap, subst, ◌∙◌, arith}
use Rattle.std.proofs.lemmas.List.{get_or-set_same, get_or-set_other}
use Rattle.std.proofs.lemmas.Bool.{cases_eq}
use Rattle.std.proofs.lemmas.Fn.{FoldsTo-push}
use Rattle.atomic_table.specs.Seated.{TableId}
use Rattle.smp_words.specs.Size.{records, owner}
use Rattle.smp_call_steps.specs.Histories.{calls_from, counted_call}
use Rattle.smp_call_steps.specs.Threads.Known.{ran_tally}
use Rattle.smp_call_steps.specs.Order.{order}
use Rattle.smp_call_steps.specs.Threads.Handling.{ended_call}
use Rattle.smp_queue.specs.{Call, KnownCalls, Nothing, Heard, CpuValue, cpu_of, SeatValue, heard_of, AreRan, Grows, drains}
use Rattle.smp_queue.specs.Serving.{Gives, IsAt, HasRunCall, HasRunAll, has_run, takes, serves, ends, goes_from}
use Rattle.smp_queue.specs.declared.run.Place.{Place}
use Rattle.smp_words.proofs.Sizes.{owner-below}
use Rattle.smp_call_steps.proofs.State.Tallies.{count-same, count-other, count_wraps}
use Rattle.smp_queue.proofs.Handling.Passing.{at_cpu, given_is, ended_is, ran_still}

-- a call that runs is not counted yet
pub tally_running : (v w : KnownCalls) (source : ℕ) → w.part.ran ≡ v.part.ran → counted_call w.part.running ≡ []
    → ran_tally w.part source ≡ length (calls_from source v.part.ran) % 2 ^ 64
tally_running v w source r n = search (append-nil, arith)

-- one call more has run
pub more_ran : (counts counts' : List ℕ) (v w : KnownCalls) (call : Call) → AreRan counts v → call.id < records → w.part.ran ≡ v.part.ran ++ call ∷ [] →
    counts' ≡ set counts (owner call.id) ((get_or counts (owner call.id) 0 + 1) % 2 ^ 64) → AreRan counts' w
more_ran counts counts' v w call a in_range ran is = rw is (record {
  sized = length-set counts (owner call.id) ((get_or counts (owner call.id) 0 + 1) % 2 ^ 64) ∙ a.sized;
  are = search (cases_eq, get_or-set_same, owner-below, count_wraps, count-same, get_or-set_other, count-other, arith);
})

module _ {H : Type 0} (leads : H → Heard → H → Type 0) (t : TableId) where
  -- a call has begun and ended, and its CPU has gone on
  pub ran_one : (s0 s1 s2 s3 : SeatValue) (p : Place) (found : Option Place) (counts : List ℕ) (before after : H) → s0.table ≡ t → Gives t s0 s1 p
      → s2.table ≡ t → s2.known ≡ ended_call (goes_from p) p.call s1.known → AreRan counts s2.known → IsAt t (cpu_of s2) s3 found
      → leads before (heard_of p.call) after → HasRunCall leads t s0 s3 p.call found counts before after
  ran_one s0 s1 s2 s3 p found counts before after t0 g t2 k2 a at heard =
      let c3 : cpu_of s3 ≡ cpu_of s2 = at_cpu _ _ _ found at in
      let c2 : cpu_of s2 ≡ ends p.call (cpu_of s1) = ended_is s1 s2 (goes_from p) p.call (t2 ∙ sym g.at.table_is) k2 in
      let c1 : cpu_of s1 ≡ serves p.call s1.known.part.batch (cpu_of s0) = given_is t s0 s1 p t0 g in
      let left : s3.known.part.batch ≡ s1.known.part.batch = ap (λ (c : CpuValue). c.part.batch) (c3 ∙ c2) in
      let c : cpu_of s2 ≡ has_run (p.call ∷ []) s3.known.part.batch (cpu_of s0) =
      c2 ∙ (ap (ends p.call) c1 ∙ ap (λ (rest : List Call). has_run (p.call ∷ []) rest (cpu_of s0)) (sym left)) in
      record {
        batch = g.batch ∙ ap (λ (rest : List Call). p.call ∷ rest) (sym left);
        at = subst (λ (x : CpuValue). IsAt t x s3 found) c at;
        counts_are = ran_still counts s2.known s3.known a (ap (λ (x : CpuValue). x.part.ran) c3);
        heard_it = heard;
      }

  -- a CPU that runs its batch, between two calls
  pub record RunsOn (before d : SeatValue) (here : Option Place) (counts : List ℕ) (first now : H) : Type 0 where
    pub calls : List Call
    pub whole : before.known.part.batch ≡ calls ++ d.known.part.batch
    pub at : IsAt t (has_run calls d.known.part.batch (cpu_of before)) d here
    pub counts_are : AreRan counts d.known
    pub grows : Grows leads first calls now
    pub number_is : d.known.number ≡ before.known.number

  pub runs_more : (before d d' : SeatValue) (here found : Option Place) (call : Call) (counts counts' : List ℕ) (first now now' : H)
      → RunsOn before d here counts first now → HasRunCall leads t d d' call found counts' now now' → RunsOn before d' found counts' first now'
  runs_more before d d' here found call counts counts' first now now' r h =
      let c : has_run (call ∷ []) d'.known.part.batch (cpu_of d) ≡ has_run (r.calls ++ call ∷ []) d'.known.part.batch (cpu_of before) =
      let p = before.known.part in
      ap (has_run (call ∷ []) d'.known.part.batch) (at_cpu _ _ _ here r.at) ∙
      (λ i. record (cpu_of before) { part = record p { batch = d'.known.part.batch; running = Nothing; ran = append_assoc p.ran r.calls (call ∷ []) i } }) in
      record {
        calls = r.calls ++ call ∷ [];
        whole = r.whole ∙ (ap (λ (rest : List Call). r.calls ++ rest) h.batch ∙ sym (append_assoc r.calls (call ∷ []) d'.known.part.batch));
        at = subst (λ (x : CpuValue). IsAt t x d' found) c h.at;
        counts_are = h.counts_are;
        grows = FoldsTo-push (λ p x q. leads p (heard_of x) q) first r.calls now call now' r.grows h.heard_it;
        number_is = ap (λ (x : CpuValue). x.number) (at_cpu _ _ _ found h.at) ∙ r.number_is;
      }

  -- so a batch that was taken has run
  pub batch_ran : (c0 : CpuValue) (s1 s2 : SeatValue) (queue : List Call) (first : Option Place) (counts : List ℕ) (before after : H)
      → IsAt t (takes queue c0) s1 first → HasRunAll leads t s1 s2 counts before after
      → (cpu_of s2 ≡ drains queue c0) × Grows leads before (order queue) after
  batch_ran c0 s1 s2 queue first counts before after at h =
      let e : cpu_of s1 ≡ takes queue c0 = at_cpu _ _ _ first at in
      let batch : s1.known.part.batch ≡ order queue = ap (λ (c : CpuValue). c.part.batch) e in (
        h.cpu ∙ (λ i. has_run (batch i) [] (e i)),
        subst (λ (calls : List Call). Grows leads before calls after) batch h.grows,
      )
