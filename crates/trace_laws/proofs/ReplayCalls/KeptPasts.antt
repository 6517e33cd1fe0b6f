-- What a CPU has kept of its steps, after one more.
use Rattle.trace_laws.proofs.Names.{Bool, List, None, Option, Some, ap, arith, cases_eq, cond, eq-eqb, get_or-set_other}
use Rattle.trace_laws.proofs.Names.{get_or-set_same, inl, inr, length, length-set, lt-ltb, slice_set, subst, sym, ℕ, ◌<◌, ◌∙◌, ◌≡◌, ◌≢◌}
use Rattle.trace_laws.proofs.ReplayNames.{BegunIs, Call, CallState, ControlValue, Handle, HandleStage, IsPlaced, KeepsPast, Past, Post}
use Rattle.trace_laws.proofs.ReplayNames.{PostIs, PostIsAt, PostStage, Posting, Running, Seen, Shows, Stage, Walk, Word, access_of, after}
use Rattle.trace_laws.proofs.ReplayNames.{control_after, cpus, ends_front, fresh, head_told, holds_nothing, kept}
use Rattle.trace_laws.proofs.ReplayNames.{outcome_of, past_at, put, put_other, put_same, seen_then, stands_at, tells, walks_front, word_of}
use Rattle.smp_words.specs.declared.seen.Act.TheVariants as act
use Rattle.smp_call_steps.proofs.Knows.Parts.{part_else}
use Rattle.smp_call_steps.specs.declared.handle.HandleStage.TheVariants as handle
use Rattle.smp_call_steps.specs.declared.place.RecPlace.TheVariants as machine
use Rattle.smp_call_steps.specs.declared.known.CallPart.{CallPart}
use Rattle.trace_laws.proofs.ReplayCalls.StepEvents.{id_told}

pub past_here : (pasts : List Past) (me : ℕ) (p : Past) → length pasts ≡ 32 → me < cpus → past_at (slice_set pasts me p) me ≡ p
past_here pasts me p l below = get_or-set_same pasts me p fresh (omega arith)

pub past_else : (pasts : List Past) (me : ℕ) (p : Past) (j : ℕ) → j ≢ me → past_at (slice_set pasts me p) j ≡ past_at pasts j
past_else pasts me p j ne = get_or-set_other pasts me j p fresh ne

-- what is kept of the call that runs
pub begun_same : (r : Running) (p q : Past) → q.begun ≡ p.begun → BegunIs r p → BegunIs r q
begun_same r p q h1 h2 = search arith

module _ (a : CallState) (me : ℕ) where
  runs_exchange : (to n : ℕ) (b : Bool) → (head_told a me to act.Cas (cond b (Some n) None)).running ≡ a.running
  runs_exchange to n b = search arith

module _ (a : CallState) (at : Word → ℕ) (control : ℕ → ControlValue) (shown : Shows a at control) (me : ℕ) (below : me < cpus) (p : Past)
    (begun : BegunIs (a.running me) p) (posted : PostIs (control me).stage p.post) where
  abbrev SeenAt : Stage → Seen
  SeenAt stage = seen_then at (control me).drain me stage

  abbrev Next : Stage → Option Stage
  Next stage = (outcome_of (control me).drain stage (at (word_of (access_of at me stage)))).next

  -- after its own step
  abbrev pub Mine : Stage → Type 0
  Mine stage = BegunIs ((tells a (SeenAt stage)).running me) (after p (SeenAt stage)) × PostIs (Next stage) (after p (SeenAt stage)).post

  posted_at : (q : Posting) (stage : PostStage) → (control me).stage ≡ Some (Post q stage) → PostIsAt q stage p.post
  posted_at q stage e = subst (λ (x : Option Stage). PostIs x p.post) e posted

  -- where the call that runs is the same, and so is what is kept of it
  runs_on : (b : CallState) (q : Past) → b.running ≡ a.running → q.begun ≡ p.begun → BegunIs (b.running me) q
  runs_on b q same e = subst (λ (r : ℕ → Running). BegunIs (r me) q) (sym same) (begun_same (a.running me) p q e begun)

  abbrev At : HandleStage → Type 0
  At stage = (control me).stage ≡ Some (Handle stage)

  abbrev In : Call → Type 0
  In call = IsPlaced a.place (machine.Batch me) call

  -- a call begins
  sync_begins : (walk : Walk) (call : Call) (next : Option ℕ) → At (handle.BeginSync walk call next) → Mine (Handle (handle.BeginSync walk call next))
  sync_begins walk call next h1 = search (stands_at, walks_front, lt-ltb, eq-eqb, id_told, arith)

  async_begins : (call : Call) (next : Option ℕ) → At (handle.BeginAsync call next) → Mine (Handle (handle.BeginAsync call next))
  async_begins call next h1 = search (stands_at, ends_front, holds_nothing, eq-eqb, id_told, arith)

  sync_ends : (walk : Walk) (call : Call) (next : Option ℕ) → At (handle.EndSync walk call next) → Mine (Handle (handle.EndSync walk call next))
  sync_ends walk call next e = search (stands_at, holds_nothing, eq-eqb, arith)

  pub step_on : (stage : Stage) → (control me).stage ≡ Some stage → Mine stage
  step_on stage h1 = search (runs_on, posted_at, runs_exchange, sync_begins, stands_at, eq-eqb, sync_ends, async_begins, arith)

-- of all CPUs
pub keeps_past : (a : CallState) (at : Word → ℕ) (control : ℕ → ControlValue) (shown : Shows a at control) (me : ℕ) (pasts : List Past) → me < cpus
    → KeepsPast a control pasts → (stage : Stage) → (control me).stage ≡ Some stage → let seen = seen_then at (control me).drain me stage in
    KeepsPast (tells a seen) (put control me (control_after (control me) stage (at (word_of (access_of at me stage))))) (kept pasts seen)
keeps_past a at control shown me pasts below k stage e =
    let seen = seen_then at (control me).drain me stage in
    let q = after (past_at pasts me) seen in
    let c = control_after (control me) stage (at (word_of (access_of at me stage))) in
    let mine = step_on a at control shown me below (past_at pasts me) (k.begun me below) (k.posts me below) stage e in
    record {
      pasts_are = length-set pasts me q ∙ k.pasts_are;
      begun = λ cpu l. elim (cases_eq cpu me) [
        | inl same ↦ rw (same, past_here pasts me q k.pasts_are below) mine.0
        | inr ne ↦ rw (past_else pasts me q cpu ne, ap (λ (x : CallPart). x.running) (part_else me (control me).drain shown stage cpu ne)) (k.begun cpu l)
      ];
      posts = λ cpu l. elim (cases_eq cpu me) [
        | inl same ↦ rw (same, past_here pasts me q k.pasts_are below, put_same control me c) mine.1
        | inr ne ↦ rw (past_else pasts me q cpu ne, put_other control me c cpu ne) (k.posts cpu l)
      ];
    }
