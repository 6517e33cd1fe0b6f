-- The functions that run, and who is to store done, after a step.
use Rattle.std.proofs.Common.{◌≡◌, ◌≢◌, ℕ, ◌+◌, Bool, true, false, ◌&&◌, ◌⊎◌, cond, List, ne_eqb, sym, subst, ap, ◌∙◌, arith}
use Rattle.smp_words.proofs.Puts.{at_test, put_all, put_both, put_other}
use Rattle.smp_stop_steps.specs.{put, Kind as KindOf, One, Patch, Work, with_answer, IsCalling, answer_in, HasCalled, AreClosing, HasCompleted, Change}
use Rattle.smp_stop_steps.specs.{Patching, RunnerShows, StopShows, Source, Word, StopRole, Free, In, Gives, Alters, Closes, Duty}
use Rattle.smp_stop_steps.specs.{Rests, Setup, StopState, Calling}
use Rattle.smp_stop_steps.specs.{Idle, Last, carried, carried_call, has, is_multi, State.Present, State.Calls, State.Carries, Stop.Stop}
use Rattle.smp_stop_steps.proofs.State.Moves.{IsNoPatch}
use Rattle.smp_stop_steps.specs.Names.{DISABLE_IRQ, RUN, EXIT}

module _ (seat : ℕ → StopRole) (calling : ℕ → Calling) (h : (c : ℕ) → IsCalling c (seat c) (calling c)) (me : ℕ) (next : StopRole) where
  -- the CPU goes to another seat
  pub calling_same : IsCalling me next (calling me) → (c : ℕ) → IsCalling c (put seat me next c) (calling c)
  calling_same it = put_all (λ c x. IsCalling c x (calling c)) seat me next it (λ c ne. h c)

  -- and is elsewhere with its function
  pub calling_next : (f : Calling) → IsCalling me next f → (c : ℕ) → IsCalling c (put seat me next c) (put calling me f c)
  calling_next f it = put_both (λ c x y. IsCalling c x y) seat calling me next f it (λ c ne. h c)

-- which seats leave no function to run
pub idle_free : (c : ℕ) (f : Calling) → IsCalling c Free f → f ≡ Idle
idle_free c f k = search arith

pub idle_closes : (c s : ℕ) (f : Calling) → IsCalling c (Closes s) f → f ≡ Idle
idle_closes c s f k = search arith

pub idle_alters : (c s : ℕ) (w : Work) (count : ℕ) (made rest : List Change) (f : Calling) → IsCalling c (Alters s w count made rest) f → f ≡ Idle
idle_alters c s w count made rest f k = search arith

patch_not_multi : (k : KindOf) (b : Bool) → k ≡ Patch → (b && is_multi k) ≡ true → ⊥
patch_not_multi k b e c = search arith

-- nor does a CPU that is to patch
pub idle_patch : (c s : ℕ) (w : Work) (l : ℕ) (t : Duty) (f : Calling) → w.kind ≡ Patch → IsCalling c (In s w DISABLE_IRQ l t) f → f ≡ Idle
idle_patch c s w l t f kind k = search (kind, patch_not_multi, w.kind, w.active, arith)

-- a look, at the phase that it has looked at or at the next
pub calling_looked : (c s : ℕ) (w : Work) (a l found : ℕ) (f : Calling) → (a ≡ DISABLE_IRQ → l ≡ RUN → found ≡ RUN) → IsCalling c (In s w a l Rests) f →
    IsCalling c (In s w a found Rests) f
calling_looked c s w a l found f same k = search arith

-- a turn, of a CPU that sets the next phase
pub calling_turned : (c s : ℕ) (w : Work) (a l : ℕ) (t t' : Duty) (f : Calling) → (t ≡ Rests → ⊥) → IsCalling c (In s w a l t) f → IsCalling c (In s w a l
    t') f
calling_turned c s w a l t t' f ne k = search arith

-- an acknowledgement of another phase than RUN, in a stop of several CPUs
pub calling_acked : (c s : ℕ) (w : Work) (a : ℕ) (t : Duty) (f : Calling) → a ≢ DISABLE_IRQ → w.kind ≢ One → IsCalling c (In s w a (a + 1) Rests) f →
    IsCalling c (In s w (a + 1) (a + 1) t) f
calling_acked c s w a t f ne many k = search arith

active_multi : (k : KindOf) (b : Bool) → (b && is_multi k) ≡ true → b ≡ true
active_multi k b e = search arith

-- and one of RUN, which no patch ends
pub calling_ran : (c s : ℕ) (w : Work) (t : Duty) (f : Calling) → w.kind ≢ One → HasCalled c w f → IsCalling c (In s w DISABLE_IRQ RUN Rests) f →
    IsCalling c (In s w RUN RUN t) (carried_call f)
calling_ran c s w t f many idle k = search (active_multi, w.active, arith)

-- who patches nothing carries no answer of a patch
pub carried_alone : (first : ℕ) (x : Patching) (seat : ℕ → StopRole) (me : ℕ) (f : Calling) → IsNoPatch (seat me) → RunnerShows first x seat →
    carried me x f ≡ carried_call f
carried_alone first x seat me f idle r = search (ne_eqb, IsNoPatch, arith)

-- the answer that is stored, by a CPU that is through
pub calling_given : (c s : ℕ) (w : Work) (a l : ℕ) (v : ℕ) (f : Calling) → v ≢ 0 → (a ≡ EXIT) ⊎ (w.kind ≡ One) → v ≡ answer_in f →
    IsCalling c (In s w a l Rests) f → IsCalling c (Gives s w a v) f
calling_given c s w a l v f some through is k = search arith

-- an answer that is in the result word is that of an active CPU, or of a stop of one CPU
pub given_quiet : (c s : ℕ) (w : Work) (a v : ℕ) (f : Calling) → IsCalling c (Gives s w a v) f → w.kind ≢ One → has w.active c ≡ false → v ≡ 0
given_quiet c s w a v Idle k many idle = absurd k
given_quiet c s w a v (Calls call) k many idle = absurd (many k.1)
given_quiet c s w a v (Carries answer) k many idle = absurd (let bad : true ≡ false = sym k.1 ∙ idle in cc)

-- a CPU at this seat has no done to store
abbrev pub IsNotClosing : StopRole → Type 0
IsNotClosing (Closes s) = ⊥
IsNotClosing _ = Unit {0}

module _ (n : Present) (seat : ℕ → StopRole) (me : ℕ) (next : StopRole) (h : AreClosing n seat) (idle : IsNotClosing (seat me)) where
  other : (j c : ℕ) → seat c ≡ Closes j → c ≢ me
  other j c is e = subst IsNotClosing (sym (ap seat e) ∙ is) idle

  pub closing_seat : AreClosing n (put seat me next)
  closing_seat j c o l = let k = h j c o l in (put_other seat me next c (other j c k.0) ∙ k.0, k.1)

  module _ (s : ℕ) (stop' : Stop) (others : (c : ℕ) → c ≢ me → stop'.standing c ≡ (n.stop s).standing c) where
    -- a step on a stop that ends as it did
    pub closing_kept : stop'.is_open ≡ (n.stop s).is_open → stop'.ending ≡ (n.stop s).ending → AreClosing (record n { stop = put n.stop s stop' })
        (put seat me next)
    closing_kept op end j c = at_test j s (λ b. (cond b stop' (n.stop j)).is_open ≡ true → (cond b stop' (n.stop j)).ending ≡ Last c →
        (put seat me next c ≡ Closes j) × HasCompleted ((cond b stop' (n.stop j)).standing c))
        (λ e o l.
        let k = h s c (sym op ∙ o) (sym end ∙ l) in
        let ne = other s c k.0 in
        (put_other seat me next c ne ∙ (k.0 ∙ ap Closes (sym e)), subst HasCompleted (sym (others c ne)) k.1))
        (λ ne o l. closing_seat j c o l)

-- until a completion tells it, any answer may be put for that of the function of a CPU in a stop
answered_in : (c s : ℕ) (w : Work) (a l : ℕ) (t : Duty) (x : ℕ) (f : Calling) → IsCalling c (In s w a l t) f → IsCalling c (In s w a l t) (with_answer x f)
answered_in c s w a l t x f k = search arith

pub answer_replaced : (u : Setup) (p : StopState) (at : Word → ℕ) (seat : ℕ → StopRole) (source : ℕ → Source) → StopShows u p at seat source →
    (me s : ℕ) (w : Work) (a l : ℕ) (t : Duty) (x : ℕ) → seat me ≡ In s w a l t →
    StopShows u (record p { calling = put p.calling me (with_answer x (p.calling me)) }) at seat source
answer_replaced u p at seat source h me s w a l t x is = record {
  setup = h.setup;
  present = h.present;
  gate = h.gate;
  callings = search (put_all, answered_in, h.callings, arith);
  closing = h.closing;
  sources = h.sources;
  past = h.past;
  owns = h.owns;
  counts = h.counts;
}
