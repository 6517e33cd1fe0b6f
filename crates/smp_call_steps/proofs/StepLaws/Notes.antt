-- What each step queues, and that its note says what holds.
use Rattle.std.proofs.Common.{arith, ◌≡◌, ℕ, ◌+◌, ◌==◌, Bool, true, false, cond, Option, Some, None}
use Rattle.std.proofs.Common.{eqb-true}
use Rattle.smp_words.specs.Flags.{flags_of}
use Rattle.smp_words.proofs.Puts.{put_same, test_here}
use Rattle.smp_call_steps.specs.{CallState, Holding, Running, confirms, begins_sync, counts, releases, links}
use Rattle.smp_call_steps.specs.{flags_told, head_told, tells, is_queued, QueueGoes, SaidMeans, ends, goes_to, ControlValue, holding}
use Rattle.smp_call_steps.specs.{seen_then, Class, Word, Head, CallOutcome}
use Rattle.smp_call_steps.specs.{Posting, HandleStage}
use Rattle.smp_call_steps.specs.{Stage, Handle}
use Rattle.smp_call_steps.specs.Shows.{Shows}
use Rattle.smp_call_steps.proofs.Knows.Parts.{first_link}
use Rattle.smp_call_steps.proofs.StepLaws.Premises.{rests}
use Rattle.smp_call_steps.proofs.Steps.Turns.{stands_at}
use Rattle.smp_call_steps.specs.act
use Rattle.smp_call_steps.specs.note
use Rattle.smp_call_steps.specs.post

-- what queues nothing

module _ (a : CallState) (me : ℕ) where
  sent_confirms : (b : Bool) (id : ℕ) → (cond b a (confirms a me id)).sent ≡ a.sent
  sent_confirms x id = search arith

  sent_lock : (c : Class) (id : ℕ) → (flags_told a me id act.Store None (Some (flags_of c))).sent ≡ a.sent
  sent_lock x id = search arith

  sent_links : (n : ℕ) (h : Option Holding) → (links a me (Some n) h).sent ≡ a.sent
  sent_links n y = search arith

  sent_hand : (b : Bool) → (cond b (begins_sync a me (a.batch me)) a).sent ≡ a.sent
  sent_hand x = search arith

  sent_counts : (r : Running) → (counts a me r).sent ≡ a.sent
  sent_counts x = search arith

  sent_releases : (id : ℕ) (h : Option Holding) → (releases a me id h).sent ≡ a.sent
  sent_releases id x = search arith

-- what is said

said_flags : (b c : Bool) (p : Posting) → is_queued (cond b (ends note.Busy) (cond c (goes_to p post.Lock) (ends note.NoCpu))).note ≡ false
said_flags x c p = search arith

said_done : (b : Bool) → is_queued (ends (cond b note.Locked note.Done)).note ≡ false
said_done x = search arith

said_accept : (b : Bool) (x y : HandleStage) →
    is_queued (cond {A = CallOutcome} b (record { next = Some (Handle x); note = None }) (record { next = Some (Handle y); note = None })).note ≡ false
said_accept x y z = search arith

module _ (a : CallState) (at : Word → ℕ) (control : ℕ → ControlValue) (s : Shows a at control) (me : ℕ) where
  abbrev Queues : Stage → Type 0
  Queues stage = let seen = seen_then at (control me).drain me stage in QueueGoes a (tells a seen) me seen.note

  -- the exchange of a head, that it wins or loses
  exchanged : (p : Posting) (link tries : ℕ) (b c : Bool) → (at (Head p.to) == link) ≡ b → a.held me ≡ Some (holding p p.func p.info p.to true) →
      QueueGoes a (head_told a me p.to act.Cas (cond b (Some (p.id + 1)) None)) me
      (cond b (ends (cond (link == 0) note.Owed note.Queued)) (cond c (goes_to p (post.StoreNext (at (Head p.to)) tries)) (goes_to p post.Uncount))).note
  exchanged p link tries x c e held = search (first_link, eqb-true, arith)

  ruleset queues_nothing = (said_flags, said_done, said_accept, sent_confirms, sent_lock, sent_links, sent_hand, sent_counts, sent_releases)

  pub queue_goes : (stage : Stage) → (control me).stage ≡ Some stage → Queues stage
  queue_goes x e = search (exchanged, arith)

  -- what else a note says

  abbrev Means : Stage → Type 0
  Means stage = let seen = seen_then at (control me).drain me stage in SaidMeans a (tells a seen) me seen.word seen.note

  pub says_so : (stage : Stage) → (control me).stage ≡ Some stage → Means stage
  says_so x e = search (put_same, test_here, stands_at, rests, arith)
