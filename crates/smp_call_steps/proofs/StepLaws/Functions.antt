-- What each step does of the functions that calls run, and what it says of them.
use Rattle.std.proofs.Common.{◌≡◌, ℕ, ◌+◌, Bool, false, cond, inl, inr, Option, Some, None, List, ◌∷◌, sym, subst, arith}
use Rattle.std.proofs.lemmas.Bool.{lt-ltb}
use Rattle.smp_words.specs.Flags.{flags_of}
use Rattle.smp_words.specs.Size.{owner}
use Rattle.smp_words.proofs.Puts.{put_same}
use Rattle.smp_call_steps.specs.{CallState, Holding, Running, Nothing, confirms, begins_sync, begins_async, unlocks, releases, links, flags_told}
use Rattle.smp_call_steps.specs.{head_told, tells, told_of, is_call, BeginsIt, FunctionGoes, ends, goes_to, ControlValue}
use Rattle.smp_call_steps.specs.{seen_then, Call, Class, Sync, Async, Word, Note, CallOutcome, Posting, HandleStage, Stage}
use Rattle.smp_call_steps.specs.{Handle}
use Rattle.smp_call_steps.specs.Shows.{Shows}
use Rattle.smp_call_steps.proofs.State.Walks.{walks_sync, ends_async as async_next}
use Rattle.smp_call_steps.proofs.Steps.Turns.{stands_at, holds_nothing}
use Rattle.smp_call_steps.specs.act
use Rattle.smp_call_steps.specs.note
use Rattle.smp_call_steps.specs.post
use Rattle.smp_call_steps.specs.handle

-- what tells nothing of functions

module _ (a : CallState) (me : ℕ) where
  told_confirms : (b : Bool) (id : ℕ) → told_of (cond b a (confirms a me id)) ≡ told_of a
  told_confirms x id = search arith

  told_lock : (c : Class) (id : ℕ) → told_of (flags_told a me id act.Store None (Some (flags_of c))) ≡ told_of a
  told_lock x id = search arith

  told_links : (n : ℕ) (h : Option Holding) → told_of (links a me (Some n) h) ≡ told_of a
  told_links n y = search arith

  told_exchange : (to n : ℕ) (b : Bool) → told_of (head_told a me to act.Cas (cond b (Some n) None)) ≡ told_of a
  told_exchange to n y = search arith

  -- what tells some

  begins_sync_it : (call : Call) (rest : List Call) → a.batch me ≡ call ∷ rest → a.running me ≡ Nothing → call.class ≡ Sync →
      BeginsIt a (begins_sync a me (call ∷ rest)) me (Some (note.Call (owner call.id) call.func call.info))
  begins_sync_it call rest front idle is = search (put_same, arith)

  begins_async_it : (call : Call) (rest : List Call) → a.batch me ≡ call ∷ rest → a.running me ≡ Nothing → call.class ≡ Async →
      BeginsIt a (begins_async a me (call ∷ rest)) me (Some (note.Call (owner call.id) call.func call.info))
  begins_async_it call rest front idle is = search (put_same, arith)

-- what is said

said_flags : (b c : Bool) (p : Posting) → is_call (cond b (ends note.Busy) (cond c (goes_to p post.Lock) (ends note.NoCpu))).note ≡ false
said_flags x c p = search arith

said_exchange : (b c d : Bool) (p : Posting) (link tries : ℕ) →
    is_call (cond b (ends (cond d note.Owed note.Queued)) (cond c (goes_to p (post.StoreNext link tries)) (goes_to p post.Uncount))).note ≡ false
said_exchange x c d p link tries = search arith

said_done : (b : Bool) → is_call (ends (cond b note.Locked note.Done)).note ≡ false
said_done x = search arith

said_accept : (b : Bool) (x y : HandleStage) →
    is_call (cond {A = CallOutcome} b (record { next = Some (Handle x); note = None }) (record { next = Some (Handle y); note = None })).note ≡ false
said_accept x y z = search arith

module _ (a : CallState) (at : Word → ℕ) (control : ℕ → ControlValue) (s : Shows a at control) (me : ℕ) where
  abbrev Goes : Stage → Type 0
  Goes stage = let seen = seen_then at (control me).drain me stage in FunctionGoes a (tells a seen) me seen.note

  ruleset tells_nothing = (said_flags, said_exchange, said_done, said_accept, told_confirms, told_lock, told_links, told_exchange, stands_at, holds_nothing)

  pub function_goes : (stage : Stage) → (control me).stage ≡ Some stage → Goes stage
  function_goes (Handle (handle.BeginSync walk call next)) e =
      let k = stands_at me s (handle.BeginSync walk call next) e in
      let said : Option Note = Some (note.Call (owner call.id) call.func call.info) in
      subst (λ (b : Bool). FunctionGoes a (cond b (begins_sync a me (a.batch me)) a) me said) (sym (lt-ltb 1 (call.id + 2) (omega arith)))
      (subst (λ (xs : List Call). FunctionGoes a (begins_sync a me xs) me said) (sym k.1.1.batch)
      (inr (inl (begins_sync_it a me call _ k.1.1.batch k.1.1.running_is (walks_sync k.1.1)))))
  function_goes (Handle (handle.BeginAsync call next)) e =
      let k = stands_at me s (handle.BeginAsync call next) e in
      let said : Option Note = Some (note.Call (owner call.id) call.func call.info) in
      subst (λ (h : Option Holding). FunctionGoes a (releases a me call.id h) me said) (sym (holds_nothing me s (handle.BeginAsync call next) e))
      (subst (λ (r : Running). FunctionGoes a (unlocks a me r) me said) (sym k.1.1.running_is)
      (subst (λ (xs : List Call). FunctionGoes a (begins_async a me xs) me said) (sym k.1.1.batch)
      (inr (inl (begins_async_it a me call _ k.1.1.batch k.1.1.running_is (async_next k.1.1))))))
  function_goes _ e = search (tells_nothing, arith)
