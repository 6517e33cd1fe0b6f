-- The steps of a post, of a send and of a look at a record are accepted.
use Rattle.trace_laws.proofs.Names.{Bool, Class, Free, List, None, Option, Some, StateValue, [], ap, arith, cond, has, refl, subst, sym, true, ℕ, ◌+◌}
use Rattle.trace_laws.proofs.Names.{◌-◌, ◌<◌, ◌==◌, ◌∙◌, ◌≡◌, ◌≢◌}
use Rattle.trace_laws.proofs.ReplayNames.{AimsOnline, CallState, ControlValue, Done, Flags, Follows, Head, Holding, Note, Past, Post, PostIsAt, PostStage}
use Rattle.trace_laws.proofs.ReplayNames.{PostStands, Posting, RecPlace, Send, Shows, Stage, StandsAt, Word, appended, cpus, events_of_step, flags_of}
use Rattle.trace_laws.proofs.ReplayNames.{flags_told, head_told, held_of, links, of_flags, of_head, past_at, place_of, put, put_all, records, seen_then}
use Rattle.trace_laws.proofs.ReplayNames.{share_of, tells}
use Rattle.smp_words.specs.declared.seen.Act.TheVariants as act
use Rattle.smp_call_steps.specs.declared.place.RecPlace.TheVariants as machine
use Rattle.smp_call_steps.specs.declared.post.PostStage.TheVariants as post
use Rattle.smp_call_steps.specs.Calls.{given_up}
use Rattle.trace_laws.proofs.ReplayCalls.StepEvents.{Reaches, by, id_told, loads, queues_told, quiet, sends_told, still}

module _ (online : ℕ) (a : CallState) (s : StateValue) (f : Follows online a s) (me : ℕ) where
  -- a record that is told as free is told so still
  pub stays_free : (id : ℕ) (p : RecPlace) → place_of (a.place id) ≡ Free → place_of p ≡ Free → (j : ℕ) → place_of (put a.place id p j) ≡ place_of (a.place j)
  stays_free id p was is = put_all (λ j q. place_of q ≡ place_of (a.place j)) a.place id p (is ∙ sym was) (λ j ne. refl)

  abbrev Stores : ℕ → ℕ → Option Note → Type 0
  Stores id n said = Reaches online (flags_told a me id act.Store None (Some n)) s
      (by me (of_flags id act.Store (record { cpu = me; act = act.Store; word = Flags id; found = None; put = Some n; note = said })))

  lock : (id : ℕ) (class : Class) (said : Option Note) → a.place id ≡ machine.Free → Stores id (flags_of class) said
  lock id class said h1 = search (quiet, stays_free, arith)

  -- a link tells nothing
  pub links_quiet : (n : ℕ) (h : Option Holding) → Reaches online (links a me (Some n) h) s []
  links_quiet n h = search (still, quiet, arith)

  -- an exchange queues the call where it is won
  exchange : (h : Holding) (to : ℕ) (past : Past) (won : Bool) → me < cpus → a.held me ≡ Some h
      → past.post.class ≡ h.call.class → past.post.func ≡ h.call.func → past.post.info ≡ h.call.info → h.call.id < records
      → Reaches online (appended a me to (Some h)) s (by me (of_head past to act.Cas (Some (h.call.id + 1))))
      → Reaches online (head_told a me to act.Cas (cond won (Some (h.call.id + 1)) None)) s (by me (of_head past to act.Cas (cond won (Some
      (h.call.id + 1)) None)))
  exchange h to past won below held class func info l done = search (held, still, arith)

module _ (online : ℕ) (a : CallState) (at : Word → ℕ) (control : ℕ → ControlValue) (shown : Shows a at control) (me : ℕ) (below : me < cpus)
    (pasts : List Past)
    (s : StateValue) (f : Follows online a s) where
  -- the events that the step of this stage tells lead to a state that agrees with the calls that it tells
  abbrev pub Accepted : Stage → Type 0
  Accepted stage = let seen = seen_then at (control me).drain me stage in Reaches online (tells a seen) s (events_of_step pasts seen)

  stands : (stage : Stage) → (control me).stage ≡ Some stage → StandsAt a.place at (share_of a me) (control me).drain me (Some stage)
  stands stage e = subst (λ (x : Option Stage). StandsAt a.place at (share_of a me) (control me).drain me x) e (shown.stands me)

  held : (stage : Stage) → (control me).stage ≡ Some stage → a.held me ≡ held_of (Some stage)
  held stage e = shown.held me ∙ ap held_of e

  pub sends_step : (to : ℕ) → (control me).stage ≡ Some (Send to) → AimsOnline online (Some (Send to)) → Accepted (Send to)
  sends_step to e on = let k = stands (Send to) e in sends_told online a s f me below to k.1 on

  pub looks_step : (id : ℕ) → (control me).stage ≡ Some (Done id) → Accepted (Done id)
  looks_step id e = let k = stands (Done id) e in loads online a s f me below id (at (Flags id)) (a.place id) refl (shown.written.locks id) (λ _. k.2)

  won : (p : Posting) (link tries : ℕ) → (control me).stage ≡ Some (Post p (post.Exchange link tries)) → has online p.to ≡ true → p.to ≢ me
      → PostIsAt p (post.Exchange link tries) (past_at pasts me).post → Accepted (Post p (post.Exchange link tries))
  won p link tries e on ne k =
      let stood : PostStands a.place at me p (post.Exchange link tries) = (stands (Post p (post.Exchange link tries)) e).1 in
      let h : Holding = record { call = record { id = p.id; class = p.class; func = p.func; info = p.info }; to = p.to; is_counted = true } in
      let l = stood.is_call.in_range in
      let one : (p.id + 1) - 1 ≡ p.id = omega arith in
      exchange online a s f me h p.to (past_at pasts me) (at (Head p.to) == link) below (held (Post p (post.Exchange link tries)) e) k.0 k.1.0 k.1.1 l
      (rw (one, id_told p.id l, k.0, k.1.0, k.1.1) (queues_told online a s f me below h p.to stood.owned l stood.goes on ne (ap place_of stood.knows.0)))

  pub posts_step : (p : Posting) (stage : PostStage) → (control me).stage ≡ Some (Post p stage) → AimsOnline online (Some (Post p stage)) → p.to ≢ me
      → PostIsAt p stage (past_at pasts me).post → Accepted (Post p stage)
  posts_step p post.LoadFlags e on ne k =
      let st = stands (Post p post.LoadFlags) e in
      loads online a s f me below p.id (at (Flags p.id)) (a.place p.id) refl (shown.written.locks p.id) (λ _. st.1.is_call.in_range)
  posts_step p post.Lock e on ne k = let st = stands (Post p post.Lock) e in lock online a s f me p.id p.class None st.1.knows
  posts_step p post.LoadHead e on ne k = still online a s f
  posts_step p (post.StoreNext link tries) e on ne k = links_quiet online a s f me link (a.held me)
  posts_step p (post.Exchange link tries) e on ne k = won p link tries e on ne k
  posts_step p post.Release e on ne k =
      let st = stands (Post p post.Release) e in
      rw (held (Post p post.Release) e)
      (quiet online a s f (given_up a me p.id) (λ j. refl) (λ j l. stays_free online a s f me p.id machine.Free (ap place_of st.1.knows.0) refl j))
  posts_step p _ e on ne k = quiet online a s f _ (λ j. refl) (λ j l. refl)
