-- Each step of a post, of a send and of a question for a record keeps what the words show of the calls.
use Rattle.std.proofs.Common.{◌≡◌, ◌≢◌, ℕ, ◌+◌, ◌-◌, ◌%◌, ◌^◌, Bool, true, false, ◌==◌, ◌&&◌, nat_lt, cond, Option, Some, None, length, sym, subst, refl, ap}
use Rattle.std.proofs.Common.{◌∙◌, inl, inr, arith}
use Rattle.std.proofs.lemmas.Bool.{cases_eq, eq-eqb, ne_eqb, eqb-true}
use Rattle.smp_call_steps.proofs.Basics.Alls.{class_of-flags_of}
use Rattle.smp_words.specs.Put.{put, put_word}
use Rattle.smp_words.specs.Access.{put_if}
use Rattle.smp_words.specs.Flags.{flags_of, class_of}
use Rattle.smp_call_steps.specs.{CallState, Holding, locked, given_up, releases, links, confirms, appended, holding_with, with_func, with_info, with_count}
use Rattle.smp_call_steps.specs.{flags_told, head_told, ends, goes_to, DrainValue, ControlValue, Holds, FlagsShow, LinkIs, flags_in, funcs_in, infos_in}
use Rattle.smp_call_steps.specs.{nexts_in, queued_in, ran_in, IsWrittenIn, Tallied, sent_to, one_held, Rests, StandsAt, PostStands, PostKnows, PostGoes}
use Rattle.smp_call_steps.specs.{posted, share_of, held_of, held_of_post, holding, HandIs, Class, Word, Head, Hand, Queued, Flags, Func, Info}
use Rattle.smp_call_steps.specs.{Next, Note, RecPlace, Posting, PostStage, Stage, Send, Done, Post}
use Rattle.smp_call_steps.specs.Stands.{CallStands}
use Rattle.smp_call_steps.specs.Shows.{Shows}
use Rattle.smp_words.proofs.Puts.{at_test, put_other, put_same}
use Rattle.smp_call_steps.proofs.Steps.Frames.{Touches}
use Rattle.smp_call_steps.proofs.Steps.Own.{post_holds, own_step, KeepsCpus}
use Rattle.smp_call_steps.proofs.Steps.Sending.{stands_on, unlocked_free, confirms_kept, confirm_if, send_kept}
use Rattle.smp_call_steps.proofs.Steps.Appending.{append_kept}
use Rattle.smp_call_steps.proofs.Steps.StepShows.{StepShows}
use Rattle.smp_call_steps.specs.place
use Rattle.smp_call_steps.specs.act
use Rattle.smp_call_steps.specs.note
use Rattle.smp_call_steps.specs.post

flags_odd : (c : Class) → flags_of c % 2 ≡ 1
flags_odd x = search arith

pub count_more : (n x : ℕ) → n ≡ (x + 0) % 2 ^ 64 → (n + 1) % 2 ^ 64 ≡ (x + 1) % 2 ^ 64
count_more n x e = omega arith

pub count_less : (n x : ℕ) → n ≡ (x + 1) % 2 ^ 64 → (n + (2 ^ 64 - 1)) % 2 ^ 64 ≡ (x + 0) % 2 ^ 64
count_less n x e = omega arith

-- the tallies where the word for one destination changes
pub tallied_for : (a : CallState) (at : Word → ℕ) (me to n : ℕ) (h : Option Holding) → Tallied (queued_in at) (ran_in at) a.sent a.held a.ran a.running
    → n ≡ (length (sent_to to (a.sent me)) + one_held h to) % 2 ^ 64 → ((cpu : ℕ) → cpu ≢ to → one_held h cpu ≡ one_held (a.held me) cpu)
    → Tallied (queued_in (put_word at (Queued me to) n)) (ran_in at) a.sent (put a.held me h) a.ran a.running
tallied_for a at me to n h t here elsewhere = record {
  queued_are =
      λ source cpu. at_test source me
      (λ b. cond (b && (cpu == to)) n (at (Queued source cpu)) ≡ (length (sent_to cpu (a.sent source)) + one_held (cond b h (a.held source)) cpu) % 2 ^ 64)
      (λ e. at_test cpu to (λ b. cond b n (at (Queued source cpu)) ≡ (length (sent_to cpu (a.sent source)) + one_held h cpu) % 2 ^ 64)
      (λ f. rw (e, f) here)
      (λ ne. rw (e, elsewhere cpu ne) (t.queued_are me cpu)))
      (λ _. t.queued_are source cpu);
  ran_are = t.ran_are;
}

one_counted : (p : Posting) (func info cpu : ℕ) → cpu ≢ p.to → one_held (Some (holding p func info p.to true)) cpu ≡ 0
one_counted p func info cpu ne = rw (ne_eqb p.to cpu (λ f. ne (sym f))) refl

one_here : (p : Posting) (func info : ℕ) → one_held (Some (holding p func info p.to true)) p.to ≡ 1
one_here p func info = rw (eq-eqb p.to p.to refl) refl

-- another flags word, and no other word, of this record
touches_flags : (id n : ℕ) (places places' : ℕ → RecPlace) (at : Word → ℕ) → ((u : ℕ) → u ≢ id → places' u ≡ places u)
    → Touches id places places' at (put_word at (Flags id) n)
touches_flags id n places places' at same = search (put_other, arith)

touches_func : (id n : ℕ) (places : ℕ → RecPlace) (at : Word → ℕ) → Touches id places places at (put_word at (Func id) n)
touches_func id n places at = search (put_other, arith)

touches_info : (id n : ℕ) (places : ℕ → RecPlace) (at : Word → ℕ) → Touches id places places at (put_word at (Info id) n)
touches_info id n places at = search (put_other, arith)

touches_next : (id n : ℕ) (places : ℕ → RecPlace) (at : Word → ℕ) → Touches id places places at (put_word at (Next id) n)
touches_next id n places at = search (put_other, arith)

touches_none : (id : ℕ) (places : ℕ → RecPlace) (at at' : Word → ℕ) → ((u : ℕ) → at' (Flags u) ≡ at (Flags u)) → ((u : ℕ) → at' (Func u) ≡ at (Func u))
    → ((u : ℕ) → at' (Info u) ≡ at (Info u)) → ((u : ℕ) → at' (Next u) ≡ at (Next u)) → Touches id places places at at'
touches_none id places at at' flags func info next = search arith

abbrev keeps : (Word → ℕ) → Word → ℕ → Type 0
keeps at w n = KeepsCpus at (put_word at w n)

LinkIs-none : (nexts : ℕ → ℕ) (h : Option Holding) → LinkIs nexts h None
LinkIs-none nexts x = search arith

-- the link of a held record, where another holding is by the same record
LinkIs-as : (nexts : ℕ → ℕ) (h h' : Option Holding) (l : Option ℕ) → ((u : ℕ) → Holds h' u → Holds h u) → LinkIs nexts h l → LinkIs nexts h' l
LinkIs-as nexts h None l f k = tt
LinkIs-as nexts h (Some x) None f k = tt
LinkIs-as nexts None (Some x) (Some n) f k = absurd (f x.call.id refl)
LinkIs-as nexts (Some y) (Some x) (Some n) f k = sym (ap nexts (f x.call.id refl)) ∙ k

module _ {a : CallState} {at : Word → ℕ} {control : ℕ → ControlValue} (me : ℕ) (s : Shows a at control) where
  abbrev d : DrainValue
  d = (control me).drain

  abbrev to_stage : Option Stage → ControlValue
  to_stage stage = record { stage = stage; drain = (control me).drain }

  holds_at : (st : Stage) → (control me).stage ≡ Some st → a.held me ≡ held_of (Some st)
  holds_at st e = s.held me ∙ ap held_of e

  stands_at : (st : Stage) → (control me).stage ≡ Some st → StandsAt a.place at (share_of a me) (control me).drain me (Some st)
  stands_at st e = rw e at (s.stands me)

  hand_at : (st : Stage) → (control me).stage ≡ Some st → HandIs (Some st) (at (Hand me))
  hand_at st e = rw e at (s.hands me)

  -- outside handle a CPU rests
  pub record IsResting : Type 0 where
    pub rests : Rests (share_of a me)
    pub hand : at (Hand me) ≡ 0

  post_rests : (p : Posting) (st : PostStage) → (control me).stage ≡ Some (Post p st) → IsResting
  post_rests p st e = let h = stands_at (Post p st) e in record { rests = h.0; hand = hand_at (Post p st) e }

  was_at : (p : Posting) (st : PostStage) → (control me).stage ≡ Some (Post p st) → PostStands a.place at me p st
  was_at p st e = let h = stands_at (Post p st) e in h.1

  ends_here : (places' : ℕ → RecPlace) (at' : Word → ℕ) → IsResting → CallStands places' at' (share_of a me) me (to_stage None)
  ends_here places' at' r = r.rests

  goes_here : (places' : ℕ → RecPlace) (at' : Word → ℕ) (p : Posting) (st next : PostStage) → (control me).stage ≡ Some (Post p st) → PostGoes p next
      → PostKnows places' at' p next → CallStands places' at' (share_of a me) me (to_stage (Some (Post p next)))
  goes_here places' at' p st next e goes knows = search (post_rests, was_at, arith)

  -- the load of the own flags
  load_flags : (p : Posting) → (control me).stage ≡ Some (Post p post.LoadFlags) → (b c : Bool) → (at (Flags p.id) % 2 == 1) ≡ b → p.is_online ≡ c →
      Shows (cond b a (confirms a me p.id)) at (put control me (to_stage (cond b (ends note.Busy) (cond c (goes_to p post.Lock) (ends note.NoCpu))).next))
  load_flags p e true c t o = search (post_rests, stands_on, holds_at, ends_here, arith)
  load_flags p e false false t o =
      let r = post_rests p post.LoadFlags e in
      stands_on (confirms a me p.id) at control me (to_stage None)
      (confirms_kept a at control me p.id (unlocked_free (a.place p.id) (at (Flags p.id)) (s.written.locks p.id) t) s) (holds_at (Post p post.LoadFlags) e)
      (ends_here a.place at r) r.hand
  load_flags p e false true t o =
      let r = post_rests p post.LoadFlags e in
      let was = was_at p post.LoadFlags e in
      let free = unlocked_free (a.place p.id) (at (Flags p.id)) (s.written.locks p.id) t in
      stands_on (confirms a me p.id) at control me (to_stage (Some (Post p post.Lock))) (confirms_kept a at control me p.id free s)
      (holds_at (Post p post.LoadFlags) e)
      (goes_here a.place at p post.LoadFlags post.Lock e (was.goes o) free) r.hand

  pub flags_step : (p : Posting) → (control me).stage ≡ Some (Post p post.LoadFlags) → StepShows a at control me (Post p post.LoadFlags)
  flags_step p e = load_flags p e (at (Flags p.id) % 2 == 1) p.is_online refl refl

  pub send_step : (to : ℕ) → (control me).stage ≡ Some (Send to) → StepShows a at control me (Send to)
  send_step to e = let h = stands_at (Send to) e in send_kept a at control me to (to_stage None) s (holds_at (Send to) e) h.0 (hand_at (Send to) e)

  pub done_step : (id : ℕ) → (control me).stage ≡ Some (Done id) → StepShows a at control me (Done id)
  done_step id e =
      let h = stands_at (Done id) e in
      search (confirm_if, stands_on, holds_at, h, hand_at, arith)

  -- the tallies where no tally word changes and the same is held
  tallied_on : (held' : ℕ → Option Holding) → ((cpu : ℕ) → cpu ≢ me → held' cpu ≡ a.held cpu) → ((cpu : ℕ) → one_held (held' me) cpu ≡ one_held (a.held me) cpu)
      → Tallied (queued_in at) (ran_in at) a.sent held' a.ran a.running
  tallied_on held' others mine = search (cases_eq, arith)

  mine_only : (p : Posting) (st : PostStage) → (control me).stage ≡ Some (Post p st) → (u : ℕ) → Holds (a.held me) u → u ≡ p.id
  mine_only p st e u h = post_holds p st u (subst (λ (x : Option Holding). Holds x u) (holds_at (Post p st) e) h)

  -- lock
  lock_class : (p : Posting) → (control me).stage ≡ Some (Post p post.Lock)
      → Shows (locked a me p.id (flags_of p.class)) (put_word at (Flags p.id) (flags_of p.class)) (put control me (to_stage (Some (Post p post.StoreFunc))))
  lock_class p e =
      let was = was_at p post.Lock e in
      let r = post_rests p post.Lock e in
      let places' : ℕ → RecPlace = put a.place p.id place.Held in
      let at' : Word → ℕ = put_word at (Flags p.id) (flags_of p.class) in
      let h : Option Holding =
      Some (record { call = record { id = p.id; class = class_of (flags_of p.class); func = 0; info = 0 }; to = 0; is_counted = false }) in
      let held' : ℕ → Option Holding = put a.held me h in
      let placed : put a.place p.id place.Held p.id ≡ place.Held = put_same a.place p.id place.Held in
      let stored : put_word at (Flags p.id) (flags_of p.class) (Flags p.id) ≡ flags_of p.class = put_same (flags_in at) p.id (flags_of p.class) in
      let mine : put a.held me h me ≡ h = put_same a.held me h in
      own_step a at at' control me p.id (to_stage (Some (Post p post.StoreFunc))) places' held' (put a.linked me None) s (record {
        touches = touches_flags p.id (flags_of p.class) a.place places' at (λ u ne. put_other a.place p.id place.Held u ne);
        keeps = record { head = λ _. refl; intr = λ _. refl; hand = λ _. refl };
        owned = was.owned;
        before = inl was.knows;
        after = inr (placed, rw mine refl);
        flags = rw (placed, stored) (flags_odd p.class);
        mine_only = mine_only p post.Lock e;
        my_held = mine ∙ rw (class_of-flags_of p.class) refl;
        others_held = λ cpu ne. put_other a.held me h cpu ne;
        my_link = rw (put_same a.linked me None) (LinkIs-none (nexts_in at) (held' me));
        others_linked = λ cpu ne. put_other a.linked me None cpu ne;
        tallied = tallied_on held' (λ cpu ne. put_other a.held me h cpu ne) (λ cpu. rw (mine, holds_at (Post p post.Lock) e) refl);
        stands = goes_here places' at' p post.Lock post.StoreFunc e was.goes (placed, stored);
        hand = r.hand;
      })

  told_lock : (c : Class) (id : ℕ) → flags_told a me id act.Store None (Some (flags_of c)) ≡ locked a me id (flags_of c)
  told_lock x id = search arith

  pub lock_step : (p : Posting) → (control me).stage ≡ Some (Post p post.Lock) → StepShows a at control me (Post p post.Lock)
  lock_step p e = search (told_lock, lock_class, arith)

  -- a store in a word of the held record, whose place and lock stay
  on_held : (p : Posting) (st next : PostStage) (at' : Word → ℕ) (h : Option Holding) (l : ℕ → Option ℕ) → (control me).stage ≡ Some (Post p st)
      → a.place p.id ≡ place.Held →
      Touches p.id a.place a.place at at' → KeepsCpus at at' → at' (Flags p.id) ≡ at (Flags p.id) → h ≡ held_of (Some (Post p next)) → Holds h p.id →
      LinkIs (nexts_in at') h (l me) → ((cpu : ℕ) → cpu ≢ me → l cpu ≡ a.linked cpu) →
      Tallied (queued_in at') (ran_in at') a.sent (put a.held me h) a.ran a.running → PostGoes p next → PostKnows a.place at' p next →
      Shows (record a { held = put a.held me h; linked = l }) at' (put control me (to_stage (Some (Post p next))))
  on_held p st next at' h l e placed t k flags held holds link links tallied goes knows =
      let was = was_at p st e in
      let r = post_rests p st e in
      let mine : put a.held me h me ≡ h = put_same a.held me h in
      let locked : FlagsShow place.Held (at (Flags p.id)) = rw placed at (s.written.locks p.id) in
      own_step a at at' control me p.id (to_stage (Some (Post p next))) a.place (put a.held me h) l s (record {
        touches = t;
        keeps = k;
        owned = was.owned;
        before = inr placed;
        after = inr (placed, rw mine holds);
        flags = rw (placed, flags) locked;
        mine_only = mine_only p st e;
        my_held = mine ∙ held;
        others_held = λ cpu ne. put_other a.held me h cpu ne;
        my_link = rw mine link;
        others_linked = links;
        tallied = tallied;
        stands = goes_here a.place at' p st next e goes knows;
        hand = k.hand me ∙ r.hand;
      })

  -- the link of the held record stays what it was
  linked_on : (p : Posting) (h : Option Holding) → Holds (a.held me) p.id → ((u : ℕ) → Holds h u → u ≡ p.id) → LinkIs (nexts_in at) h (a.linked me)
  linked_on p h old only = LinkIs-as (nexts_in at) (a.held me) h (a.linked me) (λ u k. rw (only u k) old) (s.links.held_links me)

  pub func_step : (p : Posting) → (control me).stage ≡ Some (Post p post.StoreFunc) → StepShows a at control me (Post p post.StoreFunc)
  func_step p e =
      let was = was_at p post.StoreFunc e in
      let k : PostKnows a.place at p post.StoreFunc = was.knows in
      let held = holds_at (Post p post.StoreFunc) e in
      let h : Option Holding = holding_with (with_func p.func) (a.held me) in
      let now : holding_with (with_func p.func) (a.held me) ≡ held_of (Some (Post p post.StoreInfo)) = ap (holding_with (with_func p.func)) held in
      on_held p post.StoreFunc post.StoreInfo (put_word at (Func p.id) p.func) h a.linked e k.0 (touches_func p.id p.func a.place at)
      (record { head = λ _. refl; intr = λ _. refl; hand = λ _. refl }) refl now (rw now refl)
      (linked_on p h (rw held refl) (λ u x. post_holds p post.StoreInfo u (rw now at x))) (λ _ _. refl)
      (tallied_on (put a.held me h) (λ cpu ne. put_other a.held me h cpu ne) (λ cpu. rw (put_same a.held me h, now, held) refl))
      was.goes (k.0, k.1, put_same (funcs_in at) p.id p.func)

  pub info_step : (p : Posting) → (control me).stage ≡ Some (Post p post.StoreInfo) → StepShows a at control me (Post p post.StoreInfo)
  info_step p e =
      let was = was_at p post.StoreInfo e in
      let k : PostKnows a.place at p post.StoreInfo = was.knows in
      let held = holds_at (Post p post.StoreInfo) e in
      let h : Option Holding = holding_with (with_info p.info) (a.held me) in
      let now : holding_with (with_info p.info) (a.held me) ≡ held_of (Some (Post p post.Count)) = ap (holding_with (with_info p.info)) held in
      on_held p post.StoreInfo post.Count (put_word at (Info p.id) p.info) h a.linked e k.0 (touches_info p.id p.info a.place at)
      (record { head = λ _. refl; intr = λ _. refl; hand = λ _. refl }) refl now (rw now refl)
      (linked_on p h (rw held refl) (λ u x. post_holds p post.Count u (rw now at x))) (λ _ _. refl)
      (tallied_on (put a.held me h) (λ cpu ne. put_other a.held me h cpu ne) (λ cpu. rw (put_same a.held me h, now, held) refl))
      was.goes (k.0, record { flags_are = k.1; func_is = k.2; info_is = put_same (infos_in at) p.id p.info })

  pub count_step : (p : Posting) → (control me).stage ≡ Some (Post p post.Count) → StepShows a at control me (Post p post.Count)
  count_step p e =
      let was = was_at p post.Count e in
      let k : PostKnows a.place at p post.Count = was.knows in
      let held = holds_at (Post p post.Count) e in
      let n = (at (Queued me p.to) + 1) % 2 ^ 64 in
      let h : Option Holding = holding_with (with_count p.to) (a.held me) in
      let now : holding_with (with_count p.to) (a.held me) ≡ held_of (Some (Post p post.LoadHead)) = ap (holding_with (with_count p.to)) held in
      let before : at (Queued me p.to) ≡ (length (sent_to p.to (a.sent me)) + 0) % 2 ^ 64 = rw held at (s.tallied.queued_are me p.to) in
      on_held p post.Count post.LoadHead (put_word at (Queued me p.to) n) h a.linked e k.0
      (touches_none p.id a.place at (put_word at (Queued me p.to) n) (λ _. refl) (λ _. refl) (λ _. refl) (λ _. refl))
      (record { head = λ _. refl; intr = λ _. refl; hand = λ _. refl }) refl now (rw now refl)
      (linked_on p h (rw held refl) (λ u x. post_holds p post.LoadHead u (rw now at x))) (λ _ _. refl)
      (tallied_for a at me p.to n h s.tallied (rw (now, one_here p p.func p.info) (count_more (at (Queued me p.to)) (length (sent_to p.to (a.sent me))) before))
      (λ cpu ne. rw (now, held, one_counted p p.func p.info cpu ne) refl))
      was.goes k

  pub uncount_step : (p : Posting) → (control me).stage ≡ Some (Post p post.Uncount) → StepShows a at control me (Post p post.Uncount)
  uncount_step p e =
      let was = was_at p post.Uncount e in
      let k : PostKnows a.place at p post.Uncount = was.knows in
      let held = holds_at (Post p post.Uncount) e in
      let n = (at (Queued me p.to) + (2 ^ 64 - 1)) % 2 ^ 64 in
      let h : Option Holding = holding_with (with_count p.to) (a.held me) in
      let now : holding_with (with_count p.to) (a.held me) ≡ held_of (Some (Post p post.Release)) = ap (holding_with (with_count p.to)) held in
      let before : at (Queued me p.to) ≡ (length (sent_to p.to (a.sent me)) + 1) % 2 ^ 64 =
      rw (held, one_here p p.func p.info) at (s.tallied.queued_are me p.to) in
      on_held p post.Uncount post.Release (put_word at (Queued me p.to) n) h a.linked e k.0
      (touches_none p.id a.place at (put_word at (Queued me p.to) n) (λ _. refl) (λ _. refl) (λ _. refl) (λ _. refl))
      (record { head = λ _. refl; intr = λ _. refl; hand = λ _. refl }) refl now (rw now refl)
      (linked_on p h (rw held refl) (λ u x. post_holds p post.Release u (rw now at x))) (λ _ _. refl)
      (tallied_for a at me p.to n h s.tallied (rw now (count_less (at (Queued me p.to)) (length (sent_to p.to (a.sent me))) before))
      (λ cpu ne. rw (now, held, one_counted p p.func p.info cpu ne) refl))
      was.goes k

  -- a step of a post that changes no word and no call
  goes_on : (p : Posting) (st next : PostStage) → (control me).stage ≡ Some (Post p st) → held_of_post p st ≡ held_of_post p next → PostGoes p next
      → PostKnows a.place at p next → Shows a at (put control me (to_stage (Some (Post p next))))
  goes_on p st next e same goes knows = search (post_rests, stands_on, holds_at, goes_here, arith)

  pub head_step : (p : Posting) → (control me).stage ≡ Some (Post p post.LoadHead) → StepShows a at control me (Post p post.LoadHead)
  head_step p e = let was = was_at p post.LoadHead e in goes_on p post.LoadHead (post.StoreNext (at (Head p.to)) p.tries) e refl was.goes was.knows

  link_here : (p : Posting) (link : ℕ) (st : PostStage) (h : Option Holding) → (control me).stage ≡ Some (Post p st)
      → h ≡ Some (holding p p.func p.info p.to true) → a.held me ≡ h → a.place p.id ≡ place.Held → IsWrittenIn at (posted p) → PostGoes p (post.Exchange link 0)
      →
      (tries : ℕ) → Shows (links a me (Some link) h) (put_word at (Next p.id) link) (put control me (to_stage (Some (Post p (post.Exchange link tries)))))
  link_here p link st h e is held placed written goes tries =
      let r = post_rests p st e in
      let was = was_at p st e in
      let at' : Word → ℕ = put_word at (Next p.id) link in
      let linked' : ℕ → Option ℕ = put a.linked me (Some link) in
      let locked : FlagsShow place.Held (at (Flags p.id)) = rw placed at (s.written.locks p.id) in
      let stored : put_word at (Next p.id) link (Next p.id) ≡ link = put_same (nexts_in at) p.id link in
      subst (λ (x : Option Holding). Shows (links a me (Some link) x) (put_word at (Next p.id) link)
      (put control me (to_stage (Some (Post p (post.Exchange link tries)))))) (sym is)
      (own_step a at at' control me p.id (to_stage (Some (Post p (post.Exchange link tries)))) a.place a.held linked' s (record {
        touches = touches_next p.id link a.place at;
        keeps = record { head = λ _. refl; intr = λ _. refl; hand = λ _. refl };
        owned = was.owned;
        before = inr placed;
        after = inr (placed, rw (held, is) refl);
        flags = rw placed locked;
        mine_only = mine_only p st e;
        my_held = held ∙ is;
        others_held = λ _ _. refl;
        my_link = rw (held, is, put_same a.linked me (Some link)) stored;
        others_linked = λ cpu ne. put_other a.linked me (Some link) cpu ne;
        tallied = s.tallied;
        stands = search (goes_here, arith);
        hand = r.hand;
      }))

  pub next_step : (p : Posting) (link tries : ℕ) → (control me).stage ≡ Some (Post p (post.StoreNext link tries))
      → StepShows a at control me (Post p (post.StoreNext link tries))
  next_step p link tries e =
      let was = was_at p (post.StoreNext link tries) e in
      search (was, link_here, holds_at, arith)

  exchange : (p : Posting) (link tries : ℕ) → (control me).stage ≡ Some (Post p (post.Exchange link tries)) → (b c : Bool) (won : Note)
      → (at (Head p.to) == link) ≡ b →
      Shows (head_told a me p.to act.Cas (cond b (Some (p.id + 1)) None)) (put_if put_word at (Head p.to) (cond b (Some (p.id + 1)) None))
      (put control me (to_stage (cond b (ends won) (cond c (goes_to p (post.StoreNext (at (Head p.to)) (tries - 1))) (goes_to p post.Uncount))).next))
  exchange p link tries e true c won t =
      let was = was_at p (post.Exchange link tries) e in
      let k : PostKnows a.place at p (post.Exchange link tries) = was.knows in
      let r = post_rests p (post.Exchange link tries) e in
      let h : a.held me ≡ Some (holding p p.func p.info p.to true) = holds_at (Post p (post.Exchange link tries)) e in
      subst (λ (x : Option Holding). Shows (appended a me p.to x) (put_word at (Head p.to) (p.id + 1)) (put control me (to_stage None))) (sym h)
      (append_kept a at control me p.to (posted p) (to_stage None) s was.owned h was.is_call k.0 k.1 (k.2 ∙ sym (eqb-true (at (Head p.to)) link t)) refl
      (ends_here (put a.place p.id (place.Queued p.to)) (put_word at (Head p.to) (p.id + 1)) r) r.hand)
  exchange p link tries e false true won t = search (was_at, goes_on, arith)
  exchange p link tries e false false won t = search (was_at, goes_on, arith)

  pub exchange_step : (p : Posting) (link tries : ℕ) → (control me).stage ≡ Some (Post p (post.Exchange link tries))
      → StepShows a at control me (Post p (post.Exchange link tries))
  exchange_step p link tries e = exchange p link tries e (at (Head p.to) == link) (nat_lt 1 tries) (cond (link == 0) note.Owed note.Queued) refl

  release_held : (p : Posting) → (control me).stage ≡ Some (Post p post.Release)
      → Shows (given_up a me p.id) (put_word at (Flags p.id) 0) (put control me (to_stage None))
  release_held p e =
      let was = was_at p post.Release e in
      let k : PostKnows a.place at p post.Release = was.knows in
      let r = post_rests p post.Release e in
      let places' : ℕ → RecPlace = put a.place p.id place.Free in
      let at' : Word → ℕ = put_word at (Flags p.id) 0 in
      let held' : ℕ → Option Holding = put a.held me None in
      let placed : put a.place p.id place.Free p.id ≡ place.Free = put_same a.place p.id place.Free in
      let stored : put_word at (Flags p.id) 0 (Flags p.id) ≡ 0 = put_same (flags_in at) p.id 0 in
      let mine : put a.held me None me ≡ None = put_same a.held me None in
      own_step a at at' control me p.id (to_stage None) places' held' a.linked s (record {
        touches = touches_flags p.id 0 a.place places' at (λ u ne. put_other a.place p.id place.Free u ne);
        keeps = record { head = λ _. refl; intr = λ _. refl; hand = λ _. refl };
        owned = was.owned;
        before = inr k.0;
        after = inl placed;
        flags = rw placed stored;
        mine_only = mine_only p post.Release e;
        my_held = mine;
        others_held = λ cpu ne. put_other a.held me None cpu ne;
        my_link = rw mine tt;
        others_linked = λ _ _. refl;
        tallied = tallied_on held' (λ cpu ne. put_other a.held me None cpu ne) (λ cpu. rw (mine, holds_at (Post p post.Release) e) refl);
        stands = ends_here places' at' r;
        hand = r.hand;
      })

  pub release_step : (p : Posting) → (control me).stage ≡ Some (Post p post.Release) → StepShows a at control me (Post p post.Release)
  release_step p e =
      subst (λ (x : Option Holding). Shows (releases a me p.id x) (put_word at (Flags p.id) 0) (put control me (to_stage None)))
      (sym (holds_at (Post p post.Release) e)) (release_held p e)

  ruleset post_steps = (lock_step, func_step, info_step, count_step, head_step, next_step, exchange_step, uncount_step, release_step)

  pub post_step : (p : Posting) (st : PostStage) → (control me).stage ≡ Some (Post p st) → StepShows a at control me (Post p st)
  post_step p post.LoadFlags e = flags_step p e
  post_step p _ e = search post_steps
