-- Each step that a CPU may make keeps what the words say: flags lock, tallies count, and a CPU whose handling word is 0 handles nothing.
use Rattle.std.proofs.Common.{◌≡◌, ◌≢◌, ℕ, suc, ◌+◌, ◌%◌, ◌^◌, ◌==◌, nat_lt, Bool, true, false, cond, inl, inr, Option, Some, None}
use Rattle.std.proofs.Common.{List, [], ◌∷◌, ◌++◌, length, sym, subst, refl, ap, ◌∙◌, arith, true≢false}
use Rattle.std.proofs.lemmas.Bool.{ltb-true, lt-ltb}
use Rattle.std.proofs.lemmas.List.{append-nil}
use Rattle.smp_words.specs.Put.{put, put_word}
use Rattle.smp_words.specs.Access.{put_if}
use Rattle.smp_words.specs.Size.{owner}
use Rattle.smp_words.proofs.Puts.{at_test, put_same, put_other, put_all, put_both}
use Rattle.smp_call_steps.specs.{CallState, Holding, Running, Nothing, SyncCall, CountedCall, AsyncCall, Rests, share_of, place_taken}
use Rattle.smp_call_steps.specs.{Holds, HoldsUncounted, HoldsFor, MayCount, MayCountRun, runs_as, with_func, with_info, with_count, holding_with, links}
use Rattle.smp_call_steps.specs.{locked, appended, accepts, begins_sync, begins_async, ends_sync, counts, unlocks, releases, confirms, takes, flags_told, told}
use Rattle.smp_call_steps.specs.{IsNext, MayLock, MayUnlock, MayTake, MayStoreFlags, MayStoreHand, MaySee, FitsWords, recounted, one_held, counted_call}
use Rattle.smp_call_steps.specs.{queued_in, ran_in, sent_to, Tallied, FlagsShow, Call, Class, Sync, Async, Word, Head, Intr}
use Rattle.smp_call_steps.specs.{Hand, Queued, Ran, Flags, Func, Info}
use Rattle.smp_call_steps.specs.{Next, Act, RecPlace}
use Rattle.smp_call_steps.specs.Reached.{AreTallied}
use Rattle.smp_call_steps.proofs.Headline.{locked_flags}
use Rattle.smp_call_steps.proofs.StepsKeep.{KeepsLaws, one_of}
use Rattle.smp_call_steps.proofs.State.Tallies.{tallied_more, tallied_same}
use Rattle.smp_call_steps.proofs.Steps.Appending.{tallied_appended}
use Rattle.smp_call_steps.proofs.Steps.Placings.{counted_hold, front_here}
use Rattle.smp_call_steps.proofs.Steps.Posting.{tallied_for}
use Rattle.smp_call_steps.specs.act
use Rattle.smp_call_steps.specs.place

-- what the words say of these calls
pub record AgreesWith (a : CallState) (at : Word → ℕ) : Type 0 where
  pub locks : (id : ℕ) → FlagsShow (a.place id) (at (Flags id))
  pub tallied : AreTallied a at
  pub idle : (cpu : ℕ) → at (Hand cpu) ≡ 0 → Rests (share_of a cpu)

uncounted_none : (h : Option Holding) (id cpu : ℕ) → HoldsUncounted h id → one_held None cpu ≡ one_held h cpu
uncounted_none x id cpu m = search arith

same_held : (f : Holding → Holding) → ((h : Holding) (cpu : ℕ) → one_held (Some (f h)) cpu ≡ one_held (Some h) cpu) → (h : Option Holding) (cpu : ℕ)
    → one_held (holding_with f h) cpu ≡ one_held h cpu
same_held f same x cpu = search arith

-- a call that is counted for this CPU, or counted back
recounted_here : (h : Option Holding) (n x to : ℕ) → MayCount h to → n ≡ (x + one_held h to) % 2 ^ 64
    → recounted h n ≡ (x + one_held (holding_with (with_count to) h) to) % 2 ^ 64
recounted_here x n z to m e = search arith

-- is counted for no other, before and after
recounted_else : (h : Option Holding) (to cpu : ℕ) → cpu ≢ to → MayCount h to → one_held (holding_with (with_count to) h) cpu ≡ one_held h cpu
recounted_else x to cpu ne m = search arith

held_for : (h : Option Holding) (to : ℕ) → HoldsFor h to → (call : Call) × (h ≡ counted_hold call to)
held_for None to m = absurd m
held_for (Some h) to m = (h.call, λ i. Some (record { call = h.call; to = m.1 i; is_counted = m.0 i }))

-- a record that is taken is locked as before
taken_locked : (me : ℕ) (p : RecPlace) (flags : ℕ) → FlagsShow p flags → FlagsShow (place_taken me p) flags
taken_locked me x flags h = search (at_test, arith)

Held≢Free : place.Held ≢ place.Free
Held≢Free e = cc

Batch≢Free : (cpu : ℕ) → place.Batch cpu ≢ place.Free
Batch≢Free cpu e = cc

module _ (a : CallState) (at : Word → ℕ) (me : ℕ) (k : KeepsLaws a) (g : AgreesWith a at) where
  -- the flags of a record and its place change together, or its place alone
  locks_put : (id n : ℕ) (p : RecPlace) → FlagsShow p n → (u : ℕ) → FlagsShow (put a.place id p u) (put_word at (Flags id) n (Flags u))
  locks_put id n p here u = at_test u id (λ b. FlagsShow (cond b p (a.place u)) (cond b n (at (Flags u)))) (λ _. here) (λ _. g.locks u)

  locks_moved : (id : ℕ) (p : RecPlace) → FlagsShow p (at (Flags id)) → (u : ℕ) → FlagsShow (put a.place id p u) (at (Flags u))
  locks_moved id p here u = search (at_test, arith)

  odd : (id : ℕ) (p : RecPlace) → a.place id ≡ p → p ≢ place.Free → at (Flags id) % 2 ≡ 1
  odd id p e ne = locked_flags p (at (Flags id)) (subst (λ q. FlagsShow q (at (Flags id))) e (g.locks id)) ne

  -- what is held counts as before
  tallied_held : (h : Option Holding) → ((cpu : ℕ) → one_held h cpu ≡ one_held (a.held me) cpu)
      → Tallied (queued_in at) (ran_in at) a.sent (put a.held me h) a.ran a.running
  tallied_held h same = search (put_all, arith)

  -- what runs, and has run, counts as before
  tallied_ran : (xs : List Call) (r : Running) → xs ++ counted_call r ≡ a.ran me ++ counted_call (a.running me)
      → Tallied (queued_in at) (ran_in at) a.sent a.held (put a.ran me xs) (put a.running me r)
  tallied_ran xs r same = search (tallied_same, put_both, arith)

  tallied_running : (r : Running) → a.ran me ++ counted_call r ≡ a.ran me ++ counted_call (a.running me)
      → Tallied (queued_in at) (ran_in at) a.sent a.held a.ran (put a.running me r)
  tallied_running r same = search (tallied_same, put_all, arith)

  -- a CPU that has something to run is inside handle, so another one is outside
  running_inside : (r : Running) → a.running me ≡ r → r ≢ Nothing → at (Hand me) ≢ 0
  running_inside r e ne z = ne (sym e ∙ (g.idle me z).running)

  batch_inside : (call : Call) (rest : List Call) → a.batch me ≡ call ∷ rest → at (Hand me) ≢ 0
  batch_inside call rest e z = let none : call ∷ rest ≡ [] = sym e ∙ (g.idle me z).batch in cc

  another : at (Hand me) ≢ 0 → (cpu : ℕ) → at (Hand cpu) ≡ 0 → cpu ≢ me
  another busy cpu z e = busy (subst (λ c. at (Hand c) ≡ 0) e z)

  agrees_locked : (id n : ℕ) → MayLock a me id → suc n % 2 ≡ 1 → AgreesWith (locked a me id (suc n)) (put_word at (Flags id) (suc n))
  agrees_locked id n m locks = record {
    locks = locks_put id (suc n) place.Held locks;
    tallied = tallied_held _ (λ cpu. ap (λ (h : Option Holding). one_held h cpu) (sym m.none));
    idle = g.idle;
  }

  agrees_given_up : (id : ℕ) (h : Option Holding) → a.held me ≡ h → HoldsUncounted h id → AgreesWith (releases a me id h) (put_word at (Flags id) 0)
  agrees_given_up id None e m = absurd m
  agrees_given_up id (Some h) e m = record {
    locks = locks_put id 0 place.Free refl;
    tallied = tallied_held None (λ cpu. uncounted_none (Some h) id cpu m ∙ ap (λ (x : Option Holding). one_held x cpu) (sym e));
    idle = g.idle;
  }

  agrees_ended : (call : Call) → a.running me ≡ CountedCall call → AgreesWith (ends_sync a me call) (put_word at (Flags call.id) 0)
  agrees_ended call running = record {
    locks = locks_put call.id 0 place.Free refl;
    tallied = tallied_ran (a.ran me ++ call ∷ []) Nothing
        (append-nil (a.ran me ++ call ∷ []) ∙ ap (λ (r : Running). a.ran me ++ counted_call r) (sym running));
    idle = λ cpu z. let r = g.idle cpu z in record {
      batch = r.batch;
      running = at_test cpu me (λ b. cond b Nothing (a.running cpu) ≡ Nothing) (λ _. refl) (λ _. r.running);
      accepted = r.accepted;
    };
  }

  agrees_async : (call : Call) → IsNext a me Async call → AgreesWith (begins_async a me (a.batch me)) (put_word at (Flags call.id) 0)
  agrees_async call n = subst (λ xs. AgreesWith (begins_async a me xs) (put_word at (Flags call.id) 0)) (sym n.front) (record {
    locks = locks_put call.id 0 place.Free refl;
    tallied = tallied_running (AsyncCall call) (ap (λ (r : Running). a.ran me ++ counted_call r) (sym n.idle));
    idle = λ cpu z. let r = g.idle cpu z in let ne = another (batch_inside call n.rest n.front) cpu z in record {
      batch = put_other a.batch me n.rest cpu ne ∙ r.batch;
      running = put_other a.running me (AsyncCall call) cpu ne ∙ r.running;
      accepted = r.accepted;
    };
  })

  agrees_unlocks : (id : ℕ) (r : Running) (to : Word → ℕ) → a.held me ≡ None → a.running me ≡ r → AgreesWith (unlocks a me r) to
      → AgreesWith (releases a me id (a.held me)) to
  agrees_unlocks id r to none running h = search arith

  unlocked_word : (b : CallState) (id : ℕ) (call : Call) → call.id ≡ id → AgreesWith b (put_word at (Flags call.id) 0) → AgreesWith b (put_word at (Flags id) 0)
  unlocked_word b id call e h = subst (λ u. AgreesWith b (put_word at (Flags u) 0)) e h

  agrees_releases : (id : ℕ) → MayUnlock a me id → AgreesWith (releases a me id (a.held me)) (put_word at (Flags id) 0)
  agrees_releases id (inl m) = agrees_given_up id (a.held me) refl m.0
  agrees_releases id (inr (inl m)) = search (agrees_unlocks, unlocked_word, agrees_ended, arith)
  agrees_releases id (inr (inr m)) = let n = m.1.2 in agrees_unlocks id Nothing _ m.0 n.idle (unlocked_word _ id m.1.0 m.1.1 (agrees_async m.1.0 n))

  agrees_flags : (id n : ℕ) → MayStoreFlags a me id n → AgreesWith (flags_told a me id act.Store None (Some n)) (put_word at (Flags id) n)
  agrees_flags id x m = search (agrees_releases, at_test, agrees_locked, arith)

  agrees_confirmed : (b : Bool) (id : ℕ) → AgreesWith (cond b a (confirms a me id)) at
  agrees_confirmed true id = g
  agrees_confirmed false id = record { locks = g.locks; tallied = g.tallied; idle = g.idle }

  -- what is held changes by what is no count, and a word that is neither flags nor a count
  agrees_with : (f : Holding → Holding) (to : Word → ℕ) → ((h : Holding) (cpu : ℕ) → one_held (Some (f h)) cpu ≡ one_held (Some h) cpu)
      → AgreesWith a to → AgreesWith (record a { held = put a.held me (holding_with f (a.held me)) }) to
  agrees_with f to same h = record {
    locks = h.locks;
    tallied = record {
      queued_are = λ source cpu. h.tallied.queued_are source cpu ∙ ap (λ (n : ℕ). (length (sent_to cpu (a.sent source)) + n) % 2 ^ 64)
          (sym (put_all (λ x (y : Option Holding). one_held y cpu ≡ one_held (a.held x) cpu) a.held me (holding_with f (a.held me))
          (same_held f same (a.held me) cpu) (λ _ _. refl) source));
      ran_are = h.tallied.ran_are;
    };
    idle = h.idle;
  }

  agrees_links : (n : Option ℕ) (h : Option Holding) (to : Word → ℕ) → AgreesWith a to → AgreesWith (links a me n h) to
  agrees_links (Some n) (Some h) to x = record { locks = x.locks; tallied = x.tallied; idle = x.idle }
  agrees_links (Some n) None to x = x
  agrees_links None None to x = x
  agrees_links None (Some h) to x = x

  agrees_recounted : (to n : ℕ) → MayCount (a.held me) to → n ≡ recounted (a.held me) (at (Queued me to))
      → AgreesWith (record a { held = put a.held me (holding_with (with_count to) (a.held me)) }) (put_word at (Queued me to) n)
  agrees_recounted to n m e = record {
    locks = g.locks;
    tallied = tallied_for a at me to n (holding_with (with_count to) (a.held me)) g.tallied
        (e ∙ recounted_here (a.held me) (at (Queued me to)) (length (sent_to to (a.sent me))) to m (g.tallied.queued_are me to))
        (λ cpu ne. recounted_else (a.held me) to cpu ne m);
    idle = g.idle;
  }

  abbrev counted_word : Call → Word → ℕ
  counted_word call = put_word at (Ran me (owner call.id)) ((at (Ran me (owner call.id)) + 1) % 2 ^ 64)

  agrees_counted : (class : Class) (call : Call) → a.running me ≡ runs_as class call → AgreesWith (counts a me (runs_as class call)) (counted_word call)
  agrees_counted Sync call e = record {
    locks = g.locks;
    tallied = tallied_more (queued_in at) (ran_in at) a.sent a.held a.ran a.ran a.running (put a.running me (CountedCall call)) me call
        (ap (λ (r : Running). a.ran me ++ counted_call r) (put_same a.running me (CountedCall call))
        ∙ ap (λ xs. xs ++ call ∷ []) (sym (append-nil (a.ran me)) ∙ ap (λ (r : Running). a.ran me ++ counted_call r) (sym e)))
        (λ cpu ne. ap (λ (r : Running). a.ran cpu ++ counted_call r) (put_other a.running me (CountedCall call) cpu ne)) g.tallied;
    idle = λ cpu z. let r = g.idle cpu z in let ne = another (running_inside (SyncCall call) e (λ n. cc)) cpu z in record {
      batch = r.batch;
      running = put_other a.running me (CountedCall call) cpu ne ∙ r.running;
      accepted = r.accepted;
    };
  }
  agrees_counted Async call e = record {
    locks = g.locks;
    tallied = tallied_more (queued_in at) (ran_in at) a.sent a.held a.ran (put a.ran me (a.ran me ++ call ∷ [])) a.running (put a.running me Nothing) me call
        (ap (λ (r : Running). put a.ran me (a.ran me ++ call ∷ []) me ++ counted_call r) (put_same a.running me Nothing)
        ∙ (append-nil (put a.ran me (a.ran me ++ call ∷ []) me) ∙ (put_same a.ran me (a.ran me ++ call ∷ [])
        ∙ ap (λ xs. xs ++ call ∷ []) (sym (append-nil (a.ran me)) ∙ ap (λ (r : Running). a.ran me ++ counted_call r) (sym e)))))
        (λ cpu ne. (λ i. put_other a.ran me (a.ran me ++ call ∷ []) cpu ne i ++ counted_call (put_other a.running me Nothing cpu ne i))) g.tallied;
    idle = λ cpu z. let r = g.idle cpu z in record {
      batch = r.batch;
      running = at_test cpu me (λ b. cond b Nothing (a.running cpu) ≡ Nothing) (λ _. refl) (λ _. r.running);
      accepted = r.accepted;
    };
  }

  agrees_counts : (source n : ℕ) → MayCountRun a me source → n ≡ (at (Ran me source) + 1) % 2 ^ 64
      → AgreesWith (counts a me (a.running me)) (put_word at (Ran me source) n)
  agrees_counts source n m e = search (agrees_counted, arith)

  agrees_sync : (call : Call) (n : ℕ) → n ≡ call.id + 2 → IsNext a me Sync call → AgreesWith (begins_sync a me (a.batch me)) (put_word at (Hand me) n)
  agrees_sync call n is next = subst (λ xs. AgreesWith (begins_sync a me xs) (put_word at (Hand me) n)) (sym next.front) (record {
    locks = locks_moved call.id (place.Running me)
        (odd call.id (place.Batch me) (front_here a k.placed me call next.rest next.front) (Batch≢Free me));
    tallied = tallied_running (SyncCall call) (ap (λ (r : Running). a.ran me ++ counted_call r) (sym next.idle));
    idle = λ cpu. at_test cpu me (λ b. cond b n (at (Hand cpu)) ≡ 0 → Rests (record {
      last = (share_of a cpu).last;
      batch = cond b next.rest (a.batch cpu);
      running = cond b (SyncCall call) (a.running cpu);
      accepted = a.accepted cpu;
    })) (λ e z. absurd (omega (arith, is, z))) (λ ne z. let r = g.idle cpu z in record { batch = r.batch; running = r.running; accepted = r.accepted });
  })

  agrees_hand : (n : ℕ) → MayStoreHand a me n → AgreesWith (cond (nat_lt 1 n) (begins_sync a me (a.batch me)) a) (put_word at (Hand me) n)
  agrees_hand n (inl m) = one_of (λ b. AgreesWith b (put_word at (Hand me) n)) (nat_lt 1 n) _ a
      (λ e. absurd (let more = ltb-true 1 n e in let less = m.0 in omega arith))
      (λ _. record {
        locks = g.locks;
        tallied = g.tallied;
        idle = λ cpu. at_test cpu me (λ b. cond b n (at (Hand cpu)) ≡ 0 → Rests (share_of a cpu))
            (λ e z. subst (λ c. Rests (share_of a c)) (sym e) (record { batch = m.1.batch; running = m.1.idle; accepted = m.1.accepted }))
            (λ _. g.idle cpu);
      })
  agrees_hand n (inr m) = one_of (λ b. AgreesWith b (put_word at (Hand me) n)) (nat_lt 1 n) (begins_sync a me (a.batch me)) a
      (λ _. agrees_sync m.0 n m.1 m.2) (λ e. absurd (true≢false (sym (lt-ltb 1 n (let is = m.1 in omega arith)) ∙ e)))

  agrees_appended : (to n : ℕ) → HoldsFor (a.held me) to → AgreesWith (appended a me to (a.held me)) (put_word at (Head to) n)
  agrees_appended to n m =
      let h = held_for (a.held me) to m in
      let call = h.0 in
      let held : Holds (a.held me) call.id = subst (λ x. Holds x call.id) (sym h.1) refl in
      subst (λ x. AgreesWith (appended a me to x) (put_word at (Head to) n)) (sym h.1) (record {
        locks = locks_moved call.id (place.Queued to) (odd call.id place.Held (k.home me call.id held) Held≢Free);
        tallied = tallied_appended a (queued_in at) (ran_in at) me to call h.1 g.tallied;
        idle = g.idle;
      })

  agrees_taken : (n : ℕ) → MayTake a me → AgreesWith (takes a me) (put_word at (Head me) n)
  agrees_taken n m = record {
    locks = λ id. taken_locked me (a.place id) (at (Flags id)) (g.locks id);
    tallied = g.tallied;
    idle = λ cpu z.
        let r = g.idle cpu z in
        let ne = another (λ e. true≢false (sym m.accepted ∙ (g.idle me e).accepted)) cpu z in
        record {
          batch = put_other a.batch me _ cpu ne ∙ r.batch;
          running = r.running;
          accepted = put_other a.accepted me false cpu ne ∙ r.accepted;
        };
  }

  agrees_accepts : (n : ℕ) → at (Hand me) ≢ 0 → AgreesWith (accepts a me) (put_word at (Intr me) n)
  agrees_accepts n inside = record {
    locks = g.locks;
    tallied = g.tallied;
    idle = λ cpu z. let r = g.idle cpu z in let ne = another inside cpu z in record {
      batch = r.batch;
      running = r.running;
      accepted = put_other a.accepted me _ cpu ne ∙ r.accepted;
    };
  }

  pub step_agrees : (act : Act) (w : Word) (found put : Option ℕ) → MaySee a me act w found put → FitsWords a at me act w put
      → AgreesWith (told a me act w found put) (put_if put_word at w put)
  step_agrees act.Load (Flags id) (Some n) None m f = agrees_confirmed (n % 2 == 1) id
  step_agrees act.Load (Func id) (Some n) None m f = g
  step_agrees act.Load (Info id) (Some n) None m f = g
  step_agrees act.Load (Next id) (Some n) None m f = agrees_links None (a.held me) at g
  step_agrees act.Load (Head to) (Some n) None m f = g
  step_agrees act.Store (Flags id) None (Some n) m f = agrees_flags id n m
  step_agrees act.Store (Func id) None (Some n) m f =
      agrees_with (with_func n) (put_word at (Func id) n) (λ h cpu. refl) (record { locks = g.locks; tallied = g.tallied; idle = g.idle })
  step_agrees act.Store (Info id) None (Some n) m f =
      agrees_with (with_info n) (put_word at (Info id) n) (λ h cpu. refl) (record { locks = g.locks; tallied = g.tallied; idle = g.idle })
  step_agrees act.Store (Next id) None (Some n) m f =
      agrees_links (Some n) (a.held me) (put_word at (Next id) n) (record { locks = g.locks; tallied = g.tallied; idle = g.idle })
  step_agrees act.Store (Queued from to) None (Some n) m f =
      subst (λ s. AgreesWith (record a { held = put a.held me (holding_with (with_count to) (a.held me)) }) (put_word at (Queued s to) n)) (sym m.0)
      (agrees_recounted to n m.1 (f ∙ ap (λ s. recounted (a.held me) (at (Queued s to))) m.0))
  step_agrees act.Store (Ran by source) None (Some n) m f =
      subst (λ c. AgreesWith (counts a me (a.running me)) (put_word at (Ran c source) n)) (sym m.0)
      (agrees_counts source n m.1 (f ∙ ap (λ c. (at (Ran c source) + 1) % 2 ^ 64) m.0))
  step_agrees act.Store (Hand cpu) None (Some n) m f =
      subst (λ c. AgreesWith (cond (nat_lt 1 n) (begins_sync a me (a.batch me)) a) (put_word at (Hand c) n)) (sym m.0) (agrees_hand n m.1)
  step_agrees act.Store (Intr to) None (Some n) m f = record { locks = g.locks; tallied = g.tallied; idle = g.idle }
  step_agrees act.Cas (Head to) (Some n) None m f = g
  step_agrees act.Cas (Head to) (Some n) (Some x) m f = agrees_appended to x m.0
  step_agrees act.Swap (Intr cpu) (Some n) (Some x) m f = subst (λ c. AgreesWith (accepts a me) (put_word at (Intr c) x)) (sym m.0) (agrees_accepts x f)
  step_agrees act.Swap (Head cpu) (Some n) (Some x) m f = subst (λ c. AgreesWith (takes a me) (put_word at (Head c) x)) (sym m.0) (agrees_taken x m.1)
  step_agrees _ w found put m f = absurd m
