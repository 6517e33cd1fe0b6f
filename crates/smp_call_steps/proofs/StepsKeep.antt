-- Each step that a CPU may make keeps the laws of calls, by its premise alone: no words are named here, and no stages.
use Rattle.std.proofs.Common.{◌≡◌, ◌≢◌, ℕ, zero, suc, ◌%◌, ◌==◌, nat_lt, Bool, true, false, cond, inl, inr, Option, Some, None}
use Rattle.std.proofs.Common.{List, [], ◌∷◌, ◌++◌, sym, subst, refl, ap, ◌∙◌, arith}
use Rattle.std.proofs.lemmas.Bool.{ltb-true}
use Rattle.std.proofs.lemmas.List.{append-nil}
use Rattle.smp_words.specs.Put.{put}
use Rattle.smp_words.specs.Size.{owner}
use Rattle.smp_words.proofs.Puts.{at_test, test_here, test_else, put_same, put_other}
use Rattle.smp_call_steps.specs.{CallState, Holding, Running, Nothing, SyncCall, CountedCall, AsyncCall, Recorded, IsCall}
use Rattle.smp_call_steps.specs.{Holds, HoldsUncounted, HoldsFor, HasRecord, MayCount, running_call, locked_by, locked, with_func, with_info, with_count}
use Rattle.smp_call_steps.specs.{holding_with, links, appended, begins_sync, begins_async, ends_sync, counts, unlocks, releases, confirms, takes}
use Rattle.smp_call_steps.specs.{flags_told, told, no_calls, IsNext, MayLock, MayUnlock, MayTake, MayStoreFlags, MayStoreHand, MaySee}
use Rattle.smp_call_steps.specs.{FlagsShow, Call, Sync, Async, Word, Head, Intr, Hand, Queued, Ran, Flags, Func, Info, Next, Act, RecPlace}
use Rattle.smp_call_steps.specs.Reached.{ArePlaced, AreNoticed}
use Rattle.smp_call_steps.proofs.State.Recordings.{recorded_appended, recorded_taken, recorded_begun, recorded_counted}
use Rattle.smp_call_steps.proofs.Steps.Moving.{else_by_place}
use Rattle.smp_call_steps.proofs.Steps.Placings.{OwnMove, placed_own, placed_confirmed, placed_appended, front_placed, front_here, placed_begun, placed_counted}
use Rattle.smp_call_steps.proofs.Steps.Placings.{running_here, placed_ended, counted_hold}
use Rattle.smp_call_steps.proofs.Steps.Appending.{noticed_appended}
use Rattle.smp_call_steps.proofs.Steps.Sending.{noticed_sent, unlocked_free}
use Rattle.smp_call_steps.proofs.Steps.Entering.{noticed_then}
use Rattle.smp_call_steps.proofs.Steps.Taking.{placed_taken, noticed_after}
use Rattle.smp_call_steps.specs.act
use Rattle.smp_call_steps.specs.place

-- a CPU holds none, or a call whose numbers are within their types
abbrev HeldFits : Option Holding → Type 0
HeldFits None = Unit {0}
HeldFits (Some h) = IsCall h.call

-- the laws of calls, and what each CPU holds: only records of its own, which are at that place
pub record KeepsLaws (a : CallState) : Type 0 where
  pub placed : ArePlaced a
  pub recorded : Recorded a.sent a.taken a.queue a.ran a.running a.batch
  pub noticed : AreNoticed a
  pub owns : (cpu id : ℕ) → Holds (a.held cpu) id → owner id ≡ cpu
  pub home : (cpu id : ℕ) → Holds (a.held cpu) id → a.place id ≡ place.Held
  pub fits : (cpu : ℕ) → HeldFits (a.held cpu)

pub nothing_kept : KeepsLaws no_calls
nothing_kept = record {
  placed = record {
    queued = λ _. tt;
    batched = λ _. tt;
    runs = λ _. tt;
    queue_apart = λ _. tt;
    batch_apart = λ _. tt;
    is_there = λ _. tt;
    settled = λ _ _ _ _. inl refl;
  };
  recorded = record { in_order = λ _ _. refl; drained = λ _. refl };
  noticed = λ _. inl tt;
  owns = λ cpu id h. absurd h;
  home = λ cpu id h. absurd h;
  fits = λ _. tt;
}

-- a CPU holds some record
abbrev IsHeld : Option Holding → Type 0
IsHeld None = ⊥
IsHeld (Some h) = Unit {0}

held_uncounted : (h : Option Holding) (id : ℕ) → HoldsUncounted h id → IsHeld h
held_uncounted x id m = search arith

held_countable : (h : Option Holding) (to : ℕ) → MayCount h to → IsHeld h
held_countable x to m = search arith

pub one_of : (P : CallState → Type 0) (b : Bool) (x y : CallState) → (b ≡ true → P x) → (b ≡ false → P y) → P (cond b x y)
one_of x y z u px py = search arith

Held≢Batch : (cpu : ℕ) → place.Held ≢ place.Batch cpu
Held≢Batch cpu e = cc

Held≢Running : (cpu : ℕ) → place.Held ≢ place.Running cpu
Held≢Running cpu e = cc

module _ (a : CallState) (me : ℕ) (k : KeepsLaws a) where
  here_holds : (h : Option Holding) (u : ℕ) → Holds h u → Holds (put a.held me h me) u
  here_holds h u x = subst (λ y. Holds y u) (sym (put_same a.held me h)) x

  -- a record that another CPU holds is not one of mine
  other_record : (cpu u id : ℕ) → cpu ≢ me → Holds (a.held cpu) u → owner id ≡ me → u ≢ id
  other_record cpu u id ne h own e = ne (sym (k.owns cpu u h) ∙ (ap owner e ∙ own))

  -- it moves its own record
  module _ (id : ℕ) (places' : ℕ → RecPlace) (h : Option Holding) (o : OwnMove a me id places' (put a.held me h))
      (mine : (u : ℕ) → Holds h u → (u ≡ id) × (places' u ≡ place.Held)) (fits : HeldFits h) (linked' : ℕ → Option ℕ) where
    own_kept : KeepsLaws (record a { place = places'; held = put a.held me h; linked = linked' })
    own_kept = record {
      placed = placed_own a k.placed me id places' (put a.held me h) o;
      recorded = k.recorded;
      noticed = k.noticed;
      owns = λ cpu u. at_test cpu me (λ b. Holds (cond b h (a.held cpu)) u → owner u ≡ cpu) (λ e x. ap owner (mine u x).0 ∙ (o.owned ∙ sym e))
          (λ _. k.owns cpu u);
      home = λ cpu u. at_test cpu me (λ b. Holds (cond b h (a.held cpu)) u → places' u ≡ place.Held) (λ _ x. (mine u x).1)
          (λ ne x. o.place_stays u (other_record cpu u id ne x o.owned) ∙ k.home cpu u x);
      fits = λ cpu. at_test cpu me (λ b. HeldFits (cond b h (a.held cpu))) (λ _. fits) (λ _. k.fits cpu);
    }

  kept_locked : (id n : ℕ) → MayLock a me id → KeepsLaws (locked a me id n)
  kept_locked id n m = own_kept id (put a.place id place.Held) _
      (record {
        place_stays = λ u ne. put_other a.place id place.Held u ne;
        owned = m.owned;
        before = inl m.free;
        after = inr (put_same a.place id place.Held, here_holds _ id refl);
        mine_only = λ u x. absurd (subst (λ y. Holds y u) m.none x);
        others_held = λ cpu ne. put_other a.held me _ cpu ne;
      })
      (λ u x. (sym x, subst (λ v. put a.place id place.Held v ≡ place.Held) x (put_same a.place id place.Held)))
      (record { in_range = m.in_range; func = omega arith; info = omega arith }) _

  kept_given_up : (id : ℕ) (h : Option Holding) → a.held me ≡ h → HoldsUncounted h id → KeepsLaws (releases a me id h)
  kept_given_up id None e m = absurd m
  kept_given_up id (Some h) e m =
      let here : Holds (a.held me) id = subst (λ y. Holds y id) (sym e) m.0 in
      own_kept id (put a.place id place.Free) None
      (record {
        place_stays = λ u ne. put_other a.place id place.Free u ne;
        owned = k.owns me id here;
        before = inr (k.home me id here);
        after = inl (put_same a.place id place.Free);
        mine_only = λ u x. sym (subst (λ y. Holds y u) e x) ∙ m.0;
        others_held = λ cpu ne. put_other a.held me None cpu ne;
      })
      (λ u x. absurd x) tt a.linked

  kept_with : (f : Holding → Holding) → ((h : Holding) → (f h).call.id ≡ h.call.id) → ((h : Holding) → IsCall h.call → IsCall (f h).call)
      → (h : Option Holding) → a.held me ≡ h → IsHeld h → KeepsLaws (record a { held = put a.held me (holding_with f h) })
  kept_with f same fits None e some = absurd some
  kept_with f same fits (Some h) e some =
      let id = h.call.id in
      let here : Holds (a.held me) id = subst (λ y. Holds y id) (sym e) refl in
      let home = k.home me id here in
      own_kept id a.place (Some (f h))
      (record {
        place_stays = λ u ne. refl;
        owned = k.owns me id here;
        before = inr home;
        after = inr (home, here_holds (Some (f h)) id (same h));
        mine_only = λ u x. sym (subst (λ y. Holds y u) e x);
        others_held = λ cpu ne. put_other a.held me (Some (f h)) cpu ne;
      })
      (λ u x. let v : id ≡ u = sym (same h) ∙ x in (sym v, subst (λ w. a.place w ≡ place.Held) v home))
      (fits h (subst HeldFits e (k.fits me))) a.linked

  kept_links : (n : Option ℕ) (h : Option Holding) → KeepsLaws (links a me n h)
  kept_links (Some n) (Some h) =
      record { placed = k.placed; recorded = k.recorded; noticed = k.noticed; owns = k.owns; home = k.home; fits = k.fits }
  kept_links (Some n) None = k
  kept_links None None = k
  kept_links None (Some h) = k

  kept_appended : (to : ℕ) (h : Option Holding) → a.held me ≡ h → HoldsFor h to → KeepsLaws (appended a me to h)
  kept_appended to None e m = absurd m
  kept_appended to (Some h) e m =
      let id = h.call.id in
      let here : Holds (a.held me) id = subst (λ y. Holds y id) (sym e) refl in
      let own = k.owns me id here in
      let holds : a.held me ≡ counted_hold h.call to = e ∙ (λ i. Some (record { call = h.call; to = m.1 i; is_counted = m.0 i })) in
      record {
        placed = placed_appended a k.placed me to h.call own holds (subst HeldFits e (k.fits me)) (k.home me id here);
        recorded = recorded_appended a me k.recorded to h.call own;
        noticed = noticed_appended a k.noticed me to h.call;
        owns = λ cpu u. at_test cpu me (λ b. Holds (cond b None (a.held cpu)) u → owner u ≡ cpu) (λ _ x. absurd x) (λ _. k.owns cpu u);
        home = λ cpu u. at_test cpu me (λ b. Holds (cond b None (a.held cpu)) u → put a.place id (place.Queued to) u ≡ place.Held) (λ _ x. absurd x)
            (λ ne x. put_other a.place id (place.Queued to) u (other_record cpu u id ne x own) ∙ k.home cpu u x);
        fits = λ cpu. at_test cpu me (λ b. HeldFits (cond b None (a.held cpu))) (λ _. tt) (λ _. k.fits cpu);
      }

  kept_taken : MayTake a me → KeepsLaws (takes a me)
  kept_taken m = record {
    placed = placed_taken a me m.batch k.placed;
    recorded = recorded_taken a me k.recorded m.batch m.idle;
    noticed = noticed_after a me k.noticed;
    owns = k.owns;
    home = λ cpu u x. rw (k.home cpu u x) refl;
    fits = k.fits;
  }

  -- what is held is no record that is elsewhere
  home_still : (id : ℕ) (from to : RecPlace) → a.place id ≡ from → place.Held ≢ from → (cpu u : ℕ) → Holds (a.held cpu) u → put a.place id to u ≡ place.Held
  home_still id from to here ne cpu u x =
      let home = k.home cpu u x in put_other a.place id to u (else_by_place a.place u id place.Held from home here ne) ∙ home

  kept_sync : (call : Call) → IsNext a me Sync call → KeepsLaws (begins_sync a me (a.batch me))
  kept_sync call n =
      let first = front_placed a k.placed me call n.rest n.front in
      let to = place.Running me in
      subst (λ xs. KeepsLaws (begins_sync a me xs)) (sym n.front) (record {
        placed = placed_begun a k.placed me call n.rest n.front to (SyncCall call) n.idle
            (record { is_call = first.0.is_call; placed = test_here call.id to (a.place call.id) }, tt)
            (subst (λ (x : Running). HasRecord call.id (locked_by x)) (sym (test_here me (SyncCall call) (a.running me))) (inl refl));
        recorded = recorded_begun a me k.recorded call n.rest (SyncCall call) n.front n.idle refl;
        noticed = k.noticed;
        owns = k.owns;
        home = home_still call.id (place.Batch me) to (front_here a k.placed me call n.rest n.front) (Held≢Batch me);
        fits = k.fits;
      })

  kept_async : (call : Call) → IsNext a me Async call → KeepsLaws (begins_async a me (a.batch me))
  kept_async call n = subst (λ xs. KeepsLaws (begins_async a me xs)) (sym n.front) (record {
    placed = placed_begun a k.placed me call n.rest n.front place.Free (AsyncCall call) n.idle tt tt;
    recorded = recorded_begun a me k.recorded call n.rest (AsyncCall call) n.front n.idle refl;
    noticed = k.noticed;
    owns = k.owns;
    home = home_still call.id (place.Batch me) place.Free (front_here a k.placed me call n.rest n.front) (Held≢Batch me);
    fits = k.fits;
  })

  abbrev ran_then : Call → ℕ → List Call
  ran_then call = put a.ran me (a.ran me ++ call ∷ [])

  ended_recorded : (call : Call) → running_call (a.running me) ≡ call ∷ []
      → Recorded a.sent a.taken a.queue (ran_then call) (put a.running me Nothing) a.batch
  ended_recorded call is = search (recorded_counted, test_else, append-nil, test_here, arith)

  kept_counts : (r : Running) → a.running me ≡ r → KeepsLaws (counts a me r)
  kept_counts (SyncCall call) e = record {
    placed = placed_counted a k.placed me (CountedCall call) (ap locked_by (sym e));
    recorded = recorded_counted a me k.recorded (CountedCall call) a.ran (λ _ _. refl) (ap (λ (x : Running). a.ran me ++ running_call x) (sym e));
    noticed = k.noticed;
    owns = k.owns;
    home = k.home;
    fits = k.fits;
  }
  kept_counts (AsyncCall call) e = record {
    placed = placed_counted a k.placed me Nothing (ap locked_by (sym e));
    recorded = ended_recorded call (ap running_call e);
    noticed = k.noticed;
    owns = k.owns;
    home = k.home;
    fits = k.fits;
  }
  kept_counts Nothing e = k
  kept_counts (CountedCall call) e = k

  kept_ended : (call : Call) → a.running me ≡ CountedCall call → KeepsLaws (ends_sync a me call)
  kept_ended call running = record {
    placed = placed_ended a k.placed me call running;
    recorded = ended_recorded call (ap running_call running);
    noticed = k.noticed;
    owns = k.owns;
    home = home_still call.id (place.Running me) place.Free (running_here a k.placed me call running) (Held≢Running me);
    fits = k.fits;
  }

  kept_unlocks : (id : ℕ) (r : Running) → a.held me ≡ None → a.running me ≡ r → KeepsLaws (unlocks a me r) → KeepsLaws (releases a me id (a.held me))
  kept_unlocks id r none running kept = search arith

  kept_releases : (id : ℕ) → MayUnlock a me id → KeepsLaws (releases a me id (a.held me))
  kept_releases id (inl m) = kept_given_up id (a.held me) refl m.0
  kept_releases id (inr (inl m)) = kept_unlocks id (CountedCall m.1.0) m.0 m.1.2 (kept_ended m.1.0 m.1.2)
  kept_releases id (inr (inr m)) = let n = m.1.2 in kept_unlocks id Nothing m.0 n.idle (kept_async m.1.0 n)

  kept_flags : (id n : ℕ) → MayStoreFlags a me id n → KeepsLaws (flags_told a me id act.Store None (Some n))
  kept_flags id zero m = kept_releases id m
  kept_flags id (suc n) m = at_test (suc n) 0 (λ b. KeepsLaws (cond b (releases a me id (a.held me)) (locked a me id (suc n)))) (λ e. absurd (omega arith))
      (λ _. kept_locked id (suc n) m.0)

  kept_confirmed : (id n : ℕ) → FlagsShow (a.place id) n → KeepsLaws (cond (n % 2 == 1) a (confirms a me id))
  kept_confirmed id n shown = one_of KeepsLaws (n % 2 == 1) a (confirms a me id) (λ _. k) (λ e. record {
    placed = placed_confirmed a k.placed me id (unlocked_free (a.place id) n shown e);
    recorded = k.recorded;
    noticed = k.noticed;
    owns = k.owns;
    home = k.home;
    fits = k.fits;
  })

  kept_hand : (n : ℕ) → MayStoreHand a me n → KeepsLaws (cond (nat_lt 1 n) (begins_sync a me (a.batch me)) a)
  kept_hand n (inl m) = one_of KeepsLaws (nat_lt 1 n) _ a (λ e. absurd (let more = ltb-true 1 n e in let less = m.0 in omega arith)) (λ _. k)
  kept_hand n (inr m) = one_of KeepsLaws (nat_lt 1 n) _ a (λ _. kept_sync m.0 m.2) (λ _. k)

  pub step_kept : (act : Act) (w : Word) (found put : Option ℕ) → MaySee a me act w found put → KeepsLaws (told a me act w found put)
  step_kept act.Load (Flags id) (Some n) None m = kept_confirmed id n m.1
  step_kept act.Load (Func id) (Some n) None m = k
  step_kept act.Load (Info id) (Some n) None m = k
  step_kept act.Load (Next id) (Some n) None m = kept_links None (a.held me)
  step_kept act.Load (Head to) (Some n) None m = k
  step_kept act.Store (Flags id) None (Some n) m = kept_flags id n m
  step_kept act.Store (Func id) None (Some n) m = kept_with (with_func n) (λ _. refl)
      (λ h c. record { in_range = c.in_range; func = m.1; info = c.info }) (a.held me) refl (held_uncounted (a.held me) id m.0)
  step_kept act.Store (Info id) None (Some n) m = kept_with (with_info n) (λ _. refl)
      (λ h c. record { in_range = c.in_range; func = c.func; info = m.1 }) (a.held me) refl (held_uncounted (a.held me) id m.0)
  step_kept act.Store (Next id) None (Some n) m = kept_links (Some n) (a.held me)
  step_kept act.Store (Queued from to) None (Some n) m =
      kept_with (with_count to) (λ _. refl) (λ h c. c) (a.held me) refl (held_countable (a.held me) to m.1)
  step_kept act.Store (Ran by source) None (Some n) m = kept_counts (a.running me) refl
  step_kept act.Store (Hand cpu) None (Some n) m = kept_hand n m.1
  step_kept act.Store (Intr to) None (Some n) m = record {
    placed = k.placed;
    recorded = k.recorded;
    noticed = noticed_sent a k.noticed me to;
    owns = k.owns;
    home = k.home;
    fits = k.fits;
  }
  step_kept act.Cas (Head to) (Some n) None m = k
  step_kept act.Cas (Head to) (Some n) (Some x) m = kept_appended to (a.held me) refl m.0
  step_kept act.Swap (Intr cpu) (Some n) (Some x) m = record {
    placed = k.placed;
    recorded = k.recorded;
    noticed = noticed_then a me k.noticed;
    owns = k.owns;
    home = k.home;
    fits = k.fits;
  }
  step_kept act.Swap (Head cpu) (Some n) (Some x) m = kept_taken m.1
  step_kept _ w found put m = absurd m
