-- The steps of a CPU that knows v: it enters a stop, and goes through its phases.
use Rattle.std.proofs.Common.{◌≡◌, ◌≢◌, ℕ, ◌+◌, ◌-◌, ◌<◌, ◌≤◌, ◌^◌, Bool, true, false, ◌==◌, ◌&&◌, not, cond, Option, Some, None, List, [], ◌∷◌, ◌++◌, sym}
use Rattle.std.proofs.Common.{subst, refl, ap, ◌∙◌, arith, bit_and}
use Rattle.smp_words.specs.Access.{one_less}
use Rattle.smp_words.proofs.Puts.{put_same, put_other}
use Rattle.smp_stop_steps.specs.{HasCalled, mask_weight, stored_open, stored_shut, columns_of, is_drafting, slot_stored}
use Rattle.smp_stop_steps.specs.{refilled_by, looked_known, Threads.Known.KnownStops}
use Rattle.smp_stop_steps.specs.{has, put, StopRole, Free, In, Duty, Rests, Fills, Sets, Setup, Calls, told, leaves, Sees, Act}
use Rattle.smp_stop_steps.specs.{StopPart, Field, Work, Word, Slot}
use Rattle.smp_stop_steps.specs.{put_word, StopShows, all_but, StopState, StopCall, Standing, with_stop, unpatched, called_by, ran_since, raised_by, read_since}
use Rattle.smp_stop_steps.specs.{cpus, Change, Alters, RoleStands, Source, Calling, Inside, raised, enters, raises, carried}
use Rattle.smp_stop_steps.specs.{may_call, GoesOnBy, setup_in, acked_by}
use Rattle.smp_stop_steps.specs.{Reading, acknowledged, acknowledges, acknowledges_now, carried_call, told_calling, drafted_known, member_stored, entered_known}
use Rattle.smp_stop_steps.specs.State.{Present, Carries}
use Rattle.smp_stop_steps.proofs.Knows.Parts.{Leaves, attempted, goes_seat, goes_still, seen_by, told_so}
use Rattle.smp_stop_steps.proofs.Steps.Rounds.{state_loaded, ack_subtracted, ack_subtracted_patched, ack_stored, state_stored}
use Rattle.smp_stop_steps.proofs.{Steps.Same.word_same, Steps.Callings.carried_alone, Basics.Bits.clear_same, Basics.Bits.clear_other, Basics.Bits.clear_none}
use Rattle.smp_stop_steps.proofs.{Steps.Completions.roll_cleared, State.Moves.IsNoPatch, Steps.Facts.high_none, Steps.Facts.arg_loaded, Steps.Facts.ack_bounds}
use Rattle.smp_stop_steps.proofs.{Steps.Facts.ack_bounds_patched, Knows.KnownSources.still, State.Phases.is_open_inside, Steps.StageSteps.less_one}
use Rattle.smp_stop_steps.specs.Names.{DISABLE_IRQ, RUN, EXIT, OVER}

pub small : (n : ℕ) → n ≤ cpus → n < 2 ^ 64
small n l = omega arith

-- what is told of who carries, and of who has called
told_carried : (f : Calling) → told_calling (carried_call f) ≡ carried_call (told_calling f)
told_carried f = search arith

module _ (p : StopState) (at : Word → ℕ) (seat : ℕ → StopRole) (source : ℕ → Source) (v : KnownStops) (h : StopShows (setup_in v.setting) p at seat source)
    (sees : Sees p seat source v) where
  abbrev u : Setup
  u = setup_in v.setting

  abbrev Goes : Act → Word → Option ℕ → Option ℕ → (Word → ℕ) → KnownStops → Type 0
  Goes a w found new at' known = GoesOnBy v.setting p seat source v.number at' known (seen_by v.number a w found new)

  abbrev Loads : Word → KnownStops → Type 0
  Loads w known = Goes Act.Load w (Some (at w)) None at known

  abbrev Stores : Word → ℕ → KnownStops → Type 0
  Stores w n known = Goes Act.Store w None (Some n) (put_word at w n) known

  abbrev Subs : Word → KnownStops → Type 0
  Subs w known = Goes Act.Sub w (Some (at w)) (Some (one_less (at w))) (put_word at w (one_less (at w))) known

  pub stands : (x : StopRole) → v.seat ≡ x → RoleStands p.now v.number x
  stands x e = subst (RoleStands p.now v.number) (sees.seat_is ∙ e) (h.present.stands v.number)

  pub open_at : (s : ℕ) (w : Work) (a l : ℕ) (t : Duty) → v.seat ≡ In s w a l t → (p.now.stop s).is_open ≡ true
  open_at s w a l t e = is_open_inside u.cpus (p.now.stop s) (λ f. at (Slot s f)) (h.present.slots s) v.number (Inside a l) (stands (In s w a l t) e).1 refl

  -- a store by who is in the stop and drafts none
  pub stored_plain : (s : ℕ) (f : Field) (x : ℕ) (w : Work) (a l : ℕ) (t : Duty) → v.seat ≡ In s w a l t →
      told u p v.number Act.Store (Slot s f) None (Some x) 0 ≡ stored_open p v.number s f x
  stored_plain s f x w a l t e = ap (λ b. cond b (stored_open p v.number s f x) (stored_shut p s f x)) (open_at s w a l t e)

  -- the columns are as they were, but what was read
  pub reads_now : (n : Present) (calls : ℕ → List StopCall) (more : List Reading) → n.readings v.number ≡ more → ((c : ℕ) → c ≢ v.number →
      n.readings c ≡ p.now.readings c) →
      Leaves v.number p (record p { now = n; calls = calls }) (record (v.part) { readings = more })
  reads_now n calls more mine others = search arith

  -- entering

  pub enter : (s : ℕ) → v.seat ≡ Free →
      let n = bit_and (at (Slot s Field.Roll)) (all_but v.number) in
      Goes Act.And (Slot s Field.Roll) (Some (at (Slot s Field.Roll))) (Some n) (put_word at (Slot s Field.Roll) n)
      (entered_known s (p.now.stop s).work (has (at (Slot s Field.Roll)) v.number) v)
  enter s free = go (has (at (Slot s Field.Roll)) v.number) refl
    where
      low : v.number < 64
      low = omega arith

      go : (b : Bool) → has (at (Slot s Field.Roll)) v.number ≡ b →
          let n = bit_and (at (Slot s Field.Roll)) (all_but v.number) in
          Goes Act.And (Slot s Field.Roll) (Some (at (Slot s Field.Roll))) (Some n) (put_word at (Slot s Field.Roll) n)
          (entered_known s (p.now.stop s).work b v)
      go true found = let n = bit_and (at (Slot s Field.Roll)) (all_but v.number) in
          let at' = put_word at (Slot s Field.Roll) n in
          let next = In s (p.now.stop s).work 0 0 Rests in
          let p' = record p { now = enters p.now v.number s } in
          let plain : told u p v.number Act.And (Slot s Field.Roll) (Some (at (Slot s Field.Roll))) (Some n) 0 ≡ p' = ap (λ b. cond b p' p) found in
          attempted p seat source v sees at' (record v { seat = next }) (v.attempts ++ record { slot = s; entered = true } ∷ [])
          (goes_seat p seat source v sees p' at' next v.part
          (told_so u v.number p p' Act.And (Slot s Field.Roll) (Some (at (Slot s Field.Roll))) (Some n) plain)
          (subst (λ q. StopShows u q at' (put seat v.number next) source) plain
          (roll_cleared u p at seat source h s v.number n 0 (sees.seat_is ∙ free) found (clear_same (at (Slot s Field.Roll)) v.number low)
          (λ c ne. clear_other (at (Slot s Field.Roll)) v.number c low ne (high_none u p at seat source h s c))))
          record { mine = sees.part_is; others = λ c ne. refl })
      go false missing = let n = bit_and (at (Slot s Field.Roll)) (all_but v.number) in
          let entered = record p { now = enters p.now v.number s } in
          attempted p seat source v sees (put_word at (Slot s Field.Roll) n) v (v.attempts ++ record { slot = s; entered = false } ∷ [])
          (subst (λ m. Goes Act.And (Slot s Field.Roll) (Some (at (Slot s Field.Roll))) (Some n) (put_word at (Slot s Field.Roll) m) v)
          (sym (clear_none (at (Slot s Field.Roll)) v.number low missing (high_none u p at seat source h s)))
          (subst (λ x. Goes Act.And (Slot s Field.Roll) (Some (at (Slot s Field.Roll))) (Some n) x v) (sym (word_same at (Slot s Field.Roll)))
          (still p at seat source v h sees Act.And (Slot s Field.Roll) (Some (at (Slot s Field.Roll))) (Some n) (ap (λ b. cond b entered p) missing))))

  -- a round

  pub look : (s : ℕ) (w : Work) (a l : ℕ) → v.seat ≡ In s w a l Rests → a ≢ EXIT → Loads (Slot s Field.State) (looked_known (at (Slot s Field.State)) v)
  look s w a l is more = let found = at (Slot s Field.State) in
      let p' = told u p v.number Act.Load (Slot s Field.State) (Some found) None 0 in
      let shown' = goes_seat p seat source v sees p' at (In s w a found Rests) (record (v.part) { looks = v.part.looks ++ found ∷ [] })
      (told_so u v.number p p' Act.Load (Slot s Field.State) (Some found) None refl)
      (state_loaded u p at seat source h s v.number w a l 0 (sees.seat_is ∙ is) more) record {
        mine = search (put_same, arith);
        others = λ c ne. ap (λ x. record (columns_of p c) { looks = x }) (put_other p.looks v.number (p.looks v.number ++ found ∷ []) c ne);
      } in
      search (is, shown', arith)

  -- the readings of who leaves, or not

  left_mine : (b : Bool) (n : Present) (s : ℕ) (w job : Work) → w ≡ job → n.readings ≡ p.now.readings →
      (cond b (leaves n v.number s w) n).readings v.number ≡ (read_since b s job v).readings
  left_mine b n s w job same e = search (put_same, arith)

  left_other : (b : Bool) (n : Present) (s : ℕ) (w : Work) → n.readings ≡ p.now.readings → (c : ℕ) → c ≢ v.number →
      (cond b (leaves n v.number s w) n).readings c ≡ p.now.readings c
  left_other b n s w e c ne = search (put_other, arith)

  -- the function of who has acknowledged a phase, or of another CPU

  ran_mine : (b : Bool) (g : Calling) → told_calling g ≡ carried_call v.part.calling → told_calling ((cond b (put p.calling v.number g) p.calling) v.number)
      ≡ cond b (carried_call v.part.calling) v.part.calling
  ran_mine b g e = search (put_same, arith)

  ran_other : (b : Bool) (g : Calling) (c : ℕ) → c ≢ v.number → (cond b (put p.calling v.number g) p.calling) c ≡ p.calling c
  ran_other b g c ne = search (put_other, arith)

  has_called : (w : Work) (f : Calling) → HasCalled v.number w (told_calling f) → HasCalled v.number w f
  has_called w f k = search arith

  -- the columns of who acknowledges
  acked_leaves : (n : Present) (calls : ℕ → List StopCall) (calling : ℕ → Calling) (part : StopPart) →
      n.readings v.number ≡ part.readings → ((c : ℕ) → c ≢ v.number → n.readings c ≡ p.now.readings c) →
      told_calling (calling v.number) ≡ part.calling → ((c : ℕ) → c ≢ v.number → calling c ≡ p.calling c) →
      part ≡ record (v.part) { readings = part.readings; calling = part.calling } →
      Leaves v.number p (record p { now = n; calls = calls; calling = calling }) part
  acked_leaves n calls calling part mine others calls_mine calls_others same = search (Leaves, arith)

  pub acknowledge : (s : ℕ) (w : Work) (a : ℕ) → v.seat ≡ In s w a (a + 1) Rests → (a ≡ DISABLE_IRQ → HasCalled v.number w v.part.calling) →
      Subs (Slot s Field.Ack) (acked_by (at (Slot s Field.Ack)) v.seat v)
  acknowledge s w a is ready = let found = at (Slot s Field.Ack) in
      let here = sees.seat_is ∙ is in
      let st = stands (In s w a (a + 1) Rests) is in
      let bounds = ack_bounds u p at seat source h s v.number w a here in
      let at' = put_word at (Slot s Field.Ack) (found - 1) in
      let next = In s w (a + 1) (a + 1) (cond (found == 1) Fills Rests) in
      let p' = acknowledges p v.number s (Inside a (a + 1)) found in
      let leaves_it = a + 1 == EXIT && not (found == 1) in
      let n : Present = record (p.now) {
        stop = put p.now.stop s (acknowledged (p.now.stop s) v.number (a + 1) found);
        patching = cond (a + 1 == RUN) (unpatched v.number p.now.patching) p.now.patching;
      } in
      let part = ran_since (a + 1 == RUN) (read_since leaves_it s w v) in
      let alone = carried_alone u.first p.now.patching seat v.number (p.calling v.number) (subst IsNoPatch (sym here) tt) h.present.runner in
      let shown' = goes_seat p seat source v sees p' at' next part (told_so u v.number p p' Act.Sub (Slot s Field.Ack) (Some found)
      (Some (one_less found)) (ap (λ (x : Standing). acknowledges p v.number s x found) st.1)) (subst (λ (x : Standing). StopShows u (acknowledges p v.number
      s x found) at' (put seat v.number next) source) st.1 (ack_subtracted u p at seat source h s v.number w a 0 here
      (λ two. has_called w (p.calling v.number) (subst (HasCalled
      v.number w) (sym sees.part_is.calling) (ready two))))) (acked_leaves (acknowledges_now p.now v.number s (a + 1) found) p'.calls p'.calling part
      (left_mine leaves_it n s (p.now.stop s).work w st.3 refl) (left_other leaves_it n s (p.now.stop s).work refl) (ran_mine (a + 1 == RUN) (carried
      v.number p.now.patching (p.calling v.number)) (ap told_calling alone ∙ (told_carried (p.calling v.number) ∙ ap carried_call sees.part_is.calling)))
      (ran_other (a + 1 == RUN) (carried v.number p.now.patching (p.calling v.number))) refl) in
      search (less_one found bounds.0 (small found bounds.1), is, shown', arith)

  pub acknowledge_patch : (s : ℕ) (w : Work) (count : ℕ) (made : List Change) → v.seat ≡ Alters s w count made [] →
      Subs (Slot s Field.Ack) (acked_by (at (Slot s Field.Ack)) v.seat v)
  acknowledge_patch s w count made is = let found = at (Slot s Field.Ack) in
      let here = sees.seat_is ∙ is in
      let st = stands (Alters s w count made []) is in
      let bounds = ack_bounds_patched u p at seat source h s v.number w count made here in
      let at' = put_word at (Slot s Field.Ack) (found - 1) in
      let next = In s w RUN RUN (cond (found == 1) Fills Rests) in
      let p' = acknowledges p v.number s (Inside DISABLE_IRQ RUN) found in
      let shown' = goes_seat p seat source v sees p' at' next (record (v.part) { calling = Carries 0 })
      (told_so u v.number p p' Act.Sub (Slot s Field.Ack) (Some found) (Some (one_less found)) (ap (λ (x : Standing). acknowledges p v.number s x found) st.1))
      (subst (λ (x : Standing). StopShows u (acknowledges p
      v.number s x found) at' (put seat v.number next) source) st.1 (ack_subtracted_patched u p at seat source h s v.number w count made 0 here))
      (search (acked_leaves, put_same, put_other, arith)) in
      search (less_one found bounds.0 (small found bounds.1), is, shown', arith)

  -- with the load of the argument it calls the function, where it may
  pub load_arg : (s : ℕ) (w : Work) (a l : ℕ) → v.seat ≡ In s w a l Rests → Loads (Slot s Field.Arg) (called_by (at (Slot s Field.Arg)) v.seat v)
  load_arg s w a l is = subst (λ x. Loads (Slot s Field.Arg) (called_by (at (Slot s Field.Arg)) x v)) (sym is) (go (may_call v.number w (Inside a l)) refl)
    where
      here : seat v.number ≡ In s w a l Rests
      here = sees.seat_is ∙ is

      st : RoleStands p.now v.number (In s w a l Rests)
      st = stands (In s w a l Rests) is

      call : StopCall
      call = record { func = w.func; arg = at (Slot s Field.Arg); answer = 0 }

      go : (b : Bool) → may_call v.number w (Inside a l) ≡ b → Loads (Slot s Field.Arg)
          (cond b (record v { part = record (v.part) { calling = Calls call } }) v)
      go false e = still p at seat source v h sees Act.Load (Slot s Field.Arg) (Some (at (Slot s Field.Arg))) None (search arith)
      go true e = let p' = record p { calling = put p.calling v.number (Calls call) } in
          let plain : told u p v.number Act.Load (Slot s Field.Arg) (Some (at (Slot s Field.Arg))) None 0 ≡ p' =
          search arith in
          goes_still p seat source v sees p' at (record (v.part) { calling = Calls call })
          (told_so u v.number p p' Act.Load (Slot s Field.Arg) (Some (at (Slot s Field.Arg))) None plain)
          (subst (λ q. StopShows u q at seat source) plain (arg_loaded u p at seat source h s v.number w a l Rests here 0 refl))
          (search (put_same, put_other, arith))

  pub refill : (s : ℕ) (w : Work) (a l : ℕ) → v.seat ≡ In s w a l Fills → is_drafting v.source ≡ false →
      Stores (Slot s Field.Ack) (mask_weight cpus w.mask) (slot_stored Field.Ack (mask_weight cpus w.mask) v)
  refill s w a l is idle = let x = mask_weight cpus w.mask in
      let at' = put_word at (Slot s Field.Ack) x in
      let known : slot_stored Field.Ack x v ≡ record v { seat = In s w a l Sets } =
      ap (λ b. cond b (drafted_known Field.Ack x v) (member_stored Field.Ack x v)) idle ∙ ap (λ y. record v { seat = refilled_by y }) is in
      let shown' = goes_seat p seat source v sees (stored_open p v.number s Field.Ack x) at' (In s w a l Sets) v.part
      (told_so u v.number p (stored_open p v.number s Field.Ack x) Act.Store (Slot s Field.Ack) None (Some x) (stored_plain s Field.Ack x w a l Fills is))
      (subst (λ q. StopShows u q at' (put seat
      v.number (In s w a l Sets)) source) (stored_plain s Field.Ack x w a l Fills is) (ack_stored u p at seat source h s v.number w a l 0 (sees.seat_is ∙
      is))) record { mine = sees.part_is; others = λ c ne. refl } in
      search (known, shown', arith)

  pub raise : (s : ℕ) (w : Work) (a l : ℕ) → v.seat ≡ In s w a l Sets → is_drafting v.source ≡ false →
      Stores (Slot s Field.State) (a + 1) (slot_stored Field.State (a + 1) v)
  raise s w a l is idle = let x = a + 1 in
      let at' = put_word at (Slot s Field.State) x in
      let st = stands (In s w a l Sets) is in
      let part = read_since (x == OVER) s w v in
      let known : slot_stored Field.State x v ≡ record v { seat = In s w a l Rests; part = part } =
      ap (λ b. cond b (drafted_known Field.State x v) (member_stored Field.State x v)) idle ∙ ap (λ y. raised_by x y v) is in
      let n = with_stop p.now s (raised (p.now.stop s) x) in
      let shown' = goes_seat p seat source v sees (stored_open p v.number s Field.State x) at' (In s w a l Rests) part
      (told_so u v.number p (stored_open p v.number s Field.State x) Act.Store (Slot s Field.State) None (Some x) (stored_plain s Field.State x w a l Sets is))
      (subst (λ q. StopShows u q at' (put
      seat v.number (In s w a l Rests)) source) (stored_plain s Field.State x w a l Sets is) (state_stored u p at seat source h s v.number w a l 0
      (sees.seat_is ∙ is))) (reads_now (raises p.now v.number s x) p.calls part.readings (left_mine (x == OVER) n s (p.now.stop s).work w st.3 refl)
      (left_other (x == OVER) n s (p.now.stop s).work refl)) in
      search (known, shown', arith)
