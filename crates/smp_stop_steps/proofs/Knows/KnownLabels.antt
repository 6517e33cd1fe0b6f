-- The steps on labels of a CPU that knows v: readings, nudges, and patches.
use Rattle.std.proofs.Common.{arith, ◌≡◌, ℕ, ◌<◌, eqb-true, Bool, true, false, ◌==◌, ◌&&◌, cond, Option, Some, None, List, [], ◌∷◌, ◌++◌, sym, subst, refl, ap}
use Rattle.std.proofs.Common.{◌∙◌}
use Rattle.smp_labels.proofs.Patched.{plan_key_first}
use Rattle.smp_words.specs.Access.{put_if}
use Rattle.smp_words.proofs.Puts.{at_test, put_same, put_other}
use Rattle.smp_stop_steps.specs.{has, is_on, Place, MOST_KEYS, word_of, at_after, seen_of, put, put_word, moves, moved_by, Change, Patches, Reading, ReadKey}
use Rattle.smp_stop_steps.specs.{ReadSite, count_set, StopRole, Free, In, Gives, Alters, Closes, Duty, Rests, irq_of, StopShows}
use Rattle.smp_stop_steps.specs.{IsNudge, Source, store_of, Setup}
use Rattle.smp_stop_steps.specs.{StopState, Moved, unmoved, told, is_patch, reads, key_loaded, key_patched, patched_more, patch_begun, plan_at, Sees}
use Rattle.smp_stop_steps.specs.{GoesOnBy, Act, AreFirst, setup_in, reads_more, key_loaded_by, key_known, key_read_known, counted, learned, Patch, Work, Word}
use Rattle.smp_stop_steps.specs.{Key, Site, State.Present, Threads.Known.KnownStops, Threads.Moves.entering}
use Rattle.smp_stop_steps.proofs.Knows.Parts.{Leaves, first_put, goes_seat, goes_still, noted, seen_by, told_so}
use Rattle.smp_stop_steps.proofs.Steps.Patching.{key_read, site_read, key_loaded_first, key_stored, site_stored, key_exchanged}
use Rattle.smp_stop_steps.proofs.{Knows.KnownRounds.stands, Knows.KnownRounds.reads_now, Knows.KnownSources.still}
use Rattle.smp_stop_steps.specs.declared.known.OwnMove.TheVariants as own
use Rattle.smp_stop_steps.specs.Names.{DISABLE_IRQ, RUN}

-- where interrupts are on, a CPU does not stand at the function
not_at_run : (s : ℕ) (w : Work) (a l : ℕ) (t : Duty) → irq_of (In s w a l t) ≡ true → (a == DISABLE_IRQ && l == RUN) ≡ false
not_at_run s w a l t on = search (at_test, arith)

-- the counts of one CPU, with one moved
counted_first : (f : ℕ → ℕ → Moved) (me k old new : ℕ) (list : List Moved) → AreFirst MOST_KEYS (f me) unmoved list → k < MOST_KEYS →
    AreFirst MOST_KEYS (moved_by f me k old new me) unmoved (counted list k old new)
counted_first f me k old new list h low = let shown' = first_put MOST_KEYS (f me) unmoved list k (moves (f me k) old new) h low in
    search (put_same f me (put (f me) k (moves (f me k) old new)), ← h.each k low, shown', arith)

module _ (p : StopState) (at : Word → ℕ) (seat : ℕ → StopRole) (source : ℕ → Source) (v : KnownStops) (h : StopShows (setup_in v.setting) p at seat source)
    (sees : Sees p seat source v) where
  abbrev u : Setup
  u = setup_in v.setting

  abbrev Goes : Act → Word → Option ℕ → Option ℕ → (Word → ℕ) → KnownStops → Type 0
  Goes a w found new at' known = GoesOnBy v.setting p seat source v.number at' known (seen_by v.number a w found new)

  abbrev Loads : Word → KnownStops → Type 0
  Loads w known = Goes Act.Load w (Some (at w)) None at known

  abbrev Stores : Word → ℕ → KnownStops → Type 0
  Stores w n known = Goes Act.Store w None (Some n) (put_word at w n) known

  abbrev IsOn : Type 0
  IsOn = irq_of v.seat ≡ true

  irq_on : IsOn → p.now.irq v.number ≡ true
  irq_on on = h.present.irq v.number ∙ (ap irq_of sees.seat_is ∙ on)

  reads_leaves : (r : Reading) → Leaves v.number p (record p { now = reads p.now v.number r }) (record (v.part) { readings = v.part.readings ++ r ∷ [] })
  reads_leaves r = search (reads_now, put_same, put_other, arith)

  -- where interrupts are on, a load of a key is a reading
  key_plain : (k found : ℕ) (x : StopRole) → v.seat ≡ x → irq_of x ≡ true →
      (key_loaded u p.now v.number k found (p.now.inside v.number) ≡ reads p.now v.number (ReadKey k (is_on found))) × (key_loaded_by k found x v ≡
      key_read_known k found v)
  key_plain k found Free e on = (ap (λ i. key_loaded u p.now v.number k found i) (stands p at seat source v h sees Free e), refl)
  key_plain k found (In s w a l t) e on = let calm = not_at_run s w a l t on in
      let plain = reads p.now v.number (ReadKey k (is_on found)) in (search arith)
  key_plain k found (Gives s w a x) e on = search (stands, arith)
  key_plain k found (Alters s w count made rest) e on = cc
  key_plain k found (Closes s) e on = (ap (λ i. key_loaded u p.now v.number k found i) (stands p at seat source v h sees (Closes s) e).0, refl)

  pub read_key : (k : ℕ) → IsOn → Loads (Key k) (key_loaded_by k (at (Key k)) v.seat v)
  read_key k on = let found = at (Key k) in
      let r = ReadKey k (is_on found) in
      let plain = key_plain k found v.seat refl on in
      let p' = record p { now = reads p.now v.number r } in
      let part = record (v.part) { readings = v.part.readings ++ r ∷ [] } in
      subst (λ q. Loads (Key k) q) (sym plain.1)
      (noted p seat source v sees at (record v { part = part }) (v.moves ++ own.Found k found ∷ [])
      (goes_still p seat source v sees p' at part
      (told_so u v.number p p' Act.Load (Key k) (Some found) None (ap (λ (n : Present). record p { now = n }) plain.0))
      (subst (λ n. StopShows u (record p { now = n }) at seat source) plain.0 (key_read u p at seat source h v.number k 0 (irq_on on)))
      (reads_leaves r)))

  pub read_site : (i : ℕ) → Loads (Site i) (reads_more (ReadSite i (is_on (at (Site i)))) v)
  read_site i = let r = ReadSite i (is_on (at (Site i))) in
      let p' = record p { now = reads p.now v.number r } in
      goes_still p seat source v sees p' at (record (v.part) { readings = v.part.readings ++ r ∷ [] })
      (told_so u v.number p p' Act.Load (Site i) (Some (at (Site i))) None refl) (site_read u p at seat source h v.number i 0) (reads_leaves r)

  pub nudge : (k found new : ℕ) → IsOn → has v.setting.online v.number ≡ true → k < MOST_KEYS → IsNudge found new →
      let set = cond (at (Key k) == found) (Some new) None in
      Goes Act.Cas (Key k) (Some (at (Key k))) set (put_if put_word at (Key k) set) (key_known Act.Cas k (Some (at (Key k))) set v)
  nudge k found new on online low is = go (at (Key k) == found) refl
    where
      go : (b : Bool) → (at (Key k) == found) ≡ b → let set = cond b (Some new) None in
          Goes Act.Cas (Key k) (Some (at (Key k))) set (put_if put_word at (Key k) set) (key_known Act.Cas k (Some (at (Key k))) set v)
      go false e = noted p seat source v sees at v (v.moves ++ own.Lost k ∷ []) (still p at seat source v h sees Act.Cas (Key k) (Some (at (Key k))) None refl)
      go true e = let was : at (Key k) ≡ found = eqb-true (at (Key k)) found e in
          let p' = record p { nudged = moved_by p.nudged v.number k found new } in
          let shown' = goes_still p seat source v sees p' (put_word at (Key k) new) (record (v.part) { nudged = counted v.part.nudged k found new })
          (told_so u v.number p p' Act.Cas (Key k) (Some (at (Key k))) (Some new)
          (ap (λ n. record p { nudged = moved_by p.nudged v.number k n new }) was))
          (key_exchanged u p at seat source h v.number k found new sees.below online (irq_on on)
          was is 0) record {
            mine = search (counted_first, arith);
            others = search (put_other, arith);
          } in
          search (was, shown', arith)

  -- patches

  pub begin_patch : (s : ℕ) (w : Work) → v.seat ≡ In s w DISABLE_IRQ RUN Rests → w.kind ≡ Patch → has w.active v.number ≡ true →
      Loads (Key w.func) (key_loaded_by w.func (at (Key w.func)) v.seat v)
  begin_patch s w is kind active = let found = at (Key w.func) in
      let next = Alters s w found [] (plan_at u w found) in
      let patch = record (p.now) { patching = patch_begun u v.number (p.now.stop s).work found } in
      let plain : key_loaded u p.now v.number w.func found (p.now.inside v.number) ≡ patch =
      search arith in
      let known : key_loaded_by w.func found v.seat v ≡ record v { seat = next } =
      ap (λ x. key_loaded_by w.func found x v) is ∙ ap (λ k. cond (is_patch k) (record v { seat = next }) (key_read_known w.func found v)) kind in
      let p' = record p { now = patch } in
      let shown' = goes_seat p seat source v sees p' at next v.part
      (told_so u v.number p p' Act.Load (Key w.func) (Some found) None (ap (λ (n : Present). record p { now = n }) plain))
      (subst (λ n. StopShows u (record p { now = n }) at (put seat
      v.number next) source) plain (key_loaded_first u p at seat source h v.number s w 0 (sees.seat_is ∙ is) kind active)) record {
        mine = sees.part_is;
        others = λ c ne. refl;
      } in
      search (known, shown', arith)

  -- the counts that this CPU has moved as a runner of patches
  patched_leaves : (k count n : ℕ) (now : Present) → k < MOST_KEYS → ((c : ℕ) → now.readings c ≡ p.now.readings c) →
      Leaves v.number p (record p { now = now; patched = moved_by p.patched v.number k count n }) (record (v.part) {
        patched = counted v.part.patched k
            count n;
      })
  patched_leaves k count n now low same = let parts = sees.part_is in
      search ((same v.number ∙ parts.readings), (counted_first p.patched v.number k count n v.part.patched parts.patched low), put_other, arith)

  pub alter : (s : ℕ) (w : Work) (count : ℕ) (made rest : List Change) (x : Place) (n : ℕ) → v.seat ≡ Alters s w count made ((x, n) ∷ rest) →
      plan_at u w count ≡ made ++ (x, n) ∷ rest → w.func < MOST_KEYS →
      let a = store_of (x, n) in
      let seen = seen_of v.number a (at (word_of a)) None in
      GoesOnBy v.setting p seat source v.number (at_after at a) (learned (entering p (word_of a)) v seen.act seen.word seen.found seen.put) seen
  alter s w count made rest (Place.Key k) n is plan low = let next = Alters s w count (made ++ (Place.Key k, n) ∷ []) rest in
      let at' = put_word at (Key k) n in
      let st = stands p at seat source v h sees (Alters s w count made ((Place.Key k, n) ∷ rest)) is in
      let first = plan_key_first w.func count (count_set w count) u.entries made k n rest plan in
      let more = Patches v.number w count (made ++ (Place.Key k, n) ∷ []) rest in
      let p' = record p { now = record (p.now) { patching = more }; patched = moved_by p.patched v.number k count n } in
      let plain : told u p v.number Act.Store (Key k) None (Some n) 0 ≡ p' =
      ap (λ y. record p { now = record (p.now) { patching = patched_more y }; patched = key_patched y p.patched v.number k n }) st.5 in
      let shown' = goes_seat p seat source v sees p' at' next (record (v.part) { patched = counted v.part.patched k count n })
      (told_so u v.number p p' Act.Store (Key k) None (Some n) plain) (subst (λ q. StopShows u q at'
      (put seat v.number next) source) plain (key_stored u p at seat source h v.number s w count made rest k n 0 sees.below (sees.seat_is ∙ is) first.0
      first.1)) (patched_leaves k count n p'.now (subst (λ i. i < MOST_KEYS) (sym first.1) low) (λ c. refl)) in
      search (is, shown', arith)
  alter s w count made rest (Place.Site i) n is plan low = let p' = told u p v.number Act.Store (Site i) None (Some n) 0 in
      let shown' = goes_seat p seat source v sees p' (put_word at (Site i) n) (Alters s w count (made ++ (Place.Site i, n) ∷ []) rest) v.part
      (told_so u v.number p p' Act.Store (Site i) None (Some n) refl) (site_stored u p at seat source h v.number s w count made rest i n 0
      (sees.seat_is ∙ is)) record { mine = sees.part_is; others = λ c ne. refl } in
      search (is, shown', arith)
