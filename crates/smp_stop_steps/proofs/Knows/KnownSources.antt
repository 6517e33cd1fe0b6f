-- The steps of a source that knows v: the gate, begin, and the ends of its own stop.
use Rattle.std.proofs.Common.{◌≡◌, ◌≢◌, ℕ, ◌+◌, ◌<◌, nat_lt, lt-ltb, eqb-true, eq-eqb, ne_eqb, Bool, true, false, ◌==◌, cond, Option, Some, None, [], ◌∷◌, ◌++◌}
use Rattle.std.proofs.Common.{sym, subst, refl, ap, ◌∙◌, arith}
use Rattle.smp_words.specs.Access.{put_if}
use Rattle.smp_words.proofs.Puts.{put_all, put_same, put_other}
use Rattle.smp_stop_steps.specs.{put, put_word, cpus, StopRole, StopShows, DoneShows, begun_value, order, Source, Shut, Drafts, Owns, Collects, SourceShows}
use Rattle.smp_stop_steps.specs.{DraftShows, IsDrafted, IsWork, Setup, StopState, Standing, Ending, told, drafted, drafts, opens, stored_open, stored_shut}
use Rattle.smp_stop_steps.specs.{Sees, GoesOnBy, Act, IsBegun, told_source, told_work, holds_it, setup_in, is_drafting, drafted_known, draft_known, opened_by}
use Rattle.smp_stop_steps.specs.{slot_stored, gate_known, done_by, done_known, collected_known, Field, One, Work, Word, Gate, Slot, Threads.Known.KnownStops}
use Rattle.smp_stop_steps.proofs.Knows.Parts.{Leaves, goes, goes_source, goes_still, noted, seen_by, told_so}
use Rattle.smp_stop_steps.proofs.Steps.Sources.{gate_taken, gate_opened, field_stored, roll_stored, done_loaded, result_loaded, kind_back, work_ext}
use Rattle.smp_stop_steps.specs.declared.known.OwnMove.TheVariants as own

pub holder : (g : Option ℕ) (me : ℕ) → holds_it g me ≡ true → g ≡ Some me
holder g me e = search (eqb-true, arith)

-- a CPU that is told to draft nothing drafts nothing
not_draft : (y told : Source) → told_source y ≡ told → is_drafting told ≡ false → (w : Work) (k : ℕ) → y ≢ Drafts w k
not_draft y told is idle w k e = cc

pub is_owns : (y : Source) (w : Work) → told_source y ≡ Owns w → y ≡ Owns w
is_owns y w e = search arith

pub is_collects : (y : Source) (w : Work) → told_source y ≡ Collects w → y ≡ Collects w
is_collects y w e = search arith

-- the work that a source drafts, told so far as this one
pub record IsDraft (y : Source) (w : Work) (k : ℕ) : Type 0 where
  pub work : Work
  pub is : y ≡ Drafts work k
  pub same : told_work k work ≡ told_work k w

pub is_draft : (y : Source) (w : Work) (k : ℕ) → told_source y ≡ Drafts (told_work k w) k → IsDraft y w k
is_draft y w k e = search arith

-- two works of which the same is told have the same first k fields
module _ (k : ℕ) (x w : Work) (same : told_work k x ≡ told_work k w) where
  told_at : {A : Type 0} (i : ℕ) (f : Work → A) (d : A) → i < k → cond (nat_lt i k) (f x) d ≡ cond (nat_lt i k) (f w) d → f x ≡ f w
  told_at {A} i f d l e = subst (λ b. cond b (f x) d ≡ cond b (f w) d) (lt-ltb i k l) e

  kind_same : 0 < k → x.kind ≡ w.kind
  kind_same l = told_at 0 (λ (z : Work). z.kind) One l (ap (λ (z : Work). z.kind) same)

  mask_same : 1 < k → x.mask ≡ w.mask
  mask_same l = told_at 1 (λ (z : Work). z.mask) 0 l (ap (λ (z : Work). z.mask) same)

  active_same : 2 < k → x.active ≡ w.active
  active_same l = told_at 2 (λ (z : Work). z.active) 0 l (ap (λ (z : Work). z.active) same)

  func_same : 3 < k → x.func ≡ w.func
  func_same l = told_at 3 (λ (z : Work). z.func) 0 l (ap (λ (z : Work). z.func) same)

  arg_same : 4 < k → x.arg ≡ w.arg
  arg_same l = told_at 4 (λ (z : Work). z.arg) 0 l (ap (λ (z : Work). z.arg) same)

  value_same : (n : ℕ) (f : Field) → order f < k → begun_value n x f ≡ begun_value n w f
  value_same n f l = search (kind_same, mask_same, active_same, func_same, arg_same, arith)

  drafted_same : (now : Work) → IsDrafted k now x → IsDrafted k now w
  drafted_same now d = search (d.kind, kind_same, d.mask, mask_same, d.active, active_same, d.func, func_same, d.arg, arg_same, arith)

-- one more field is told
pub draft_next : (f : Field) (w : Work) → order f ≢ 0 → order f < 10 → drafted f (begun_value cpus w f) (told_work (order f) w) ≡ told_work (order f + 1) w
draft_next f w ne l = search arith

pub stored_draft : (f : Field) (n : ℕ) (v : KnownStops) → order f ≢ 0 → order f < 10 → is_drafting v.source ≡ true → slot_stored f n v ≡ drafted_known f n v
stored_draft f n v ne l e = search arith

-- a store but the last one drafts the work
shut_drafts : (p : StopState) (s : ℕ) (f : Field) (x : ℕ) → order f < 10 → stored_shut p s f x ≡ record p { now = drafts p.now s f x }
shut_drafts p s f x l = search arith

-- done is 1 where it is not 0
done_is : (n : ℕ) (standing : ℕ → Standing) (e : Ending) (done : ℕ) → DoneShows n standing e done → (done == 0) ≡ false → done ≡ 1
done_is n standing e done d ne = search (eq-eqb, arith)

module _ (p : StopState) (at : Word → ℕ) (seat : ℕ → StopRole) (source : ℕ → Source) (v : KnownStops) (h : StopShows (setup_in v.setting) p at seat source)
    (sees : Sees p seat source v) where
  abbrev u : Setup
  u = setup_in v.setting

  abbrev Goes : Act → Word → Option ℕ → Option ℕ → (Word → ℕ) → KnownStops → Type 0
  Goes a w found new at' known = GoesOnBy v.setting p seat source v.number at' known (seen_by v.number a w found new)

  abbrev Loads : Word → KnownStops → Type 0
  Loads w known = Goes Act.Load w (Some (at w)) None at known

  abbrev Stores : Word → ℕ → KnownStops → Type 0
  Stores w n known = Goes Act.Store w None (Some n) (put_word at w n) known

  -- a step that leaves all columns
  pub unmoved_columns : Leaves v.number p p v.part
  unmoved_columns = record { mine = sees.part_is; others = λ c ne. refl }

  pub still : (a : Act) (w : Word) (found new : Option ℕ) → told u p v.number a w found new 0 ≡ p → Goes a w found new at v
  still a w found new e = goes_still p seat source v sees p at v.part (told_so u v.number p p a w found new e) h unmoved_columns

  -- the gate

  holds_alone : (g : Option ℕ) (b : Bool) → holds_it g v.number ≡ b → ((c : ℕ) → c ≢ v.number → holds_it g c ≡ holds_it p.gate c) →
      Leaves v.number p (record p { gate = g }) (record (v.part) { holds = b })
  holds_alone g b mine others = search arith

  pub take_gate : let new = cond (at Gate == 0) (Some (v.number + 1)) None in
      Goes Act.Cas Gate (Some (at Gate)) new (put_if put_word at Gate new) (gate_known Act.Cas new v)
  take_gate = go (at Gate == 0) refl
    where
      go : (b : Bool) → (at Gate == 0) ≡ b → let new = cond b (Some (v.number + 1)) None in
          Goes Act.Cas Gate (Some (at Gate)) new (put_if put_word at Gate new) (gate_known Act.Cas new v)
      go false e = noted p seat source v sees at v (v.moves ++ own.Busy ∷ []) (still Act.Cas Gate (Some (at Gate)) None refl)
      go true e = let p' = record p { gate = Some v.number } in
          let part = record (v.part) { holds = true } in
          noted p seat source v sees (put_word at Gate (v.number + 1)) (record v { part = part }) (v.moves ++ own.Took ∷ [])
          (goes_still p seat source v sees p' (put_word at Gate (v.number + 1)) part
          (told_so u v.number p p' Act.Cas Gate (Some (at Gate)) (Some (v.number + 1)) refl)
          (gate_taken u p at seat source h v.number 0 (eqb-true (at Gate) 0 e))
          (search (holds_alone, eq-eqb, ne_eqb, arith)))

  pub open_gate : v.part.holds ≡ true → is_drafting v.source ≡ false → Stores Gate 0 (gate_known Act.Store (Some 0) v)
  open_gate holds idle = let mine : p.gate ≡ Some v.number = holder p.gate v.number (sees.part_is.holds ∙ holds) in
      let p' = record p { gate = None } in
      let part = record (v.part) { holds = false } in
      noted p seat source v sees (put_word at Gate 0) (record v { part = part }) (v.moves ++ own.Gave ∷ [])
      (goes_still p seat source v sees p' (put_word at Gate 0) part (told_so u v.number p p' Act.Store Gate None (Some 0) refl)
      (gate_opened u p at seat source h v.number 0 mine (not_draft (source v.number) v.source sees.source_is idle))
      (holds_alone None false refl (λ c ne. sym (ap (λ g. holds_it g c) mine ∙ ne_eqb v.number c (λ same. ne (sym same))))))

  -- begin

  abbrev SourceIs : Source → Type 0
  SourceIs y = SourceShows u p.gate (p.now.stop v.number) (λ f. at (Slot v.number f)) v.number y

  -- the source may be taken for another of which the same is told
  restaged : (y : Source) → SourceIs y → StopShows u p at seat (put source v.number y)
  restaged y it = search ((put_all (λ j x. SourceShows u p.gate (p.now.stop j) (λ f. at (Slot j f)) j x) source v.number y it (λ j ne. h.sources j)), arith)

  source_here : (y : Source) → source v.number ≡ y → SourceIs y
  source_here y e = subst SourceIs e (h.sources v.number)

  -- a field is stored, by a source that drafts this work
  field_goes : (work : Work) (f : Field) → DraftShows u p.gate (p.now.stop v.number) (λ f. at (Slot v.number f)) v.number work (order f) → order f < 10 →
      Stores (Slot v.number f) (begun_value cpus work f) (record v { source = Drafts (told_work (order f + 1) work) (order f + 1) })
  field_goes work f d low = let drafting = put source v.number (Drafts work (order f)) in
      let next = Drafts work (order f + 1) in
      let x = begun_value cpus work f in
      let p' = record p { now = drafts p.now v.number f x } in
      let plain : told u p v.number Act.Store (Slot v.number f) None (Some x) 0 ≡ p' =
      ap (λ b. cond b (stored_open p v.number v.number f x) (stored_shut p v.number f x)) d.shut ∙ shut_drafts p v.number f x low in
      let at' = put_word at (Slot v.number f) x in
      goes p seat source v sees p' at' seat (put drafting v.number next) v.seat (told_source next) v.part
      (told_so u v.number p p' Act.Store (Slot v.number f) None (Some x) plain)
      (subst (λ q. StopShows u q at' seat (put drafting v.number next)) plain
      (field_stored u p at seat drafting (restaged (Drafts work (order f)) d) v.number work (order f) f 0 (put_same source v.number (Drafts work (order f)))
      refl low))
      record { mine = sees.part_is; others = λ c ne. refl }
      sees.seat_is (ap told_source (put_same drafting v.number next)) (subst IsBegun (sym (put_same drafting v.number next)) (omega arith))
      (λ c ne. refl) (λ c ne. put_other drafting v.number next c ne ∙ put_other source v.number (Drafts work (order f)) c ne)

  pub draft : (work : Work) → v.source ≡ Shut → v.part.holds ≡ true → IsWork u work →
      Stores (Slot v.number Field.Kind) (begun_value cpus work Field.Kind) (draft_known (begun_value cpus work Field.Kind) v)
  draft work shut holds is = search (kind_back work.kind, (field_goes work Field.Kind (search (holder, is, arith)) (omega arith)), arith)

  pub draft_more : (work : Work) (f : Field) → v.source ≡ Drafts (told_work (order f) work) (order f) → IsWork u work → order f ≢ 0 → order f < 10 →
      Stores (Slot v.number f) (begun_value cpus work f) (slot_stored f (begun_value cpus work f) v)
  draft_more work f e is ne low = let x = begun_value cpus work f in
      let k = order f in
      let y = is_draft (source v.number) work k (sees.source_is ∙ e) in
      let d : DraftShows u p.gate (p.now.stop v.number) (λ f. at (Slot v.number f)) v.number y.work k = source_here (Drafts y.work k) y.is in
      let known : slot_stored f x v ≡ record v { source = Drafts (told_work (k + 1) work) (k + 1) } =
      search (stored_draft, draft_next, work, arith) in
      let same : DraftShows u p.gate (p.now.stop v.number) (λ f. at (Slot v.number f)) v.number work k =
      search (work, is, d.shut, d.holds, d.stored, d.told, value_same, drafted_same, arith) in
      subst (λ (q : KnownStops). Stores (Slot v.number f) x q) (sym known) (field_goes work f same low)

  pub open_stop : (work : Work) → v.source ≡ Drafts (told_work 10 work) 10 → Stores (Slot v.number Field.Roll) work.mask (opened_by v.source v)
  open_stop work e = let y = is_draft (source v.number) work 10 (sees.source_is ∙ e) in
      let is : source v.number ≡ Drafts work 10 = y.is ∙ ap (λ z. Drafts z 10) y.same in
      let d : DraftShows u p.gate (p.now.stop v.number) (λ f. at (Slot v.number f)) v.number work 10 = source_here (Drafts work 10) is in
      let t = d.told in
      let same : (p.now.stop v.number).work ≡ work = search (work_ext, work, t.kind, t.mask, t.active, t.func, t.arg, arith) in
      let at' = put_word at (Slot v.number Field.Roll) work.mask in
      let plain : told u p v.number Act.Store (Slot v.number Field.Roll) None (Some work.mask) 0 ≡ opens p v.number =
      ap (λ b. cond b (stored_open p v.number v.number Field.Roll work.mask) (stored_shut p v.number Field.Roll work.mask)) d.shut in
      let begun = p.begun v.number ++ (p.now.stop v.number).work ∷ [] in
      let part = record (v.part) { begun = v.part.begun ++ work ∷ [] } in
      let opened = goes_source p seat source v sees (opens p v.number) at' (Owns work) (Owns work) part
      (told_so u v.number p (opens p v.number) Act.Store (Slot v.number Field.Roll) None (Some work.mask) plain)
      (subst (λ q. StopShows u q at' seat (put source v.number (Owns work))) plain (roll_stored u p at seat source h v.number work 0 is)) (search (
        put_same,
        same,
        put_other,
        arith,
      )) refl tt
      in
      search (e, (noted p seat source v sees at' (record v { source = Owns work; part = part }) (v.moves ++ own.Began work ∷ []) opened), arith)

  -- the end of its stop

  abbrev looked : Bool → Source → KnownStops
  looked b y = record v { source = y; moves = cond b (v.moves ++ own.NotDone ∷ []) v.moves }

  pub look_done : (w : Work) → v.source ≡ Owns w → Loads (Slot v.number Field.Done) (done_known (at (Slot v.number Field.Done)) v)
  look_done w is = subst (λ o. Loads (Slot v.number Field.Done) (looked (at (Slot v.number Field.Done) == 0) (done_by (at (Slot v.number Field.Done)) o)))
      (sym is)
      (search (go, arith))
    where
      there : source v.number ≡ Owns w
      there = is_owns (source v.number) w (sees.source_is ∙ is)

      go : (b : Bool) → (at (Slot v.number Field.Done) == 0) ≡ b → Loads (Slot v.number Field.Done) (looked b (cond b (Owns w) (Collects w)))
      go true e = subst (λ o. Loads (Slot v.number Field.Done) (looked true o)) is
          (noted p seat source v sees at v (v.moves ++ own.NotDone ∷ [])
          (still Act.Load (Slot v.number Field.Done) (Some (at (Slot v.number Field.Done))) None refl))
      go false e = let one : at (Slot v.number Field.Done) ≡ 1 =
          search (done_is, h.present.slots, arith) in
          goes_source p seat source v sees p at (Collects w) (Collects w) v.part
          (told_so u v.number p p Act.Load (Slot v.number Field.Done) (Some (at (Slot v.number Field.Done))) None refl)
          (done_loaded u p at seat source h v.number w there one) unmoved_columns
          refl tt

  pub collect : (w : Work) → v.source ≡ Collects w → Loads (Slot v.number Field.Result) (collected_known (at (Slot v.number Field.Result)) v)
  collect w is = let found = at (Slot v.number Field.Result) in
      let there = is_collects (source v.number) w (sees.source_is ∙ is) in
      let p' = told u p v.number Act.Load (Slot v.number Field.Result) (Some found) None 0 in
      let part = record (v.part) { collected = v.part.collected ++ found ∷ [] } in
      noted p seat source v sees at (record v { source = Shut; part = part }) (v.moves ++ own.Collected found ∷ [])
      (goes_source p seat source v sees p' at Shut Shut part
      (told_so u v.number p p' Act.Load (Slot v.number Field.Result) (Some found) None refl) (result_loaded u p at seat source h v.number w 0 there)
      (search (put_same, put_other, arith)) refl tt)
