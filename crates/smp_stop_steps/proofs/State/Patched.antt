-- The label law: patching, and reading.
use Rattle.std.proofs.lemmas.Bool.{cases_lt}
use Rattle.std.proofs.Common.{◌≡◌, ◌≢◌, ℕ, ◌≤◌, true, false, nat_lt, ◌==◌, ◌||◌, sym, subst, refl, ap, ◌∙◌, ◌⊎◌, arith, le-ltb, eqb-true, ne_eqb, Some, List}
use Rattle.std.proofs.Common.{[], ◌∷◌, ◌++◌, lt-ltb, IfSome}
use Rattle.std.specs.List.{AllByRecursion}
use Rattle.smp_labels.specs.Plans.{AreEntriesOf, SetsKey, applied, stored}
use Rattle.smp_labels.specs.{declared.keys.Change.Change as KeyChange, Keys.count_left, Law.IsLawful}
use Rattle.smp_words.proofs.Puts.{put_all, at_test, put_same}
use Rattle.smp_labels.proofs.Stores.{applied-append}
use Rattle.smp_stop_steps.specs.{put, Agrees, Change, LabelsShow, Patches, Patching, Reading, Whole, labels_in, StandsSet, count_set, state_left, PresentShows}
use Rattle.smp_stop_steps.specs.{RunnerShows, Alters, In, Rests, StopRole, RoleStands, irq_of, Keeps, SlotShows, Setup, Inside, Standing, acked, is_of, Patch}
use Rattle.smp_stop_steps.specs.{Work, Key, Slot, Word, is_on, change_of, has, State.Present}
use Rattle.smp_stop_steps.proofs.{State.Ends.function_law, State.Phases.is_open_inside}
use Rattle.smp_stop_steps.specs.Names.{DISABLE_IRQ, RUN, EXIT}

-- what a change leaves is on or off as it says
stands_left : (change : KeyChange) (n : ℕ) → IfSome (state_left change) (λ on. is_on (count_left change n) ≡ on)
stands_left change n = search (at_test, lt-ltb, nat_lt, cases_lt, arith)

abbrev IsOff : ℕ → ℕ → Type 0
IsOff l a = (nat_lt l DISABLE_IRQ || a == EXIT) ≡ false

off_at : (l a : ℕ) → DISABLE_IRQ ≤ l → a ≢ EXIT → IsOff l a
off_at l a m ne = ap (λ b. b || a == EXIT) (le-ltb l DISABLE_IRQ m) ∙ ne_eqb a EXIT ne

-- a CPU inside that has acknowledged 2 and not 4 has its interrupts off
pub off_inside : (p : Present) (c s a l : ℕ) (seat : StopRole) → RoleStands p c seat → p.inside c ≡ Some s → (p.stop s).standing c ≡ Inside a l
    → DISABLE_IRQ ≤ l → a ≢ EXIT →
    irq_of seat ≡ false
off_inside p c s a l seat st in_ is m ne = search (off_at, le-ltb, arith)

module _ (u : Setup) (p : Present) (at : Word → ℕ) (seat : ℕ → StopRole) (h : PresentShows u p at seat) (s me : ℕ) where
  -- while a function runs, its whole mask has interrupts off
  pub all_off : (p.stop s).standing me ≡ Inside DISABLE_IRQ RUN → (c : ℕ) → has (p.stop s).work.mask c ≡ true → p.irq c ≡ false
  all_off is c of = search (function_law, go, arith)
    where
      go : (x : Standing) → (p.stop s).standing c ≡ x → is_of x ≡ true → (p.stop s).phase ≡ RUN → (acked x ≡ DISABLE_IRQ) ⊎ (acked x ≡ RUN) →
          Keeps u.cpus (p.stop s).phase c x → irq_of (seat c) ≡ false
      go x e of run a k = search (off_inside, h.stands, h.homes, arith)

  -- what is now, with another patch
  abbrev pub patches : Patching → Present
  patches x = record p { patching = x }

  -- where a change of what is patched leaves the other CPUs
  alters_other : (x : Patching) (c : ℕ) → c ≢ me → ((w : Work) (count : ℕ) (made rest : List Change) → p.patching ≡ Patches c w count made rest → ⊥) →
      (y : StopRole) → RoleStands p c y → RoleStands (patches x) c y
  alters_other x c ne none_ y st = search arith

  -- the first online CPU, inside a patch at phase 3, begins its stores: these lead to the lawful table with the key as it shall be
  pub patch_starts : (job : Work) (plan : List Change) → seat me ≡ In s job DISABLE_IRQ RUN Rests → job.kind ≡ Patch → has job.active me ≡ true →
      let count = at (Key job.func) in
      (IsLawful (labels_in at) → SetsKey job.func (count_set job count) (labels_in at) (applied plan (labels_in at))) →
      PresentShows u (patches (Patches me job count [] plan)) at (put seat me (Alters s job count [] plan))
  patch_starts job plan is kind active leads = let mine : me ≡ u.first = search (eqb-true, h.works, arith) in
      let whole : p.patching ≡ Whole = go p.patching h.runner mine in
      let lawful : IsLawful (labels_in at) = subst (λ x. LabelsShow x (labels_in at)) whole h.labels in
      let next = Alters s job (at (Key job.func)) [] plan in
      record {
        slots = h.slots;
        stands = search (put_all, alters_other, h.stands, arith);
        homes = h.homes;
        irq = put_all (λ c y. p.irq c ≡ irq_of y) seat me next (h.irq me ∙ ap irq_of is) (λ c ne. h.irq c);
        works = h.works;
        runner = (mine, (s, put_same seat me next));
        entries = h.entries;
        labels = (labels_in at, lawful, refl, refl, leads lawful);
        read = h.read;
      }
    where
      go : (x : Patching) → RunnerShows u.first x seat → me ≡ u.first → x ≡ Whole
      go x r mine = search arith

  -- one of its stores
  pub patch_stores : (job : Work) (count : ℕ) (made rest : List Change) (change : Change) (at' : Word → ℕ) → seat me ≡ Alters s job count made (change ∷
      rest) →
      labels_in at' ≡ stored change.0 change.1 (labels_in at) → ((j : ℕ) → SlotShows u.cpus (p.stop j) (λ f. at' (Slot j f))) →
      AreEntriesOf u.entries (labels_in at') →
      PresentShows u (patches (Patches me job count (made ++ change ∷ []) rest)) at' (put seat me (Alters s job count (made ++ change ∷ []) rest))
  patch_stores job count made rest change at' is table slots entries =
      let st : RoleStands p me (Alters s job count made (change ∷ rest)) = subst (RoleStands p me) is (h.stands me) in
      let open_ = is_open_inside u.cpus (p.stop s) (λ f. at (Slot s f)) (h.slots s) me (Inside DISABLE_IRQ RUN) st.1 refl in
      let next = Alters s job count (made ++ change ∷ []) rest in
      record {
        slots = slots;
        stands = search (put_all, alters_other, h.stands, arith);
        homes = h.homes;
        irq = put_all (λ c y. p.irq c ≡ irq_of y) seat me next (h.irq me ∙ ap irq_of is) (λ c ne. h.irq c);
        works = h.works;
        runner = ((subst (λ x. RunnerShows u.first x seat) st.5 h.runner).0, (s, put_same seat me next));
        entries = entries;
        labels = search (applied-append, arith);
        read = λ c on_ i. absurd (no (sym i ∙ all_off st.1 c ((h.works s open_ (ap (λ (w : Work). w.kind) st.3 ∙ st.4)).all c ∙ on_)));
      }
    where
      no : true ≡ false → ⊥
      no e = cc

  -- all is stored: the table is lawful again, before the acknowledgement
  pub patch_ends : (job : Work) (count : ℕ) (made : List Change) → seat me ≡ Alters s job count made [] →
      PresentShows u (patches Whole) at (put seat me (In s job DISABLE_IRQ RUN Rests)) × StandsSet job (at (Key job.func))
  patch_ends job count made is = let st : RoleStands p me (Alters s job count made []) = subst (RoleStands p me) is (h.stands me) in
      let l : LabelsShow (Patches me job count made []) (labels_in at) = subst (λ x. LabelsShow x (labels_in at)) st.5 h.labels in
      let next = In s job DISABLE_IRQ RUN Rests in (
        record {
          slots = h.slots;
          stands = search (put_all, alters_other, h.stands, arith);
          homes = h.homes;
          irq = put_all (λ c y. p.irq c ≡ irq_of y) seat me next (h.irq me ∙ ap irq_of is) (λ c ne. h.irq c);
          works = h.works;
          runner = tt;
          entries = h.entries;
          labels = l.4.lawful;
          read = h.read;
        },
        subst (StandsSet job) (sym l.4.set) (stands_left (change_of job.arg) count),
      )

module _ (u : Setup) (p : Present) (at : Word → ℕ) (seat : ℕ → StopRole) (h : PresentShows u p at seat) (me : ℕ) where
  -- while somebody patches, every online CPU has its interrupts off
  pub off_while_patched : u.online me ≡ true → (c : ℕ) (w : Work) (count : ℕ) (made rest : List Change) → p.patching ≡ Patches c w count made rest →
      p.irq me ≡ false
  off_while_patched on_ c w count made rest is = search (h.stands, is_open_inside, h.slots, all_off, h.works, arith)

  -- where a CPU has its interrupts on, nobody patches
  pub nobody_patches : u.online me ≡ true → p.irq me ≡ true → p.patching ≡ Whole
  nobody_patches on_ i = search (off_while_patched, arith)

  pub lawful_when_on : u.online me ≡ true → p.irq me ≡ true → IsLawful (labels_in at)
  lawful_when_on on_ i = subst (λ x. LabelsShow x (labels_in at)) (nobody_patches on_ i) h.labels

  -- one more reading, which agrees
  pub reads_label : (r : Reading) → Agrees (labels_in at) r → PresentShows u (record p { readings = put p.readings me (p.readings me ++ r ∷ []) }) at seat
  reads_label r agrees = search (h.stands, put_all, one_more, h.read, arith)
    where
      one_more : (xs : List Reading) → AllByRecursion (Agrees (labels_in at)) xs → AllByRecursion (Agrees (labels_in at)) (xs ++ r ∷ [])
      one_more [] a = (agrees, tt)
      one_more (x ∷ xs) a = (a.0, one_more xs a.1)
