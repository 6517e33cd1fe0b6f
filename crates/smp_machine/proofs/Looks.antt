-- A CPU looks at its own interrupt word only while its interrupts are on, in one stretch after another.
use Rattle.std.proofs.Common.{arith, ◌≡◌, ◌≢◌, ◌⊎◌, inl, inr, ℕ, ◌+◌, ◌-◌, ◌==◌, ◌||◌, nat_lt, Bool, true, false, Option, Some, None}
use Rattle.std.proofs.Common.{List, [], ◌∷◌, ◌++◌, map, length, length-append, append_assoc, replicate, refl, sym, ap, ◌∙◌, subst}
use Rattle.std.proofs.lemmas.Bool.Decides.{nat_tests}
use Rattle.std.proofs.lemmas.List.{append-nil, map-append}
use Rattle.smp_queue.specs.Cpu.{CpuValue as CallCpuValue}
use Rattle.smp_queue.specs.declared.handler.Heard.{Heard}
use Rattle.smp_multi.specs.Names.{Kind, One, Multi, Patch}
use Rattle.smp_multi.specs.Advance.{IsInRound, Advances, RunsAt}
use Rattle.smp_multi.specs.Cpu.{CpuValue as StopCpuValue, Inside}
use Rattle.smp_multi.specs.declared.func.Called.{Called}
use Rattle.smp_multi.specs.declared.turn.Turn.{Turn}
use Rattle.smp_multi.specs.declared.turn.Turn.TheVariants.{Same, Moved, Ran, Left}
use Rattle.smp_words.specs.declared.phase.TheConstants.{DISABLE_IRQ, RUN, EXIT}
use Rattle.smp_machine.specs.Looks.{Look, AtWord, AtPhase, phases, heard_after, on_after, AreHeardOn, HearsOn}
use Rattle.smp_machine.specs.MachineCpu.{MachineCpuValue, HasNotLeft, notes_looks, on_at, on_in, on_there}
use Rattle.smp_machine.specs.Works.{ListsLooks, LooksIfOn, RunsOne, TurnsStop, completed}

-- ---- how looks at the interrupt word are listed

-- no look
pub lists_none : (old new : CallCpuValue) → new ≡ old → ListsLooks old new
lists_none old new same = record {
  found = [];
  asked_is = ap (λ (c : CallCpuValue). c.part.asked) same ∙ sym (append-nil old.part.asked);
  after_is = ap (λ (c : CallCpuValue). c.asked_after) same ∙ sym (append-nil old.asked_after);
}

-- one look
pub lists_one : (old new : CallCpuValue) (found : Bool) → new.part.asked ≡ old.part.asked ++ found ∷ []
    → new.asked_after ≡ old.asked_after ++ old.steps ∷ [] → ListsLooks old new
lists_one old new found asked after = record { found = found ∷ []; asked_is = asked; after_is = after }

-- some looks, and then others
pub lists_then : (old mid new : CallCpuValue) → mid.steps ≡ old.steps → ListsLooks old mid → ListsLooks mid new → ListsLooks old new
lists_then old mid new steps a b =
    let first = map (λ (_ : Bool). old.steps) a.found in record {
      found = a.found ++ b.found;
      asked_is = b.asked_is ∙ (ap (λ (l : List Bool). l ++ b.found) a.asked_is ∙ append_assoc old.part.asked a.found b.found);
      after_is = b.after_is ∙ (ap (λ (n : ℕ). mid.asked_after ++ map (λ (_ : Bool). n) b.found) steps
          ∙ (ap (λ (l : List ℕ). l ++ map (λ (_ : Bool). old.steps) b.found) a.after_is
          ∙ (append_assoc old.asked_after first (map (λ (_ : Bool). old.steps) b.found)
          ∙ ap (λ (l : List ℕ). old.asked_after ++ l) (sym (map-append (λ (_ : Bool). old.steps) a.found b.found)))));
    }

-- ---- looks, and then others

phases-append : (a b : List Look) → phases (a ++ b) ≡ phases a ++ phases b
phases-append [] b = refl
phases-append (AtWord ∷ a) b = phases-append a b
phases-append (AtPhase p ∷ a) b = ap (λ (l : List ℕ). p ∷ l) (phases-append a b)

heard-append : (n : ℕ) (a b : List Look) → heard_after n (a ++ b) ≡ heard_after n a ++ heard_after (n + length (phases a)) b
heard-append n [] b = let none : n ≡ n + 0 = omega arith in ap (λ (m : ℕ). heard_after m b) none
heard-append n (AtWord ∷ a) b = ap (λ (l : List ℕ). n ∷ l) (heard-append n a b)
heard-append n (AtPhase p ∷ a) b =
    let next : (n + 1) + length (phases a) ≡ n + length (p ∷ phases a) = omega arith in
    heard-append (n + 1) a b ∙ ap (λ (m : ℕ). heard_after (n + 1) a ++ heard_after m b) next

on-append : (on : Bool) (a b : List Look) → on_after on (a ++ b) ≡ on_after (on_after on a) b
on-append on [] b = refl
on-append on (AtWord ∷ a) b = on-append on a b
on-append on (AtPhase p ∷ a) b = on-append (on_at p) a b

are_on-append : (on : Bool) (a b : List Look) → AreHeardOn on a → AreHeardOn (on_after on a) b → AreHeardOn on (a ++ b)
are_on-append on [] b f l = l
are_on-append on (AtWord ∷ a) b f l = (f.0, are_on-append on a b f.1 l)
are_on-append on (AtPhase p ∷ a) b f l = are_on-append (on_at p) a b f l

-- no look
pub hears_none : (old new : MachineCpuValue) → new.stops.part.looks ≡ old.stops.part.looks → new.stops.irq ≡ old.stops.irq
    → new.heard_at ≡ old.heard_at → new.calls.part.asked ≡ old.calls.part.asked → HearsOn old new
hears_none old new seen irq heard asked = record {
  looks = [];
  phases_are = seen ∙ sym (append-nil old.stops.part.looks);
  heard_are = heard ∙ sym (append-nil old.heard_at);
  asked_are = (let same : length new.calls.part.asked ≡ length old.calls.part.asked = ap length asked in omega (arith, same));
  on = tt;
  irq_is = irq;
}

-- where no look was made, none is noted
pub notes_none : (c : CallCpuValue) (s : StopCpuValue) (heard : List ℕ) → heard ≡ notes_looks c c s heard
notes_none c s heard =
    let none : 0 ≡ length c.part.asked - length c.part.asked = omega arith in
    sym (append-nil heard) ∙ ap (λ (k : ℕ). heard ++ replicate k (length s.part.looks)) none

one_more : (l : List Bool) (x : Bool) → length (l ++ x ∷ []) - length l ≡ 1
one_more l x = let e : length (l ++ x ∷ []) ≡ length l + 1 = length-append l (x ∷ []) in omega (arith, e)

-- a look at the own interrupt word, with interrupts on
hears_word : (old new : MachineCpuValue) (found : Bool) → new.stops ≡ old.stops
    → new.heard_at ≡ notes_looks old.calls new.calls old.stops old.heard_at → new.calls.part.asked ≡ old.calls.part.asked ++ found ∷ []
    → old.stops.irq ≡ true → HearsOn old new
hears_word old new found stops heard asked on =
    let n = length old.stops.part.looks in
    let once : length new.calls.part.asked - length old.calls.part.asked ≡ 1 =
    ap (λ (l : List Bool). length l - length old.calls.part.asked) asked ∙ one_more old.calls.part.asked found in record {
      looks = AtWord ∷ [];
      phases_are = ap (λ (c : StopCpuValue). c.part.looks) stops ∙ sym (append-nil old.stops.part.looks);
      heard_are = heard ∙ ap (λ (k : ℕ). old.heard_at ++ replicate k n) once;
      asked_are = ap length asked ∙ length-append old.calls.part.asked (found ∷ []);
      on = (on, tt);
      irq_is = ap (λ (c : StopCpuValue). c.irq) stops;
    }

-- a look at the own interrupt word where interrupts are on, and none where they are off
pub hears_if_on : {H : Type 0} (hears : H → Heard → H → Type 0) (old new : MachineCpuValue) (h h' : H) → LooksIfOn hears old h new h' → HearsOn old new
hears_if_on hears old new h h' l = of old.stops.irq refl
  where
    of : (on : Bool) → old.stops.irq ≡ on → HearsOn old new
    of true on = let once = l.once on in hears_word old new once.0 l.rest.stops_are l.rest.heard_are once.1 on
    of false off =
        let same = (l.off off).0 in
        hears_none old new (ap (λ (c : StopCpuValue). c.part.looks) l.rest.stops_are) (ap (λ (c : StopCpuValue). c.irq) l.rest.stops_are)
        (l.rest.heard_are ∙ (ap (λ (c : CallCpuValue). notes_looks old.calls c old.stops old.heard_at) same
        ∙ sym (notes_none old.calls old.stops old.heard_at)))
        (ap (λ (c : CallCpuValue). c.part.asked) same)

-- a look at a phase
hears_phase : (old new : MachineCpuValue) (p : ℕ) → new.stops.part.looks ≡ old.stops.part.looks ++ p ∷ [] → new.stops.irq ≡ on_at p
    → new.heard_at ≡ old.heard_at → new.calls.part.asked ≡ old.calls.part.asked → HearsOn old new
hears_phase old new p seen irq heard asked = record {
  looks = AtPhase p ∷ [];
  phases_are = seen;
  heard_are = heard ∙ sym (append-nil old.heard_at);
  asked_are = (let same : length new.calls.part.asked ≡ length old.calls.part.asked = ap length asked in omega (arith, same));
  on = tt;
  irq_is = irq;
}

-- one stretch of looks, and then another
pub hears_then : (old mid new : MachineCpuValue) → HearsOn old mid → HearsOn mid new → HearsOn old new
hears_then old mid new a b =
    let n = length old.stops.part.looks in
    let m = length mid.stops.part.looks in
    let first = heard_after n a.looks in
    let last = heard_after m b.looks in
    let from : m ≡ n + length (phases a.looks) = ap length a.phases_are ∙ length-append old.stops.part.looks (phases a.looks) in
    let both : heard_after n (a.looks ++ b.looks) ≡ first ++ last =
    heard-append n a.looks b.looks ∙ ap (λ (k : ℕ). first ++ heard_after k b.looks) (sym from) in
    let sized : length (heard_after n (a.looks ++ b.looks)) ≡ length first + length last = ap length both ∙ length-append first last in record {
      looks = a.looks ++ b.looks;
      phases_are = b.phases_are ∙ (ap (λ (l : List ℕ). l ++ phases b.looks) a.phases_are
          ∙ (append_assoc old.stops.part.looks (phases a.looks) (phases b.looks)
          ∙ ap (λ (l : List ℕ). old.stops.part.looks ++ l) (sym (phases-append a.looks b.looks))));
      heard_are = b.heard_are ∙ (ap (λ (l : List ℕ). l ++ last) a.heard_are
          ∙ (append_assoc old.heard_at first last ∙ ap (λ (l : List ℕ). old.heard_at ++ l) (sym both)));
      asked_are = (let x = a.asked_are in let y = b.asked_are in omega (arith, x, y, sized));
      on = are_on-append old.stops.irq a.looks b.looks a.on (subst (λ (on : Bool). AreHeardOn on b.looks) a.irq_is b.on);
      irq_is = b.irq_is ∙ (ap (λ (on : Bool). on_after on b.looks) a.irq_is ∙ sym (on-append old.stops.irq a.looks b.looks));
    }

-- ---- a turn of a stop

-- of a stop of several CPUs interrupts are on or off by the phase alone
on_several : (k : Kind) (p : ℕ) → k ≢ One → on_in k p ≡ on_at p
on_several One p several = absurd (several refl)
on_several Multi p several = refl
on_several Patch p several = refl

-- before EXIT they are on before DISABLE_IRQ
on_before : (p : ℕ) → p ≢ EXIT → nat_lt p DISABLE_IRQ ≡ on_at p
on_before p other = of_test (p == EXIT) refl
  where
    or_false : (a : Bool) → a ≡ (a || false)
    or_false true = refl
    or_false false = refl

    of_test : (b : Bool) → (p == EXIT) ≡ b → nat_lt p DISABLE_IRQ ≡ on_at p
    of_test true e = absurd (other (grind (arith, nat_tests)))
    of_test false e = or_false (nat_lt p DISABLE_IRQ) ∙ ap (λ (b : Bool). nat_lt p DISABLE_IRQ || b) (sym e)

-- at most one look at a phase, by which interrupts are on or off then
abbrev Sees : StopCpuValue → StopCpuValue → Type 0
Sees old new = ((new.part.looks ≡ old.part.looks) × (new.irq ≡ old.irq))
    ⊎ ((p : ℕ) × (new.part.looks ≡ old.part.looks ++ p ∷ []) × (new.irq ≡ on_at p))

module _ {F : Type 0} (leads : F → Called → F → Type 0) (old : StopCpuValue) (f f' : F) (irq : old.irq ≡ on_there old.inside) where
  module _ (at : IsInRound old) where
    on_here : old.irq ≡ on_at at.stop.acked
    on_here = irq ∙ (ap on_there at.is ∙ on_several at.stop.work.kind at.stop.acked at.several)

    ran_sees : (mid : StopCpuValue) (kind : Kind) → RunsAt leads at.stop old mid f f' kind
        → (mid.part.looks ≡ old.part.looks ++ RUN ∷ []) × (mid.irq ≡ false) × (mid.inside ≡ Some (record (at.stop) { acked = RUN }))
    ran_sees mid One r = absurd r
    ran_sees mid Multi r = (ap (λ (c : StopCpuValue). c.part.looks) r.1, ap (λ (c : StopCpuValue). c.irq) r.1, ap (λ (c : StopCpuValue). c.inside) r.1)
    ran_sees mid Patch r = (ap (λ (c : StopCpuValue). c.part.looks) r.1, ap (λ (c : StopCpuValue). c.irq) r.1, ap (λ (c : StopCpuValue). c.inside) r.1)

    round_sees : (mid : StopCpuValue) (turn : Turn) → Advances leads at.stop old mid f f' turn → (new : StopCpuValue) → new ≡ completed turn at.stop mid
        → Sees old new × (new.irq ≡ on_there new.inside)
    round_sees mid Same a new is =
        let e = is ∙ a.0 in
        let off = ap (λ (c : StopCpuValue). c.irq) e in (
          inr (at.stop.acked, ap (λ (c : StopCpuValue). c.part.looks) e, off ∙ on_here),
          off ∙ (irq ∙ ap on_there (sym (ap (λ (c : StopCpuValue). c.inside) e))),
        )
    round_sees mid (Moved p) a new is =
        let e = is ∙ a.3 in
        let off = ap (λ (c : StopCpuValue). c.irq) e ∙ on_before p a.1 in (
          inr (p, ap (λ (c : StopCpuValue). c.part.looks) e, off),
          off ∙ (sym (on_several at.stop.work.kind p at.several) ∙ ap on_there (sym (ap (λ (c : StopCpuValue). c.inside) e))),
        )
    round_sees mid Ran a new is =
        let r = ran_sees mid at.stop.work.kind a.2 in
        let off = ap (λ (c : StopCpuValue). c.irq) is ∙ r.1 in (
          inr (RUN, ap (λ (c : StopCpuValue). c.part.looks) is ∙ r.0, off),
          off ∙ (sym (on_several at.stop.work.kind RUN at.several) ∙ ap on_there (sym (ap (λ (c : StopCpuValue). c.inside) is ∙ r.2))),
        )
    round_sees mid Left a new is =
        let e = is ∙ ap (completed Left at.stop) a.1 in (
          inr (EXIT, ap (λ (c : StopCpuValue). c.part.looks) e, ap (λ (c : StopCpuValue). c.irq) e),
          ap (λ (c : StopCpuValue). c.irq) e ∙ ap on_there (sym (ap (λ (c : StopCpuValue). c.inside) e)),
        )

  one_sees : (new : StopCpuValue) → RunsOne leads old f new f' → Sees old new × (new.irq ≡ on_there new.inside)
  one_sees new r =
      let e = r.is in
      let on : old.irq ≡ true = irq ∙ (ap on_there r.at.is ∙ ap (λ (k : Kind). on_in k r.at.stop.acked) r.at.one) in (
        inl (ap (λ (c : StopCpuValue). c.part.looks) e, ap (λ (c : StopCpuValue). c.irq) e ∙ sym on),
        ap (λ (c : StopCpuValue). c.irq) e ∙ ap on_there (sym (ap (λ (c : StopCpuValue). c.inside) e)),
      )

  module _ (new : StopCpuValue) (turn : Turn) (t : TurnsStop leads old f new f' turn) (not_left : HasNotLeft old.inside) where
    turn_sees : Sees old new × (new.irq ≡ on_there new.inside)
    turn_sees = inside old.inside refl
      where
        went_round : (stop : Inside) → old.inside ≡ Some stop → stop.work.kind ≢ One → Sees old new × (new.irq ≡ on_there new.inside)
        went_round stop is several =
            let at : IsInRound old = record { stop = stop; is = is; several = several; not_left = subst HasNotLeft is not_left } in
            let g = t.round at in
            round_sees g.at g.advanced turn g.advances new g.is

        of_kind : (stop : Inside) → old.inside ≡ Some stop → (k : Kind) → stop.work.kind ≡ k → Sees old new × (new.irq ≡ on_there new.inside)
        of_kind stop is One e = one_sees new (t.one (record { stop = stop; is = is; one = e })).0
        of_kind stop is Multi e = went_round stop is (λ one. let bad : One ≡ Multi = sym one ∙ e in cc)
        of_kind stop is Patch e = went_round stop is (λ one. let bad : One ≡ Patch = sym one ∙ e in cc)

        inside : (o : Option Inside) → old.inside ≡ o → Sees old new × (new.irq ≡ on_there new.inside)
        inside None is =
            let same = (t.none is).0 in
            let on = ap (λ (c : StopCpuValue). c.irq) same in (
              inl (ap (λ (c : StopCpuValue). c.part.looks) same, on),
              on ∙ (irq ∙ ap on_there (sym (ap (λ (c : StopCpuValue). c.inside) same))),
            )
        inside (Some stop) is = of_kind stop is stop.work.kind refl

    -- interrupts are still off only in a stop, from DISABLE_IRQ on
    pub turn_irq : new.irq ≡ on_there new.inside
    turn_irq = turn_sees.1

-- at most one look at a phase
pub hears_turn : {F : Type 0} (leads : F → Called → F → Type 0) (old new : MachineCpuValue) (f f' : F) (turn : Turn)
    → TurnsStop leads old.stops f new.stops f' turn → HasNotLeft old.stops.inside → old.stops.irq ≡ on_there old.stops.inside
    → new.heard_at ≡ old.heard_at → new.calls ≡ old.calls → HearsOn old new
hears_turn leads old new f f' turn t not_left irq heard calls = of (turn_sees leads old.stops f f' irq new.stops turn t not_left).0
  where
    asked : new.calls.part.asked ≡ old.calls.part.asked
    asked = ap (λ (c : CallCpuValue). c.part.asked) calls

    of : Sees old.stops new.stops → HearsOn old new
    of (inl same) = hears_none old new same.0 same.1 heard asked
    of (inr look) = hears_phase old new look.0 look.1 look.2 heard asked
