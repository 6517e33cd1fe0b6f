-- The phases, the keys and the sites of the steps of stops.
use Rattle.trace_laws.proofs.Names.{AllByRecursion, Bool, Entry, Key, List, None, Option, Setting, Site, Some, [], arith, change_of, entry_at}
use Rattle.trace_laws.proofs.Names.{entry_word, false, length, length-map, ne_eqb, subst, suc, sym, zero, ℕ, ◌++◌, ◌+◌, ◌-◌, ◌<◌}
use Rattle.trace_laws.proofs.Names.{◌==◌, ◌∷◌, ◌≡◌, ◌≢◌, ◌≤◌}
use Rattle.trace_laws.proofs.ReplayNames.{Advance, Alters, Begin, Change, Complete, CompletionStage, Field, Inside, IsKeyWord, LabelsShow, Past}
use Rattle.trace_laws.proofs.ReplayNames.{Patching, RoundStage, SitsAt, SitsInRound, StopStage, Visit, Work, change_at}
use Rattle.trace_laws.proofs.ReplayNames.{labels_in, plan_of, seen_of, site_change, site_changes, stop_found_at, stop_number, stop_seen_at, store_of}
use Rattle.smp_labels.proofs.Patched.{left_in_form}
use Rattle.smp_stop_steps.specs.declared.stage.RoundStage.TheVariants as round
use Rattle.smp_stop_steps.specs.Labels.{count_set}
use Rattle.trace_laws.proofs.ReplayPatches.PatchSteps as patching
use Rattle.trace_laws.proofs.{ReplayStops.Here.Here, ReplayStops.Here.parts, ReplayStops.TurnSteps.keeps_here, ReplayStops.TurnSteps.sits}
use Rattle.trace_laws.proofs.{ReplayStops.TurnSteps.st, ReplayTexts.ToldNumbers.InRange}
use Rattle.smp_words.specs.declared.phase.TheConstants.{PREPARE, EXIT, OVER}

-- a store of a patch is to a key of the trace, or to a site of it
abbrev StoreIn : ℕ → ℕ → Change → Type 0
StoreIn keys sites (Key k, n) = (k < keys) × (n ≤ 65535)
StoreIn keys sites (Site i, n) = i < sites

module _ (keys sites : ℕ) where
  abbrev AreIn : List Change → Type 0
  AreIn changes = AllByRecursion (StoreIn keys sites) changes

  change_in : (key : ℕ) (on : Bool) (i : ℕ) (e : Option Entry) (rest : List Change) → i < sites → AreIn rest → AreIn (site_change key on i e ++ rest)
  change_in key on i e rest l k = search arith

  sites_in : (key : ℕ) (on : Bool) (i : ℕ) (entries : List ℕ) → i + length entries ≤ sites → AreIn (site_changes key on i entries)
  sites_in key on i [] few = tt
  sites_in key on i (x ∷ rest) few =
      change_in key on i (entry_at x) (site_changes key on (i + 1) rest) (omega arith) (sites_in key on (i + 1) rest (omega arith))

  plan_in : (key old new : ℕ) (entries : List ℕ) → key < keys → new ≤ 65535 → length entries ≤ sites → AreIn (plan_of key old new entries)
  plan_in key old new entries l small few = search (small, sites_in, arith)

  at_in : (changes : List Change) (i : ℕ) → i < length changes → AreIn changes → StoreIn keys sites (change_at changes i)
  at_in [] i l all = absurd (omega arith)
  at_in (c ∷ cs) zero l all = all.0
  at_in (c ∷ cs) (suc i) l all =
      let other : (suc i == 0) ≡ false = ne_eqb (suc i) 0 (λ z. absurd (omega (arith, z))) in
      let back : suc i - 1 ≡ i = omega arith in
      rw (other, back) (at_in cs i (omega arith) all.1)

  -- the range of a store of a patch
  store_range : (u : Setting) (p : Past) (me found : ℕ) (change : Change) → u.keys ≡ keys → u.sites ≡ sites → StoreIn keys sites change
      → let seen = seen_of me (store_of change) found None in InRange u p seen.word seen
  store_range u p me found change a b l = search arith

module _ (known : Here) (u : Setting) (keys : u.keys ≡ known.v.labels.keys) (sites : u.sites ≡ length known.v.labels.entries) where
  open known use {v, p, shown, me, below, s, f}
  open parts known use {U, C, Old}

  -- what is seen of a stage is in its range
  abbrev Ranged : StopStage → Type 0
  Ranged stage = let seen = stop_seen_at v me stage in InRange u Old seen.word seen

  at_stage : (w : Visit) (stage : RoundStage) → C.stage ≡ Some (Advance w stage) → SitsInRound U me C.changes w stage (shown.seat me)
  at_stage = sits known

  abbrev Seated : StopStage → Type 0
  Seated stage = SitsAt U me C (Some stage) (shown.seat me)

  seated : (stage : StopStage) → C.stage ≡ Some stage → Seated stage
  seated stage e = subst (λ (x : Option StopStage). SitsAt U me C x (shown.seat me)) e (shown.sits me below).seat

  small : (k : ℕ) → k < U.keys → k < u.keys
  small k l = omega (arith, keys, l)

  -- a store of a patch
  stores_change : (x : Visit) (made : ℕ) → C.stage ≡ Some (Advance x (round.StoreChange made)) → Ranged (Advance x (round.StoreChange made))
  stores_change x made e =
      let k = at_stage x (round.StoreChange made) e in
      let w = k.0 in
      let count = k.1 in
      let before = k.6.0 in
      let after = k.6.1 in
      let at_seat : shown.seat me ≡ Alters x.slot w count before after = k.6.4 in
      let so = patching.so known x.slot w count before after at_seat in
      let active = patching.active_now known x.slot w count before after at_seat in
      let low : w.func < U.keys = subst (λ (z : Work). z.func < U.keys) so.3 (patching.patch_work known x.slot w so.3 so.4 active so.0 so.1).key in
      let law = subst (λ (g : Patching). LabelsShow g (labels_in (stop_number v.table))) so.5 shown.shows.present.labels in
      let found : IsKeyWord (law.0.key w.func) = law.1.keys w.func (omega (arith, low, shown.shows.setup.few_keys)) in
      let counted : IsKeyWord count = subst IsKeyWord law.3 found in
      let set : count_set w count ≤ 65535 = left_in_form (change_of w.arg) count counted in
      let long : length U.entries ≤ length v.labels.entries = let n = length-map v.labels.entries entry_word in omega (arith, n) in
      let plan : AllByRecursion (StoreIn U.keys (length v.labels.entries)) C.changes =
      subst (λ (z : List Change). AllByRecursion (StoreIn U.keys (length v.labels.entries)) z) (sym k.5)
      (plan_in U.keys (length v.labels.entries) w.func count (count_set w count) U.entries low set long) in
      store_range U.keys (length v.labels.entries) u Old me (stop_found_at v me (Advance x (round.StoreChange made)))
      (change_at C.changes made) keys sites
      (at_in U.keys (length v.labels.entries) C.changes made k.4 plan)

  -- the phase of a CPU inside a stop that has looked at it
  old_phase : (slot a l : ℕ) → p.now.inside me ≡ Some slot → (p.now.stop slot).standing me ≡ Inside a l → l ≢ 0 → Old.phase ≡ l
  old_phase slot a l inside stood some = search arith

  acknowledges : (x : Visit) (answer : ℕ) (ran : Bool) → C.stage ≡ Some (Advance x (round.Acknowledge answer ran)) → (PREPARE ≤ Old.phase) × (Old.phase ≤ EXIT)
  acknowledges x answer ran h1 = search (at_stage, st, old_phase, arith)

  raises : (x : Visit) (ran : Bool) → C.stage ≡ Some (Advance x (round.Raise ran)) → x.acked + 1 ≤ OVER
  raises x ran h1 = search (at_stage, keeps_here, arith)

  begins : (work : Work) (g : Field) → Ranged (Begin work g)
  begins work g = search arith

  in_round : (x : Visit) (stage : RoundStage) → C.stage ≡ Some (Advance x stage) → Ranged (Advance x stage)
  in_round x (round.LoadKey key change) e = ((search (at_stage, st, small, arith)), tt)
  in_round x (round.StoreChange made) e = stores_change x made e
  in_round x (round.Acknowledge answer ran) e = acknowledges x answer ran e
  in_round x (round.Raise ran) e = raises x ran e
  in_round x _ e = tt

  in_completion : (x : Visit) (stage : CompletionStage) → Ranged (Complete x stage)
  in_completion x stage = search arith

  pub stage_ranged : (stage : StopStage) → C.stage ≡ Some stage → Ranged stage
  stage_ranged stage h1 = search (begins, in_round, in_completion, seated, small, length-map, arith)
