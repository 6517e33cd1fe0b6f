-- The works that stop calls make are such as begin takes.
use Rattle.std.proofs.Common.{◌≡◌, ◌≢◌, ℕ, zero, suc, ◌+◌, ◌<◌, Bool, true, false, ◌==◌, ◌&&◌, ◌||◌, ◌^◌, not, nat_lt}
use Rattle.std.proofs.Common.{cond, None, Some, bit_and, sym, refl, ap, ◌∙◌, subst}
use Rattle.std.proofs.Common.{◌⊎◌, inl, inr, arith, eq-eqb, ne_eqb, lt-ltb}
use Rattle.std.proofs.lemmas.Bool.{cases_eq}
use Rattle.std.proofs.lemmas.Bool.Decides.{nat_tests}
use Rattle.smp_labels.specs.Keys.{change_word}
use Rattle.smp_labels.specs.declared.keys.Change.{Change}
use Rattle.smp_labels.specs.declared.keys.Change.TheVariants.{Off, On, Up, Down}
use Rattle.smp_mask.proofs.Sets.{same_members}
use Rattle.smp_mask.specs.Mask.{has}
use Rattle.smp_mask.specs.declared.error.SmpError.{SmpError}
use Rattle.smp_mask.specs.declared.error.SmpError.TheVariants as error
use Rattle.smp_words.specs.Limits.{AreLimits}
use Rattle.smp_words.specs.Size.{cpus}
use Rattle.smp_stop_steps.specs.Counts.{sum_below, bit, mask_weight}
use Rattle.smp_stop_steps.specs.Start.{fits_kind, fits_patch, fits_work, unless}
use Rattle.smp_stop_steps.specs.Value.{first_below}
use Rattle.smp_stop_steps.proofs.Basics.Weights.{first_at}
use Rattle.smp_stop_steps.proofs.TheMachine.Fits.{all_within, of_both, one_bit}
use Rattle.smp_multi.specs.Names.{Work, Kind, One, Multi, Patch}
use Rattle.smp_multi.specs.Cpu.{TableValue}
use Rattle.smp_machine.specs.Keys.{IsPatchOf}
use Rattle.smp_machine.specs.Stops.{terms_at_gate, MayBegin, IsOneWork, IsTwoWork}

-- how many are in a mask of one CPU
one_more : (k mask cpu : ℕ) → has mask k ≡ (k == cpu) → mask_weight k mask ≡ bit (nat_lt cpu k)
    → bit (has mask k) + mask_weight k mask ≡ bit (nat_lt cpu (suc k))
one_more k mask cpu here rest = rw (here, rest) (grind (arith, nat_tests))

pub weight_of_one : (k mask cpu : ℕ) → ((c : ℕ) → has mask c ≡ (c == cpu)) → mask_weight k mask ≡ bit (nat_lt cpu k)
unfolding sum_below
weight_of_one zero mask cpu is = grind (arith, nat_tests)
weight_of_one (suc k) mask cpu is = one_more k mask cpu (is k) (weight_of_one k mask cpu is)

-- a mask that has a CPU is not empty
pub weight_some : (k mask cpu : ℕ) → cpu < k → has mask cpu ≡ true → mask_weight k mask ≢ 0
unfolding sum_below
weight_some zero mask cpu low h = λ z. omega arith
weight_some (suc k) mask cpu low h = elim (cases_eq cpu k) [
  | inl same ↦ λ z. let one : bit (has mask k) ≡ 1 = ap bit (ap (has mask) (sym same) ∙ h) in omega arith
  | inr other ↦ λ z. weight_some k mask cpu (omega arith) h (omega arith)
]

taken : (b c : Bool) (e f : SmpError) → b ≡ true → c ≡ true → cond b (unless c e) (Some f) ≡ None
taken true true e f x y = refl
taken true false e f x y = absurd cc
taken false c e f x y = absurd cc

-- a work of some CPUs that are online, which fits its kind
pub may_begin : (t : TableValue) (work : Work) → mask_weight cpus work.mask ≢ 0 → fits_kind (terms_at_gate t) work work.kind ≡ true
    → ((c : ℕ) → has work.mask c ≡ true → has t.setting.online c ≡ true) → MayBegin t work
may_begin t work some kind online =
    taken (fits_work (terms_at_gate t) work) (bit_and work.mask t.setting.online == work.mask) error.NoStopper error.BadArgument
    (of_both (not (mask_weight cpus work.mask == 0)) (fits_kind (terms_at_gate t) work work.kind) (ap not (ne_eqb (mask_weight cpus work.mask) 0 some)) kind)
    (eq-eqb (bit_and work.mask t.setting.online) work.mask (all_within work.mask t.setting.online online))

-- a stop of several CPUs asks for no more
several : (t : TableValue) (work : Work) (k : Kind) → k ≡ Multi → fits_kind (terms_at_gate t) work k ≡ true
several t work Multi e = refl
several t work _ e = absurd cc

one_kind : (t : TableValue) (work : Work) (k : Kind) → k ≡ One → mask_weight cpus work.mask ≡ 1 → fits_kind (terms_at_gate t) work k ≡ true
one_kind t work One e w = eq-eqb (mask_weight cpus work.mask) 1 w
one_kind t work _ e w = absurd cc

either : (x y : Bool) → (x || y) ≡ true → (x ≡ true) ⊎ (y ≡ true)
either true y e = inl refl
either false y e = inr e

-- of the only CPU of a mask
only_of : (mask cpu c : ℕ) → ((c : ℕ) → has mask c ≡ (c == cpu)) → has mask c ≡ true → c ≡ cpu
only_of mask cpu c is h = grind (arith, nat_tests, is c)

pub one_begins : (t : TableValue) (dst func arg : ℕ) (work : Work) → IsOneWork dst func arg work → AreLimits t.nr t.setting.online
    → has t.setting.online dst ≡ true → MayBegin t work
one_begins t dst func arg work w limits on =
    let low : dst < cpus = (let below = limits.below dst on in let within = limits.within in omega arith) in
    let one : mask_weight cpus work.mask ≡ 1 = weight_of_one cpus work.mask dst w.mask ∙ ap bit (lt-ltb dst cpus low) in
    may_begin t work (λ z. omega arith) (one_kind t work work.kind w.kind one)
    (λ c h. subst (λ (x : ℕ). has t.setting.online x ≡ true) (sym (only_of work.mask dst c w.mask h)) on)

pub two_begins : (t : TableValue) (a b func arg : ℕ) (work : Work) → IsTwoWork a b func arg work → AreLimits t.nr t.setting.online
    → has t.setting.online a ≡ true → has t.setting.online b ≡ true → MayBegin t work
two_begins t a b func arg work w limits here there =
    let low : a < cpus = (let below = limits.below a here in let within = limits.within in omega arith) in
    may_begin t work (weight_some cpus work.mask a low (w.mask a ∙ ap (λ x. x || a == b) (eq-eqb a a refl))) (several t work work.kind w.kind)
    (λ c h. elim (either (c == a) (c == b) (sym (w.mask c) ∙ h)) [
      | inl e ↦ subst (λ (x : ℕ). has t.setting.online x ≡ true) (let same : a ≡ c = grind (arith, nat_tests) in same) here
      | inr e ↦ subst (λ (x : ℕ). has t.setting.online x ≡ true) (let same : b ≡ c = grind (arith, nat_tests) in same) there
    ])

pub all_begins : (t : TableValue) (work : Work) → work.kind ≡ Multi → work.mask ≡ t.setting.online → AreLimits t.nr t.setting.online
    → MayBegin t work
all_begins t work kind mask limits =
    let m = limits.member in
    let low : m.0 < cpus = (let below = limits.below m.0 m.1 in let within = limits.within in omega arith) in
    may_begin t work (weight_some cpus work.mask m.0 low (ap (λ (x : ℕ). has x m.0) mask ∙ m.1)) (several t work work.kind kind)
    (λ c h. sym (ap (λ (x : ℕ). has x c) mask) ∙ h)

patch_kind : (t : TableValue) (work : Work) (k : Kind) → k ≡ Patch → fits_patch (terms_at_gate t) work ≡ true
    → fits_kind (terms_at_gate t) work k ≡ true
patch_kind t work Patch e fits = fits
patch_kind t work _ e fits = absurd cc

small_change : (change : Change) → change_word change < 4
small_change Off = omega arith
small_change _ = omega arith

pub patch_begins : (t : TableValue) (k : ℕ) (change : Change) (work : Work) → IsPatchOf t k change work → AreLimits t.nr t.setting.online
    → k < t.setting.labels.keys → MayBegin t work
patch_begins t k change work w limits low =
    let online = t.setting.online in
    let m = limits.member in
    let below : m.0 < cpus = (let b = limits.below m.0 m.1 in let within = limits.within in omega arith) in
    let first = w.active.0 in
    let under : first < cpus = (let le = w.active.1.least m.0 m.1 in omega arith) in
    let is_first : first_below online cpus ≡ first = first_at online first cpus w.active.1 under in
    let active : work.active ≡ 2 ^ first_below online cpus =
    same_members work.active (2 ^ first_below online cpus) (λ c. w.active.2 c
    ∙ (ap (λ n. c == n) (sym is_first) ∙ sym (one_bit (first_below online cpus) c))) in
    let arg : work.arg < 4 = (let s = small_change change in let is = w.arg_is in omega arith) in
    let key : work.func < t.setting.labels.keys = (let is = w.func_is in omega arith) in
    may_begin t work (weight_some cpus work.mask m.0 below (ap (λ (x : ℕ). has x m.0) w.mask ∙ m.1))
    (patch_kind t work work.kind w.kind
    (of_both ((work.mask == online && work.active == 2 ^ first_below online cpus) && nat_lt work.func t.setting.labels.keys) (nat_lt work.arg 4)
    (of_both (work.mask == online && work.active == 2 ^ first_below online cpus) (nat_lt work.func t.setting.labels.keys)
    (of_both (work.mask == online) (work.active == 2 ^ first_below online cpus) (eq-eqb work.mask online w.mask)
    (eq-eqb work.active (2 ^ first_below online cpus) active)) (lt-ltb work.func t.setting.labels.keys key)) (lt-ltb work.arg 4 arg)))
    (λ c h. sym (ap (λ (x : ℕ). has x c) w.mask) ∙ h)
