-- A patch that the machine begins is a work of the model of events.
use Rattle.trace_laws.proofs.Names.{Bool, Setting, Some, [], arith, cases_eq, cond, eq-eqb, eqb-true, false, first_from, first_of, has, inl, inr, is_work}
use Rattle.trace_laws.proofs.Names.{le-leb, length, length-append, lt-ltb, members_below, ne_eqb, refl, suc, sym, true, zero, ℕ, ◌+◌, ◌<◌, ◌==◌, ◌∙◌, ◌∷◌, ◌≡◌}
use Rattle.trace_laws.proofs.Names.{◌≤◌}
use Rattle.trace_laws.proofs.ReplayNames.{Patch, Work, same_members, told_work}
use Rattle.smp_stop_steps.specs.Value.{first_below}

-- no member is less than the least
least_by : (mask k first : ℕ) → ((c : ℕ) → c < first → has mask c ≡ false) → (b h : Bool) → (first == k) ≡ b → has mask k ≡ h → (c : ℕ)
    → c < cond b (cond h k (suc k)) first → has mask c ≡ false
least_by mask k first h1 b h h2 h3 c h4 = search (eqb-true, cases_eq, arith)

pub none_before : (mask k c : ℕ) → c < first_below mask k → has mask c ≡ false
unfolding first_below
none_before mask zero c l = absurd (omega (arith, l))
none_before mask (suc k) c l =
    least_by mask k (first_below mask k) (λ j m. none_before mask k j m) (first_below mask k == k) (has mask k) refl refl c l

-- the first number that passes is found
hit_from : (passes : ℕ → Bool) (f more c : ℕ) → c ≤ f → f < c + more → passes f ≡ true → ((j : ℕ) → j < f → passes j ≡ false) → first_from passes c more ≡
    Some f
unfolding first_from
hit_from passes f zero c l m passed before = absurd (omega (arith, l, m))
hit_from passes f (suc more) c l m passed before = elim (cases_eq c f) [
  | inl e ↦ rw (e, passed) refl
  | inr ne ↦ rw (before c (omega arith)) (hit_from passes f more (c + 1) (omega arith) (omega arith) passed before)
]

-- a mask of one CPU
module _ (mask f : ℕ) (alone : (c : ℕ) → has mask c ≡ (c == f)) where
  none_below : (k : ℕ) → k ≤ f → length (members_below mask k) ≡ 0
  unfolding members_below
  none_below zero l = refl
  none_below (suc k) l =
      let fails : has mask k ≡ false = alone k ∙ ne_eqb k f (λ e. absurd (omega (arith, l, e))) in
      (length-append (members_below mask k) (cond (has mask k) (k ∷ []) [])) ∙ (rw fails (omega (arith, (none_below k (omega (arith, l))))))

  pub one_below : (k : ℕ) → f < k → length (members_below mask k) ≡ 1
  unfolding members_below
  one_below zero l = absurd (omega (arith, l))
  one_below (suc k) l =
      let both = length-append (members_below mask k) (cond (has mask k) (k ∷ []) []) in
      elim (cases_eq k f) [
        | inl e ↦
            search (both, eq-eqb, none_below, arith)
        | inr ne ↦
            let fails : has mask k ≡ false = alone k ∙ ne_eqb k f ne in
            let less = one_below k (omega (arith, l, ne)) in
            both ∙ rw fails (omega (arith, less))
      ]

module _ (u : Setting) (online first : ℕ) (w : Work) (below : first < 32) (is_online : has online first ≡ true)
    (before : (c : ℕ) → c < first → has online c ≡ false) (same : u.online ≡ online) where
  first_is : first_of online ≡ Some first
  first_is = hit_from (λ c. has online c) first 32 0 (omega arith) (omega (arith, below)) is_online before

  pub works_patch : w.kind ≡ Patch → ((c : ℕ) → has w.mask c ≡ has online c) → ((c : ℕ) → has w.active c ≡ (c == first)) → w.func < u.keys → w.arg ≤ 3
      → is_work u (told_work w) ≡ true
  works_patch kind all active key change =
      let mask : w.mask ≡ online = same_members w.mask online all in
      let one : length (members_below w.active 32) ≡ 1 = one_below w.active first active 32 below in
      let its : has w.active first ≡ true = active first ∙ eq-eqb first first refl in
      rw (
        kind,
        eq-eqb w.mask u.online (mask ∙ sym same),
        same,
        first_is,
        eq-eqb (length (members_below w.active 32)) 1 one,
        its,
        lt-ltb w.func u.keys key,
        le-leb w.arg 3 change,
      ) refl
