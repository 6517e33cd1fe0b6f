-- Who acknowledges a phase last.
use Rattle.trace_laws.proofs.Names.{Bool, None, Some, acked_by, and_left, and_right, ap, arith, cases_eq, false, first_from, get_or-set_other, get_or-set_same}
use Rattle.trace_laws.proofs.Names.{has, inl, inr, late, le-ltb, length, lt-ltb, nat_lt, refl, slice_set, subst, suc, sym, true, true≢false, zero, ℕ, ◌&&◌, ◌+◌}
use Rattle.trace_laws.proofs.Names.{◌<◌, ◌∙◌, ◌≡◌, ◌≢◌, ◌≤◌}
use Rattle.trace_laws.proofs.ReplayNames.{Inside, Keeps, Standing, ToldStop, acked, count_behind, cpus, is_of, put, put_other, put_same, sum_below}
use Rattle.smp_stop_steps.proofs.{Basics.Counts.sum_zero, State.Phases.behind_zero, State.Phases.has_acknowledged}
use Rattle.smp_stop_steps.specs.Counts.{behind}

-- the first number that passes a test, or none
pub first_none : (passes : ℕ → Bool) (c n : ℕ) → ((k : ℕ) → c ≤ k → k < c + n → passes k ≡ false) → first_from passes c n ≡ None
unfolding first_from
first_none passes c zero none = refl
first_none passes c (suc n) none = rw (none c (omega arith) (omega arith)) (first_none passes (c + 1) n (λ k l m. none k (omega arith) (omega arith)))

pub record IsFirst (passes : ℕ → Bool) (c n : ℕ) : Type 0 where
  pub first : ℕ
  pub is : first_from passes c n ≡ Some first
  pub below : first < c + n
  pub passed : passes first ≡ true

first_by : (passes : ℕ → Bool) (c n : ℕ) (b : Bool) → passes c ≡ b → (b ≡ false → IsFirst passes (c + 1) n) → IsFirst passes c (suc n)
unfolding first_from
first_by passes c n true e rest = record { first = c; is = rw e refl; below = omega arith; passed = e }
first_by passes c n false e rest = let r = rest refl in record {
  first = r.first;
  is = rw e r.is;
  below = let l = r.below in omega
      (arith, l);
  passed = r.passed;
}

pub first_some : (passes : ℕ → Bool) (c n k : ℕ) → c ≤ k → k < c + n → passes k ≡ true → IsFirst passes c n
first_some passes c zero k l m e = absurd (omega arith)
first_some passes c (suc n) k l m e = first_by passes c n (passes c) refl (λ fails. first_some passes (c + 1) n k (later fails) (omega arith) e)
  where
    later : passes c ≡ false → c + 1 ≤ k
    later fails = elim (cases_eq c k) [
      | inl same ↦ absurd (true≢false (sym e ∙ (ap passes (sym same) ∙ fails)))
      | inr ne ↦ omega arith
    ]

-- a sum that is not 0 has a part that is not
pub sum_some : (f : ℕ → ℕ) (n : ℕ) → sum_below f n ≢ 0 → (c : ℕ) × ((c < n) × (f c ≢ 0))
unfolding sum_below
sum_some f zero ne = absurd (ne refl)
sum_some f (suc n) ne = elim (cases_eq (f n) 0) [
  | inl e ↦ let r = sum_some f n (λ z. ne (rw (e, z) refl)) in (r.0, (omega (arith, r.1.0), r.1.1))
  | inr other ↦ (n, (omega arith, other))
]

-- a CPU that is behind is of the stop, and has not acknowledged
behind_not : (p c : ℕ) (x : Standing) → behind p x ≢ 0 → Keeps cpus p c x → (is_of x ≡ true) × (acked x < p)
behind_not p c x ne k = search arith

module _ (told : ToldStop) (standing : ℕ → Standing) (me p : ℕ) (size : length told.acked ≡ 32) (below : me < cpus)
    (members : (c : ℕ) → c < cpus → acked_by told c ≡ acked (standing c)) (mask : (c : ℕ) → is_of (standing c) ≡ has told.task.mask c)
    (keeps : (c : ℕ) → Keeps cpus p c (standing c)) (acks : ℕ) where
  -- this phase is acknowledged by a CPU, or is not
  mine_acked : acked_by (record told { acked = slice_set told.acked me p }) me ≡ p
  mine_acked = get_or-set_same told.acked me p 0 (rw size (omega arith))

  abbrev is_late : ℕ → Bool
  is_late c = has told.task.mask c && nat_lt (acked_by (record told { acked = slice_set told.acked me p }) c) p

  -- none is behind
  punctual : count_behind cpus p (put standing me (Inside p p)) ≡ 0 → (c : ℕ) → c < cpus → (b : Bool) → has told.task.mask c ≡ b → is_late c ≡ false
  punctual none c l false e = and_left (has told.task.mask c) _ e
  punctual none c l true e = elim (cases_eq c me) [
    | inl same ↦ and_right (has told.task.mask c) _ (le-ltb _ p (subst (λ (n : ℕ). p ≤ acked_by (record told { acked = slice_set told.acked me p }) n)
        (sym same) (omega (arith, mine_acked))))
    | inr ne ↦
        let done : acked (standing c) ≡ p = has_acknowledged p (standing c) (mask c ∙ e) (subst (λ (x : Standing). behind p x ≡ 0)
        (put_other standing me (Inside p p) c ne) (sum_zero (λ k. behind p (put standing me (Inside p p) k)) cpus none c l)) in
        and_right (has told.task.mask c) _ (le-ltb _ p (omega (arith, (get_or-set_other told.acked me c p 0 ne), (members c l), done)))
  ]

  pub none_late : count_behind cpus p (put standing me (Inside p p)) ≡ 0 → late (record told { acked = slice_set told.acked me p }) p ≡ None
  none_late none = first_none is_late 0 32 (λ c l m. punctual none c (omega (arith, m)) (has told.task.mask c) refl)

  pub some_late : count_behind cpus p (put standing me (Inside p p)) ≢ 0 → IsFirst is_late 0 32
  some_late ne =
      let r = sum_some (λ k. behind p (put standing me (Inside p p) k)) cpus ne in
      let c = r.0 in
      let other : c ≢ me = λ e. r.1.1 (rw (e, put_same standing me (Inside p p)) (behind_zero p p)) in
      let b = behind_not p c (standing c) (subst (λ (x : Standing). behind p x ≢ 0) (put_other standing me (Inside p p) c other) r.1.1) (keeps c) in
      let a = members c r.1.0 in
      let o = get_or-set_other told.acked me c p 0 other in
      let t : nat_lt (acked_by (record told { acked = slice_set told.acked me p }) c) p ≡ true = lt-ltb _ p (let q = b.1 in omega (arith, o, a, q)) in
      first_some is_late 0 32 c (omega arith) (let q = r.1.0 in omega (arith, q)) (rw (sym (mask c) ∙ b.0, t) refl)
