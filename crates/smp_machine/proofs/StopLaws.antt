-- What the definitions of stops, polls and queues come to.
use Rattle.std.proofs.Common.{◌≡◌, ◌≢◌, ◌↔◌, ◌⊎◌, inl, inr, ℕ, ℤ, zero, suc, ◌<◌, ◌≤◌, ◌==◌, true≢false, ◌&&◌, ◌||◌}
use Rattle.std.proofs.Common.{nat_lt, Bool, true, false, if◌then◌else◌, Option, Some, None}
use Rattle.std.proofs.Common.{List, [], ◌∷◌, ◌++◌, length, filter, slice_index_or, length-set, append_assoc, arith, refl, sym, ap, ◌∙◌, subst}
use Rattle.std.proofs.Common.{eqb-true, eq-eqb, ne_eqb, lt-ltb}
use Rattle.std.proofs.lemmas.Bool.{cases_eq}
use Rattle.std.proofs.lemmas.Bool.Decides.{nat_tests}
use Rattle.std.proofs.lemmas.List.{append-nil, get_or-set_same, get_or-set_other, same_from_push}
use Rattle.smp_mask.specs.Mask.{has, members_below}
use Rattle.smp_mask.specs.declared.mask.TheConstants.{NR_CPUS}
use Rattle.smp_mask.specs.declared.error.SmpError.{SmpError}
use Rattle.smp_mask.specs.declared.error.SmpError.TheVariants as error
use Rattle.smp_queue.specs.Cpu.{CpuValue as CallCpuValue}
use Rattle.smp_queue.specs.declared.handler.Heard.{Heard}
use Rattle.smp_stop_steps.specs.Start.{answer_word}
use Rattle.smp_multi.specs.Answers.{answer_in}
use Rattle.smp_multi.specs.Names.{OwnMove, Work}
use Rattle.smp_multi.specs.Cpu.{TableValue, CpuValue as StopCpuValue, Inside, is_in}
use Rattle.smp_multi.specs.Polls.{AgreesWithOwn, MayAnswer}
use Rattle.smp_multi.specs.declared.func.Called.{Called}
use Rattle.smp_machine.specs.declared.work_queue.Item.{Item}
use Rattle.smp_machine.specs.declared.work_queue.Knows.TheVariants.{Takes, Puts}
use Rattle.smp_machine.specs.StopLaws.{IsOfOne, IsOfTwo, IsOfAll, IsFirstAlone, WorksAreOfTheirCpus}
use Rattle.smp_machine.specs.StopLaws.{StopsAgreeWithOwn, StopsAreMadeOnce, PollsSendNothing, QueuesKeepOrder, WorksAreTaken, RefusalsAreInOrder}
use Rattle.smp_machine.specs.Keys.{RefusesKey}
use Rattle.smp_machine.specs.Served.{Fate, Entered, Missed, Unseen, IsLookedAt, attempts_for, is_entered}
use Rattle.smp_machine.specs.Takes.{EntersFront}
use Rattle.smp_machine.specs.Own.{Own, put_one, put_all}
use Rattle.smp_machine.specs.Passes.{PassesValue, put_to}
use Rattle.smp_machine.specs.MachineCpu.{MachineCpuValue}
use Rattle.smp_machine.specs.Stops.{item, HasStopped, IsActive, IsOneWork, IsTwoWork, IsMachineWork, RefusesOne, RefusesTwo}
use Rattle.smp_machine.specs.WorkQueue.{items_by}
use Rattle.smp_multi.proofs.Kept.{own_answers_agree}
use Rattle.smp_machine.proofs.Stopping.{put_all-append}

-- ---- works

-- a mask that has the CPUs of a test, by what passes it
member_is : (mask : ℕ) (c : ℕ) (test : Bool) (P : Type 0) → has mask c ≡ test → (test ≡ true → P) → (P → test ≡ true) → (has mask c ≡ true) ↔ P
member_is mask c test P is to from = ((λ h. to (sym is ∙ h)), λ p. is ∙ from p)

either : (c a b : ℕ) → (c == a || c == b) ≡ true → (c ≡ a) ⊎ (c ≡ b)
either c a b e = elim (cases_eq c a) [
  | inl same ↦ inl same
  | inr apart ↦ inr (eqb-true c b (sym (ap (λ (t : Bool). t || c == b) (ne_eqb c a apart)) ∙ e))
]

or_right : (t : Bool) → (t || true) ≡ true
or_right true = refl
or_right false = refl

among : (c a b : ℕ) → (c ≡ a) ⊎ (c ≡ b) → (c == a || c == b) ≡ true
among c a b (inl e) = ap (λ (t : Bool). t || c == b) (eq-eqb c a e)
among c a b (inr e) = ap (λ (t : Bool). c == a || t) (eq-eqb c b e) ∙ or_right (c == a)

one_is : (dst func arg : ℕ) (work : Work) → IsOneWork dst func arg work → IsOfOne dst func arg work
one_is dst func arg work w = record {
  kind = w.kind;
  mask = λ c. member_is work.mask c (c == dst) (c ≡ dst) (w.mask c) (eqb-true c dst) (eq-eqb c dst);
  active = λ c. member_is work.active c (c == dst) (c ≡ dst) (ap (λ (m : ℕ). has m c) w.active ∙ w.mask c) (eqb-true c dst) (eq-eqb c dst);
  calls = (w.func_is, w.arg_is);
}

two_is : (a b func arg : ℕ) (work : Work) → IsTwoWork a b func arg work → IsOfTwo a b func arg work
two_is a b func arg work w = record {
  kind = w.kind;
  mask = λ c. member_is work.mask c (c == a || c == b) ((c ≡ a) ⊎ (c ≡ b)) (w.mask c) (either c a b) (among c a b);
  active = λ c. member_is work.active c (c == a) (c ≡ a) (w.active c) (eqb-true c a) (eq-eqb c a);
  calls = (w.func_is, w.arg_is);
}

first_of : (online mask : ℕ) (active : Option ℕ) → active ≡ None → IsActive online active mask → IsFirstAlone online mask
first_of online mask None e a = record {
  first = a.0;
  online_is = a.1.passing;
  least = λ c h. a.1.least c h;
  alone = λ c. member_is mask c (c == a.0) (c ≡ a.0) (a.2 c) (eqb-true c a.0) (eq-eqb c a.0);
}
first_of online mask (Some named) e a = absurd cc

named_of : (online mask named : ℕ) (active : Option ℕ) → active ≡ Some named → IsActive online active mask → (c : ℕ)
    → (has mask c ≡ true) ↔ (has named c ≡ true)
named_of online mask named None e a c = absurd cc
named_of online mask named (Some other) e a c =
    let is : mask ≡ named = a ∙ (let s : other ≡ named = cc in s) in
    ((λ h. sym (ap (λ (m : ℕ). has m c) is) ∙ h), λ h. ap (λ (m : ℕ). has m c) is ∙ h)

all_is : (t : TableValue) (func arg : ℕ) (active : Option ℕ) (work : Work) → IsMachineWork t func arg active work
    → IsOfAll t func arg active work
all_is t func arg active work w = record {
  kind = w.kind;
  mask = λ c. ((λ h. sym (ap (λ (m : ℕ). has m c) w.mask) ∙ h), λ h. ap (λ (m : ℕ). has m c) w.mask ∙ h);
  first = λ e. first_of t.setting.online work.active active e w.active_is;
  named = λ mask e. named_of t.setting.online work.active mask active e w.active_is;
  calls = (w.func_is, w.arg_is);
}

pub works_are : WorksAreOfTheirCpus
works_are = record { one = one_is; two = two_is; all = all_is }

-- ---- what is put

pub put_sized : (x : Item) (xs : List ℕ) (put : List (List Item)) → length (put_all x xs put) ≡ length put
put_sized x [] put = refl
put_sized x (cpu ∷ xs) put = put_sized x xs (put_one x cpu put) ∙ length-set put cpu (slice_index_or put cpu [] ++ x ∷ [])

-- one CPU more, or not
put_last : (x : Item) (c k : ℕ) (put : List (List Item)) (here : Bool) → c < length put
    → slice_index_or (put_all x (if here then k ∷ [] else []) put) c [] ≡ slice_index_or put c [] ++ (if here && k == c then x ∷ [] else [])
put_last x c k put false low = sym (append-nil (slice_index_or put c []))
put_last x c k put true low = elim (cases_eq k c) [
  | inl same ↦
      ap (λ (n : ℕ). slice_index_or (put_one x n put) c []) same
      ∙ (get_or-set_same put c (slice_index_or put c [] ++ x ∷ []) [] low
      ∙ sym (ap (λ (t : Bool). slice_index_or put c [] ++ (if t then x ∷ [] else [])) (eq-eqb k c same)))
  | inr apart ↦
      get_or-set_other put k c (slice_index_or put k [] ++ x ∷ []) [] (λ e. apart (sym e))
      ∙ (sym (append-nil (slice_index_or put c [])) ∙ sym (ap (λ (t : Bool). slice_index_or put c [] ++ (if t then x ∷ [] else [])) (ne_eqb k c apart)))
]

-- of the members below k, this CPU is passed once or not at all
module _ {A : Type 0} where
  here : (x : A) (h : Bool) → (if h && false then x ∷ [] else []) ++ (if h && true then x ∷ [] else []) ≡ (if h && true then x ∷ [] else [])
  here x true = refl
  here x false = refl

  not_here : (x : A) (l : List A) (h : Bool) → l ++ (if h && false then x ∷ [] else []) ≡ l
  not_here x l true = append-nil l
  not_here x l false = append-nil l

  pub once : (f : ℕ → A) (m c k : ℕ) → (if has m c && nat_lt c k then f c ∷ [] else []) ++ (if has m k && k == c then f k ∷ [] else [])
      ≡ (if has m c && nat_lt c (suc k) then f c ∷ [] else [])
  once f m c k = elim (cases_eq k c) [
    | inl same ↦
        let not_yet : nat_lt c k ≡ false = grind (arith, nat_tests) in
        let now : nat_lt c (suc k) ≡ true = grind (arith, nat_tests) in
        subst (λ (t : Bool × Bool × Bool × Bool × A). (if has m c && t.0 then f c ∷ [] else []) ++ (if t.1 && t.2 then t.4 ∷ [] else [])
        ≡ (if has m c && t.3 then f c ∷ [] else []))
        (λ i. (sym not_yet i, has m (sym same i), sym (eq-eqb k c same) i, sym now i, f (sym same i))) (here (f c) (has m c))
    | inr apart ↦
        let still : nat_lt c (suc k) ≡ nat_lt c k = grind (arith, nat_tests) in
        subst (λ (t : Bool × Bool). (if has m c && nat_lt c k then f c ∷ [] else []) ++ (if has m k && t.0 then f k ∷ [] else [])
        ≡ (if has m c && t.1 then f c ∷ [] else []))
        (λ i. (sym (ne_eqb k c apart) i, sym still i)) (not_here (f k) (if has m c && nat_lt c k then f c ∷ [] else []) (has m k))
  ]

  pub none_below_0 : (x : A) (l : List A) (h : Bool) (c : ℕ) → l ≡ l ++ (if h && nat_lt c 0 then x ∷ [] else [])
  none_below_0 x l h c =
      let no : nat_lt c 0 ≡ false = grind (arith, nat_tests) in
      subst (λ (t : Bool). l ≡ l ++ (if h && t then x ∷ [] else [])) (sym no) (sym (not_here x l h))

  pub below : (x : A) (h : Bool) (c : ℕ) → c < NR_CPUS → (if h && nat_lt c NR_CPUS then x ∷ [] else []) ≡ (if h then x ∷ [] else [])
  below x true c low = ap (λ (t : Bool). if t then x ∷ [] else []) (lt-ltb c NR_CPUS low)
  below x false c low = refl

put_members : (x : Item) (m c k : ℕ) (put : List (List Item)) → c < length put
    → slice_index_or (put_all x (members_below m k) put) c [] ≡ slice_index_or put c [] ++ (if has m c && nat_lt c k then x ∷ [] else [])
unfolding members_below
put_members x m c zero put low = none_below_0 x (slice_index_or put c []) (has m c) c
put_members x m c (suc k) put low =
    let last : List ℕ = if has m k then k ∷ [] else [] in
    let before : List (List Item) = put_all x (members_below m k) put in
    ap (λ (l : List (List Item)). slice_index_or l c []) (put_all-append x (members_below m k) last put)
    ∙ (put_last x c k before (has m k) (subst (λ (n : ℕ). c < n) (sym (put_sized x (members_below m k) put)) low)
    ∙ (ap (λ (l : List Item). l ++ (if has m k && k == c then x ∷ [] else [])) (put_members x m c k put low)
    ∙ (append_assoc (slice_index_or put c []) (if has m c && nat_lt c k then x ∷ [] else []) (if has m k && k == c then x ∷ [] else [])
    ∙ ap (λ (l : List Item). slice_index_or put c [] ++ l) (once (λ _. x) m c k))))

-- ---- stops, polls and queues

module _ {H F : Type 0} (hears : H → Heard → H → Type 0) (runs : F → Called → F → Type 0) where
  pub stops_once : StopsAreMadeOnce hears runs
  stops_once moves work old new h h' f f' answer s = record {
    begun = ap (λ (o : Own). o.begun) s.works.own_is;
    word = s.word;
    collected = ap (λ (o : Own). o.collected) s.works.own_is;
    answer_is = s.answer_is;
    put = λ c low sized.
        let x : Item = item old.stops.number work in
        ap (λ (o : Own). slice_index_or o.put c []) s.works.own_is
        ∙ (put_members x work.mask c NR_CPUS old.passes.put sized
        ∙ ap (λ (l : List Item). put_to old.passes c ++ l) (below x (has work.mask c) c low));
  }

  -- the result of the own stop that stops its caller too
  agrees : (moves : Work → ℕ → List OwnMove) (work : Work) (old new : MachineCpuValue) (h h' : H) (f f' : F) (answer : ℤ)
      → (s : HasStopped hears runs moves work old h f new h' f' answer) → has work.mask old.stops.number ≡ true
      → AgreesWithOwn new.stops work s.word
  agrees moves work old new h h' f f' answer s of =
      let l = s.result in
      let number : new.stops.number ≡ old.stops.number = s.works.number_is in
      let begun : l.works ++ l.work ∷ [] ≡ old.stops.part.begun ++ work ∷ [] = sym l.begun ∙ ap (λ (o : Own). o.begun) s.works.own_is in
      let same : l.work ≡ work = (same_from_push l.works old.stops.part.begun l.work work begun).1 in
      let mine : has l.work.mask new.stops.number ≡ true = (λ i. has (same i).mask (number i)) ∙ of in
      subst (λ (w : Work). AgreesWithOwn new.stops w s.word) same (own_answers_agree new.stops s.word l mine)

  pub agree_with_own : StopsAgreeWithOwn hears runs
  agree_with_own = record {
    agrees = λ moves work old new h h' f f' answer s of.
        let a = agrees moves work old new h h' f f' answer s of in
        (a.own, a.answered, λ some zero_. a.some some (s.whole.0 ∙ ap answer_word zero_));
    alone = λ moves work old new h h' f f' answer dst func arg one self s.
        let number : new.stops.number ≡ old.stops.number = s.works.number_is in
        let of : has work.mask old.stops.number ≡ true = one.mask old.stops.number ∙ eq-eqb old.stops.number dst (sym self) in
        let a = agrees moves work old new h h' f f' answer s of in
        let only : (cpu : ℕ) → has work.mask cpu ≡ true → MayAnswer work cpu → cpu ≡ new.stops.number =
        λ cpu there may. eqb-true cpu dst (sym (one.mask cpu) ∙ there) ∙ (self ∙ sym number) in
        (a.own, a.answered, s.answer_is ∙ ap answer_in (a.alone only));
  }

  pub send_nothing : PollsSendNothing hears runs
  send_nothing old new h h' f f' own w = record {
    sent = ap (λ (x : CallCpuValue). x.part.sent) w.calls_kept;
    owes = ap (λ (x : CallCpuValue). x.part.owes) w.calls_kept;
    confirmed = ap (λ (x : CallCpuValue). x.part.confirmed) w.calls_kept;
    log = ap (λ (x : CallCpuValue). x.log) w.calls_kept;
    direct = ap (λ (x : CallCpuValue). x.direct) w.calls_kept;
  }

items_filter : (source : ℕ) (xs : List Item) → items_by source xs ≡ filter (λ x. x.slot == source) xs
items_filter source [] = refl
items_filter source (x ∷ xs) = λ i. if x.slot == source then x ∷ items_filter source xs i else items_filter source xs i

pub keep_order : QueuesKeepOrder
keep_order items taken put notes views source next at to rule takes puts =
    let own = rule.each at (Takes next taken) takes in
    let its = rule.each to (Puts source put notes) puts in
    its.2 ∙ (ap (λ (l : List Item). items_by source (l ++ items)) (sym own.2) ∙ items_filter source (taken ++ items))

drops : (t : TableValue) (old new : StopCpuValue) (x : Item) → EntersFront t old new (Some x) None → has old.setting.online x.slot ≡ true
    → (new.inside ≡ None) × (new.attempts ≡ old.attempts ++ record { slot = x.slot; entered = false } ∷ [])
drops t old new x (inl m) on = (ap (λ (c : StopCpuValue). c.inside) m.is ∙ m.outside, ap (λ (c : StopCpuValue). c.attempts) m.is)
drops t old new x (inr o) on = absurd (true≢false (sym on ∙ o.1))

looks_at : (online : ℕ) (x : Item) (fate : Fate) → IsLookedAt online (record { item = x; fate = fate }) → has online x.slot ≡ true
    → attempts_for (record { item = x; fate = fate } ∷ []) ≡ record { slot = x.slot; entered = is_entered fate } ∷ []
looks_at online x Entered l on = refl
looks_at online x Missed l on = refl
looks_at online x Unseen l on = absurd (true≢false (sym on ∙ l refl))

pub are_taken : WorksAreTaken
are_taken = record {
  taken = λ old new x t. ap (λ (p : PassesValue). p.taken) t.0;
  known = λ old new x t. let k = t.1.1 in (k.items, k.views, t.1.0, k.port, k.in_order, k.at);
  entered = λ t old new x slot e.
      let r = e.1.1 in
      (record { slot = slot; work = r.work; acked = 0 }, ap (λ (c : StopCpuValue). c.inside) r.is, e.0, r.member);
  dropped = drops;
  looked_at = λ online s l on. looks_at online s.item s.fate l on;
}

-- ---- refusals

in_stop : (i : Option Inside) → i ≢ None → is_in i ≡ true
in_stop None n = absurd (n refl)
in_stop (Some x) n = refl

-- two answers that exclude each other
not_both : {P : Type 0} (b : Bool) → b ≡ true → b ≡ false → P
not_both b on off = absurd (true≢false (sym on ∙ off))

one_refused : (t : TableValue) (old : MachineCpuValue) (dst : ℕ) (e : SmpError) → RefusesOne t old dst e
    → (is_in old.stops.inside ≡ true → e ≡ error.BadArgument)
    × (is_in old.stops.inside ≡ false → (e ≡ error.NoStopper) × (has t.setting.online dst ≡ false))
one_refused t old dst error.BadArgument r = ((λ _. refl), λ out. not_both (is_in old.stops.inside) (in_stop old.stops.inside r) out)
one_refused t old dst error.NoStopper r = ((λ inside. not_both (is_in old.stops.inside) inside (ap is_in r.0)), λ _. (refl, r.1))
one_refused t old dst _ r = absurd r

either_true : (i : Option Inside) (a b : ℕ) → (i ≢ None) ⊎ (a ≡ b) → (is_in i || a == b) ≡ true
either_true i a b (inl n) = ap (λ (x : Bool). x || a == b) (in_stop i n)
either_true i a b (inr e) = ap (λ (x : Bool). is_in i || x) (eq-eqb a b e) ∙ or_right (is_in i)

either_false : (x y : Bool) → (x ≡ false) ⊎ (y ≡ false) → (x && y) ≡ false
either_false x y (inl e) = ap (λ (b : Bool). b && y) e
either_false true y (inr e) = e
either_false false y (inr e) = refl

two_refused : (t : TableValue) (old : MachineCpuValue) (a b : ℕ) (e : SmpError) → RefusesTwo t old a b e
    → ((is_in old.stops.inside || a == b) ≡ true → e ≡ error.BadArgument)
    × ((is_in old.stops.inside || a == b) ≡ false → (e ≡ error.NoStopper) × ((has t.setting.online a && has t.setting.online b) ≡ false))
two_refused t old a b error.BadArgument r =
    ((λ _. refl), λ out. not_both (is_in old.stops.inside || a == b) (either_true old.stops.inside a b r) out)
two_refused t old a b error.NoStopper r =
    let out : (is_in old.stops.inside || a == b) ≡ false = ap (λ (i : Option Inside). is_in i || a == b) r.0 ∙ ne_eqb a b r.1 in (
      (λ taken. not_both (is_in old.stops.inside || a == b) taken out),
      λ _. (refl, either_false (has t.setting.online a) (has t.setting.online b) r.2),
    )
two_refused t old a b _ r = absurd r

in_or : (i : Option Inside) (P : Type 0) → (i ≢ None) ⊎ P → (is_in i ≡ true) ⊎ P
in_or i P (inl n) = inl (in_stop i n)
in_or i P (inr p) = inr p

key_refused : (t : TableValue) (old : MachineCpuValue) (k : ℕ) (e : SmpError) → RefusesKey t old k e
    → (e ≡ error.BadArgument) × ((is_in old.stops.inside ≡ true) ⊎ (t.setting.labels.keys ≤ k))
key_refused t old k error.BadArgument r = (refl, in_or old.stops.inside _ r)
key_refused t old k _ r = absurd r

pub in_order : RefusalsAreInOrder
in_order = record { one = one_refused; two = two_refused; key = key_refused }
