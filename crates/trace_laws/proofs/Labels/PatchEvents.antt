-- Each event keeps what holds of patches, and of keys and sites.
use Rattle.trace_laws.proofs.Names.{APatch, Err, Kind, None, Ok, Option, Reason, Result, Seen, Setting, Some, StateValue, Stop, Task, and_parts, answer_of, ap}
use Rattle.trace_laws.proofs.Names.{arith, cases_lt, collect_by, collected, collected_with, complete_by, completed, cpu_at, enter_by, enter_from, entered}
use Rattle.trace_laws.proofs.Names.{entered_open, eqb-true, false, has, inl, inr, is_called, is_none, is_work, length, ltb-true, may_open, members_below}
use Rattle.trace_laws.proofs.Names.{nat_lt, on_stop, open_by, open_closed, opened, refl, run_by, slice_set, stop_at, stop_of, subst, true, unfinished}
use Rattle.trace_laws.proofs.Names.{with_inside, with_stop, ℕ, ℤ, ◌&&◌, ◌<◌, ◌>>=◌, ◌∙◌, ◌≡◌}
use Rattle.trace_laws.proofs.Stops.Ends.{first_none}
use Rattle.trace_model.specs.declared.reason.Reason.TheVariants as reason
use Rattle.trace_model.specs.{Stop.opening}
use Rattle.trace_laws.proofs.Labels.Patches.{IsOfAll, Labelled, SamePatch, StopGoes, labelled_same, members_more, same_goes, stop_labelled}
use Rattle.trace_laws.proofs.Stops.Ends.{collected_is, completed_is, none_is, run_is}
use Rattle.trace_laws.proofs.{Calls.MadeSteps.both_made, Calls.MadeSteps.failed, Calls.MadeSteps.passed, Labels.StoredWords.first_is, Stops.CpusInStops.Rounds}
use Rattle.trace_laws.proofs.{Stops.CpusInStops.is_round, Stops.StopEvents.ne_truth, Stops.StopEvents.stop_of_is}

pub labelled_end : (s t : StateValue) → s ≡ t → Labelled s → Labelled t
labelled_end s t same l = subst (λ (x : StateValue). Labelled x) same l

-- a stop with the same patch
same_labelled : (seen : ℕ → Seen) (work : ℕ → Option Task) (s t : StateValue) (number : ℕ) (to : Stop) → Rounds seen work s → Labelled s → number < 64
    → SamePatch (stop_at s number) to → t.words ≡ s.words → t.stops ≡ slice_set s.stops number to → t.setting ≡ s.setting → Labelled t
same_labelled seen work s t number to r l low same words stops setting =
    labelled_same (with_stop number s to) t words stops setting
    (stop_labelled seen work s number to r l (same_goes s number to (l.patches number low) same) low)

enter_open : (seen : ℕ → Seen) (work : ℕ → Option Task) (s t : StateValue) (number actor : ℕ) → Rounds seen work s → Labelled s
    → entered_open actor number s ≡ Ok t → Labelled t
unfolding entered
enter_open seen work s t number actor r l e =
    let stop = stop_at s number in
    let made = on_stop number s (entered actor stop) in
    let p = passed (nat_lt number 64 && stop.is_open) (made >>= λ x. Ok (with_inside actor (Some number) x)) (reason.StopNotOpen number) t e in
    let low = ltb-true number 64 (and_parts (nat_lt number 64) stop.is_open p.0).0 in
    let m = both_made made (λ x. Ok (with_inside actor (Some number) x)) t p.1 in
    let n = both_made (entered actor stop) (λ x. Ok (with_stop number s x)) m.0 m.1.0 in
    let to = record stop { entered = slice_set stop.entered actor true } in
    let k = passed (is_called stop actor) (Ok to) (reason.NotCalled actor) n.0 n.1.0 in
    let a : to ≡ n.0 = cc in
    let b : with_stop number s n.0 ≡ m.0 = cc in
    let same : with_inside actor (Some number) (with_stop number s to) ≡ t = ap (λ x. with_inside actor (Some number) (with_stop number s x)) a ∙
    ap (λ x. with_inside actor (Some number) x) b ∙ cc in
    labelled_end (with_inside actor (Some number) (with_stop number s to)) t same
    (same_labelled seen work s (with_inside actor (Some number) (with_stop number s to)) number to r l low
    (record { is_open = refl; task = refl; phase = refl; patch = refl; acked = refl }) refl refl refl)

enter_as : (seen : ℕ → Seen) (work : ℕ → Option Task) (s t : StateValue) (number actor : ℕ) (inside : Result ℕ Reason) → Rounds seen work s → Labelled s
    → enter_from inside actor number s ≡ Ok t → Labelled t
enter_as seen work s t number actor (Ok x) r l e = absurd cc
enter_as seen work s t number actor (Err why) r l e = enter_open seen work s t number actor r l e

pub enter_labelled : (seen : ℕ → Seen) (work : ℕ → Option Task) (s t : StateValue) (number actor : ℕ) → Rounds seen work s → Labelled s →
    enter_by actor number s ≡ Ok t → Labelled t
unfolding enter_by
enter_labelled seen work s t number actor r l e = enter_as seen work s t number actor (stop_of actor s) r l e

pub run_labelled : (seen : ℕ → Seen) (work : ℕ → Option Task) (s t : StateValue) (actor func arg : ℕ) → Rounds seen work s → Labelled s →
    run_by actor func arg s ≡ Ok t → Labelled t
run_labelled seen work s t actor func arg r l e =
    let i = run_is s t actor func arg e in
    let number = i.0.number in
    let stop = stop_at s number in
    let to = record stop { ran = slice_set stop.ran actor true } in
    labelled_end (with_stop number s to) t i.1
    (same_labelled seen work s (with_stop number s to) number to r l i.0.low
    (record { is_open = refl; task = refl; phase = refl; patch = refl; acked = refl }) refl refl refl)

pub complete_labelled : (seen : ℕ → Seen) (work : ℕ → Option Task) (s t : StateValue) (actor : ℕ) (answer : ℤ) → Rounds seen work s → Labelled s →
    complete_by actor answer s ≡ Ok t → Labelled t
unfolding complete_by
complete_labelled seen work s t actor answer r l e =
    let made = λ (number : ℕ). completed actor answer (cpu_at s actor).irq (stop_at s number) in
    let m = both_made (stop_of actor s) (λ number. on_stop number s (made number) >>= λ x. Ok (with_inside actor None x)) t e in
    let stop = stop_at s m.0 in
    let n = both_made (on_stop m.0 s (made m.0)) (λ x. Ok (with_inside actor None x)) t m.1.1 in
    let k = both_made (made m.0) (λ x. Ok (with_stop m.0 s x)) n.0 n.1.0 in
    let to = record stop { answers = slice_set stop.answers actor (Some answer) } in
    let end : with_stop m.0 s to ≡ n.0 = ap (λ x. with_stop m.0 s x) (completed_is stop k.0 actor answer (cpu_at s actor).irq k.1.0).1 ∙ cc in
    let same : with_inside actor None (with_stop m.0 s to) ≡ t = ap (λ x. with_inside actor None x) end ∙ cc in
    labelled_end (with_inside actor None (with_stop m.0 s to)) t same
    (same_labelled seen work s (with_inside actor None (with_stop m.0 s to)) m.0 to r l (stop_of_is s actor m.0 m.1.0).1
    (record { is_open = refl; task = refl; phase = refl; patch = refl; acked = refl }) refl refl refl)

-- a stop that is closed has no patch
closed_goes : (seen : ℕ → Seen) (work : ℕ → Option Task) (s : StateValue) (number : ℕ) → Rounds seen work s → Labelled s → number < 64 →
    unfinished (stop_at s number) ≡ None
    → StopGoes s number (record (stop_at s number) { is_open = false })
closed_goes seen work s number r l low none =
    let stop = stop_at s number in
    let p = l.patches number low in
    record {
      patch = record { known = p.known; early = p.early; all = λ o k. absurd cc };
      rests = λ rest q live. absurd (let o = live.is_open in cc);
      goes = λ q live part.
          let a = p.all live.is_open live.kind_is in
          let round : is_round stop.task.kind ≡ true = (let k = live.kind_is in rw k refl) in
          let over = first_none (λ c. has stop.task.mask c && is_none (answer_of stop c)) 0 32 none a.cpu (omega arith) (omega arith) in
          absurd (none_is (answer_of stop a.cpu) (has stop.task.mask a.cpu) over a.member ((r.at number low a.cpu a.below).answered round (omega arith)));
    }

pub collect_labelled : (seen : ℕ → Seen) (work : ℕ → Option Task) (s t : StateValue) (number : ℕ) (answer : ℤ) → Rounds seen work s → Labelled s →
    collect_by number answer s ≡ Ok t
    → Labelled t
unfolding collect_by collected
collect_labelled seen work s t number answer r l e =
    let stop = stop_at s number in
    let made = collected_with (unfinished stop) answer stop in
    let p = passed (nat_lt number 64 && stop.is_open) (on_stop number s made) (reason.StopNotOpen number) t e in
    let low = ltb-true number 64 (and_parts (nat_lt number 64) stop.is_open p.0).0 in
    let m = both_made made (λ x. Ok (with_stop number s x)) t p.1 in
    let c = collected_is (unfinished stop) stop m.0 answer m.1.0 in
    let to = record stop { is_open = false } in
    labelled_end (with_stop number s to) t (ap (λ x. with_stop number s x) c.1 ∙ cc)
    (stop_labelled seen work s number to r l (closed_goes seen work s number r l low c.0) low)

-- a set of one member has one alone
pub only_one : (m x y k : ℕ) → has m x ≡ true → has m y ≡ true → x < k → y < k → length (members_below m k) ≡ 1 → x ≡ y
only_one m x y k hx hy lx ly one = elim (cases_lt x y) [
  | inl less ↦ (let a = members_more m x y hx less in let b = members_more m y k hy ly in absurd (omega arith))
  | inr more ↦ elim (cases_lt y x) [
    | inl less ↦ (let a = members_more m y x hy less in let b = members_more m x k hx lx in absurd (omega arith))
    | inr same ↦ omega arith
  ]
]

work_all : (u : Setting) (task : Task) (kind : Kind) → task.kind ≡ kind → is_work u task ≡ true → kind ≡ APatch → IsOfAll u task
work_all u task kind h1 h2 h3 = search (and_parts, eqb-true, first_is, only_one, ltb-true, arith)

opened_work : (u : Setting) (task : Task) (to : Stop) → opened u task ≡ Ok to → (is_work u task ≡ true) × (opening task ≡ to)
unfolding opened
opened_work u task to e = search (passed, arith)

pub open_labelled : (seen : ℕ → Seen) (work : ℕ → Option Task) (s t : StateValue) (cpu number : ℕ) (task : Task) → Rounds seen work s → Labelled s →
    open_by cpu number task s ≡ Ok t → Labelled t
unfolding open_by
open_labelled seen work s t cpu number task r l e =
    let made = passed (nat_lt number 64) (open_closed cpu number task s) reason.NoSuchWork t e in
    let low = ltb-true number 64 made.0 in
    let next = on_stop number s (opened s.setting task) in
    let p = failed (stop_at s number).is_open (may_open s.setting.without.gate cpu s >>= λ u. next) (reason.StopOpen number) t made.1 in
    let n = both_made (opened s.setting task) (λ x. Ok (with_stop number s x)) t (both_made (may_open s.setting.without.gate cpu s) (λ u. next) t p.1).1.1 in
    let o = opened_work s.setting task n.0 n.1.0 in
    labelled_end (with_stop number s (opening task)) t (ap (λ x. with_stop number s x) o.1 ∙ cc)
    (stop_labelled seen work s number (opening task) r l (search (work_all, ne_truth, arith)) low)
