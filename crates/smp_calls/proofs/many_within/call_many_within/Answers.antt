use Rattle.std.proofs.Common.{◌≡◌, ◌<◌, ℕ, List, true, false, None, sym, ap, ◌∙◌, subst, rules, arith}
use Rattle.smp_mask.specs.Mask.{has, members}
use Rattle.smp_mask.specs.declared.mask.TheConstants.{NR_CPUS}
use Rattle.smp_words.specs.declared.call.Class.TheVariants.{Sync}
use Rattle.smp_calls.specs.Families.{CallsMany, IsLast}
use Rattle.smp_calls.specs.Targets.{is_target}
use Rattle.smp_calls.proofs.Parts.{target_online, all_called}
use Rattle.smp_calls.proofs.Bounded.{calls_within}
use Rattle.smp_calls.proofs.many_within.call_many_within.Goals as goal

pub returns : goal.returns
returns g c =
    let leads = g.H.Handler.leads in
    let free = c.wait_within-free.result.0 in
    let first = c.wait_within-free.new in
    let mid = c.queue_all.new in
    let mask = c.args.mask in
    let online = c.online.result in
    let this = c.number.result in
    let picks = c.queue_all.ensures.picks in
    let every : (x : ℕ) → x < NR_CPUS → has free x ≡ true → has c.queue_all.result x ≡ true = λ x l o. let said = picks.answered x l o in search rules in
    let all : members c.queue_all.result ≡ members free = all_called free c.queue_all.result picks.among every in
    let are : (x : ℕ) → has c.targets-others.result x ≡ is_target mask c.args.table.now.online c.args.me.now.number false x =
    λ x. c.targets-others.ensures x ∙ (ap (λ (o : ℕ). is_target mask o this false x) c.online.ensures.known
    ∙ ap (λ (n : ℕ). is_target mask c.args.table.now.online n false x) c.number.ensures.number) in
    let limits = c.online.ensures.limits in
    let low : (x : ℕ) → has c.targets-others.result x ≡ true → x < NR_CPUS =
    λ x h. omega (arith, limits.below x (target_online mask online this x (sym (c.targets-others.ensures x) ∙ h)), limits.within) in
    calls_within leads c.args.me.now first.me mid.me c.wait_within-silent.new.me c.args.handler.now first.handler mid.handler
    c.wait_within-silent.new.handler c.args.func c.args.info c.targets-others.result free c.wait_within-free.result.1 c.wait_within-silent.result.0
    c.wait_within-silent.result.1 c.or.result c.args.polls (λ x. is_target mask c.args.table.now.online c.args.me.now.number false x) are low
    c.wait_within-free.ensures
    (subst (λ (to : List ℕ). CallsMany leads first.me first.handler mid.me mid.handler to Sync c.args.func c.args.info None false) all
    c.queue_all.ensures.calls) c.queue_all.ensures.turns.apart
    (subst (λ (to : List ℕ). IsLast first.me mid.me to) all c.queue_all.ensures.last) c.queue_all.ensures.at_once
    c.wait_within-silent.ensures c.or.ensures c.is_shown.ensures
