-- `of` makes a value of no bytes, whose ghost field is the list that was picked.
use Rattle.atomic_table.proofs.Names.{◌≡◌, [], ◌∷◌, refl, a_type, dcons, dnil, Val, vstruct, vnil, inst_fn, SProp, Fml, ‵, raw, ◌⊛◌, ◌$◌, ◌∵◌, !, qed, by, keep}
use Rattle.atomic_table.proofs.Names.{split, use0, no_more, and_then, returns, enter, alloc_all, pass_all, free_all, look_at, get, sets, agg, tables}
use Rattle.atomic_table.proofs.Names.{RattleType, owns, types_at, nothing, bounded, alive, Stays, walk_of}
use Rattle.atomic_table.proofs.Names.{emp, fact, fact_i}
use Rattle.atomic_table.proofs.Walks.{proved, leaves}
use Rattle.atomic_table.proofs.Fields.{token_val}
use denote.Shadow.{makes_shadow}
use Rattle.smp_machine.specs.contracts.heard_at.HeardAt as heard
use Rattle.smp_machine.specs.contracts.heard_at.HeardAt.of.{ended, clauses}
use Rattle.smp_machine.specs.contracts.heard_at.HeardAt.of.Key.{name as #self}
use Rattle.smp_machine.proofs.heard_at.HeardAt.of.Statement.{statement}
use Rattle.smp_machine.proofs.heard_at.HeardAt.of.Code as code

pub of_spec : {M : Type 1} → statement M
of_spec 𝓤 𝓛 𝓜 𝓡 wired T _ g d _ =
    let H = 𝓛.H in let 𝓣 = tables 𝓤 H 𝓜 𝓡 𝓡.env in let En = ended T g d in let c = clauses T g d 𝓛 𝓜.mem 𝓡.returns in
    let inst = bounded (a_type ∷ []) (T, tt) (dcons d dnil) in let fn = inst_fn inst code.function in
    let Cr : RattleType = heard.the_row in let hs : Stays En.signature.params En.kept = tt in
    proved 𝓛 En hs c 𝓜 𝓡 tt (#self inst) fn (code.unfolded 𝓤 H 𝓜 𝓡 wired (T, tt) d)
    (λ κs. tt) (λ κs. tt) (λ κs qs bounds a gh are.
    let r : Cr.Denot = record { of = record {}; at = g.listed } in let Told : Type 0 = r.at ≡ g.listed in
    let O : Fml = Cr.own_val r (token_val ∷ []) in
    let y : (walk_of 𝓛 En hs c).Ghost = ((κs, qs, bounds, a, tt), gh) in let Post : Val → SProp 𝓤 = (walk_of 𝓛 En hs c).post y in
    qed 𝓛 ((raw (alive 𝓛 En.signature κs qs) ⊛ ‵ (owns (types_at En.signature.params κs) a y.0.4)) ∷ raw ((c κs a).requires gh) ∷ []) ∵
    split ! $ keep ! (0 ∷ []) $ enter ! 𝓣.C 𝓣.Λ fn [] Post $ alloc_all ! (λ l. pass_all ! refl tt $
    sets ! (agg ! (no_more !)) refl (tt, tt) $ sets ! (agg ! (and_then ! (get ! refl) (no_more !))) refl (tt, (tt, tt)) $
    use0 𝓛 (‵ O) (makes_shadow 𝓛 O ((λ vss. (tt, ((λ uss. (tt, tt)), tt))), tt) (((vstruct vnil ∷ [], tt), (refl, ((tt, (refl, tt)), tt))), tt)) $
    use0 𝓛 (raw (fact 𝓤 Told)) (fact_i 𝓤 Told (emp 𝓤) refl) $ nothing ! $
    returns ! (look_at ! 0 refl) $ free_all ! refl $ keep ! (3 ∷ 0 ∷ 2 ∷ 1 ∷ []) $ by ! (leaves 𝓛 En hs c y token_val r tt tt)))
