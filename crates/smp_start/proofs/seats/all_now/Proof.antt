-- `all_now` makes no step: it opens the table's invariant, and all views are of its state.
use Rattle.atomic_table.proofs.Names.{◌≡◌, ℕ, List, [], ◌∷◌, sym, refl, a_type, dcons, dnil, named, Val, vunit, vptr, inst_fn, SProp, emp, Lft, Fml, ftrue}
use Rattle.atomic_table.proofs.Names.{fsep, flft, ‵, raw, ◌⊛◌, given, later, ◌$◌, ◌∵◌, !, qed, by, move, keep, drop, split, split3, join, fsplit, fsplit3}
use Rattle.atomic_table.proofs.Names.{fjoin, fjoin3, learn, use0, use1, use3, await, rewrite, feq_i, of_opd, unit_lit, returns, enter, alloc_all, pass_all}
use Rattle.atomic_table.proofs.Names.{free_all, look_at, sets, env, tables, yes, RattleType, owns, types_at, plain, Ptr, block_ptr, nothing, param, bounded}
use Rattle.atomic_table.proofs.Names.{Stays, stay_dropped, walk_of, Goes-dropped, fact, fact_i, Coded, RefOf, mut_vals, mut_Tells, shr_vals, shr_Tells, opens}
use Rattle.atomic_table.proofs.Names.{closes, stay_ref, Goes-ref, unhide, hidden_shr, lent_out, Tuple, shr_bor-open, obor_close, tokens_halve}
use Rattle.atomic_table.proofs.Walks.{proved, leaves}
use Rattle.std.specs.contracts.marker.PhantomData as marker
use Rattle.atomic_table.specs.Table.{Me}
use Rattle.atomic_table.specs.Seated.{TableId, age, common}
use Rattle.atomic_table.specs.contracts.shared.Shared as table
use Rattle.atomic_table.proofs.Fields.{HandData}
use Rattle.smp_start.specs.Crowd.{crowd_owns}
use Rattle.smp_start.specs.contracts.seats.Crowd as group
use Rattle.smp_start.proofs.Moments.{Told, crowd, meets}
use Rattle.smp_start.specs.contracts.seats.all_now.{ended, clauses}
use Rattle.smp_start.specs.contracts.seats.all_now.Key.{name as #self}
use Rattle.smp_start.proofs.seats.all_now.Statement.{statement}
use Rattle.smp_start.proofs.seats.all_now.Code as code

pub all_now_spec : {M : Type 1} → statement M
unfolding Rattle.atomic_table.specs.Seated.seal
all_now_spec 𝓤 𝓛 𝓜 𝓡 wired T U Q P _ _ _ _ g d _ =
    let H = 𝓛.H in let 𝓣 = tables 𝓤 H 𝓜 𝓡 𝓡.env in let R : RattleType = param 0 T in let W : RattleType = param 1 U in let X : RattleType = param 2 Q in
    let Y : RattleType = param 3 P in let En = ended T U Q P g d in
    let inst = bounded (a_type ∷ a_type ∷ a_type ∷ a_type ∷ []) (T, (U, (Q, (P, tt)))) (dcons d dnil) in let fn = inst_fn inst code.function in
    let Row : RattleType = table.the_row R W X Y g in let Cr : RattleType = group.the_row R W in let D : RattleType = HandData R W X Y g in
    let self = RefOf (0 ∷ []) tt (plain (λ _. Row)) (λ _. tt) in let gathered = plain (λ _. Cr) in
    let hs : Stays En.signature.params En.kept = (stay_dropped self yes, (stay_ref (1 ∷ []) tt gathered, tt)) in
    let c = clauses T U Q P g d 𝓛 𝓜.mem 𝓡.returns in
    proved 𝓛 En hs c 𝓜 𝓡 (Goes-dropped 𝓛 6 self yes (λ κs x f. refl), (Goes-ref 𝓛 6 1 tt gathered, tt)) (#self inst) fn
    (code.unfolded 𝓤 H 𝓜 𝓡 wired (T, (U, (Q, (P, tt)))) d)
    (λ κs. (shr_vals, (mut_vals, tt))) (λ κs. (shr_Tells (named 0) κs.0 Row, (mut_Tells (named 1) κs.1.0 Cr, tt))) (λ κs qs bounds a gh are.
    let b : ℕ = a.0.ref_ptr.0 in let o : ℕ = a.0.ref_ptr.1 in let κ : Lft = κs.0 in let t : Row.Denot = a.0.now in let w : Ptr = t.words in
    let p : Ptr = t.slots in let z : TableId = t.table_id in let α : Lft = age z in
    let cv : Coded U.Denot = W.coded in let holds = g.holds t.key in let C : Fml = common R cv.code holds w p z in
    let b' : ℕ = a.1.0.ref_ptr.0 in let o' : ℕ = a.1.0.ref_ptr.1 in let h : Cr.Denot = a.1.0.now in
    let ms : List (TableId × (ℕ × Me T.Denot U.Denot)) = h.seats in
    let y : (walk_of 𝓛 En hs c).Ghost = ((κs, qs, bounds, a, (vptr b o ∷ [], (vptr b' o' ∷ [], tt))), gh) in
    let Post : Val → SProp 𝓤 = (walk_of 𝓛 En hs c).post y in
    let others : Fml = fsep (flft κs.1.1.0 qs.1.1.0) (fsep (flft κs.1.1.1.0 qs.1.1.1.0)
    (fsep (flft κs.1.1.1.1.0 qs.1.1.1.1.0) (fsep (flft κs.1.1.1.1.1.0 qs.1.1.1.1.1.0) ftrue))) in
    qed 𝓛 (((‵ (flft κs.0 qs.0) ⊛ ‵ (flft κs.1.0 qs.1.0) ⊛ ‵ others) ⊛ ‵ (owns (types_at En.signature.params κs) a y.0.4)) ∷ raw
    (fact 𝓤 _) ∷ raw (fact 𝓤 _) ∷ raw (fact 𝓤 _) ∷ raw (fact 𝓤 _) ∷ given (h.table_id ≡ z) (‵ ftrue) ∷ []) ∵
    keep ! (5 ∷ 0 ∷ []) $ learn ! (λ asked. drop ! $ split ! $ split3 ! $ move ! (3 ∷ []) $ fsplit3 ! $ fsplit ! $ move ! (2 ∷ []) $ fsplit3 ! $
    keep ! (4 ∷ 6 ∷ 1 ∷ 2 ∷ 7 ∷ 8 ∷ []) $ nothing ! $ drop ! $
    enter ! 𝓣.C 𝓣.Λ fn (vptr b o ∷ vptr b' o' ∷ []) Post $
    alloc_all ! (λ l. pass_all ! refl ((tt, tt), ((tt, tt), tt)) $ let Ev = env fn.locals l in
    use1 𝓛 (‵ (hidden_shr D κ (w, (p, (tt, tt))) b o) ⊛ ‵ (base.Fml.fhide (table.the_lent R W X Y g t (block_ptr b o) κ)))
    (lent_out 𝓛 (table.struct R W X Y g) (table.the_codes T.Denot U.Denot Q.Denot P.Denot R.coded W.coded X.coded Y.coded
    (marker.the_row (Tuple (Y ∷ W ∷ X ∷ []))).coded) (table.the_heap R W X Y g) (table.the_lent R W X Y g) κ t b o) $
    split ! $ drop ! $ unhide ! $ fsplit ! $ move ! (0 ∷ 2 ∷ []) $
    shr_bor-open ! tt (tokens_halve 𝓛 α) (λ s.
    move ! (3 ∷ 4 ∷ 5 ∷ []) $ opens ! tt Cr b' o' (λ ts. move ! (1 ∷ []) $ fsplit ! $
    rewrite ! 1 (λ (x : TableId). ‵ (crowd_owns R cv.code x ms)) asked refl $ move ! (8 ∷ 7 ∷ 1 ∷ []) $
    use3 𝓛 (later (given (Told 𝓛 R cv holds w p z ms) (‵ (crowd 𝓛 R cv holds w p z ms)) ⊛ ‵ (flft α s)))
    (meets 𝓛 R cv holds w p z ms s) $ await ! tt $ split ! $ learn ! (λ told.
    move ! (7 ∷ 1 ∷ []) $ obor_close ! tt $ drop ! $ move ! (1 ∷ []) $
    rewrite ! 0 (λ (x : TableId). ‵ (crowd_owns R cv.code x ms)) (sym asked) refl $
    let Says : Type 0 = (h ≡ h) × Told 𝓛 R cv holds w p z ms in
    move ! (2 ∷ 0 ∷ []) $ fjoin ! $ move ! (2 ∷ 0 ∷ 3 ∷ 4 ∷ 5 ∷ []) $ closes ! tt Cr h ts b' o' $
    feq_i ! (List Val) (vptr b' o' ∷ []) (vptr b' o' ∷ []) refl $ fjoin3 ! $
    nothing ! $ move ! (1 ∷ 0 ∷ []) $ fjoin ! $ nothing ! $ fjoin ! $ move ! (1 ∷ 3 ∷ []) $ join ! $ move ! (2 ∷ 0 ∷ []) $ join ! $
    use0 𝓛 (raw (fact 𝓤 Says)) (fact_i 𝓤 Says (emp 𝓤) (refl, told)) $ sets ! (of_opd ! (unit_lit !)) refl (tt, tt) $
    feq_i ! (List Val) (vunit ∷ []) (vunit ∷ []) refl $
    returns ! (look_at ! 0 refl) $ free_all ! refl $ keep ! (2 ∷ 3 ∷ 0 ∷ 1 ∷ []) $
    by ! (leaves 𝓛 En hs c y vunit tt (tt, (h, tt)) (tt, (tt, tt)))))))))
