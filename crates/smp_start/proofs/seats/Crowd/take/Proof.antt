-- `take` moves what the seat owns, and makes a seat of no table.
use Rattle.atomic_table.proofs.Names.{◌≡◌, ℕ, List, [], ◌∷◌, refl, a_type, named, Val, vunit, vptr, inst_fn, SProp, emp, Fml, ftrue, fsep, flft, ‵, raw, ◌⊛◌}
use Rattle.atomic_table.proofs.Names.{given, later, some, ◌$◌, ◌∵◌, !, qed, by, move, keep, drop, split, split3, join, fsplit, fsplit3, fjoin, fjoin3}
use Rattle.atomic_table.proofs.Names.{learn, pick}
use Rattle.atomic_table.proofs.Names.{use0, await, rewrite, feq_i, of_opd, unit_lit, returns, enter, alloc_all, pass_all, free_all, look_at, sets, tables}
use Rattle.atomic_table.proofs.Names.{RattleType, owns, types_at, plain, nothing, param, layouts, Stays, walk_of, fact, fact_i, Coded, mut_vals, mut_Tells}
use Rattle.atomic_table.proofs.Names.{opens, closes, stay_ref, Goes-ref}
use Rattle.atomic_table.proofs.Walks.{proved, leaves}
use Rattle.atomic_table.specs.Seated.{TableId, mine}
use Rattle.atomic_table.specs.contracts.shared.Seat as seat
use Rattle.smp_start.specs.contracts.seats.Crowd as group
use Rattle.smp_start.proofs.Moments.{named_as, seat_in, roster_in, stands_in}
use Rattle.smp_start.specs.contracts.seats.Crowd.take.{ended, clauses}
use Rattle.smp_start.specs.contracts.seats.Crowd.take.Key.{name as #self}
use Rattle.smp_start.proofs.seats.Crowd.take.Statement.{statement}
use Rattle.smp_start.proofs.seats.Crowd.take.Code as code

pub take_spec : {M : Type 1} → statement M
take_spec 𝓤 𝓛 𝓜 𝓡 wired T U _ _ =
    let H = 𝓛.H in let 𝓣 = tables 𝓤 H 𝓜 𝓡 𝓡.env in let R : RattleType = param 0 T in let W : RattleType = param 1 U in let En = ended T U in
    let inst = layouts (a_type ∷ a_type ∷ []) (T, (U, tt)) in let fn = inst_fn inst code.function in
    let Cr : RattleType = group.the_row R W in let Sr : RattleType = seat.the_row R W in let gathered = plain (λ _. Cr) in let sitter = plain (λ _. Sr) in
    let hs : Stays En.signature.params En.kept = (stay_ref (0 ∷ []) tt gathered, (stay_ref (1 ∷ []) tt sitter, tt)) in
    let c = clauses T U 𝓛 𝓜.mem 𝓡.returns in
    proved 𝓛 En hs c 𝓜 𝓡 (Goes-ref 𝓛 4 0 tt gathered, (Goes-ref 𝓛 4 1 tt sitter, tt)) (#self inst) fn (code.unfolded 𝓤 H 𝓜 𝓡 wired (T, (U, tt)))
    (λ κs. (mut_vals, (mut_vals, tt))) (λ κs. (mut_Tells (named 0) κs.0 Cr, (mut_Tells (named 1) κs.1.0 Sr, tt))) (λ κs qs bounds a gh are.
    let b : ℕ = a.0.ref_ptr.0 in let o : ℕ = a.0.ref_ptr.1 in let b' : ℕ = a.1.0.ref_ptr.0 in let o' : ℕ = a.1.0.ref_ptr.1 in
    let d : Cr.Denot = a.0.now in let h : Sr.Denot = a.1.0.now in let z : TableId = d.table_id in let cv : Coded U.Denot = W.coded in
    let y : (walk_of 𝓛 En hs c).Ghost = ((κs, qs, bounds, a, (vptr b o ∷ [], (vptr b' o' ∷ [], tt))), gh) in
    let Post : Val → SProp 𝓤 = (walk_of 𝓛 En hs c).post y in
    let others : Fml = fsep (flft κs.1.1.0 qs.1.1.0) (fsep (flft κs.1.1.1.0 qs.1.1.1.0) ftrue) in
    qed 𝓛 (((‵ (flft κs.0 qs.0) ⊛ ‵ (flft κs.1.0 qs.1.0) ⊛ ‵ others) ⊛ ‵ (owns (types_at En.signature.params κs) a y.0.4)) ∷ raw (fact 𝓤 _)
    ∷ raw (fact 𝓤 _) ∷ given (h.table_id ≡ z) (‵ ftrue) ∷ []) ∵
    keep ! (3 ∷ 0 ∷ []) $ learn ! (λ asked. drop ! $ split ! $ split3 ! $ move ! (3 ∷ []) $ fsplit ! $ fsplit3 ! $ move ! (3 ∷ []) $ fsplit ! $ fsplit3 ! $
    keep ! (1 ∷ 2 ∷ 8 ∷ 5 ∷ 6 ∷ 7 ∷ 9 ∷ []) $
    enter ! 𝓣.C 𝓣.Λ fn (vptr b o ∷ vptr b' o' ∷ []) Post $ alloc_all ! (λ l. pass_all ! refl ((tt, tt), ((tt, tt), tt)) $
    opens ! tt Sr b' o' (λ ts'. move ! (1 ∷ []) $ fsplit ! $ rewrite ! 1 (λ (x : TableId). ‵ (mine R cv.code x h.id h.me)) asked refl $
    move ! (6 ∷ 7 ∷ 8 ∷ []) $ opens ! tt Cr b o (λ ts. move ! (1 ∷ []) $ fsplit ! $
    use0 𝓛 (later (some (λ (γ : ℕ). ‵ (seat_in 𝓛 R cv z h.me.0 γ) ⊛ ‵ (roster_in 𝓛 R cv z h.me.0 γ)))) (stands_in 𝓛 R cv z h.me.0) $
    await ! tt $ pick ! (λ γ. split ! $
    let t : TableId = named_as 𝓛 R cv z h.me.0 γ in
    let d' : Cr.Denot = record { marker = d.marker; table_id = z; seats = (t, (h.id, h.me)) ∷ d.seats } in
    let h' : Sr.Denot = record { marker = h.marker; table_id = t; id = 0; me = (h.me.0, []) } in
    let Told : Type 0 = (z ≡ z) × (h.me.0 ≡ h.me.0) × (d'.seats ≡ d'.seats) in
    move ! (9 ∷ 1 ∷ []) $ fjoin ! $ move ! (0 ∷ 3 ∷ []) $ fjoin ! $ move ! (2 ∷ 0 ∷ []) $ fjoin ! $
    move ! (2 ∷ 0 ∷ 3 ∷ 4 ∷ 5 ∷ []) $ closes ! tt Cr d' ts b o $ feq_i ! (List Val) (vptr b o ∷ []) (vptr b o ∷ []) refl $ fjoin3 ! $
    move ! (3 ∷ 2 ∷ []) $ fjoin ! $ move ! (3 ∷ 0 ∷ 4 ∷ 5 ∷ 6 ∷ []) $ closes ! tt Sr h' ts' b' o' $
    feq_i ! (List Val) (vptr b' o' ∷ []) (vptr b' o' ∷ []) refl $ fjoin3 ! $
    nothing ! $ move ! (1 ∷ 0 ∷ []) $ fjoin ! $ move ! (2 ∷ 0 ∷ []) $ fjoin ! $ move ! (1 ∷ 3 ∷ []) $ join ! $ move ! (2 ∷ 0 ∷ []) $ join ! $
    use0 𝓛 (raw (fact 𝓤 Told)) (fact_i 𝓤 Told (emp 𝓤) (refl, refl, refl)) $ sets ! (of_opd ! (unit_lit !)) refl (tt, tt) $
    feq_i ! (List Val) (vunit ∷ []) (vunit ∷ []) refl $
    returns ! (look_at ! 0 refl) $ free_all ! refl $ keep ! (2 ∷ 3 ∷ 0 ∷ 1 ∷ []) $
    by ! (leaves 𝓛 En hs c y vunit tt (d', (h', tt)) (tt, (tt, tt)))))))))
