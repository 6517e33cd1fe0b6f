-- The invariant of a table is opened with no step, and closed as it was or with another view of one seat. Assumes `Logic`.
use Rattle.std.proofs.Common.{◌≡◌, ℕ, zero, suc, List, [], ◌∷◌, length, set, refl, sym, ap, arith}
use mathlib.Core.Option.{some, some-injective, some-ne-none}
use mathlib.Core.List.{not-mem-nil}
use lib.ListN.{get_elem?}
use seplogic.Ra.Ura.{Ura}
use base.Share.{quarter, three_quarters}
use base.Stored.{Coded}
use base.Fraction.{full_share}
use base.Logic.{SProp, emp, ent, sep, ex, guard, upd, all_e, upd_i, via}
use base.Fml.{Lft, Share, Fml, ftrue, fbor, flft, fnamed}
use types.Logic.{Logic, sem}
use types.Kit.{‵, raw, ◌⊛◌, some as some_item, given, ◌$◌, ◌∵◌, !, qed, move, drop, split, fsplit, fsplit3, fjoin, fjoin3, fpick, fpack, pick, learn, check}
use types.Kit.{frame, assume, suffices, settle, done, use0, use1, use2, rewrite, later, await, updating, now, show}
use types.Keyed.{entries_new, entries_take}
use types.Owned.{basic}
use denote.RattleType.{RattleType}
use denote.RawPtr.{Ptr}
use denote.Steps.{nothing}
use Rattle.atomic_table.specs.Table.{State, Me}
use Rattle.atomic_table.specs.Seated.{halved, seen, unused, roster, TableId, age, standing, inner, common, mine}
use Rattle.atomic_table.proofs.Roster.{resets, Moved, moves}
use Rattle.smp_start.specs.Crowd.{crowd_owns, IsMoment, StandsFirst}
use Rattle.smp_start.specs.Seats.{StaysRuled}
use mir.Val.{vstruct, vnil}
use denote.Shadow.{makes_shadow}
use denote.Struct.Struct.{Struct}
use denote.Struct.Owning.{shape}
use Rattle.atomic_table.proofs.Fields.{token_val}
use Rattle.smp_start.specs.contracts.seats.Crowd as group

-- to put what is there changes nothing
set_back : {V : Type 0} (vs : List V) (i : ℕ) (v : V) → get_elem? vs i ≡ some v → set vs i v ≡ vs
set_back [] i v e = refl
set_back (x ∷ vs) zero v e = ap (λ y. y ∷ vs) (sym (some-injective x v e))
set_back (x ∷ vs) (suc i) v e = ap (λ ys. x ∷ ys) (set_back vs i v e)

module _ {M : Type 1} {𝓤 : Ura M} (𝓛 : Logic 𝓤) (R : RattleType) {V : Type 0} (cv : Coded V) (holds : State R.Denot V → Type 0) (w p : Ptr) (z : TableId) where
  open 𝓛 use {H, A}

  abbrev Pr : Type 2
  Pr = SProp 𝓤

  abbrev ◌⊢◌ : Pr → Pr → Type 1
  P ⊢ Q = ent 𝓤 P Q

  abbrev ◌∗◌ : Pr → Pr → Pr
  P ∗ Q = sep 𝓤 P Q

  infix 26 ◌⊢◌
  infixr 35 ◌∗◌
  abbrev ⟦◌⟧ : Fml → Pr
  ⟦ P ⟧ = sem 𝓛 P

  abbrev κ : Lft
  κ = age z

  abbrev γ : ℕ
  γ = z.views_name

  abbrev C : Fml
  C = common R cv.code holds w p z

  abbrev I : Fml
  I = inner R cv.code holds w p z

  abbrev S : Type 0
  S = R.Denot

  abbrev sat : ℕ → Me S V → Fml
  sat = mine R cv.code z

  abbrev Member : Type 0
  Member = TableId × (ℕ × Me S V)

  abbrev half : ℕ → V → Fml
  half id v = seen cv.code γ id three_quarters v

  abbrev Fits : State S V → Type 0
  Fits s = holds s × (length s.words ≡ z.words) × (length s.homes ≡ z.slots)

  abbrev pub crowd : List Member → Fml
  crowd = crowd_owns R cv.code z

  abbrev pub Told : List Member → Type 0
  Told ms = (s : State S V) × holds s × IsMoment s ms

  -- the views of a crowd are those of the roster
  abbrev Found : State S V → List Member → Pr
  Found s ms = guard 𝓤 (IsMoment s ms) (⟦ roster cv.code γ 0 s.views ⟧ ∗ ⟦ crowd ms ⟧)

  finds : (s : State S V) (ms : List Member) → ⟦ roster cv.code γ 0 s.views ⟧ ∗ ⟦ crowd ms ⟧ ⊢ upd 𝓤 (Found s ms)
  finds s [] = qed 𝓛 (‵ (roster cv.code γ 0 s.views) ∷ ‵ (crowd []) ∷ []) ∵ suffices ! _ (upd_i 𝓤 (Found s [])) $ check ! tt $ done !
  finds s (m ∷ ms) = let i : ℕ = m.1.0 in let v : V = m.1.1.0 in
      qed 𝓛 (‵ (roster cv.code γ 0 s.views) ∷ ‵ (crowd (m ∷ ms)) ∷ []) ∵ move ! (1 ∷ []) $ fsplit ! $ fsplit ! $ fsplit ! $
      -- [the view; what the seat has taken; the roster of the other in its place; the others; the roster]
      move ! (4 ∷ 0 ∷ []) $ use2 𝓛 (given (get_elem? s.views i ≡ some v) (raw (base.Logic.all 𝓤 (Moved 𝓛 cv γ 0 s.views i i))))
      (moves 𝓛 cv γ s.views 0 i i v (omega arith)) $ learn ! (λ at.
      use1 𝓛 (raw (Moved 𝓛 cv γ 0 s.views i i v)) (all_e 𝓤 (Moved 𝓛 cv γ 0 s.views i i) v) $
      settle 𝓛 (Found s (m ∷ ms)) (‵ (roster cv.code γ 0 (set s.views i v)) ⊛ ‵ (half i v)) $ split ! $
      rewrite ! 0 (λ (vs : List V). ‵ (roster cv.code γ 0 vs)) (set_back s.views i v at) refl $ move ! (0 ∷ 4 ∷ []) $
      use2 𝓛 (raw (upd 𝓤 (Found s ms))) (finds s ms) $
      settle 𝓛 (Found s (m ∷ ms)) (given (IsMoment s ms) (‵ (roster cv.code γ 0 s.views) ⊛ ‵ (crowd ms))) $ learn ! (λ others. split ! $
      suffices ! _ (upd_i 𝓤 (Found s (m ∷ ms))) $ check ! (at, others) $
      -- [the roster; the others; the view; what the seat has taken; the roster of the other in its place]
      move ! (2 ∷ 3 ∷ []) $ fjoin ! $ move ! (0 ∷ 3 ∷ []) $ fjoin ! $ move ! (0 ∷ 2 ∷ []) $ fjoin ! $ move ! (1 ∷ 0 ∷ []) $ done !))

  module _ (ms : List Member) where
    abbrev pub Learned : Pr
    Learned = guard 𝓤 (Told ms) ⟦ crowd ms ⟧

    abbrev Z : Pr
    Z = ⟦ I ⟧ ∗ ⟦ ftrue ⟧ ∗ Learned

    looks : ⟦ I ⟧ ∗ ⟦ crowd ms ⟧ ⊢ upd 𝓤 Z
    looks = qed 𝓛 (‵ I ∷ ‵ (crowd ms) ∷ []) ∵ fpick ! (λ s. fsplit3 ! $ move ! (2 ∷ []) $ fpick ! (λ so. drop ! $
        move ! (1 ∷ []) $ fsplit ! $
        -- [the shelf; the roster; the row; the crowd]
        move ! (1 ∷ 3 ∷ []) $ use2 𝓛 (raw (upd 𝓤 (Found s ms))) (finds s ms) $
        settle 𝓛 Z (given (IsMoment s ms) (‵ (roster cv.code γ 0 s.views) ⊛ ‵ (crowd ms))) $ learn ! (λ at. split ! $
        suffices ! _ (upd_i 𝓤 Z) $
        -- [the roster; the crowd; the shelf; the row]
        move ! (2 ∷ 0 ∷ []) $ fjoin ! $ nothing ! $ fpack ! (Fits s) (λ _. ftrue) so $ move ! (3 ∷ 1 ∷ 0 ∷ []) $ fjoin3 ! $
        fpack ! (State S V) (standing R cv.code holds w p z) s $ frame ! $ nothing ! $ frame ! $ check ! (s, so.0, at) $ done !)))

    pub meets : (q : Share) → ⟦ C ⟧ ∗ A.lft κ q ∗ ⟦ crowd ms ⟧ ⊢ H.⇛ (Learned ∗ A.lft κ q)
    meets q = qed 𝓛 (‵ C ∷ ‵ (flft κ q) ∷ ‵ (crowd ms) ∷ []) ∵ fsplit ! $ drop ! $
        use1 𝓛 (some_item (λ (j : ℕ). ‵ (fnamed j (fbor κ I)))) (𝓛.invs.inv_named (fbor κ I)) $ pick ! (λ j.
        suffices ! _ (𝓛.invs.invs_bor_acc j κ q I [] Learned (not-mem-nil, tt)) $ nothing ! $ move ! (1 ∷ 0 ∷ []) $ fjoin ! $ frame ! $ frame ! $
        assume ! (‵ I ⊛ ‵ ftrue) $ split ! $ move ! (1 ∷ []) $ drop ! $ use2 𝓛 (raw (upd 𝓤 Z)) looks $ done !)

  module _ (id : ℕ) (me : Me S V) (u : V) (stays : StaysRuled holds id me.0 u) where
    abbrev pub told : Fml
    told = sat id (u, me.1)

    abbrev Y : Pr
    Y = ⟦ I ⟧ ∗ ⟦ ftrue ⟧ ∗ ⟦ told ⟧

    changes : ⟦ I ⟧ ∗ ⟦ sat id me ⟧ ⊢ upd 𝓤 Y
    changes = qed 𝓛 (‵ I ∷ ‵ (sat id me) ∷ []) ∵ fpick ! (λ s. fsplit3 ! $ move ! (2 ∷ []) $ fpick ! (λ so. drop ! $
        move ! (1 ∷ []) $ fsplit ! $ move ! (3 ∷ []) $ fsplit ! $
        -- [the view; what it has taken; the shelf; the roster; the row]
        move ! (3 ∷ 0 ∷ []) $
        use2 𝓛 (given (get_elem? s.views id ≡ some me.0) (raw (base.Logic.all 𝓤 (Moved 𝓛 cv γ 0 s.views id id))))
        (moves 𝓛 cv γ s.views 0 id id me.0 (omega arith)) $ learn ! (λ at.
        use1 𝓛 (raw (Moved 𝓛 cv γ 0 s.views id id u)) (all_e 𝓤 (Moved 𝓛 cv γ 0 s.views id id) u) $
        settle 𝓛 Y (‵ (roster cv.code γ 0 (set s.views id u)) ⊛ ‵ (half id u)) $ split ! $
        let t : State S V = record { words = s.words; homes = s.homes; views = set s.views id u } in
        -- [the roster; the view; what it has taken; the shelf; the row]
        suffices ! _ (upd_i 𝓤 Y) $ move ! (3 ∷ 0 ∷ []) $ fjoin ! $ nothing ! $ fpack ! (Fits t) (λ _. ftrue) (stays s so.0 at, so.1, so.2) $
        move ! (4 ∷ 1 ∷ 0 ∷ []) $ fjoin3 ! $ fpack ! (State S V) (standing R cv.code holds w p z) t $ frame ! $ nothing ! $ frame ! $
        fjoin ! $ done !)))

    pub retold : (q : Share) → ⟦ C ⟧ ∗ A.lft κ q ∗ ⟦ sat id me ⟧ ⊢ H.⇛ (⟦ told ⟧ ∗ A.lft κ q)
    retold q = qed 𝓛 (‵ C ∷ ‵ (flft κ q) ∷ ‵ (sat id me) ∷ []) ∵ fsplit ! $ drop ! $
        use1 𝓛 (some_item (λ (j : ℕ). ‵ (fnamed j (fbor κ I)))) (𝓛.invs.inv_named (fbor κ I)) $ pick ! (λ j.
        suffices ! _ (𝓛.invs.invs_bor_acc j κ q I [] ⟦ told ⟧ (not-mem-nil, tt)) $ nothing ! $ move ! (1 ∷ 0 ∷ []) $ fjoin ! $ frame ! $ frame ! $
        assume ! (‵ I ⊛ ‵ ftrue) $ split ! $ move ! (1 ∷ []) $ drop ! $ use2 𝓛 (raw (upd 𝓤 Y)) changes $ done !)

-- a seat of no table, which knows this, and the roster of which it is
module _ {M : Type 1} {𝓤 : Ura M} (𝓛 : Logic 𝓤) (R : RattleType) {V : Type 0} (cv : Coded V) (z : TableId) (v : V) where
  open 𝓛 use {H}

  abbrev pub named_as : ℕ → TableId
  named_as γ = record z { views_name = γ }

  abbrev pub seat_in : ℕ → Fml
  seat_in γ = mine R cv.code (named_as γ) 0 (v, [])

  abbrev pub roster_in : ℕ → Fml
  roster_in γ = roster cv.code γ 0 (v ∷ [])

  abbrev StandsIn : ℕ → SProp 𝓤
  StandsIn γ = sep 𝓤 (sem 𝓛 (seat_in γ)) (sem 𝓛 (roster_in γ))

  pub stands_in : ent 𝓤 (emp 𝓤) (H.⇛ (ex 𝓤 StandsIn))
  stands_in = qed 𝓛 [] ∵ updating ! $
      use0 𝓛 (later (some_item (λ (γ : ℕ). ‵ (unused cv.code γ 0 v)))) (via 𝓤 _ (entries_new halved 𝓛 0 (λ _. (full_share, cv.code v)))
      (basic 𝓛 (ex 𝓤 (λ (γ : ℕ). sem 𝓛 (unused cv.code γ 0 v))))) $ await ! tt $ pick ! (λ γ.
      let L : Fml = seen cv.code γ 0 quarter v in let Mine : Fml = seen cv.code γ 0 three_quarters v in
      use1 𝓛 (‵ (seen cv.code γ 0 full_share v) ⊛ ‵ (unused cv.code γ 1 v)) (entries_take halved 𝓛 γ 0 (λ _. (full_share, cv.code v))) $ split ! $
      use1 𝓛 (later (‵ L ⊛ ‵ Mine)) (via 𝓤 _ (resets 𝓛 cv γ 0 v v) (basic 𝓛 (sep 𝓤 (sem 𝓛 L) (sem 𝓛 Mine)))) $ await ! tt $ split ! $
      -- [the roster's part; the seat's; the names that are left]
      move ! (2 ∷ []) $ fpack ! V (unused cv.code γ 1) v $ move ! (1 ∷ 0 ∷ []) $ fjoin ! $ nothing ! $ move ! (2 ∷ 0 ∷ []) $ fjoin ! $
      now ! $ show ! StandsIn γ $ done !)

-- the seat of a crowd that came last
pub first_of : {X : Type 0} (t : TableId) (xs : List (TableId × X)) → StandsFirst t xs
    → (x : X) × (rest : List (TableId × X)) × (xs ≡ (t, x) ∷ rest)
first_of t [] is = absurd is
first_of t (x ∷ rest) is = (x.1, rest, ap (λ n. (n, x.1) ∷ rest) is)

-- what a roster of one has at any number is what that one knows
pub of_one : {V : Type 0} (v w : V) (i : ℕ) → get_elem? (v ∷ []) i ≡ some w → v ≡ w
of_one v w zero e = some-injective v w e
of_one v w (suc i) e = absurd (some-ne-none w (sym e))

-- the bytes of a crowd, of which there are none
module _ (R U : RattleType) where
  abbrev pub Bare : RattleType
  Bare = Struct (shape (group.the_type R U))

  pub bare_made : {M : Type 1} {𝓤 : Ura M} (𝓛 : Logic 𝓤) → ent 𝓤 (emp 𝓤) (sem 𝓛 (Bare.own_val (tt, tt) (token_val ∷ [])))
  bare_made 𝓛 = makes_shadow 𝓛 (Bare.own_val (tt, tt) (token_val ∷ [])) (λ vss. (tt, ((λ uss. (tt, tt)), tt)))
      ((vstruct vnil ∷ [], tt), (refl, ((tt, (refl, tt)), tt)))

abbrev first_or : {X : Type 0} → X → List X → X
first_or d [] = d
first_or d (x ∷ xs) = x

abbrev rest_of : {X : Type 0} → List X → List X
rest_of [] = []
rest_of (x ∷ xs) = xs

-- lists that are equal have the same first item, and the same rest
pub same_first : {X : Type 0} (x y : X) (xs ys : List X) → x ∷ xs ≡ y ∷ ys → (y ≡ x) × (xs ≡ ys)
same_first x y xs ys e = (sym (ap (λ zs. first_or x zs) e), ap rest_of e)
