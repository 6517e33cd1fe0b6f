-- Lines that have no key which another line has for another CPU.
use Rattle.smp_script.proofs.Names.{◌≡◌, Bool, false, ◌||◌, List, [], ◌∷◌, ◌++◌, refl, sym, ◌∙◌, AllByRecursion, list_any-append, Directive, is_shared, key_of}
use Rattle.smp_script.proofs.Names.{shares}

neither : (a b : Bool) → (a || (b || false)) ≡ false → (a ≡ false) × (b ≡ false)
neither false false h = (refl, refl)
neither _ _ h = cc

one_more : (earlier : List Directive) (d e : Directive) → shares (earlier ++ d ∷ []) e ≡ (shares earlier e || (is_shared (key_of e) (key_of d) || false))
one_more earlier d e = list_any-append (λ x. is_shared (key_of e) (key_of x)) earlier (d ∷ [])

-- from those with one more
pub apart_from : (earlier : List Directive) (d : Directive) (ds : List Directive) → AllByRecursion (λ e. shares (earlier ++ d ∷ []) e ≡ false) ds
    → AllByRecursion (λ e. shares earlier e ≡ false) ds × AllByRecursion (λ e. is_shared (key_of e) (key_of d) ≡ false) ds
apart_from earlier d [] h = (tt, tt)
apart_from earlier d (e ∷ es) h =
    let here = neither (shares earlier e) (is_shared (key_of e) (key_of d)) (sym (one_more earlier d e) ∙ h.0) in
    let rest = apart_from earlier d es h.1 in
    ((here.0, rest.0), (here.1, rest.1))

-- and the other way round
pub apart_both : (earlier : List Directive) (d : Directive) (ds : List Directive) → AllByRecursion (λ e. shares earlier e ≡ false) ds
    → AllByRecursion (λ e. is_shared (key_of e) (key_of d) ≡ false) ds → AllByRecursion (λ e. shares (earlier ++ d ∷ []) e ≡ false) ds
apart_both earlier d [] h g = tt
apart_both earlier d (e ∷ es) h g = (one_more earlier d e ∙ rw (h.0, g.0) refl, apart_both earlier d es h.1 g.1)

-- no line is of another
pub apart_at_first : (ds : List Directive) → AllByRecursion (λ e. shares [] e ≡ false) ds
apart_at_first [] = tt
apart_at_first (e ∷ es) = (refl, apart_at_first es)
