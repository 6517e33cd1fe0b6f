-- What two steps show, one after the other.
use Rattle.trace_laws.proofs.Names.{IsPermutation, IsPermutation-append_left, IsPermutation-append_right, IsPermutation-trans, List, ap, append_assoc, sym}
use Rattle.trace_laws.proofs.Names.{◌++◌, ◌∙◌, ◌≡◌}

-- lists end as they go on
pub joined : {X : Type 0} (a began over b more after c : List X) → a ++ began ≡ over ++ b → b ++ more ≡ after ++ c → a ++ (began ++ more) ≡ (over ++ after) ++ c
joined a began over b more after c e f = sym (append_assoc a began more) ∙ ap (λ xs. xs ++ more) e ∙ append_assoc over b more ∙ ap (λ xs. over ++ xs) f ∙
    sym (append_assoc over after c)

-- what was held and queued is what began and is held
pub joined_once : {X : Type 0} (a queued began b more after c : List X) → IsPermutation (a ++ queued) (began ++ b) → IsPermutation (b ++ more) (after ++ c)
    → IsPermutation (a ++ (queued ++ more)) ((began ++ after) ++ c)
joined_once a queued began b more after c e f =
    rw (← append_assoc a queued more, append_assoc began after c)
    (IsPermutation-trans ((a ++ queued) ++ more) ((began ++ b) ++ more) (began ++ (after ++ c)) (IsPermutation-append_left more (a ++ queued) (began ++ b) e)
    (rw (append_assoc began b more) (IsPermutation-append_right began (b ++ more) (after ++ c) f)))
