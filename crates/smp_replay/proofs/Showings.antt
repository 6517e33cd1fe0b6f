-- What `show` prints, part by part.
use Rattle.std.proofs.Common.{◌≡◌, ℕ, ◌+◌, List, ◌++◌, map, refl, sym, ap, ◌∙◌, add-one, append_assoc, append-nil}
use Rattle.std.specs.List.{flat_map}
use Rattle.std.proofs.lemmas.Grind.{flat_map-append}
use Rattle.std.proofs.lemmas.List.{map-id}
use Rattle.smp_core.specs.Value.{CoreValue}
use Rattle.smp_replay.specs.Text.{list_text, spaced}
use Rattle.smp_replay.specs.Showing.{if_locked, locked_below, phase_text, phases_below}

-- one record more
pub locked_more : (core : CoreValue) (id : ℕ) (out next first : List ℕ) → out ≡ first ++ list_text (locked_below core id)
    → next ≡ out ++ list_text (if_locked core id) → next ≡ first ++ list_text (locked_below core (id + 1))
unfolding locked_below
locked_more core id out next first e f =
    rw (add-one, f, e, append_assoc, ← flat_map-append spaced (locked_below core id) (if_locked core id)) refl

pub none_locked : (core : CoreValue) (first : List ℕ) → first ≡ first ++ list_text (locked_below core 0)
unfolding locked_below
none_locked core first = sym (append-nil first)

-- where the items of a loop were all
pub all_yielded : (f : ℕ → List ℕ) (xs all out first : List ℕ) → map (λ x. x) xs ≡ all → out ≡ first ++ flat_map f xs → out ≡ first ++ flat_map f all
all_yielded f xs all out first e h = h ∙ ap (λ ys. first ++ flat_map f ys) (sym (map-id xs) ∙ e)

-- one slot more
pub phases_more : (core : CoreValue) (slot : ℕ) (out next first : List ℕ) → out ≡ first ++ phases_below core slot → next ≡ out ++ phase_text core slot
    → next ≡ first ++ phases_below core (slot + 1)
unfolding phases_below
phases_more core slot out next first e f = rw (add-one, f, e, append_assoc) refl

pub no_phases : (core : CoreValue) (first : List ℕ) → first ≡ first ++ phases_below core 0
unfolding phases_below
no_phases core first = sym (append-nil first)
