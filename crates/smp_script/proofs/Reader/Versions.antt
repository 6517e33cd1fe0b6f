-- How many CPUs the versions may speak of.
use Rattle.smp_script.proofs.Names.{◌≡◌, ℕ, ◌≤◌, List, ◌∷◌, [], drop, Ok, codes, refl, ap, arith, NR_CPUS, Version, One, Two, Line, fields_of, lines_of}
use Rattle.smp_script.proofs.Names.{limit_of, version_text, Mode, mask_of, field_at, limit_in, online_in, online_word, mode_text}

-- no more than there can be
pub limit_within : (version : Version) → limit_of version ≤ NR_CPUS
limit_within One = omega arith
limit_within Two = omega arith

-- the first line tells it
pub limit_told : (mode : Mode) (text : List ℕ) (l : Line) (ls : List Line) (version : Version) → lines_of text ≡ l ∷ ls
    → fields_of l.text ≡ codes "smp" ∷ version_text version ∷ mode_text mode ∷ [] → limit_in text ≡ limit_of version
limit_told mode text l ls One e f = rw (e, f) refl
limit_told mode text l ls Two e f = rw (e, f) refl

second_word : (ls rest : List Line) (l : Line) → drop 1 ls ≡ l ∷ rest → online_word ls ≡ field_at (fields_of l.text) 2
second_word (t ∷ m ∷ ms) rest l e = let same : m ≡ l = cc in ap (λ x. field_at (fields_of x.text) 2) same
second_word _ rest l e = cc

-- and the second which are online
pub online_told : (text : List ℕ) (l : Line) (ls : List Line) (version : Version) (mask : ℕ) → drop 1 (lines_of text) ≡ l ∷ ls
    → limit_in text ≡ limit_of version → mask_of (limit_of version) (field_at (fields_of l.text) 2) ≡ Ok mask → online_in text ≡ mask
online_told text l ls version mask e limit read = search (second_word, arith)
