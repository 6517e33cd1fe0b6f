-- The first line, and what is wrong with it.
use Rattle.smp_script.proofs.Names.{◌≡◌, ℕ, true, List, [], ◌∷◌, drop, Ok, codes, refl, inl, inr, bytes_eq, cases_Bool, title_of, title, versions, version_text}
use Rattle.smp_script.proofs.Names.{Version, One, Two, Mode, Replay, Run, mode_text}
use Rattle.smp_script.proofs.Spelled.ReadParts.{same_word}
use Rattle.smp_script.proofs.Faults.FieldFaults.{Tells, none_yet, passes}
use Rattle.smp_script.proofs.Faults.LineShapes.{IsQuiet, TellsLine, shapeless, shaped, passes_word, skips_word}

mode_same : (mode : Mode) → bytes_eq (mode_text mode) (mode_text mode) ≡ true
mode_same Replay = refl
mode_same Run = refl

title_right : (mode : Mode) (version : Version) → Tells (title mode) (codes "smp" ∷ version_text version ∷ mode_text mode ∷ [])
    (λ v. IsQuiet (codes "smp" ∷ version_text version ∷ mode_text mode ∷ [])) (Ok version)
title_right mode version =
    let fields = codes "smp" ∷ version_text version ∷ mode_text mode ∷ [] in (
      passes_word (title mode) fields 2 _ refl
          (passes (title mode) fields 1 versions refl (λ cause f. f) (passes_word (title mode) fields 0 _ refl (none_yet (title mode) fields))),
      (refl, refl),
    )

-- what reading the first tells
pub title_told : (mode : Mode) (fields : List (List ℕ)) → TellsLine (title mode ∷ []) fields (λ v. IsQuiet fields) (title_of mode fields)
title_told mode (a ∷ b ∷ c ∷ []) = elim (cases_Bool (bytes_eq a (codes "smp"))) [
  | inr no_a ↦ shapeless (skips_word a (b ∷ c ∷ []) (codes "smp") (drop 1 (title mode)) [] no_a) (rw no_a refl)
  | inl is_a ↦ elim (cases_Bool (bytes_eq c (mode_text mode))) [
    | inr no_c ↦ shapeless (rw no_c refl) (rw (is_a, no_c) refl)
    | inl is_c ↦ elim (cases_Bool (bytes_eq b (version_text One))) [
      | inl is_b ↦ rw (same_word a (codes "smp") is_a, same_word b (version_text One) is_b, same_word c (mode_text mode) is_c)
          (shaped (title mode) (Ok One) (rw (mode_same mode) refl) (rw (mode_same mode) refl) (title_right mode One))
      | inr no_one ↦ elim (cases_Bool (bytes_eq b (version_text Two))) [
        | inl is_b ↦ rw (same_word a (codes "smp") is_a, same_word b (version_text Two) is_b, same_word c (mode_text mode) is_c)
            (shaped (title mode) (Ok Two) (rw (mode_same mode) refl) (rw (mode_same mode) refl) (title_right mode Two))
        | inr no_two ↦ shapeless (rw (is_c, no_one, no_two) refl) (rw (is_a, is_c, no_one, no_two) refl)
      ]
    ]
  ]
]
title_told mode _ = shapeless refl refl
