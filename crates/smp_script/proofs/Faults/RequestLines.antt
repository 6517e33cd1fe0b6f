-- What reading a line tells that is no title, no table and no labels.
use Rattle.smp_script.proofs.Names.{◌≡◌, ℕ, ◌≤◌, Bool, true, false, ◌&&◌, List, [], ◌∷◌, None, codes, refl, inl, inr, find, list_all, cases_Bool, NR_CPUS}
use Rattle.smp_script.proofs.Names.{Directive, Mode, Replay, Run, Setting, are_whole, directive_of, mode_line, whole_directive, has_shape, mode_requests}
use Rattle.smp_script.proofs.Names.{requests}
use Rattle.smp_script.proofs.Faults.LineShapes.{TellsLine, shapeless, has_texts, none_whole}
use Rattle.smp_script.proofs.Reader.Widths.{AreCpus}
use Rattle.smp_script.proofs.Rows.ReplayRows.{replay_are, replay_known, replay_rows, replay_same}
use Rattle.smp_script.proofs.Rows.Rows.{rows_told}
use Rattle.smp_script.proofs.Rows.RunRows.{run_are, run_known, run_rows, run_same}
use Rattle.smp_script.proofs.Rows.Words.{AreWords}

-- what the first two lines settle is lawful
pub record IsSound (setting : Setting) : Type 0 where
  pub few : setting.limit ≤ NR_CPUS
  pub cpus : AreCpus setting.online

-- these fields are the words of that line
abbrev pub Spells : Setting → List (List ℕ) → Directive → Type 0
Spells setting fields d = AreWords setting.mode setting.limit setting.online fields d

mode_told : (mode : Mode) (limit mask : ℕ) → limit ≤ NR_CPUS → AreCpus mask → (a : List ℕ) (rest : List (List ℕ)) → are_whole (a ∷ rest) ≡ true
    → TellsLine (mode_requests mode limit mask) (a ∷ rest) (AreWords mode limit mask (a ∷ rest)) (mode_line mode limit mask a rest)
mode_told Replay limit mask few cpus a rest whole =
    rw (replay_same limit a rest) (rows_told (AreWords Replay limit mask) (replay_rows limit) (a ∷ rest) (replay_are limit mask) (replay_known limit few) whole)
mode_told Run limit mask few cpus a rest whole = rw (run_same limit mask a rest)
    (rows_told (AreWords Run limit mask) (run_rows limit mask) (a ∷ rest) (run_are limit mask) (run_known limit mask few cpus) whole)

has_words : (mode : Mode) (limit mask : ℕ) → list_all has_texts (mode_requests mode limit mask) ≡ true
has_words Replay limit mask = refl
has_words Run limit mask = refl

no_fields : (mode : Mode) (limit mask : ℕ) → find (has_shape []) (mode_requests mode limit mask) ≡ None
no_fields Replay limit mask = refl
no_fields Run limit mask = refl

request_told : (setting : Setting) → IsSound setting → (fields : List (List ℕ)) → are_whole fields ≡ true
    → TellsLine (requests setting) fields (Spells setting fields) (directive_of setting fields)
request_told setting sound [] whole = shapeless (no_fields setting.mode setting.limit setting.online) refl
request_told setting sound (a ∷ rest) whole = mode_told setting.mode setting.limit setting.online sound.few sound.cpus a rest whole

-- where a field is empty, no shape
pub no_request : (setting : Setting) (fields : List (List ℕ)) → are_whole fields ≡ false → find (has_shape fields) (requests setting) ≡ None
no_request setting fields empty = none_whole fields (requests setting) (has_words setting.mode setting.limit setting.online) empty

pub line_told : (setting : Setting) → IsSound setting → (fields : List (List ℕ))
    → TellsLine (requests setting) fields (Spells setting fields) (whole_directive setting fields)
line_told setting sound fields = elim (cases_Bool (are_whole fields)) [
  | inl whole ↦ rw whole (request_told setting sound fields whole)
  | inr empty ↦ shapeless (no_request setting fields empty) (rw empty refl)
]

and_false : (b : Bool) → (b && false) ≡ false
and_false true = refl
and_false false = refl

mode_labels : (mode : Mode) (limit mask : ℕ) (rest : List (List ℕ)) → find (has_shape (codes "labels" ∷ rest)) (mode_requests mode limit mask) ≡ None
mode_labels Replay limit mask rest = simp and_false
mode_labels Run limit mask rest = simp and_false

-- nor where the first word is `labels`
pub no_labels : (setting : Setting) (rest : List (List ℕ)) → find (has_shape (codes "labels" ∷ rest)) (requests setting) ≡ None
no_labels setting rest = mode_labels setting.mode setting.limit setting.online rest
