-- What a line is that is read.
use Rattle.smp_script.proofs.Names.{not, and_parts, ◌≡◌, ℕ, true, ◌==◌, List, [], ◌∷◌, length, Ok, refl, sym, ap, ◌∙◌, join_with_byte, list_all, Word}
use Rattle.smp_script.proofs.Names.{Directive, Mode, Replay, Run, Setting, are_whole, directive_of, line_directive, mode_line, fields_of, DirectiveFits, Masks}
use Rattle.smp_script.proofs.Names.{SpellLine, directive_words, is_field, lacks}
use Rattle.smp_script.proofs.Spelled.ReadParts.{guarded}
use Rattle.smp_script.proofs.Rows.ReplayRows.{replay_are, replay_rows, replay_same}
use Rattle.smp_script.proofs.Rows.Rows.{rows_said}
use Rattle.smp_script.proofs.Rows.RunRows.{run_are, run_rows, run_same}
use Rattle.smp_script.proofs.Rows.Words.{AreWords}
use Rattle.smp_script.proofs.Texts.Splits.{join_parts, parts_lack, parts_lack_marks}

-- fields that are not empty and have no space and no line feed
pub are_fields : (ts : List (List ℕ)) → are_whole ts ≡ true → list_all (lacks 32) ts ≡ true → list_all (lacks 10) ts ≡ true → list_all is_field ts ≡ true
are_fields [] whole spaces feeds = refl
are_fields (t ∷ ts) whole spaces feeds =
    let w = and_parts (not (length t == 0)) (are_whole ts) whole in
    let s = and_parts (lacks 32 t) (list_all (lacks 32) ts) spaces in
    let f = and_parts (lacks 10 t) (list_all (lacks 10) ts) feeds in
    rw (w.0, s.0, f.0, are_fields ts w.1 s.1 f.1) refl

pub line_fields : (text : List ℕ) → lacks 10 text ≡ true → are_whole (fields_of text) ≡ true → list_all is_field (fields_of text) ≡ true
line_fields text on_line whole = are_fields (fields_of text) whole (parts_lack_marks 32 text) (parts_lack 32 10 text on_line)

-- a text that reads as a line is a spelling of it
pub record IsLine (setting : Setting) (text : List ℕ) (d : Directive) : Type 0 where
  pub masks : Masks
  pub text_is : text ≡ join_with_byte 32 (directive_words masks d)
  pub spell : SpellLine setting.limit (masks, d)
  pub fit : DirectiveFits setting.mode setting.online d

-- the fields of a line that is read are its words
words_ok : (mode : Mode) (limit mask : ℕ) (word : List ℕ) (rest : List (List ℕ)) (d : Directive) → are_whole (word ∷ rest) ≡ true
    → mode_line mode limit mask word rest ≡ Ok d → AreWords mode limit mask (word ∷ rest) d
words_ok Replay limit mask word rest d whole h =
    rows_said (AreWords Replay limit mask) (replay_rows limit) (word ∷ rest) d (replay_are limit mask) whole (sym (replay_same limit word rest) ∙ h)
words_ok Run limit mask word rest d whole h =
    rows_said (AreWords Run limit mask) (run_rows limit mask) (word ∷ rest) d (run_are limit mask) whole (sym (run_same limit mask word rest) ∙ h)

directive_ok : (setting : Setting) (fields : List (List ℕ)) (d : Directive) → are_whole fields ≡ true → directive_of setting fields ≡ Ok d
    → AreWords setting.mode setting.limit setting.online fields d
directive_ok setting [] d whole h = cc
directive_ok setting (word ∷ rest) d whole h = words_ok setting.mode setting.limit setting.online word rest d whole h

pub line_ok : (setting : Setting) (text : List ℕ) (d : Directive) → lacks 10 text ≡ true → line_directive setting text ≡ Ok d → IsLine setting text d
unfolding line_directive
line_ok setting text d on_line h =
    let fields = fields_of text in
    let g = guarded (are_whole fields) (directive_of setting fields) Word d h in
    let w = directive_ok setting fields d g.0 g.1 in
    record { masks = w.masks; text_is = sym (join_parts 32 text) ∙ ap (join_with_byte 32) w.words; spell = w.spell (line_fields text on_line g.0); fit = w.fit }
