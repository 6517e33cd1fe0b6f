-- What a step prints, and what a refused event does.
use Rattle.std.specs.Prelude.{ℕ, List, [], ◌∷◌, ◌++◌, Option, Some, None, unwrap_or, codes}
use Rattle.std.specs.Fmt.{decimal}
use Rattle.std.specs.List.{flat_map}
use Rattle.smp_mask.specs.declared.error.SmpError.{SmpError}
use Rattle.smp_words.specs.declared.seen.Act.{Act}
use Rattle.smp_words.specs.declared.seen.Act.TheVariants as acts
use Rattle.smp_words.specs.declared.seen.Note.{Note}
use Rattle.smp_words.specs.declared.seen.Seen.{Seen}
use Rattle.smp_script.specs.Errors.{error_number}
use Rattle.smp_script.specs.Printed.{note_text, word_text}

abbrev pub act_text : Act → List ℕ
act_text acts.Load = codes "load"
act_text acts.Store = codes "store"
act_text acts.Swap = codes "swap"
act_text acts.Sub = codes "sub"
act_text acts.And = codes "and"
act_text acts.Cas = codes "cas"

-- a compare-exchange puts a number where it won
abbrev pub cas_text : ℕ → Option ℕ → List ℕ
cas_text found (Some put) = decimal found ++ codes " > " ++ decimal put
cas_text found None = decimal found ++ codes " kept"

-- of a store the number put, of all else the number found
abbrev pub value_text : Act → Option ℕ → Option ℕ → List ℕ
value_text acts.Store found put = decimal (unwrap_or put 0)
value_text acts.Cas found put = cas_text (unwrap_or found 0) put
value_text _ found put = decimal (unwrap_or found 0)

-- a note comes behind a semicolon
abbrev pub after_step : Option Note → List ℕ
after_step None = codes ""
after_step (Some note) = codes " ; " ++ note_text note

-- a step without its CPU: ACT WORD VALUE, and its note
abbrev pub step_text : Seen → List ℕ
step_text seen = act_text seen.act ++ codes " " ++ word_text seen.word ++ codes " " ++ value_text seen.act seen.found seen.put ++ after_step seen.note

-- the line of a step
abbrev pub seen_text : Seen → List ℕ
seen_text seen = decimal seen.cpu ++ codes " " ++ step_text seen ++ 10 ∷ []

-- the line of a refused event, by its position
abbrev pub stopped_text : ℕ → SmpError → List ℕ
stopped_text position error = codes "stopped " ++ decimal position ++ codes " E" ++ decimal (error_number error) ++ 10 ∷ []

-- numbers, each behind a space
abbrev pub spaced : ℕ → List ℕ
spaced n = codes " " ++ decimal n

abbrev pub list_text : List ℕ → List ℕ
list_text numbers = flat_map spaced numbers
