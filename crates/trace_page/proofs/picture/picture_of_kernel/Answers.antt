use Rattle.std.proofs.Common.{◌≡◌, ℕ, true, List, Result, Ok, Err, Vec, rules}
use Rattle.trace_ftrace.specs.Kept.{KeptValue}
use Rattle.trace_ftrace.specs.KeptView.{kept_value}
use Rattle.trace_ftrace.specs.Reading.{reading_of}
use Rattle.trace_ftrace.specs.Telling.{TellingValue}
use Rattle.trace_ftrace.specs.ToldView.{telling_value}
use Rattle.trace_ftrace.specs.declared.wrong.Refusal.TheVariants as refusal
use Rattle.trace_page.specs.Pictures.{IsPicture, PicturesKernel}
use Rattle.trace_page.specs.Windows.{HasLine}
use Rattle.trace_page.specs.declared.picture.NoPicture.{NoPicture}
use Rattle.trace_page.specs.declared.picture.NoPicture.TheVariants as missing
use Rattle.trace_page.proofs.picture.picture_of_kernel.Goals as goal

-- what was made of what is read of a text is what is made of the text
of_text : {A : Type 0} (made : Result (Vec ℕ A) NoPicture) (skip line : ℕ) (text : List ℕ) (k : KeptValue) (t : TellingValue)
    → HasLine true line text → reading_of skip text ≡ Ok (k, t) → IsPicture made line k t → PicturesKernel made skip line text
of_text (Ok out) skip line text k t h r p = (h, k, t, r, p)
of_text (Err missing.Line) skip line text k t h r p = absurd p
of_text (Err missing.Events) skip line text k t h r p = (h, k, t, r, p)
of_text (Err (missing.Text refusal.NoMemory)) skip line text k t h r p = h
of_text (Err (missing.Text refusal.TooLong)) skip line text k t h r p = absurd p
of_text (Err (missing.Text refusal.LongTrace)) skip line text k t h r p = absurd p
of_text (Err (missing.Text refusal.Unplaced)) skip line text k t h r p = absurd p
of_text (Err (missing.Text (refusal.Wrong number why))) skip line text k t h r p = absurd p

pub returns : goal.returns
returns g c =
    of_text c.read_picture.result c.args.skip c.args.line c.args.text.now (kept_value c.in-Ok.reading.kept) (telling_value c.in-Ok.reading.telling)
    (search rules) c.in-Ok.ensures c.read_picture.ensures
