-- One line of the verdict.
use Rattle.std.proofs.Common.{◌≡◌, ℕ, ◌+◌, Result, List, [], ◌∷◌, Ok, Err, refl, ap, ◌∙◌, sym}
use Rattle.smp_script.specs.Lines.{Line}
use Rattle.trace_judge.specs.declared.early_end.EarlyEnd.{EarlyEnd}
use Rattle.trace_judge.specs.declared.early_end.EarlyEnd.TheVariants.{Fault, Broken, NoMemory}
use Rattle.trace_model.specs.declared.without.Setting.{Setting}
use Rattle.trace_judge.specs.Judged.{Judges, judged, line_goes, used_after}
use Rattle.trace_model.specs.State.{StateValue}

-- a line that goes on is left behind
pub judged_on : (u : Setting) (n used events : ℕ) (lines : List Line) (s : StateValue) (l : Line) (ls : List Line) (more count : ℕ) (t : StateValue)
    → lines ≡ l ∷ ls → used_after n used l ≡ Ok more → line_goes u n events l.text s ≡ Ok (count, t)
    → judged u (n + 1) more count ls t ≡ judged u n used events lines s
unfolding judged
judged_on u n used events lines s l ls more count t e used_is g = sym (rw (e, used_is, g))

-- a line that is at fault is the end
judged_fault : (u : Setting) (n used events : ℕ) (lines : List Line) (s : StateValue) (l : Line) (ls : List Line) (why : EarlyEnd)
    → lines ≡ l ∷ ls → used_after n used l ≡ Err why → judged u n used events lines s ≡ Err why
unfolding judged
judged_fault u n used events lines s l ls why e used_is = rw (e, used_is)

-- and so is one whose event is refused
judged_end : (u : Setting) (n used events : ℕ) (lines : List Line) (s : StateValue) (l : Line) (ls : List Line) (more : ℕ) (why : EarlyEnd)
    → lines ≡ l ∷ ls → used_after n used l ≡ Ok more → line_goes u n events l.text s ≡ Err why → judged u n used events lines s ≡ Err why
unfolding judged
judged_end u n used events lines s l ls more why e used_is g = rw (e, used_is, g)

-- behind the last line
pub judged_all : (u : Setting) (n used events : ℕ) (lines : List Line) (s : StateValue) → lines ≡ [] → judged u n used events lines s ≡ Ok (events, s)
unfolding judged
judged_all u n used events lines s e = rw e

-- the verdict of a trace that ends so, whatever leads there
judges : (why : EarlyEnd) (new : StateValue) (verdict : Result (ℕ × StateValue) EarlyEnd) → verdict ≡ Err why → Judges (Err why) new verdict
judges (Fault n cause) new verdict e = e
judges (Broken n cpu event reason) new verdict e = e
judges NoMemory new verdict e = tt

-- the same of a verdict from an earlier line on
pub judges_fault : (u : Setting) (n used events : ℕ) (lines : List Line) (s : StateValue) (l : Line) (ls : List Line) (why : EarlyEnd) (new : StateValue)
    (verdict : Result (ℕ × StateValue) EarlyEnd) → judged u n used events lines s ≡ verdict → lines ≡ l ∷ ls → used_after n used l ≡ Err why
    → Judges (Err why) new verdict
judges_fault u n used events lines s l ls why new verdict v e used_is = judges why new verdict (sym v ∙ judged_fault u n used events lines s l ls why e used_is)

pub judges_end : (u : Setting) (n used events : ℕ) (lines : List Line) (s : StateValue) (l : Line) (ls : List Line) (more : ℕ) (why : EarlyEnd)
    (new t : StateValue)
    (verdict : Result (ℕ × StateValue) EarlyEnd) → judged u n used events lines s ≡ verdict → lines ≡ l ∷ ls → used_after n used l ≡ Ok more
    → Judges (Err why) t (line_goes u n events l.text s) → Judges (Err why) new verdict
judges_end u n used events lines s l ls more (Fault m cause) new t verdict v e used_is g = sym v ∙ judged_end u n used events lines s l ls more
    (Fault m cause) e used_is g
judges_end u n used events lines s l ls more (Broken m cpu event reason) new t verdict v e used_is g =
    sym v ∙ judged_end u n used events lines s l ls more (Broken m cpu event reason) e used_is g
judges_end u n used events lines s l ls more NoMemory new t verdict v e used_is g = tt
