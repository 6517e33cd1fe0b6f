-- What is answered once one line more is.
use Rattle.std.proofs.Common.{◌≡◌, ℕ, ◌+◌, ◌<◌, List, length, slice_index_or, slice_set, inl, inr, sym, subst, ◌∙◌, arith}
use Rattle.std.proofs.lemmas.Bool.{cases_eq}
use Rattle.std.proofs.lemmas.List.{get_or-set_same, get_or-set_other, get_or_default}
use Rattle.smp_script.specs.declared.directive.Directive.{Directive}
use Rattle.smp_run.specs.declared.answer.Answer.{Answer}
use Rattle.smp_run.specs.Answers.{IsLineAnswer, AnsweredBelow, cpu_of}

-- the answer of the line at this place is stored at the place
answered_here : (online keys this : ℕ) (lines : List Directive) (answers : List Answer) (n : ℕ) (line : Directive) (answer : Answer) → n < length lines
    → n < length answers → line ≡ slice_index_or lines n line → (cpu_of line ≡ this → IsLineAnswer online keys line answer) → (l : Directive) (a : Answer)
    → cpu_of (slice_index_or lines n l) ≡ this → IsLineAnswer online keys (slice_index_or lines n l) (slice_index_or (slice_set answers n answer) n a)
answered_here online keys this lines answers n line answer low room is told l a mine =
    let same : line ≡ slice_index_or lines n l = is ∙ get_or_default lines n line l low in
    let kept = told (subst (λ (x : Directive). cpu_of x ≡ this) (sym same) mine) in
    subst (λ (x : Answer). IsLineAnswer online keys (slice_index_or lines n l) x) (sym (get_or-set_same answers n answer a room))
    (subst (λ (x : Directive). IsLineAnswer online keys x answer) same kept)

pub answered_more : (online keys this : ℕ) (lines : List Directive) (answers : List Answer) (n : ℕ) (line : Directive) (answer : Answer) → n < length lines
    → length answers ≡ length lines → line ≡ slice_index_or lines n line → (cpu_of line ≡ this → IsLineAnswer online keys line answer)
    → AnsweredBelow online keys (λ c. c ≡ this) lines answers n → AnsweredBelow online keys (λ c. c ≡ this) lines (slice_set answers n answer) (n + 1)
answered_more online keys this lines answers n line answer low sized is told was i l a below mine = elim (cases_eq i n) [
  | inl e ↦
      subst (λ (j : ℕ). IsLineAnswer online keys (slice_index_or lines j l) (slice_index_or (slice_set answers n answer) j a)) (sym e)
      (answered_here online keys this lines answers n line answer low (omega arith) is told l a
      (subst (λ (j : ℕ). cpu_of (slice_index_or lines j l) ≡ this) e mine))
  | inr other ↦
      subst (λ (x : Answer). IsLineAnswer online keys (slice_index_or lines i l) x) (sym (get_or-set_other answers n i answer a other))
      (was i l a (omega (arith, other)) mine)
]
