-- The lines of a script, one by one.
use Rattle.smp_script.proofs.Names.{◌≡◌, ℕ, ◌+◌, ◌≤◌, ◌<◌, List, [], ◌∷◌, ◌++◌, Result, Ok, Err, true, false, refl, sym, ap, ◌∙◌, arith, append_assoc}
use Rattle.smp_script.proofs.Names.{append-nil, sum_by, sum_by-append, nat_tests, TooLong, Cut, SharedKey, SmpError, Directive, Setting, shares, Line, Fault}
use Rattle.smp_script.proofs.Names.{◌>>=◌, at_line, Fails, line_directive, events_of, directives_of}
use Rattle.smp_mask.specs.declared.error.SmpError.TheVariants as errors

-- the directives in front, and then what is read
abbrev pub with_front : List Directive → Result (List Directive) Fault → Result (List Directive) Fault
with_front front read = read >>= λ ds. Ok (front ++ ds)

-- where the reading of the lines stands
pub record Stands (setting : Setting) (n count : ℕ) (front : List Directive) (lines : List Line) (all : Result (List Directive) Fault) : Type 0 where
  pub told : with_front front (directives_of setting n count front lines) ≡ all
  pub line : n ≤ 2001
  pub events : count ≤ 100000
  pub total : sum_by events_of front ≡ count

front_push : (front : List Directive) (directive : Directive) (read : Result (List Directive) Fault)
    → with_front front (read >>= λ ds. Ok (directive ∷ ds)) ≡ with_front (front ++ directive ∷ []) read
front_push front directive (Ok directives) = ap Ok (sym (append_assoc front (directive ∷ []) directives))
front_push front directive (Err e) = refl

-- one line more
module _ {setting : Setting} {n events : ℕ} {front : List Directive} {lines : List Line} {all : Result (List Directive) Fault} (l : Line) (ls : List Line)
    (s : Stands setting n events front lines all) (e : lines ≡ l ∷ ls) where
  pub too_many : 2000 < n → all ≡ Err (n, TooLong)
  unfolding directives_of
  too_many h = search (nat_tests, arith)

  pub is_cut : n ≤ 2000 → l.ended ≡ false → all ≡ Err (n, Cut)
  unfolding directives_of
  is_cut h ended = search (nat_tests, arith)

  -- a line that is no directive's
  pub is_bad : n ≤ 2000 → l.ended ≡ true → (d : SmpError) → Fails d (at_line n (line_directive setting l.text)) → Fails d all
  unfolding directives_of
  is_bad h ended errors.NoMemory f = tt
  is_bad h ended (errors.BadScript k cause) f = search (nat_tests, arith)
  is_bad h ended _ f = absurd f

  -- the line with a key of another CPU
  pub is_of_another : n ≤ 2000 → l.ended ≡ true → (directive : Directive) → at_line n (line_directive setting l.text) ≡ Ok directive
      → shares front directive ≡ true → all ≡ Err (n, SharedKey)
  unfolding directives_of
  is_of_another h ended directive f shared = search (nat_tests, arith)

  -- the line that passes the limit of events
  pub is_past : n ≤ 2000 → l.ended ≡ true → (directive : Directive) → at_line n (line_directive setting l.text) ≡ Ok directive
      → shares front directive ≡ false → 100000 < events + events_of directive → all ≡ Err (n, TooLong)
  unfolding directives_of
  is_past h ended directive f apart past = search (nat_tests, arith)

  -- one directive more
  pub goes_on : n ≤ 2000 → l.ended ≡ true → (directive : Directive) → at_line n (line_directive setting l.text) ≡ Ok directive → shares front directive ≡ false
      → events + events_of directive ≤ 100000 → Stands setting (n + 1) (events + events_of directive) (front ++ directive ∷ []) ls all
  unfolding directives_of
  goes_on h ended directive f apart fits = search (nat_tests, front_push, sum_by-append, arith)

pub ends : {setting : Setting} {n events : ℕ} {front : List Directive} {lines : List Line} {all : Result (List Directive) Fault}
    → Stands setting n events front lines all → lines ≡ [] → all ≡ Ok front
unfolding directives_of
ends {setting} {n} {events} {front} s e = sym s.told ∙ ap (λ x. with_front front (directives_of setting n events front x)) e ∙ ap Ok (append-nil front)
