-- The function calls that steps say are those of the calls that begin.
use Rattle.std.proofs.Common.{arith, ◌≡◌, ℕ, ◌==◌, false, cond, inl, inr, Option, List, [], ◌∷◌, ◌++◌, sym, refl, ap, ◌∙◌}
use Rattle.std.proofs.Common.{append_assoc}
use Rattle.std.proofs.lemmas.List.{append-nil}
use Rattle.smp_words.proofs.Puts.{at_test}
use Rattle.smp_call_steps.specs.{CallState, Running, Nothing, runs_as, ends_as, ToldCalls, told_of, is_call, FunctionGoes, begun_in, Said, all_said, call_in}
use Rattle.smp_call_steps.specs.{said_by, SaysWhatBegins, running_call, Call, Class, Note, Seen}

all_said-append : (xs ys : List Call) → all_said (xs ++ ys) ≡ all_said xs ++ all_said ys
all_said-append [] ys = refl
all_said-append (x ∷ xs) ys = ap (λ (s : List Said). all_said (x ∷ []) ++ s) (all_said-append xs ys)

-- while its function runs, and as it ends, a call is the one that runs
runs_one : (class : Class) (call : Call) → running_call (runs_as class call) ≡ call ∷ []
runs_one x call = search arith

ends_one : (class : Class) (call : Call) → running_call (ends_as class call) ≡ call ∷ []
ends_one x call = search arith

module _ (a b : CallState) (me : ℕ) (said : Option Note) (cpu : ℕ) where
  abbrev Says : Type 0
  Says = all_said (begun_in (told_of b) cpu) ≡ all_said (begun_in (told_of a) cpu) ++ cond (cpu == me) (call_in said) []

  -- a step that leaves what has begun as it was, and says nothing
  same_begun : begun_in (told_of b) cpu ≡ begun_in (told_of a) cpu → is_call said ≡ false → Says
  same_begun e s = search (append-nil, arith)

  pub says_what_begins : FunctionGoes a b me said → Says
  says_what_begins (inl k) = same_begun (ap (λ (t : ToldCalls). begun_in t cpu) k.same) k.says
  says_what_begins (inr (inl k)) = search (at_test, runs_one, all_said-append, append-nil, arith)
  says_what_begins (inr (inr (inl k))) = search (same_begun, at_test, arith)
  says_what_begins (inr (inr (inr k))) =
      same_begun (ap (λ (t : ToldCalls). begun_in t cpu) k.ends
      ∙ at_test cpu me
      (λ x. cond x (a.ran me ++ k.call ∷ []) (a.ran cpu) ++ running_call (cond x Nothing (a.running cpu)) ≡ a.ran cpu ++ running_call (a.running cpu))
      (λ e. append-nil (a.ran me ++ k.call ∷ []) ∙ ((λ i. a.ran (sym e i) ++ sym (ends_one k.call.class k.call) i)
      ∙ ap (λ (r : Running). a.ran cpu ++ running_call r) (sym (ap a.running e ∙ k.was)))) (λ ne. refl)) k.says

-- of one step, and of some steps and then others

pub says_one : (a b : CallState) (seen : Seen) → FunctionGoes a b seen.cpu seen.note → SaysWhatBegins a (seen ∷ []) b
says_one a b seen goes cpu = search (says_what_begins, append-nil, arith)

pub says_none : (a : CallState) → SaysWhatBegins a [] a
says_none a cpu = sym (append-nil (all_said (begun_in (told_of a) cpu)))

said_by-append : (cpu : ℕ) (xs ys : List Seen) → said_by cpu (xs ++ ys) ≡ said_by cpu xs ++ said_by cpu ys
said_by-append cpu [] ys = refl
said_by-append cpu (x ∷ xs) ys = search (append_assoc, said_by-append cpu xs ys, arith)

pub says_then : (a b c : CallState) (xs ys : List Seen) → SaysWhatBegins a xs b → SaysWhatBegins b ys c → SaysWhatBegins a (xs ++ ys) c
says_then a b c xs ys first second cpu = search (append_assoc, said_by-append, arith)
