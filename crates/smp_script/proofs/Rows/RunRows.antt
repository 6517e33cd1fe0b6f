-- The rows of a run: what its lines ask for, by their shapes.
use Rattle.smp_script.proofs.Names.{◌≡◌, ℕ, ◌≤◌, Bool, true, false, List, [], ◌∷◌, map, Result, Ok, Err, codes, refl, arith, inl, inr, sym, ap, ◌∙◌}
use Rattle.smp_script.proofs.Names.{AllByRecursion, bytes_eq, cases_Bool, Cause, Word, NR_CPUS, Directive, Do, Run, Which, All, Even, Odd, run_line, ◌>>=◌}
use Rattle.smp_script.proofs.Names.{among, do_of, member_of, operation_of, repeated, wait_of, which_of, Form, active, bits, cpu_list, func_arg, func_info}
use Rattle.smp_script.proofs.Names.{number, operation, operations, is_one_of, switch, wait, which, mask_of, word16, word64, number_in}
use Rattle.smp_script.specs.declared.request.Request.{Request}
use Rattle.smp_script.specs.declared.request.Request.TheVariants as request
use Rattle.smp_script.proofs.Reader.Widths.{AreCpus}
use Rattle.smp_script.proofs.Rows.Forms.{ForEach, Known, of_one}
use Rattle.smp_script.proofs.Rows.Rows.{◌⨾◌, IsRow, Makes, Row, are_rows, bind_assoc, by_text, choose, cond_bind, cond_same, read_rows}
use Rattle.smp_script.proofs.Rows.Words.{AreWords, masked, plain}
use Rattle.smp_script.proofs.Spelled.ReadParts.{same_word}
use Rattle.smp_script.proofs.Texts.Decimals.{value_of_decimal}

abbrev pub which_in : List ℕ → Which
which_in = by_text ((codes "all", All) ∷ (codes "even", Even) ∷ []) Odd

abbrev pub waits : List ℕ → Bool
waits w = bytes_eq w (codes "wait")

-- a row of that name, by what is made of the fields behind it
abbrev named : ℕ → List ℕ → (forms : List Form) → (ℕ → ℕ → Makes forms Directive) → Row Directive
named cpus name forms make = record { forms = operation cpus (name, forms); make = λ do_ cpu count name. make cpu count }

-- the rows, where CPUs of masks have to be below the limit, and the CPU of the line is one of these
abbrev pub run_rows : ℕ → ℕ → List (Row Directive)
run_rows limit cpus = named cpus (codes "sync") (bits 32 ∷ func_info) (λ cpu count dst func info. Do cpu count (request.Single true dst func info))
    ∷ named cpus (codes "async") (bits 32 ∷ func_info) (λ cpu count dst func info. Do cpu count (request.Single false dst func info))
    ∷ named cpus (codes "user") (number 0 1 ∷ bits 32 ∷ func_info) (λ cpu count user dst func info. Do cpu count (request.User user dst func info))
    ∷ named cpus (codes "any") (wait ∷ cpu_list limit ∷ func_info) (λ cpu count w mask func info. Do cpu count (request.Any (waits w) mask func info))
    ∷ named cpus (codes "many") (wait ∷ cpu_list limit ∷ func_info) (λ cpu count w mask func info. Do cpu count (request.Many (waits w) mask func info))
    ∷ named cpus (codes "cond") (which ∷ wait ∷ cpu_list limit ∷ func_info)
    (λ cpu count c w mask func info. Do cpu count (request.Cond (which_in c) (waits w) mask func info))
    ∷ named cpus (codes "one") (bits 32 ∷ func_arg) (λ cpu count dst func arg. Do cpu count (request.One dst func arg))
    ∷ named cpus (codes "two") (bits 32 ∷ bits 32 ∷ func_arg) (λ cpu count a b func arg. Do cpu count (request.Two a b func arg))
    ∷ named cpus (codes "machine") (active limit ∷ func_arg) (λ cpu count mask func arg. Do cpu count (request.Machine mask func arg))
    ∷ named cpus (codes "set") (bits 32 ∷ switch ∷ []) (λ cpu count key on. Do cpu count (request.Set key (bytes_eq on (codes "on"))))
    ∷ named cpus (codes "inc") (bits 32 ∷ []) (λ cpu count key. Do cpu count (request.Inc key))
    ∷ named cpus (codes "dec") (bits 32 ∷ []) (λ cpu count key. Do cpu count (request.Dec key))
    ∷ []

abbrev names : ℕ → List (List ℕ)
names limit = map (λ op. op.0) (operations limit)

-- a line is read by its row
abbrev ByRow : ℕ → ℕ → List (List ℕ) → Result Directive Cause → Type 0
ByRow limit cpus fields read = read ≡ read_rows (run_rows limit cpus) fields

abbrev Named : ℕ → ℕ → List ℕ → List ℕ → List (List ℕ) → List ℕ → Type 0
Named limit cpus cpu count arguments name =
    ByRow limit cpus (codes "do" ∷ cpu ∷ count ∷ name ∷ arguments) (operation_of limit name arguments >>= repeated cpus cpu count)

-- the two words of `cond`, and what is read after them
two_words : (c w : List ℕ) (inner : Which → Bool → Result Request Cause) (then : Result Request Cause → Result Directive Cause)
    (flat : Which → Bool → Result Directive Cause) → ((x : Which) (b : Bool) → then (inner x b) ≡ flat x b)
    → ((which_of c >>= λ x. wait_of w >>= λ b. Ok (inner x b)) >>= then)
    ≡ choose (codes "all" ∷ codes "even" ∷ codes "odd" ∷ []) c (λ t.
    choose (codes "wait" ∷ codes "nowait" ∷ []) w (λ u. flat (which_in t) (waits u)) (Err Word)) (Err Word)
two_words c w inner then flat same = simp (cond_bind, same)

cond_same_words : (limit cpus : ℕ) (cpu count c w m func info : List ℕ) → Named limit cpus cpu count (c ∷ w ∷ m ∷ func ∷ info ∷ []) (codes "cond")
unfolding repeated
cond_same_words limit cpus cpu count c w m func info = two_words c w (λ x b. among (request.Cond x b) limit m func info) (repeated cpus cpu count) (λ x b.
    member_of cpus cpu >>= λ p. number_in 1 10000 count >>= λ n. mask_of limit m >>= λ s. word16 func >>= λ f. word64 info >>= λ i.
    Ok (Do p n (request.Cond x b s f i))) (λ x b. simp bind_assoc)

named_four : (limit cpus : ℕ) (cpu count a b c d : List ℕ) → ForEach (Named limit cpus cpu count (a ∷ b ∷ c ∷ d ∷ [])) (names limit)
unfolding repeated
named_four limit cpus cpu count a b c d =
    let is_user : Named limit cpus cpu count (a ∷ b ∷ c ∷ d ∷ []) (codes "user") = simp (bind_assoc, cond_bind) in
    let is_any : Named limit cpus cpu count (a ∷ b ∷ c ∷ d ∷ []) (codes "any") = simp (bind_assoc, cond_bind) in
    let is_many : Named limit cpus cpu count (a ∷ b ∷ c ∷ d ∷ []) (codes "many") = simp (bind_assoc, cond_bind) in
    let is_two : Named limit cpus cpu count (a ∷ b ∷ c ∷ d ∷ []) (codes "two") = simp (bind_assoc, cond_bind) in
    (refl, (refl, (is_user, (is_any, (is_many, (refl, (refl, (is_two, (refl, (refl, (refl, (refl, tt))))))))))))

named_same : (limit cpus : ℕ) (cpu count : List ℕ) (arguments : List (List ℕ)) → ForEach (Named limit cpus cpu count arguments) (names limit)
unfolding repeated
named_same limit cpus cpu count (a ∷ []) = simp (bind_assoc, cond_bind) assumption
named_same limit cpus cpu count (a ∷ b ∷ []) = simp (bind_assoc, cond_bind) assumption
named_same limit cpus cpu count (a ∷ b ∷ c ∷ []) = search (bind_assoc, cond_bind, arith)
named_same limit cpus cpu count (a ∷ b ∷ c ∷ d ∷ []) = named_four limit cpus cpu count a b c d
named_same limit cpus cpu count (a ∷ b ∷ c ∷ d ∷ e ∷ []) = search (cond_same_words, arith)
named_same limit cpus cpu count _ = assumption

-- a name that is none of these
not_word : (ws : List (List ℕ)) (name : List ℕ) → is_one_of ws name ≡ false → (w : List ℕ) → is_one_of ws w ≡ true → bytes_eq name w ≡ false
not_word ws name none w is = elim (cases_Bool (bytes_eq name w)) [
  | inr other ↦ other
  | inl same ↦ let bad : true ≡ false = sym is ∙ ap (is_one_of ws) (sym (same_word name w same)) ∙ none in cc
]

-- an operation, by its name
operation_same : (limit cpus : ℕ) (cpu count name : List ℕ) (arguments : List (List ℕ)) → Named limit cpus cpu count arguments name
operation_same limit cpus cpu count name arguments = elim (cases_Bool (is_one_of (names limit) name)) [
  | inl is ↦ of_one (Named limit cpus cpu count arguments) (names limit) name (named_same limit cpus cpu count arguments) is
  | inr none ↦ simp (not_word (names limit) name none, cond_same)
]

do_same : (limit cpus : ℕ) (rest : List (List ℕ)) → ByRow limit cpus (codes "do" ∷ rest) (do_of limit cpus rest)
do_same limit cpus (cpu ∷ count ∷ name ∷ arguments) = operation_same limit cpus cpu count name arguments
do_same limit cpus _ = refl

-- the fields of a line
pub run_same : (limit cpus : ℕ) (word : List ℕ) (rest : List (List ℕ)) → ByRow limit cpus (word ∷ rest) (run_line limit cpus word rest)
run_same limit cpus word rest = elim (cases_Bool (bytes_eq word (codes "do"))) [
  | inl is ↦ rw (same_word word (codes "do") is) (do_same limit cpus rest)
  | inr other ↦ simp (other, cond_same)
]

-- what the rows make are such lines
pub run_are : (limit cpus : ℕ) → AllByRecursion (IsRow (AreWords Run limit cpus)) (run_rows limit cpus)
run_are limit cpus = are_rows (AreWords Run limit cpus) (run_rows limit cpus) (omega arith) (
    search (plain, arith) ⨾ search (plain, arith) ⨾ search (plain, arith)
    ⨾ search (masked 5, arith) ⨾ search (masked 5, arith)
    ⨾ (λ cpu small on count lo hi. search (masked 6, arith) ⨾ search (masked 6, arith) ⨾ search (masked 6, arith) ⨾ tt)
    ⨾ search (plain, arith) ⨾ search (plain, arith) ⨾ search (masked 4, plain, arith)
    ⨾ search (plain, value_of_decimal, arith) ⨾ search (plain, value_of_decimal, arith) ⨾ search (plain, value_of_decimal, arith) ⨾ tt)

pub run_known : (limit cpus : ℕ) → limit ≤ NR_CPUS → AreCpus cpus → AllByRecursion (λ row. AllByRecursion Known row.forms) (run_rows limit cpus)
run_known limit cpus few are = assumption
