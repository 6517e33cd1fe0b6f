-- Lists whose items are numbered.
use Rattle.std.proofs.Common.{◌≡◌, ℕ, suc, ◌+◌, ◌<◌, List, [], ◌∷◌, ◌++◌, length, slice_index_or, take, sym, ap, ◌∙◌, append_assoc, append-nil, arith}
use Rattle.std.proofs.lemmas.List.{take_more, length-take-le, get_or_default}
use Rattle.smp_run.specs.Text.{numbered}

pub numbered-append : {X Y : Type 0} (f : ℕ → X → List Y) (n : ℕ) (xs ys : List X)
    → numbered f n (xs ++ ys) ≡ numbered f n xs ++ numbered f (n + length xs) ys
unfolding numbered
numbered-append f n [] ys = ap (λ (m : ℕ). numbered f m ys) (omega arith)
numbered-append f n (x ∷ xs) ys =
    ap (λ t. f n x ++ t) (numbered-append f (n + 1) xs ys)
    ∙ ap (λ (m : ℕ). f n x ++ (numbered f (n + 1) xs ++ numbered f m ys)) (omega arith)
    ∙ sym (append_assoc (f n x) (numbered f (n + 1) xs) (numbered f (n + suc (length xs)) ys))

-- one item more
pub numbered_one : {X Y : Type 0} (f : ℕ → X → List Y) (n : ℕ) (xs : List X) (x : X) → numbered f n (xs ++ x ∷ []) ≡ numbered f n xs ++ f (n + length xs) x
unfolding numbered
numbered_one f n xs x = numbered-append f n xs (x ∷ []) ∙ ap (λ t. numbered f n xs ++ t) (append-nil (f (n + length xs) x))

-- nothing is written yet
pub none_written : {X Y : Type 0} (f : ℕ → X → List Y) (n : ℕ) (xs : List X) (first : List Y) → first ≡ first ++ numbered f n (take 0 xs)
unfolding numbered
none_written f n xs first = sym (append-nil first)

-- one item more is written
pub more_written : {X Y : Type 0} (f : ℕ → X → List Y) (n i number : ℕ) (xs : List X) (x : X) (out next first : List Y) → i < length xs
    → x ≡ slice_index_or xs i x → number ≡ n + i → out ≡ first ++ numbered f n (take i xs) → next ≡ out ++ f number x
    → next ≡ first ++ numbered f n (take (i + 1) xs)
more_written f n i number xs x out next first below is counted e more =
    let long : length (take i xs) ≡ i = length-take-le i xs (omega arith) in
    let grown : numbered f n (take (i + 1) xs) ≡ numbered f n (take i xs) ++ f number x =
    ap (λ l. numbered f n l) (take_more xs i x below) ∙ numbered_one f n (take i xs) (slice_index_or xs i x)
    ∙ ap (λ (m : ℕ). numbered f n (take i xs) ++ f m (slice_index_or xs i x)) (omega (arith, long, counted))
    ∙ ap (λ y. numbered f n (take i xs) ++ f number y) (sym is) in
    more ∙ ap (λ t. t ++ f number x) e ∙ append_assoc first (numbered f n (take i xs)) (f number x) ∙ ap (λ t. first ++ t) (sym grown)

-- the same of an item that is read by its number
pub more_written_at : {X Y : Type 0} (f : ℕ → X → List Y) (i : ℕ) (xs : List X) (d : X) (out next first : List Y) → i < length xs
    → out ≡ first ++ numbered f 0 (take i xs) → next ≡ out ++ f i (slice_index_or xs i d) → next ≡ first ++ numbered f 0 (take (i + 1) xs)
more_written_at f i xs d out next first below e more =
    more_written f 0 i i xs (slice_index_or xs i d) out next first below (get_or_default xs i d (slice_index_or xs i d) below) (omega arith) e more
