-- Texts one after the other, as a loop writes them.
use Rattle.std.proofs.Common.{◌≡◌, ℕ, ◌+◌, List, ◌++◌, refl, sym, add-one, append_assoc, append-nil}
use Rattle.trace_judge.specs.Text.{texts_below}

pub texts_none : (text : ℕ → List ℕ) (first : List ℕ) → first ≡ first ++ texts_below text 0
unfolding texts_below
texts_none text first = sym (append-nil first)

pub texts_more : (text : ℕ → List ℕ) (n : ℕ) (first out next : List ℕ) → out ≡ first ++ texts_below text n → next ≡ out ++ text n
    → next ≡ first ++ texts_below text (n + 1)
unfolding texts_below
texts_more text n first out next e f = rw (add-one, f, e, append_assoc) refl
