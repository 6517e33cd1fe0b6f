-- The calls that were sent and those that were queued, with one more.
use Rattle.std.proofs.Common.{arith, ◌≡◌, ◌≢◌, ℕ, Bool, false, cond, ◌==◌, List, [], ◌∷◌, ◌++◌, refl, ap, append_assoc}
use Rattle.std.proofs.lemmas.Bool.{eq-eqb, ne_eqb}
use Rattle.smp_words.specs.Size.{owner}
use Rattle.smp_call_steps.specs.{Sending, is_nil, Marked, mark, marked, others_marked, history_of, sent_to, marked_from, calls_from, Call}

abbrev pub one_if : {A : Type 0} → Bool → A → List A
one_if b x = cond b (x ∷ []) []

push_if : {A : Type 0} (b : Bool) (x : A) (rest ys : List A) → cond b (x ∷ (rest ++ ys)) (rest ++ ys) ≡ cond b (x ∷ rest) rest ++ ys
push_if x y rest ys = search arith

pub sent_to-push : (cpu : ℕ) (xs : List Sending) (y : Sending) → sent_to cpu (xs ++ y ∷ []) ≡ sent_to cpu xs ++ one_if (y.to == cpu) (mark y.is_first y.call)
sent_to-push cpu [] y = refl
sent_to-push cpu (x ∷ xs) y = search (push_if, sent_to-push cpu xs y, arith)

pub marked_from-push : (source : ℕ) (xs : List Marked) (y : Marked)
    → marked_from source (xs ++ y ∷ []) ≡ marked_from source xs ++ one_if (owner y.call.id == source) y
marked_from-push source [] y = refl
marked_from-push source (x ∷ xs) y = search (push_if, marked_from-push source xs y, arith)

pub calls_from-push : (source : ℕ) (xs : List Call) (y : Call) → calls_from source (xs ++ y ∷ []) ≡ calls_from source xs ++ one_if (owner y.id == source) y
calls_from-push source [] y = refl
calls_from-push source (x ∷ xs) y = rw (calls_from-push source xs y) (push_if (owner x.id == source) x (calls_from source xs) (one_if (owner y.id == source) y))

pub one_if-same : {A : Type 0} (a b : ℕ) (x : A) → a ≡ b → one_if (a == b) x ≡ x ∷ []
one_if-same a b x e = rw (eq-eqb a b e) refl

pub one_if-other : {A : Type 0} (a b : ℕ) (x : A) → a ≢ b → one_if (a == b) x ≡ []
one_if-other a b x ne = rw (ne_eqb a b ne) refl

others_marked-push : (xs : List Call) (y : Call) → others_marked (xs ++ y ∷ []) ≡ others_marked xs ++ mark false y ∷ []
others_marked-push [] y = refl
others_marked-push (x ∷ xs) y = ap (λ (ms : List Marked). mark false x ∷ ms) (others_marked-push xs y)

-- one more in a queue is marked where the queue was empty
pub marked-push : (xs : List Call) (y : Call) → marked (xs ++ y ∷ []) ≡ marked xs ++ mark (is_nil xs) y ∷ []
marked-push x y = search (others_marked-push, arith)

pub history-push : (taken : List (List Call)) (queue : List Call) (y : Call)
    → history_of taken (queue ++ y ∷ []) ≡ history_of taken queue ++ mark (is_nil queue) y ∷ []
history-push taken queue y = search (marked-push, append_assoc, arith)
