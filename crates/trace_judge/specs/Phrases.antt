-- Phrases with numbers in them.
use Rattle.std.specs.Prelude.{ℕ, List, ◌++◌}
use Rattle.std.specs.Fmt.{decimal, signed_decimal}
use Rattle.trace_judge.specs.declared.phrase.Phrase.{Phrase}
use Rattle.trace_judge.specs.declared.phrase.Phrase.TheVariants.{Plain, Last, One, Two, Named, Signed}

abbrev pub phrase_text : Phrase → List ℕ
phrase_text (Plain text) = text.now
phrase_text (Last front n) = front.now ++ decimal n
phrase_text (One front n back) = front.now ++ decimal n ++ back.now
phrase_text (Two front n middle m) = front.now ++ decimal n ++ middle.now ++ decimal m
phrase_text (Named front n middle name) = front.now ++ decimal n ++ middle.now ++ name.now
phrase_text (Signed front n) = front.now ++ signed_decimal n
