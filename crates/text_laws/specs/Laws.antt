-- What the reading of texts promises, said of all texts. Assumes nothing.
use Rattle.std.specs.Prelude.{◌≡◌, ℕ, ◌<◌, ◌≤◌, true, List, [], ◌∷◌, ◌++◌, length, map, take, ℤ, Some, None, Ok, Err, codes, decimal, unsigned_abs}
use Rattle.std.specs.List.Sorted.{IsStrictlyIncreasing}
use Rattle.std.specs.Fmt.{signed_decimal}
use Rattle.text.specs.declared.faults.TextFault.{TextFault}
use Rattle.text.specs.declared.faults.ReadFault.{ReadFault}
use Rattle.text.specs.declared.faults.ReadFault.TheVariants.{Text}
use Rattle.limits.specs.Limits.{most_bytes, most_variables, most_clauses}
use Rattle.tokens.specs.Numbers.{number_word}
use Rattle.text.specs.Problem.{head_of}
use Rattle.text.specs.Reading.{Reading, clause, well, refused, reading, clauses_of, fault_of}
use Rattle.text.specs.Refusals.{read_refusal, place_of}
use Rattle.tokens.specs.Words.{parts_words, pieces, words_of}
use Rattle.text_laws.specs.Writing.{Writable, saying, written}
use Rattle.text_laws.specs.Standing.{WordAt, IsAWord, begun}
use Rattle.text_laws.specs.Refusing.{RefusedAs}

-- A word is the number word of x exactly when it is x in decimal, as every
-- printed number is, and x has at most five digits.
abbrev pub NumberWordsAreDecimals : Type 0
NumberWordsAreDecimals =
    (w : List ℕ) (x : ℤ)
    → (number_word w ≡ Some x → (w ≡ signed_decimal x) × (unsigned_abs x < 100000))
    × (w ≡ signed_decimal x → unsigned_abs x < 100000 → number_word w ≡ Some x)

-- What a sound text is: it is read as the clauses cs, and ends well, exactly
-- when it isn't too long and its words outside comments are p, cnf, n, m and
-- the words of the m clauses cs, for some n up to the limit.
abbrev pub SoundTextsSayTheirClauses : Type 0
SoundTextsSayTheirClauses =
    (limit : ℕ) (text : List ℕ) (cs : List (List ℤ))
    → ((clauses_of (reading limit text) ≡ cs) × (fault_of (reading limit text) ≡ None)
    → (n : ℕ) × (n ≤ limit) × Writable n cs × (length text ≤ most_bytes)
    × (words_of (pieces text) ≡ saying n cs))
    × ((n : ℕ) → n ≤ limit → Writable n cs → length text ≤ most_bytes
    → words_of (pieces text) ≡ saying n cs
    → (clauses_of (reading limit text) ≡ cs) × (fault_of (reading limit text) ≡ None))

-- What is written is read: the text of some clauses is read as these clauses,
-- and ends well, if it isn't too long.
abbrev pub WrittenIsRead : Type 0
WrittenIsRead =
    (limit n : ℕ) (cs : List (List ℤ)) → Writable n cs → n ≤ limit
    → length (written n cs) ≤ most_bytes
    → (clauses_of (reading limit (written n cs)) ≡ cs)
    × (fault_of (reading limit (written n cs)) ≡ None)

-- And its head tells the number of variables and of clauses.
abbrev pub WrittenHasItsHead : Type 0
WrittenHasItsHead =
    (n : ℕ) (cs : List (List ℤ)) → Writable n cs → n ≤ most_variables
    → length (written n cs) ≤ most_bytes
    → head_of (written n cs) ≡ Ok (n, length cs)

-- no word goes on from the byte before into bs
abbrev pub Apart : List ℕ → Type 0
Apart [] = Unit {0}
Apart (b ∷ bs) = parts_words b ≡ true

-- A refusal looks no further than its word: a text that is refused at a place
-- in its front, where no word goes on past the front, is read alike whatever
-- stands after it: the clauses before the refusal, and the refusal itself.
abbrev pub RefusalLooksNoFurther : Type 0
RefusalLooksNoFurther =
    (limit : ℕ) (front back other : List ℕ) (f : ReadFault) → Apart back → Apart other
    → length (front ++ back) ≤ most_bytes → length (front ++ other) ≤ most_bytes
    → fault_of (reading limit (front ++ back)) ≡ Some f → place_of (read_refusal f) < length front
    → reading limit (front ++ other) ≡ reading limit (front ++ back)

-- ---- places

-- A word stands where it is said to: it is the part of the text from its place
-- on, and the words before it are those of the text up to there.
abbrev pub WordsStandInTheText : Type 0
WordsStandInTheText =
    (text : List ℕ) (p : ℕ) (ws : List (List ℕ)) (w : List ℕ) → WordAt text p ws w
    → IsAWord text p w × (words_of (pieces (take p text)) ≡ ws)

-- the clauses of a reading, each with the place that is told of its ending 0
abbrev pub placed : Reading → List (List ℤ × ℕ)
placed (clause ls p r) = (ls, p) ∷ placed r
placed well = []
placed (refused f) = []

-- the places that a reading tells: of its clauses, and of its refusal
abbrev pub told_places : Reading → List ℕ
told_places (clause ls p r) = p ∷ told_places r
told_places well = []
told_places (refused f) = place_of (read_refusal f) ∷ []

abbrev pub PlacesRise : Type 0
PlacesRise = (limit : ℕ) (text : List ℕ) → IsStrictlyIncreasing (told_places (reading limit text))

-- What is told of a clause is the place of its own 0: before this word stand
-- those of the problem line and of the clauses before, and its literals.
abbrev pub EachClauseEndsAtItsZero : Type 0
EachClauseEndsAtItsZero =
    (limit : ℕ) (text : List ℕ)
    → (n m : ℕ) × ((done more : List (List ℤ × ℕ)) (ls : List ℤ) (p : ℕ)
    → placed (reading limit text) ≡ done ++ ((ls, p) ∷ more)
    → WordAt text p (begun n m (map (λ d. d.0) done) ls) (codes "0"))

-- ---- refusals

-- Each refusal has its one condition: a text is refused so, after these clauses,
-- exactly where what is said of the refusal is so of the text's words.
abbrev pub EachRefusalHasItsReason : Type 0
EachRefusalHasItsReason =
    (limit : ℕ) (text : List ℕ) (cs : List (List ℤ)) (f : ReadFault)
    → ((clauses_of (reading limit text) ≡ cs) × (fault_of (reading limit text) ≡ Some f)
    → RefusedAs limit text cs f)
    × (RefusedAs limit text cs f
    → (clauses_of (reading limit text) ≡ cs) × (fault_of (reading limit text) ≡ Some f))

-- ---- heads

-- A text that isn't too long, whose first words are p, cnf, n and m, for at most
-- 64 variables and 65,536 clauses.
pub record Headed (text : List ℕ) (n m : ℕ) : Type 0 where
  pub short : length text ≤ most_bytes
  pub narrow : n ≤ most_variables
  pub few : m ≤ most_clauses
  pub rest : List (List ℕ)
  pub words : words_of (pieces text) ≡ codes "p" ∷ codes "cnf" ∷ decimal n ∷ decimal m ∷ rest

-- The head of a text is n and m exactly where its first words say so; and if it
-- is refused, a reader that takes up to 64 variables refuses the text alike,
-- before any clause.
abbrev pub HeadTellsTheLine : Type 0
HeadTellsTheLine =
    (text : List ℕ)
    → ((n m : ℕ)
    → (head_of text ≡ Ok (n, m) → Headed text n m) × (Headed text n m → head_of text ≡ Ok (n, m)))
    × ((f : TextFault)
    → head_of text ≡ Err f → reading most_variables text ≡ refused (Text f))
