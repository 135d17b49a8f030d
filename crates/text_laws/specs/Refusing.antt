-- Which texts are refused, where and why, said of their words. Assumes nothing.
use Rattle.std.specs.Prelude.{◌≡◌, ℕ, ◌<◌, ◌≤◌, List, [], ◌∷◌, ◌++◌, length, ℤ, pos, Some, None, unsigned_abs}
use Rattle.text.specs.declared.faults.TextFault.TheVariants.{TooLong, NotProblemLine, TooLarge, NotNumber, AboveVariables, EndsInsideClause, WordAfterClauses, ClausesMissing}
use Rattle.text.specs.declared.faults.BookFault.TheVariants.{TooManyLiterals, NoFreePlace}
use Rattle.text.specs.declared.faults.ReadFault.{ReadFault}
use Rattle.text.specs.declared.faults.ReadFault.TheVariants.{Text, Book}
use Rattle.limits.specs.Limits.{most_bytes, most_clauses, most_literals}
use Rattle.text.specs.Refusals.{read_refusal, place_of}
use Rattle.tokens.specs.Numbers.{number_word}
use Rattle.tokens.specs.Words.{pieces, words_of}
use Rattle.text_laws.specs.Writing.{Literal}
use Rattle.text_laws.specs.Standing.{WordAt, Sound, GoesOn, Begun}

-- The word w stands for the number of variables or of clauses, behind two words
-- or three, and is larger than may be.
pub record TooMany (limit : ℕ) (ws : List (List ℕ)) (w : List ℕ) : Type 0 where
  pub k : ℕ
  pub number : number_word w ≡ Some (pos k)
  pub sizes : (1 < length ws) × (length ws < 4)
  pub variables : length ws ≡ 2 → limit < k
  pub clauses : length ws ≡ 3 → most_clauses < k

-- What is wrong with the word w after the words ws, of which the clauses cs are
-- whole. In the problem line: a size that is too large, or else no word that
-- fits. Where a clause is missing: no number word; else a literal above n,
-- however many stand before it; else one more than 128. Where none is missing:
-- any word.
abbrev pub WrongWord : ℕ → List (List ℕ) → List (List ℤ) → List ℕ → ReadFault → Type 0
WrongWord limit ws cs w (Text (NotProblemLine p)) =
    (length ws < 4) × (cs ≡ []) × (TooMany limit ws w → ⊥)
WrongWord limit ws cs w (Text (TooLarge p)) = (cs ≡ []) × TooMany limit ws w
WrongWord limit ws cs w (Text (NotNumber p)) = Begun limit ws cs × (number_word w ≡ None)
WrongWord limit ws cs w (Text (AboveVariables p)) =
    (b : Begun limit ws cs) × (x : ℤ) × (number_word w ≡ Some x) × (b.n < unsigned_abs x)
WrongWord limit ws cs w (Book (TooManyLiterals p)) =
    (b : Begun limit ws cs) × (x : ℤ) × (number_word w ≡ Some x) × Literal b.n x
    × (length b.ls ≡ most_literals)
WrongWord limit ws cs w (Text (WordAfterClauses p)) = Sound limit ws cs
WrongWord limit ws cs w (Text (EndsInsideClause p)) = ⊥
WrongWord limit ws cs w (Text (ClausesMissing p)) = ⊥
WrongWord limit ws cs w (Text TooLong) = ⊥
WrongWord limit ws cs w (Book (NoFreePlace p)) = ⊥

-- What is wrong with the end after the words ws: it is in the problem line; or
-- else in a clause; or else before one that is missing.
abbrev pub WrongEnd : ℕ → List (List ℕ) → List (List ℤ) → ReadFault → Type 0
WrongEnd limit ws cs (Text (NotProblemLine p)) = (length ws < 4) × (cs ≡ [])
WrongEnd limit ws cs (Text (EndsInsideClause p)) = (b : Begun limit ws cs) × (0 < length b.ls)
WrongEnd limit ws cs (Text (ClausesMissing p)) = (b : Begun limit ws cs) × (b.ls ≡ [])
WrongEnd limit ws cs (Text (TooLarge p)) = ⊥
WrongEnd limit ws cs (Text (NotNumber p)) = ⊥
WrongEnd limit ws cs (Text (AboveVariables p)) = ⊥
WrongEnd limit ws cs (Text (WordAfterClauses p)) = ⊥
WrongEnd limit ws cs (Text TooLong) = ⊥
WrongEnd limit ws cs (Book f) = ⊥

-- The words before it go on to those of some sound text, and with it to none.
pub record AtAWord (limit : ℕ) (text : List ℕ) (cs : List (List ℤ)) (f : ReadFault) : Type 0 where
  pub short : length text ≤ most_bytes
  pub ws : List (List ℕ)
  pub w : List ℕ
  pub stands : WordAt text (place_of (read_refusal f)) ws w
  pub sound : GoesOn limit ws
  pub no_further : GoesOn limit (ws ++ (w ∷ [])) → ⊥
  pub wrong : WrongWord limit ws cs w f

-- The words go on to those of some sound text, and aren't such yet.
pub record AtTheEnd (limit : ℕ) (text : List ℕ) (cs : List (List ℤ)) (f : ReadFault) : Type 0 where
  pub short : length text ≤ most_bytes
  pub stands : place_of (read_refusal f) ≡ length text
  pub sound : GoesOn limit (words_of (pieces text))
  pub not_yet : (ds : List (List ℤ)) → Sound limit (words_of (pieces text)) ds → ⊥
  pub wrong : WrongEnd limit (words_of (pieces text)) cs f

-- A text is refused so, after the clauses cs: as too long, before anything is
-- read; at a word; or at its end.
pub data RefusedAs (limit : ℕ) (text : List ℕ) : List (List ℤ) → ReadFault → Type 0 where
  too_long : most_bytes < length text → RefusedAs limit text [] (Text TooLong)
  at_a_word :
      (cs : List (List ℤ)) (f : ReadFault) → AtAWord limit text cs f → RefusedAs limit text cs f
  at_the_end :
      (cs : List (List ℤ)) (f : ReadFault) → AtTheEnd limit text cs f → RefusedAs limit text cs f
