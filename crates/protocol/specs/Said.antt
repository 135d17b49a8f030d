-- What an answer line says, and its bytes. Assumes nothing.
use Rattle.std.specs.Prelude.{ℕ, List, [], ◌∷◌, ◌++◌, Some, None, Ok, Err, codes, decimal, Option, Result}
use Rattle.hex.specs.Hex.{encode_lower}
use Rattle.text.specs.declared.faults.Refuser.{Refuser}
use Rattle.text.specs.declared.faults.Refuser.TheVariants as by
use Rattle.text.specs.Refusals.{text_refusal, number_of, place_of, by_of}
use Rattle.lines.specs.declared.line.Origin.{Origin}
use Rattle.lines.specs.declared.line.Origin.TheVariants.{Given, Resolved, Widened}
use Rattle.answers.specs.declared.run.Outcome.{Outcome}
use Rattle.answers.specs.declared.refusal.Refusal.{Refusal}
use Rattle.answers.specs.Refusals.{call_refusal, load_refusal}
use Rattle.protocol.specs.Commands.{hexadecimal, outcome_word}
use Rattle.protocol.specs.declared.answer.Answer.{Answer}
use Rattle.protocol.specs.declared.answer.Answer.TheVariants as answer

-- an answer as it is told, with the numbers of what is refused
pub data Said : Type 0 where
  done : Said
  refused : (number : ℕ) → Said
  stands : Option ℕ → Said
  taken : ℕ → Said
  faulty : Refuser → (number place taken : ℕ) → Said
  headed : (n m : ℕ) → Said
  head_faulty : (number place : ℕ) → Said
  ended : Outcome → (steps : ℕ) → Said
  line : Origin → (positive negative : ℕ) → Said
  written : (length : ℕ) → (buffer : List ℕ) → Said
  unwritten : (number : ℕ) → (buffer : List ℕ) → Said
  state : (lines n assignment : ℕ) → Said
  error : Said

abbrev pub number : Refusal → ℕ
number r = number_of (call_refusal r)

abbrev pub said_written : Result ℕ Refusal → List ℕ → Said
said_written (Ok length) buffer = written length buffer
said_written (Err r) buffer = unwritten (number r) buffer

abbrev pub said : Answer → Said
said answer.Done = done
said (answer.Refused r) = refused (number r)
said (answer.Stands k) = stands k
said (answer.Taken k) = taken k
said (answer.Faulty r) =
    faulty (by_of (load_refusal r.fault)) (number_of (load_refusal r.fault))
    (place_of (load_refusal r.fault)) r.taken
said (answer.Headed n m) = headed n m
said (answer.HeadFaulty f) = head_faulty (number_of (text_refusal f)) (place_of (text_refusal f))
said (answer.Ended r) = ended r.outcome r.steps
said (answer.Line l) = line l.origin l.clause.pos l.clause.neg
said (answer.Written length buffer) = said_written length buffer.items
said (answer.State lines n assignment) = state lines n assignment
said answer.Error = error

-- ---- words

abbrev pub refuser_word : Refuser → List ℕ
refuser_word by.Text = codes "text"
refuser_word by.Book = codes "book"
refuser_word by.Session = codes "session"

abbrev pub number_word : Option ℕ → List ℕ
number_word (Some k) = decimal k
number_word None = codes "none"

abbrev pub origin_words : Origin → List (List ℕ)
origin_words Given = codes "given" ∷ []
origin_words (Resolved v a b) = codes "resolved" ∷ decimal v ∷ decimal a ∷ decimal b ∷ []
origin_words (Widened a) = codes "widened" ∷ decimal a ∷ []

abbrev pub said_words : Said → List (List ℕ)
said_words done = codes "ok" ∷ []
said_words (refused k) = codes "refused" ∷ decimal k ∷ []
said_words (stands k) = codes "line" ∷ number_word k ∷ []
said_words (taken k) = codes "taken" ∷ decimal k ∷ []
said_words (faulty refuser k place t) =
    codes "fault" ∷ refuser_word refuser ∷ decimal k ∷ codes "at" ∷ decimal place
    ∷ codes "taken" ∷ decimal t ∷ []
said_words (headed n m) = codes "head" ∷ decimal n ∷ decimal m ∷ []
said_words (head_faulty k place) =
    codes "fault" ∷ codes "text" ∷ decimal k ∷ codes "at" ∷ decimal place ∷ []
said_words (ended o steps) = outcome_word o ∷ decimal steps ∷ []
said_words (line o positive negative) =
    origin_words o
    ++ (codes "pos" ∷ hexadecimal positive ∷ codes "neg" ∷ hexadecimal negative ∷ [])
said_words (written length buffer) = codes "length" ∷ decimal length ∷ encode_lower buffer ∷ []
said_words (unwritten k buffer) = codes "refused" ∷ decimal k ∷ encode_lower buffer ∷ []
said_words (state lines n a) =
    codes "lines" ∷ decimal lines ∷ codes "n" ∷ decimal n ∷ codes "assign" ∷ hexadecimal a ∷ []
said_words error = codes "error" ∷ []

-- the words with one blank between them, and the end of the line
abbrev pub spoken : List (List ℕ) → List ℕ
spoken [] = 10 ∷ []
spoken (w ∷ []) = w ++ (10 ∷ [])
spoken (w ∷ v ∷ ws) = w ++ (32 ∷ spoken (v ∷ ws))

-- the answer line
abbrev pub answer_line : Answer → List ℕ
answer_line a = spoken (said_words (said a))
