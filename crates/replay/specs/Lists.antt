-- What is written for a list of calls, line by line. Assumes nothing.
use Rattle.std.specs.Prelude.{◌≡◌, ◌⊎◌, ℕ, ◌<◌, ◌≤◌, Bool, true, false, ◌||◌, ◌==◌, List, [], ◌∷◌, ◌++◌, length, Some, Option}
use Rattle.std.specs.List.{slice_split}
use Rattle.std.specs.Str.Lossy.{utf8_lossy}
use Rattle.std.specs.Io.KnownBytes.{Appends}
use Rattle.histories.specs.States.{unopened}
use Rattle.session.specs.declared.session.Session.{Session}
use Rattle.session.specs.Sessions.{state, places, KeepsPlaces}
use Rattle.protocol.specs.Commands.{Command, makes, words_of}
use Rattle.protocol.specs.Reading.{read_words}
use Rattle.protocol.specs.Said.{Said, done, error, said_words, spoken}
use Rattle.replay.specs.Playing.{is_head, Played}

-- ---- one line

-- an empty line, or one that begins with #
abbrev pub is_passed_over : List ℕ → Bool
is_passed_over [] = true
is_passed_over (b ∷ line) = b == 35

-- the bytes of an answer's line
abbrev pub told : Said → List ℕ
told a = spoken (said_words a)

-- A call is played in the session that there is, which keeps its places;
-- `made`: whether there is one.
-- A line that says no call, or for which there is no memory, is answered
-- `error`, and changes nothing.
abbrev pub Stays : Bool → Session → Option Command → Said → Session → Type 0
Stays made was call a is =
    ((a ≡ error) × (is ≡ was))
    ⊎ ((c : Command) × (call ≡ Some c) × Played (made || is_head c) was c a is
    × KeepsPlaces was is)

-- `new` is answered `ok`.
abbrev pub Renews : Option Command → Said → ℕ → Type 0
Renews call a count = (call ≡ Some (makes count)) × (a ≡ done)

-- a session that was just made, over so many places
pub record IsNew (s : Session) (count : ℕ) : Type 0 where
  pub fresh : state s ≡ unopened
  pub room : places s ≡ count

-- It makes the session that is played in from then on.
abbrev pub Makes : Option Command → Said → Session → Type 0
Makes call a is = (count : ℕ) × Renews call a count × IsNew is count

-- the answer to a line that says this call, if any, and the session after it
abbrev pub Answered : Bool → Session → Option Command → Said → Bool → Session → Type 0
Answered made was call a made_then is =
    (Stays made was call a is × (made_then ≡ made)) ⊎ (Makes call a is × (made_then ≡ true))

-- ---- lines

-- Each line is played once, in order: it is passed over, or its answer is
-- written, and the lines after it are played in the session that it leaves.
-- Nothing else is written.
abbrev pub PlaysLines : List (List ℕ) → Bool → Session → List ℕ → Type 0
PlaysLines [] made was out = out ≡ []
PlaysLines (line ∷ lines) made was out =
    ((is_passed_over line ≡ true) × PlaysLines lines made was out)
    ⊎ ((is_passed_over line ≡ false)
    × ((a : Said) × (made_then : Bool) × (is : Session) × (rest : List ℕ)
    × Answered made was (read_words (words_of line)) a made_then is
    × (out ≡ told a ++ rest) × PlaysLines lines made_then is rest))

-- Before the first `new` no session is made. The one that stands for it is over
-- no places, and no call is played in it.
abbrev pub PlaysAll : List (List ℕ) → List ℕ → Type 0
PlaysAll lines out = (s : Session) × IsNew s 0 × PlaysLines lines false s out

-- A writer gets these bytes and nothing else, where its bytes are known.
abbrev pub Writes : Option (List ℕ) → Option (List ℕ) → (List ℕ → Type 0) → Type 0
Writes old new Bytes = (out : List ℕ) × Appends old new out × Bytes out

-- What is written so far is the front of the whole, whatever the others write.
abbrev pub GoesOn : (List ℕ → Type 0) → List ℕ → (List ℕ → Type 0) → Type 0
GoesOn Whole out Others = (rest : List ℕ) → Others rest → Whole (out ++ rest)

-- The same where the others are played in a new session.
abbrev pub GoesOnAnew : (List ℕ → Type 0) → List ℕ → List (List ℕ) → Bool → ℕ → Type 0
GoesOnAnew Whole out lines made count =
    (is : Session) → IsNew is count → GoesOn Whole out (PlaysLines lines made is)

-- ---- a list

-- the most bytes that a list may have
abbrev pub most_input : ℕ
most_input = 16777216

-- what stands between the LFs of a text; bytes that are not UTF-8 are read as
-- U+FFFD
abbrev pub lines_of : List ℕ → List (List ℕ)
lines_of text = slice_split (λ b. b == 10) (utf8_lossy text)

-- A list that is too long is not played.
abbrev pub Replays : List ℕ → List ℕ → Type 0
Replays text out =
    ((most_input < length text) × (out ≡ told error))
    ⊎ ((length text ≤ most_input) × PlaysAll (lines_of text) out)
