-- What a line is read as. Assumes nothing.
use Rattle.std.specs.Prelude.{◌≡◌, ◌↔◌, ℕ, ◌^◌, ◌-◌, Bool, false, ◌==◌, List, [], ◌∷◌, ◌++◌, length, replicate, ℤ, codes, Option, Some, None, option_map, option_and_then, Result, Ok, Err, if◌then◌else◌, ◌&&◌, nat_le, nat_lt}
use Rattle.std.specs.List.{position_or_len, before_first, after_first}
use Rattle.std.specs.Str.{bytes_eq}
use Rattle.std.specs.Str.Parse.{digits_value, signed_digits_value}
use Rattle.std.specs.Fmt.{digits, signed_decimal}
use Rattle.std.specs.Int.Signed.{mag}
use Rattle.hex.specs.Hex.{encode_lower, decode_of}
use Rattle.hex.specs.declared.error.FromHexError.{FromHexError}
use Rattle.answers.specs.declared.run.Outcome.{Outcome}
use Rattle.answers.specs.declared.run.Outcome.TheVariants.{Met, NoneMeets, Spent, Full}
use Rattle.answers.specs.declared.report.Report.TheVariants.{Ended, Refused}
use Rattle.protocol.specs.declared.call.Call.{Call}
use Rattle.protocol.specs.declared.call.GuideName.{GuideName}
use Rattle.protocol.specs.declared.call.GuideName.TheVariants.{Longest, Fewest, Constant, RevFewest}
use Rattle.protocol.specs.Commands.{Command, Says, makes, opens, adds, loads, heads, restarts, runs, shows, writes_sheet, writes_report, tells_state, command, most_size}

-- the number up to `most` that a word is in a base, just as it would be printed
unfoldable pub numeral_of : ℕ → ℕ → List ℕ → Option ℕ
numeral_of base most w =
    let n = digits_value base w
    in if bytes_eq w (digits base false n) && nat_le n most then Some n else None

-- the same in decimal
abbrev pub natural_of : ℕ → List ℕ → Option ℕ
natural_of most w = numeral_of 10 most w

-- the number of 64 bits that a word is in hexadecimal
abbrev pub hexadecimal_of : List ℕ → Option ℕ
hexadecimal_of w = numeral_of 16 (2 ^ 64 - 1) w

-- the number of 32 bits with a sign that a word is
unfoldable pub integer_of : List ℕ → Option ℤ
integer_of w =
    let z = signed_digits_value 10 w
    in if bytes_eq w (signed_decimal z) && nat_lt (mag z) (2 ^ 31) then Some z else None

-- the ? of the logic
infixl 10 ◌>>=◌
abbrev pub ◌>>=◌ : {A B : Type 0} → Option A → (A → Option B) → Option B
o >>= f = option_and_then f o

abbrev pub integers_of : List (List ℕ) → Option (List ℤ)
integers_of [] = Some []
integers_of (w ∷ ws) = do
  z ← integer_of w
  zs ← integers_of ws
  Some (z ∷ zs)

-- ---- texts

-- what was decoded, where its digits are those of the word
abbrev pub if_lower : List ℕ → Result (List ℕ) FromHexError → Option (List ℕ)
if_lower w (Ok bytes) =
    if bytes_eq w (encode_lower bytes) && nat_lt 0 (length bytes) then Some bytes else None
if_lower w (Err e) = None

-- the bytes of a word of lower-case digits, two for each; of none, where it is a minus sign
unfoldable pub hex_of : List ℕ → Option (List ℕ)
hex_of w = if bytes_eq w (codes "-") then Some [] else if_lower w (decode_of w)

-- what a padding stands behind: bytes, or nothing at all
abbrev pub front_of : List ℕ → Option (List ℕ)
front_of [] = Some []
front_of (c ∷ w) = hex_of (c ∷ w)

-- the only one
abbrev pub lone : {A : Type 0} → List A → Option A
lone (x ∷ []) = Some x
lone xs = None

-- whether a byte stands in a word
abbrev pub has : ℕ → List ℕ → Bool
has c w = nat_lt (position_or_len (λ b. b == c) w) (length w)

-- a byte, *, and how often it comes
abbrev pub padding_of : List ℕ → Option (List ℕ)
padding_of w =
    if has 42 w then (do
      bytes ← hex_of (before_first (λ b. b == 42) w)
      byte ← lone bytes
      count ← natural_of most_size (after_first (λ b. b == 42) w)
      Some (replicate count byte))
    else None

-- bytes, and a padding behind them
abbrev pub padded_of : List ℕ → List ℕ → Option (List ℕ)
padded_of front rest = do
  bytes ← front_of front
  padding ← padding_of rest
  Some (bytes ++ padding)

-- a text that is not too long
abbrev pub short : Option (List ℕ) → Option (List ℕ)
short (Some text) = if nat_le (length text) most_size then Some text else None
short None = None

abbrev pub text_of : List ℕ → Option (List ℕ)
text_of w =
    short (if has 43 w
    then padded_of (before_first (λ b. b == 43) w) (after_first (λ b. b == 43) w)
    else hex_of w)

-- ---- calls

abbrev pub size_of : List ℕ → Option ℕ
size_of w = natural_of most_size w

-- a number of 32 bits
abbrev pub small_of : List ℕ → Option ℕ
small_of w = natural_of (2 ^ 32 - 1) w

abbrev pub guide_of : List ℕ → Option GuideName
guide_of w =
    if bytes_eq w (codes "longest") then Some Longest
    else if bytes_eq w (codes "fewest") then Some Fewest
    else if bytes_eq w (codes "const") then Some Constant
    else if bytes_eq w (codes "revfewest") then Some RevFewest
    else None

abbrev pub outcome_of : List ℕ → Option Outcome
outcome_of w =
    if bytes_eq w (codes "met") then Some Met
    else if bytes_eq w (codes "none") then Some NoneMeets
    else if bytes_eq w (codes "spent") then Some Spent
    else if bytes_eq w (codes "full") then Some Full
    else None

abbrev pub opening_of : List (List ℕ) → Option Command
opening_of (variables ∷ start ∷ []) = do
  n ← small_of variables
  a ← hexadecimal_of start
  Some (opens n a)
opening_of ws = None

abbrev pub running_of : List (List ℕ) → Option Command
running_of (guide ∷ budget ∷ []) = do
  g ← guide_of guide
  b ← small_of budget
  Some (runs g b)
running_of ws = None

abbrev pub ended_of : List ℕ → List ℕ → Option Command
ended_of outcome size = do
  o ← outcome_of outcome
  n ← size_of size
  Some (writes_report (Ended o) n)

abbrev pub refused_of : List ℕ → List ℕ → List ℕ → Option Command
refused_of number place size = do
  k ← small_of number
  i ← natural_of (2 ^ 64 - 1) place
  n ← size_of size
  Some (writes_report (Refused k i) n)

abbrev pub report_of : List (List ℕ) → Option Command
report_of (outcome ∷ size ∷ []) = ended_of outcome size
report_of (fault ∷ number ∷ place ∷ size ∷ []) =
    if bytes_eq fault (codes "fault") then refused_of number place size else None
report_of ws = None

abbrev pub state_of : List (List ℕ) → Option Command
state_of [] = Some tells_state
state_of (w ∷ ws) = None

-- one word as the whole of what a call names
abbrev pub of_one : {A : Type 0} → (A → Command) → (List ℕ → Option A) → List (List ℕ)
    → Option Command
of_one f read ws = do
  w ← lone ws
  x ← read w
  Some (f x)

-- a call that holds no list of its own, by its name and the words behind it
abbrev pub plain_of : List ℕ → List (List ℕ) → Option Command
plain_of name ws =
    if bytes_eq name (codes "new") then of_one makes size_of ws
    else if bytes_eq name (codes "run") then running_of ws
    else if bytes_eq name (codes "line") then of_one shows small_of ws
    else if bytes_eq name (codes "sheet") then of_one writes_sheet size_of ws
    else if bytes_eq name (codes "report") then report_of ws
    else if bytes_eq name (codes "state") then state_of ws
    else None

-- a call by its name and the words behind it
abbrev pub call_of : List ℕ → List (List ℕ) → Option Command
call_of name ws =
    if bytes_eq name (codes "open") then opening_of ws
    else if bytes_eq name (codes "restart") then of_one restarts hexadecimal_of ws
    else if bytes_eq name (codes "add") then option_map adds (integers_of ws)
    else if bytes_eq name (codes "load") then of_one loads text_of ws
    else if bytes_eq name (codes "head") then of_one heads text_of ws
    else plain_of name ws

-- the call that the words of a line are read as
abbrev pub read_words : List (List ℕ) → Option Command
read_words [] = None
read_words (name ∷ ws) = call_of name ws

abbrev pub command_in : Option Call → Option Command
command_in call = option_map command call

-- A line is read as a call just where its words say that call.
abbrev pub ALineIsItsCall : Type 0
ALineIsItsCall = (ws : List (List ℕ)) (c : Command) → (read_words ws ≡ Some c) ↔ Says ws c
