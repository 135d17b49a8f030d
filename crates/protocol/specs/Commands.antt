-- The calls that a line can name, and the words of each. Assumes nothing.
use Rattle.std.specs.Prelude.{◌≡◌, ◌⊎◌, ℕ, false, ◌^◌, ◌<◌, ◌≤◌, List, [], ◌∷◌, ◌++◌, map, length, replicate, ℤ, codes, decimal, ◌==◌}
use Rattle.std.specs.Fmt.{signed_decimal, digits}
use Rattle.std.specs.List.{AllByRecursion, slice_split}
use mir.Syntax.{w32}
use mir.Val.{SFits as FitsSigned}
use Rattle.hex.specs.Hex.{encode_lower, IsBytes}
use Rattle.answers.specs.declared.run.Outcome.{Outcome}
use Rattle.answers.specs.declared.run.Outcome.TheVariants.{Met, NoneMeets, Spent, Full}
use Rattle.answers.specs.declared.report.Report.{Report}
use Rattle.answers.specs.declared.report.Report.TheVariants.{Ended, Refused}
use Rattle.protocol.specs.declared.call.GuideName.{GuideName}
use Rattle.protocol.specs.declared.call.GuideName.TheVariants.{Longest, Fewest, Constant, RevFewest}
use Rattle.protocol.specs.declared.call.Call.{Call}
use Rattle.protocol.specs.declared.call.Call.TheVariants as call

-- a call, without the memory that holds its numbers and its text
pub data Command : Type 0 where
  makes : (places : ℕ) → Command
  opens : (n start : ℕ) → Command
  adds : List ℤ → Command
  loads : (text : List ℕ) → Command
  heads : (text : List ℕ) → Command
  restarts : (start : ℕ) → Command
  runs : GuideName → (budget : ℕ) → Command
  shows : (k : ℕ) → Command
  writes_sheet : (size : ℕ) → Command
  writes_report : Report → (size : ℕ) → Command
  tells_state : Command

abbrev pub command : Call → Command
command (call.New places) = makes places
command (call.Open n start) = opens n start
command (call.Add numbers) = adds numbers.items
command (call.Load text) = loads text.items
command (call.Head text) = heads text.items
command (call.Restart start) = restarts start
command (call.Run guide budget) = runs guide budget
command (call.Line k) = shows k
command (call.Sheet size) = writes_sheet size
command (call.Report report size) = writes_report report size
command call.State = tells_state

-- the most that a size can be: of a book, of a text, of a buffer
abbrev pub most_size : ℕ
most_size = 33554432

-- ---- words

-- hexadecimal, without leading zeros
abbrev pub hexadecimal : ℕ → List ℕ
hexadecimal n = digits 16 false n

abbrev pub guide_word : GuideName → List ℕ
guide_word Longest = codes "longest"
guide_word Fewest = codes "fewest"
guide_word Constant = codes "const"
guide_word RevFewest = codes "revfewest"

abbrev pub outcome_word : Outcome → List ℕ
outcome_word Met = codes "met"
outcome_word NoneMeets = codes "none"
outcome_word Spent = codes "spent"
outcome_word Full = codes "full"

abbrev pub report_words : Report → List (List ℕ)
report_words (Ended o) = outcome_word o ∷ []
report_words (Refused k place) = codes "fault" ∷ decimal k ∷ decimal place ∷ []

-- Bytes are two hexadecimal digits each; no bytes at all are a minus sign.
abbrev pub IsHex : List ℕ → List ℕ → Type 0
IsHex w bytes =
    ((w ≡ codes "-") × (bytes ≡ []))
    ⊎ ((w ≡ encode_lower bytes) × (0 < length bytes) × IsBytes bytes)

-- bytes, +, one byte more, * and how often it comes
pub record IsPadded (w text : List ℕ) : Type 0 where
  pub front_word : List ℕ
  pub front : List ℕ
  pub byte : ℕ
  pub count : ℕ
  pub begins : IsHex front_word front ⊎ ((front_word ≡ []) × (front ≡ []))
  pub is_byte : byte < 256
  pub word : w ≡ front_word ++ (43 ∷ encode_lower (byte ∷ []) ++ (42 ∷ decimal count))
  pub text_is : text ≡ front ++ replicate count byte

-- a text as one word
abbrev pub IsText : List ℕ → List ℕ → Type 0
IsText w text = (IsHex w text ⊎ IsPadded w text) × (length text ≤ most_size)

-- the numbers of a refusal are those that the code can hold
abbrev pub Reportable : Report → Type 0
Reportable (Ended o) = Unit {0}
Reportable (Refused k place) = (k < 2 ^ 32) × (place < 2 ^ 64)

-- The words of a line say this call. Numbers are those that 32 or 64 bits hold.
abbrev pub Says : List (List ℕ) → Command → Type 0
Says ws (makes places) = (ws ≡ codes "new" ∷ decimal places ∷ []) × (places ≤ most_size)
Says ws (opens n start) =
    (ws ≡ codes "open" ∷ decimal n ∷ hexadecimal start ∷ []) × (n < 2 ^ 32) × (start < 2 ^ 64)
Says ws (adds xs) =
    (ws ≡ codes "add" ∷ map signed_decimal xs) × AllByRecursion (λ x. FitsSigned w32 x) xs
Says ws (loads text) = (w : List ℕ) × (ws ≡ codes "load" ∷ w ∷ []) × IsText w text
Says ws (heads text) = (w : List ℕ) × (ws ≡ codes "head" ∷ w ∷ []) × IsText w text
Says ws (restarts start) = (ws ≡ codes "restart" ∷ hexadecimal start ∷ []) × (start < 2 ^ 64)
Says ws (runs guide budget) =
    (ws ≡ codes "run" ∷ guide_word guide ∷ decimal budget ∷ []) × (budget < 2 ^ 32)
Says ws (shows k) = (ws ≡ codes "line" ∷ decimal k ∷ []) × (k < 2 ^ 32)
Says ws (writes_sheet size) = (ws ≡ codes "sheet" ∷ decimal size ∷ []) × (size ≤ most_size)
Says ws (writes_report report size) =
    (ws ≡ codes "report" ∷ report_words report ++ (decimal size ∷ []))
    × Reportable report × (size ≤ most_size)
Says ws tells_state = ws ≡ codes "state" ∷ []

-- the words of a line: what stands between its blanks
abbrev pub words_of : List ℕ → List (List ℕ)
words_of line = slice_split (λ b. b == 32) line
