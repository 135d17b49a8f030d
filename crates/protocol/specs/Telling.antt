-- What an answer line tells, and what a refusal's number does. Assumes nothing.
use Rattle.std.specs.Prelude.{◌≡◌, ℕ, ◌^◌, ◌<◌, List, [], ◌∷◌, IfSome}
use Rattle.std.specs.List.{AllByRecursion}
use Rattle.hex.specs.Hex.{IsBytes}
use Rattle.text.specs.declared.faults.TextFault.{TextFault}
use Rattle.text.specs.Refusals.{text_refusal}
use Rattle.lines.specs.declared.line.Origin.{Origin}
use Rattle.lines.specs.declared.line.Origin.TheVariants.{Given, Resolved, Widened}
use Rattle.answers.specs.declared.load.LoadFault.{LoadFault}
use Rattle.answers.specs.declared.refusal.Refusal.{Refusal}
use Rattle.answers.specs.Refusals.{load_refusal}
use Rattle.protocol.specs.Said.{Said, done, refused, stands, taken, faulty, headed, head_faulty, ended, line, written, unwritten, state, error, number, said_words, spoken}

-- numbers that 64 bits hold
abbrev pub Small : List ℕ → Type 0
Small ns = AllByRecursion (λ n. n < 2 ^ 64) ns

abbrev pub origin_numbers : Origin → List ℕ
origin_numbers Given = []
origin_numbers (Resolved v a b) = v ∷ a ∷ b ∷ []
origin_numbers (Widened a) = a ∷ []

-- Numbers are those that 64 bits hold, and bytes are bytes.
abbrev pub Proper : Said → Type 0
Proper done = Unit {0}
Proper (refused k) = k < 2 ^ 64
Proper (stands k) = IfSome k (λ n. n < 2 ^ 64)
Proper (taken k) = k < 2 ^ 64
Proper (faulty by k place t) = Small (k ∷ place ∷ t ∷ [])
Proper (headed n m) = Small (n ∷ m ∷ [])
Proper (head_faulty k place) = Small (k ∷ place ∷ [])
Proper (ended o steps) = steps < 2 ^ 64
Proper (line o positive negative) = Small (origin_numbers o) × Small (positive ∷ negative ∷ [])
Proper (written length buffer) = (length < 2 ^ 64) × IsBytes buffer
Proper (unwritten k buffer) = (k < 2 ^ 64) × IsBytes buffer
Proper (state lines n a) = Small (lines ∷ n ∷ a ∷ [])
Proper error = Unit {0}

-- A line tells one answer only.
abbrev pub AnAnswerIsItsLine : Type 0
AnAnswerIsItsLine =
    (a b : Said) → Proper a → Proper b → spoken (said_words a) ≡ spoken (said_words b) → a ≡ b

-- Refusals that differ have different numbers.
abbrev pub RefusalsDiffer : Type 0
RefusalsDiffer = (r q : Refusal) → number r ≡ number q → r ≡ q

-- Of a text and of a load, who refused, the number and the place tell the fault.
abbrev pub TextFaultsDiffer : Type 0
TextFaultsDiffer = (f g : TextFault) → text_refusal f ≡ text_refusal g → f ≡ g

abbrev pub FaultsDiffer : Type 0
FaultsDiffer = (f g : LoadFault) → load_refusal f ≡ load_refusal g → f ≡ g
