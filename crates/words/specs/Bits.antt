-- The bits of a word, and the variables that they stand for. Assumes nothing.
use Rattle.std.specs.Prelude.{◌≡◌, ℕ, zero, suc, ◌-◌, ◌/◌, ◌%◌, ◌^◌, ◌<◌, ◌≤◌, Bool, true, false, not, ◌&&◌, List, [], ◌∷◌, Some, None, Option, ◌==◌, nat_le, nat_lt}

-- how many bits a word has; the code has the same number in sets.rt
abbrev pub width : ℕ
width = 64

-- whether bit k is set; bit 0 is the lowest
unfoldable pub bit : ℕ → ℕ → Bool
bit k word = word / 2 ^ k % 2 == 1

-- the set bits of a word are just those where f says so
abbrev pub BitsWhere : (ℕ → Bool) → ℕ → Type 0
BitsWhere f word = (k : ℕ) → k < width → bit k word ≡ f k

-- v is one of the numbers from 1 to n
abbrev pub one_to : ℕ → ℕ → Bool
one_to n v = nat_lt 0 v && nat_le v n

-- both or neither
abbrev pub alike : Bool → Bool → Bool
alike true q = q
alike false q = not q

-- ---- what is said place by place, from place 0 on

-- f, from the next place on
abbrev pub later : {A : Type 0} → (ℕ → A) → ℕ → A
later f k = f (suc k)

-- f holds at each of the first w places
abbrev pub every : ℕ → (ℕ → Bool) → Bool
every zero f = true
every (suc w) f = f 0 && every w (later f)

-- what f gives at the first w places
abbrev pub listed : {A : Type 0} → ℕ → (ℕ → A) → List A
listed zero f = []
listed (suc w) f = f 0 ∷ listed w (later f)

-- x in front of xs if the test passes
abbrev pub keep : {A : Type 0} → Bool → A → List A → List A
keep true x xs = x ∷ xs
keep false x xs = xs

-- of the first w places, numbered from v on, those where f holds: rising
abbrev pub numbers : ℕ → ℕ → (ℕ → Bool) → List ℕ
numbers v zero f = []
numbers v (suc w) f = keep (f 0) v (numbers (suc v) w (later f))

-- ---- a word as a set of variables: bit v - 1 stands for variable v

-- the variables of a word, rising
unfoldable pub variables : ℕ → List ℕ
variables word = numbers 1 width (λ k. bit k word)

-- whether v is one of them
abbrev pub in_word : ℕ → ℕ → Bool
in_word v word = one_to width v && bit (v - 1) word

-- the first of a list
abbrev pub first : {A : Type 0} → List A → Option A
first [] = None
first (v ∷ vs) = Some v

-- a number that is told is a variable
abbrev pub Named : Option ℕ → Type 0
Named None = Unit {0}
Named (Some v) = (0 < v) × (v ≤ width)

-- the only one, where there is just one
abbrev pub sole : List ℕ → Option ℕ
sole [] = None
sole (v ∷ []) = Some v
sole (v ∷ w ∷ vs) = None
