-- Reading an assignment off a book that holds all resolvents. Assumes nothing.
use Rattle.std.specs.Prelude.{ℕ, zero, suc, Bool, true, not, List, [], ◌∷◌, ◌++◌}
use Rattle.std.specs.List.{list_any, list_all}
use Rattle.clauses.specs.Values.{assigned}
use Rattle.clauses.specs.Clauses.{Signs, broken, has, clashes, resolvent}

-- what f makes of the variable, where there is exactly one
abbrev pub in_one : {A : Type 0} → List ℕ → (ℕ → A) → List A
in_one [] f = []
in_one (v ∷ []) f = f v ∷ []
in_one (v ∷ w ∷ vs) f = []

-- the resolvent of two clauses that clash in exactly one variable
abbrev pub resolvents : Signs → Signs → List Signs
resolvents c d = in_one (clashes c d) (λ v. resolvent v c d)

-- every resolvent of two of them that clash in exactly one variable is there
abbrev pub closed : List Signs → Bool
closed cs = list_all (λ c. list_all (λ d. list_all (λ r. has r cs) (resolvents c d)) cs) cs

-- under an assignment of the first variables some clause is broken
abbrev pub breaks : List Bool → List Signs → Bool
breaks a cs = list_any (broken (assigned a)) cs

-- In turn each further variable, k of them, is set true, or false if true
-- breaks a clause; later variables are still unset.
abbrev pub read_on : ℕ → List Signs → List Bool → List Bool
read_on zero cs a = a
read_on (suc k) cs a = read_on k cs (a ++ (not (breaks (a ++ (true ∷ [])) cs) ∷ []))

abbrev pub read_off : ℕ → List Signs → List Bool
read_off n cs = read_on n cs []
