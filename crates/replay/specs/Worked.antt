-- Worked ranks of the guides by their names. Assumes nothing.
use Rattle.std.specs.Prelude.{◌≡◌, ℕ, List, [], ◌∷◌}
use Rattle.protocol.specs.declared.call.GuideName.TheVariants.{Longest, Fewest, Constant, RevFewest}
use Rattle.replay.specs.Playing.{rank_of}

-- no broken line of length 0, three of length 1 and one of length 2
abbrev pub three_and_one : List ℕ
three_and_one = 0 ∷ 3 ∷ 1 ∷ []

pub record WorkedRanks : Type 0 where
  pub longest : rank_of Longest three_and_one ≡ 4295294980
  pub fewest : rank_of Fewest three_and_one ≡ 4
  pub constant : rank_of Constant three_and_one ≡ 0
  pub reversed : rank_of RevFewest three_and_one ≡ 65532
