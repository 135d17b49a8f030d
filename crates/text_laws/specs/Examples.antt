-- Worked examples, each by computation from the definitions. Assumes nothing.
use Rattle.std.specs.Prelude.{◌≡◌, ℕ, List, [], ◌∷◌, ◌++◌, replicate, ℤ, pos, negsuc, Some, None, Ok, Err, codes, Option}
use Rattle.std.specs.List.{flat_map}
use Rattle.text.specs.declared.faults.TextFault.TheVariants.{TooLarge}
use Rattle.tokens.specs.Numbers.{number_word}
use Rattle.text.specs.Problem.{head_of}
use Rattle.text.specs.Reading.{reading, clauses_of, fault_of}
use Rattle.text.specs.declared.faults.Refuser.{Refuser}
use Rattle.text.specs.declared.faults.Refuser.TheVariants as by
use Rattle.text.specs.Refusals.{Refusal, refusal, told}
use Rattle.text_laws.specs.Laws.{placed}

pub record NumberWords : Type 0 where
  pub negative : number_word (codes "-7") ≡ Some (negsuc 6)
  pub nought : number_word (codes "0") ≡ Some (pos 0)
  pub largest : number_word (codes "99999") ≡ Some (pos 99999)
  pub minus_nought : number_word (codes "-0") ≡ None
  pub leading_nought : number_word (codes "07") ≡ None
  pub minus_alone : number_word (codes "-") ≡ None
  pub plus : number_word (codes "+1") ≡ None
  pub six_digits : number_word (codes "123456") ≡ None
  pub no_bytes : number_word [] ≡ None

-- lines, each ended by LF but the last
abbrev pub lined : List (List ℕ) → List ℕ
lined [] = []
lined (l ∷ []) = l
lined (l ∷ m ∷ ls) = l ++ (10 ∷ lined (m ∷ ls))

-- read with up to 64 variables: these clauses, and this end
abbrev pub Reads : List ℕ → List (List ℤ) → Option Refusal → Type 0
Reads text cs end = (clauses_of (reading 64 text) ≡ cs) × (told (fault_of (reading 64 text)) ≡ end)

-- of a text that is refused, before any clause
abbrev pub Refuses : List ℕ → Refuser → ℕ → ℕ → Type 0
Refuses text who number place = Reads text [] (Some (refusal who number place))

-- two clauses, whose zeros stand at 15 and 20
abbrev pub two_clauses : List ℕ
two_clauses = lined (codes "p cnf 2 2" ∷ codes "1 -2 0" ∷ codes "-1 0" ∷ [])

pub record SoundTexts : Type 0 where
  pub two : Reads two_clauses ((pos 1 ∷ negsuc 1 ∷ []) ∷ (negsuc 0 ∷ []) ∷ []) None
  pub two_places :
      placed (reading 64 two_clauses)
      ≡ ((pos 1 ∷ negsuc 1 ∷ []), 15) ∷ ((negsuc 0 ∷ []), 20) ∷ []
  pub one_line :
      Reads (lined (codes "c a comment" ∷ codes "c" ∷ codes "p cnf 1 1 1 0" ∷ []))
      ((pos 1 ∷ []) ∷ []) None
  pub many_lines :
      Reads (lined (codes "p" ∷ codes "cnf" ∷ codes "1" ∷ codes "1 1" ∷ codes "1 0 " ∷ []))
      ((pos 1 ∷ pos 1 ∷ []) ∷ []) None
  pub tabs :
      Reads
      (9 ∷ codes "p cnf 1 1" ++ (13 ∷ 10 ∷ (codes "1" ++ (9 ∷ (codes "0" ++ (13 ∷ 10 ∷ []))))))
      ((pos 1 ∷ []) ∷ []) None
  pub nothing : Reads (codes "p cnf 0 0") [] None
  pub empty_clause : Reads (codes "p cnf 0 1 0") ([] ∷ []) None
  pub empty_place : placed (reading 64 (codes "p cnf 0 1 0")) ≡ ([], 10) ∷ []
  pub cnf_line : Reads (lined (codes "cnf 1" ∷ codes "p cnf 0 0" ∷ [])) [] None
  pub most_variables :
      Reads (codes "p cnf 64 1 64 -64 0") ((pos 64 ∷ negsuc 63 ∷ []) ∷ []) None
  pub head : head_of (lined (codes "c" ∷ codes "p cnf 3 99" ∷ [])) ≡ Ok (3, 99)

-- 128 literals, repeats counted, and what stands after them from byte 265 on
abbrev pub crowded : List ℕ → List ℕ
crowded more = codes "p cnf 1 1" ++ (flat_map (λ w. w) (replicate 128 (codes " 1")) ++ more)

-- The 129th word of a clause: its 0, a literal, one above n, and no number word.
pub record LongClauses : Type 0 where
  pub ended : Reads (crowded (codes " 0")) (replicate 128 (pos 1) ∷ []) None
  pub one_more : Refuses (crowded (codes " 1 0")) by.Book 6 266
  pub above : Refuses (crowded (codes " 2 0")) by.Text 13 266
  pub no_number : Refuses (crowded (codes " x 0")) by.Text 12 266

-- refusals, with their places and the clauses before them
pub record FaultyTexts : Type 0 where
  pub above : Refuses (lined (codes "p cnf 2 1" ∷ codes "1 3 0" ∷ [])) by.Text 13 12
  pub word_after :
      Reads (lined (codes "p cnf 2 2" ∷ codes "1 0" ∷ codes "2 0 -1" ∷ []))
      ((pos 1 ∷ []) ∷ (pos 2 ∷ []) ∷ []) (Some (refusal by.Text 15 18))
  pub many_variables : Refuses (codes "p cnf 65 x") by.Text 11 6
  pub comment_after_p : Refuses (lined (codes "p" ∷ codes "c x" ∷ [])) by.Text 10 2
  pub no_bytes : Refuses [] by.Text 10 0
  pub comment_alone : Refuses (codes "c only a comment") by.Text 10 16
  pub no_comment : Refuses (lined (codes " c no comment" ∷ [])) by.Text 10 1
  pub large_c : Refuses (codes "C x") by.Text 10 0
  pub percent : Refuses (codes "% x") by.Text 10 0
  pub cr_in_comment : Refuses (codes "c x" ++ (13 ∷ codes "p cnf 0 0")) by.Text 10 13
  pub negative_size : Refuses (codes "p cnf -1 0") by.Text 10 6
  pub many_clauses : Refuses (codes "p cnf 1 65537") by.Text 11 8
  pub most_clauses : Refuses (codes "p cnf 1 65536") by.Text 16 13
  pub leading_nought : Refuses (codes "p cnf 1 065536") by.Text 10 8
  pub comment_late :
      Refuses (lined (codes "p cnf 1 1" ∷ codes "c x" ∷ codes "1 0" ∷ [])) by.Text 12 10
  pub six_digits : Refuses (codes "p cnf 1 1 100000 0") by.Text 12 10
  pub long_word : Refuses (codes "p cnf 1 1 12345678901 0") by.Text 12 10
  pub vertical_tab : Refuses (codes "p cnf 1 1 1" ++ (11 ∷ codes "0")) by.Text 12 10
  pub odd_bytes : Refuses (codes "p cnf 1 1 " ++ (49 ∷ 0 ∷ 200 ∷ [])) by.Text 12 10
  pub ends_inside : Refuses (codes "p cnf 1 1 1") by.Text 14 11
  pub ends_inside_second :
      Reads (codes "p cnf 1 3 1 0 1") ((pos 1 ∷ []) ∷ []) (Some (refusal by.Text 14 15))
  pub ends_before :
      Reads (codes "p cnf 1 2 1 0") ((pos 1 ∷ []) ∷ []) (Some (refusal by.Text 16 13))
  pub any_word_after : Refuses (codes "p cnf 0 0 x") by.Text 15 10
  pub head : head_of (codes "p cnf 65 x") ≡ Err (TooLarge 6)
