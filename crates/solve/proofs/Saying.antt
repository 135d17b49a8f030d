-- What a text's words say, and what its head and its reading are. Assumes
-- nothing.
use Rattle.std.proofs.Common.{◌≡◌, ℕ, ◌<◌, ◌≤◌, List, length, ℤ, None, Ok, Err, Result, refl, subst, arith}
use Rattle.tokens.specs.Words.{pieces, words_of}
use Rattle.text.specs.declared.faults.TextFault.{TextFault}
use Rattle.limits.specs.Limits.{most_variables, program_bytes}
use Rattle.text.specs.Problem.{head_of}
use Rattle.text.specs.Reading.{reading, clauses_of, fault_of}
use Rattle.text_laws.specs.Writing.{Writable, saying}
use Rattle.text_laws.specs.Laws.{Headed}
use Rattle.text_laws.proofs.Headed.{head_tells}
use Rattle.text_laws.proofs.Sound.{sound_texts}
use Rattle.solve.specs.Promises.{Saying}

-- a head of n variables
abbrev pub HasVariables : ℕ → Result (ℕ × ℕ) TextFault → Type 0
HasVariables n (Err f) = ⊥
HasVariables n (Ok h) = n ≡ h.0

module _ (text : List ℕ) (short : length text ≤ program_bytes) where
  words_head : (n : ℕ) (cs : List (List ℤ)) → n ≤ most_variables → Writable n cs → words_of (pieces text) ≡ saying n cs → HasVariables n (head_of text)
  words_head n cs l a e =
      let line : Headed text n (length cs) = record { short = omega arith; narrow = l; few = a.1; rest = _; words = e } in
      rw (((head_tells text).0 n (length cs)).1 line) refl

  -- whose words say clauses over n variables has a head of n variables
  pub said_head : (n : ℕ) (cs : List (List ℤ)) → Saying text n cs → HasVariables n (head_of text)
  said_head n cs s = words_head n cs s.few s.writable s.words

  -- and is read as these clauses, to its end
  pub said_reading : (n : ℕ) (cs : List (List ℤ)) → Saying text n cs → (clauses_of (reading n text) ≡ cs) × (fault_of (reading n text) ≡ None)
  said_reading n cs s = (sound_texts n text cs).1 n (omega arith) s.writable (omega arith) s.words

  -- what is read to its end says what was read
  pub reading_said : (n m : ℕ) → head_of text ≡ Ok (n, m) → 0 < n → n ≤ most_variables → fault_of (reading n text) ≡ None → Saying text n (clauses_of (reading n text))
  reading_said n m head some few sound =
      let cs = clauses_of (reading n text) in
      let (k, l, a, _, e) = (sound_texts n text cs).0 (refl, sound) in
      let same : k ≡ n = subst (HasVariables k) head (words_head k cs (omega arith) a e) in
      record { some = some; few = few; writable = rw same at a; words = rw same at e }
