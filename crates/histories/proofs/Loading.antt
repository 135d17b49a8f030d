-- What load does to tally and session. Assumes nothing.
use Rattle.std.proofs.Common.{◌≡◌, ℕ, suc, ◌+◌, ◌^◌, ◌≤◌, not, List, [], ◌∷◌, take, ℤ, None, Ok, Err, Option, Result, append_assoc, sym, refl, ap, ◌∙◌, subst, arith}
use Rattle.answers.specs.declared.load.LoadFault.TheVariants as load
use Rattle.answers.specs.declared.load.LoadRefusal.{LoadRefusal}
use Rattle.answers.specs.declared.refusal.Refusal.{Refusal}
use Rattle.answers.specs.Refusals.{load_fault, load_refusal}
use Rattle.text.specs.declared.faults.BookFault.TheVariants as book
use Rattle.text.specs.declared.faults.ReadFault.{ReadFault}
use Rattle.text.specs.declared.faults.ReadFault.TheVariants.{Text, Book}
use Rattle.text.specs.Reading.{Reading, clause, well, refused, clauses_of, reading}
use Rattle.text.specs.Refusals.{read_refusal, number_of}
use Rattle.histories.specs.States.{Limits, State, is_open}
use Rattle.histories.specs.Calls.{loads, loaded, accepted, taken, take_up, does}
use Rattle.histories.specs.Logs.{load_number}
use Rattle.histories.specs.Tallies.{Tally, appended, taken_of, counted}
use Rattle.histories.specs.Readings.{Proper}
use Rattle.histories.proofs.Texts.{reading_proper}
use Rattle.histories.proofs.Beside.{Beside, plain, Step, refused_step, tested, open_some}
use Rattle.histories.proofs.Adding.{Put, put_accepted}

appended_more : (t : Tally) (xs : List ℤ) (xss : List (List ℤ)) → appended (appended t (xs ∷ [])) xss ≡ appended t (xs ∷ xss)
appended_more t xs [] = refl
appended_more t xs (ys ∷ xss) = ap (λ zss. record t { clauses = zss; steps = 0 }) (append_assoc t.clauses (xs ∷ []) (ys ∷ xss))

pub appended_n : (t : Tally) (xss : List (List ℤ)) → (appended t xss).n ≡ t.n
appended_n t [] = refl
appended_n t (xs ∷ xss) = refl

same_number : (f : ReadFault) → number_of (load_refusal (load_fault f)) ≡ number_of (read_refusal f)
same_number (Text f) = refl
same_number (Book f) = refl

-- Of the clauses of a text, so many were taken, after k before; the tally has
-- them beside the session.
pub record Loaded (places k : ℕ) (t : Tally) (s : State) (xss : List (List ℤ)) (d : Result ℕ LoadRefusal × State) : Type 0 where
  pub many : ℕ
  pub counts : taken_of d.0 ≡ k + many
  pub beside : Beside places (appended t (take many xss)) d.1
  pub same_n : d.1.n ≡ s.n
  pub has_room : 3 ^ s.n ≤ places → load_number d.0 ≡ 8 → ⊥

here : (places k : ℕ) (t : Tally) (s : State) (xss : List (List ℤ)) → Beside places t s → (r : Result ℕ LoadRefusal) → taken_of r ≡ k
    → (3 ^ s.n ≤ places → load_number r ≡ 8 → ⊥) → Loaded places k t s xss (r, s)
here places k t s xss b r e h = record { many = 0; counts = omega arith; beside = b; same_n = refl; has_room = h }

module _ (places k p : ℕ) (t : Tally) (s : State) (b : Beside places t s) (xs : List ℤ) (rest : Reading) where
  -- what is left is loaded beside the tally with this clause
  abbrev Rest : Type 0
  Rest =
      (u : State) → u.n ≡ s.n → Beside places (appended t (xs ∷ [])) u
      → Loaded places (k + 1) (appended t (xs ∷ [])) u (clauses_of rest) (take_up places (k + 1) u rest)

  went : (d : Result (Option ℕ) Refusal × State) → Put places t s xs d → Rest
      → Loaded places k t s (xs ∷ clauses_of rest) (taken k p d (λ u. take_up places (k + 1) u rest))
  went (Ok l, u) h others =
      let x = others u h.1 h.0 in
      record {
        many = suc x.many;
        counts = omega (arith, x.counts);
        beside = subst (λ v. Beside places v (take_up places (k + 1) u rest).1) (appended_more t xs (take x.many (clauses_of rest))) x.beside;
        same_n = x.same_n ∙ h.1;
        has_room = λ r. x.has_room (subst (λ n. 3 ^ n ≤ places) (sym h.1) r);
      }
  went (Err r, u) h others =
      let f : Result ℕ LoadRefusal = Err (record { fault = load.Book (book.NoFreePlace p); taken = k }) in
      subst (λ v. Loaded places k t s (xs ∷ clauses_of rest) (f, v)) (sym h.1) (here places k t s (xs ∷ clauses_of rest) b f refl (λ roomy e. h.2 roomy))

load_all : (places k : ℕ) (t : Tally) (s : State) (r : Reading) → (s.n ≡ 0 → ⊥) → Proper s.n r → Beside places t s → Loaded places k t s (clauses_of r) (take_up places k s r)
load_all places k t s well some proper b = here places k t s [] b (Ok k) refl (λ roomy e. omega arith)
load_all places k t s (refused f) some proper b =
    here places k t s [] b (Err (record { fault = load_fault f; taken = k })) refl (λ roomy e. proper (sym (same_number f) ∙ e))
load_all places k t s (clause xs p rest) some proper b =
    went places k p t s b xs rest (accepted places s xs) (put_accepted places t s b xs some proper.0)
    (λ u e bu. load_all places (k + 1) (appended t (xs ∷ [])) u rest (λ z. some (sym e ∙ z)) (subst (λ n. Proper n rest) (sym e) proper.1) bu)

-- ---- load

pub step_load : (limits : Limits) (places : ℕ) (t : Tally) (s : State) (text : List ℕ) → Beside places t s → Step places t (loads text) (does limits places s (loads text))
step_load limits places t s text b =
    tested (λ d. Step places t (loads text) d) (not (is_open s)) (loaded (Err (record { fault = load.NotOpen; taken = 0 })), s) _
    (refused_step places t s (loads text) (loaded (Err (record { fault = load.NotOpen; taken = 0 }))) refl refl (λ e. omega arith) b)
    (λ is. go (take_up places 0 s (reading s.n text)) (load_all places 0 t s (reading s.n text) (open_some s is) (reading_proper s.n text) b))
  where
    go : (d : Result ℕ LoadRefusal × State) → Loaded places 0 t s (clauses_of (reading s.n text)) d → Step places t (loads text) (loaded d.0, d.1)
    go d h =
        let e : h.many ≡ taken_of d.0 = omega (arith, h.counts) in
        let at_s : Beside places (appended t (take (taken_of d.0) (clauses_of (reading s.n text)))) d.1
        = subst (λ (m : ℕ). Beside places (appended t (take m (clauses_of (reading s.n text)))) d.1) e h.beside in
        record {
          beside = subst (λ (n : ℕ). Beside places (appended t (take (taken_of d.0) (clauses_of (reading n text)))) d.1) (sym b.same_n) at_s;
          good = plain places None (load_number d.0) (counted (loads text) (loaded d.0) t) d.1 refl
              (λ r. h.has_room (subst (λ n. 3 ^ n ≤ places) (appended_n t (take (taken_of d.0) (clauses_of (reading t.n text))) ∙ b.same_n) r));
        }
