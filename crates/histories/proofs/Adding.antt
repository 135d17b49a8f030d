-- What open, restart and add do to tally and session. Assumes nothing.
use Rattle.std.proofs.Common.{◌≡◌, ℕ, ◌^◌, ◌≤◌, Bool, true, false, cond, not, ltb, leb, List, [], ◌∷◌, ◌++◌, length, ℤ, Some, None, Ok, Err, Option, Result, length-append, le_trans, le_of_eq, sym, refl, ap, ◌∙◌, subst, arith}
use Rattle.std.specs.List.{list_all}
use Rattle.std.proofs.lemmas.Bool.{and_parts, and_from, or_left, or_right, not-false, ltb-true, ltb-false, leb-true}
use Rattle.std.proofs.lemmas.List.Folds.{list_all-append, list_any-append}
use Rattle.words.specs.Bits.{one_to}
use Rattle.answers.specs.declared.refusal.Refusal.{Refusal}
use Rattle.answers.specs.declared.refusal.Refusal.TheVariants.{AlreadyOpen, VariablesOutOfRange, TooManyPlaces, StartOutOfRange, NotOpen, TooManyNumbers, NoLiteral, NoFreePlace}
use Rattle.limits.specs.Limits.{most_literals}
use Rattle.clauses.specs.Values.{assigned, truths}
use Rattle.clauses.specs.Literals.{names, met, tautology}
use Rattle.clauses.specs.Sets.{set_of}
use Rattle.clauses.specs.Clauses.{Signs, meets, same, has}
use Rattle.clauses.proofs.Listed.{length_truths}
use Rattle.lines.specs.Lines.{number_of, clauses_in, given_clause, givens_in}
use Rattle.lines.proofs.Numbers.{tautology-met}
use Rattle.lines.proofs.Resolution.{same_meets}
use Rattle.clause_laws.proofs.Counting.{same_self}
use Rattle.clause_laws.proofs.Found.{found}
use Rattle.histories.specs.States.{Limits, Allowed, State, unopened, is_open, with_line, with_assignment, WellFormed}
use Rattle.histories.specs.Calls.{opens, adds, restarts, Answer, opened, added, restarted, too_wide, entered, accepted, does}
use Rattle.histories.specs.Tallies.{Tally, empty_tally, appended}
use Rattle.histories.specs.Guarantees.{meets_all, is_one_of}
use Rattle.histories.proofs.Books.{met_more, met_less, givens_more, book_bound}
use Rattle.steps.proofs.Written.{sound_keeps}
use Rattle.histories.proofs.Runs.{AllMet}
use Rattle.histories.specs.Readings.{Named}
use Rattle.histories.proofs.Given.{set_meets, given_sound, Stood, stood}
use Rattle.histories.proofs.Beside.{Beside, slow_start, plain, Step, refused_step, tested, open_some, unopened_none}

-- ---- one more accepted clause

all_last : (a : List Bool) (xss : List (List ℤ)) (xs : List ℤ) → meets_all a (xss ++ (xs ∷ [])) ≡ true → (meets_all a xss ≡ true) × (met (assigned a) xs ≡ true)
all_last a xss xs h =
    let p = and_parts (meets_all a xss) (meets_all a (xs ∷ [])) (sym (list_all-append (met (assigned a)) xss (xs ∷ [])) ∙ h) in
    (p.0, (and_parts (met (assigned a) xs) true p.1).0)

all_both : (a : List Bool) (xss : List (List ℤ)) (xs : List ℤ) → meets_all a xss ≡ true → met (assigned a) xs ≡ true → meets_all a (xss ++ (xs ∷ [])) ≡ true
all_both a xss xs h e =
    list_all-append (met (assigned a)) xss (xs ∷ []) ∙ and_from (meets_all a xss) (meets_all a (xs ∷ [])) h (and_from (met (assigned a) xs) true e refl)

one_of_more : (xss : List (List ℤ)) (xs : List ℤ) (c : Signs) → is_one_of xss c ≡ true → is_one_of (xss ++ (xs ∷ [])) c ≡ true
one_of_more xss xs c h = list_any-append (λ ys. same c (set_of ys)) xss (xs ∷ []) ∙ or_left (is_one_of xss c) (is_one_of (xs ∷ []) c) h

one_of_last : (xss : List (List ℤ)) (xs : List ℤ) → is_one_of (xss ++ (xs ∷ [])) (set_of xs) ≡ true
one_of_last xss xs =
    list_any-append (λ ys. same (set_of xs) (set_of ys)) xss (xs ∷ [])
    ∙ or_right (is_one_of xss (set_of xs)) (is_one_of (xs ∷ []) (set_of xs)) (or_left (same (set_of xs) (set_of xs)) false (same_self (set_of xs)))

all_one_of_more : (xss : List (List ℤ)) (xs : List ℤ) (cs : List Signs) → list_all (is_one_of xss) cs ≡ true → list_all (is_one_of (xss ++ (xs ∷ []))) cs ≡ true
all_one_of_more xss xs [] h = refl
all_one_of_more xss xs (c ∷ cs) h =
    let p = and_parts (is_one_of xss c) (list_all (is_one_of xss) cs) h in
    and_from (is_one_of (xss ++ (xs ∷ [])) c) (list_all (is_one_of (xss ++ (xs ∷ []))) cs) (one_of_more xss xs c p.0) (all_one_of_more xss xs cs p.1)

-- ---- what becomes of the clause

-- Accepted, the tally has it beside the session as it then is; refused, it is
-- for want of a place, and nothing has changed.
abbrev pub Put : ℕ → Tally → State → List ℤ → Result (Option ℕ) Refusal × State → Type 0
Put places t s xs (Ok l, u) = Beside places (appended t (xs ∷ [])) u × (u.n ≡ s.n)
Put places t s xs (Err r, u) = (r ≡ NoFreePlace) × (u ≡ s) × (3 ^ s.n ≤ places → ⊥)

module _ (places : ℕ) (t : Tally) (s : State) (b : Beside places t s) (xs : List ℤ) (some : s.n ≡ 0 → ⊥) (named : Named s.n xs) where
  abbrev c : Signs
  c = set_of xs

  taken_by : (u : State) → u.n ≡ s.n → WellFormed u → length u.lines ≤ places
      → ((a : List Bool) → length a ≡ s.n → AllMet (assigned a) s → met (assigned a) xs ≡ true → AllMet (assigned a) u)
      → ((a : List Bool) → length a ≡ s.n → AllMet (assigned a) u → AllMet (assigned a) s × (met (assigned a) xs ≡ true))
      → list_all (is_one_of (t.clauses ++ (xs ∷ []))) (givens_in u.lines) ≡ true
      → Beside places (appended t (xs ∷ [])) u × (u.n ≡ s.n)
  taken_by u e fine fits f g origin = (
    record {
      same_n = b.same_n ∙ sym e;
      fine = fine;
      new = λ z. absurd (some (sym e ∙ z));
      small = λ z. b.small some;
      fits = fits;
      forth = λ a l m. let p = all_last a t.clauses xs m in f a (l ∙ e) (b.forth a (l ∙ e) p.0) p.1;
      back = λ a l m. let p = g a (l ∙ e) m in all_both a t.clauses xs (b.back a (l ∙ e) p.0) p.1;
      origin = origin;
      named = subst (λ n. list_all (list_all (names n)) (t.clauses ++ (xs ∷ [])) ≡ true) (sym e)
          (list_all-append (list_all (names s.n)) t.clauses (xs ∷ [])
          ∙ and_from (list_all (list_all (names s.n)) t.clauses) (list_all (list_all (names s.n)) (xs ∷ [])) b.named (and_from (list_all (names s.n) xs) true named refl));
      slow = slow_start t.ranks u fine;
    },
    e,
  )

  -- the session stays, and its lines meet the clause
  unchanged : ((a : List Bool) → length a ≡ s.n → AllMet (assigned a) s → met (assigned a) xs ≡ true) → Beside places (appended t (xs ∷ [])) s × (s.n ≡ s.n)
  unchanged h = taken_by s refl b.fine b.fits (λ a l m e. m) (λ a l m. (m, h a l m)) (all_one_of_more t.clauses xs (givens_in s.lines) b.origin)

  meets_it : (a : List Bool) → meets (assigned a) (set_of xs) ≡ met (assigned a) xs
  meets_it a = set_meets s.n xs named b.fine.narrow (assigned a)

  old_line : has (set_of xs) (clauses_in s.lines) ≡ true → (a : List Bool) → length a ≡ s.n → AllMet (assigned a) s → met (assigned a) xs ≡ true
  old_line h a l m =
      let d = found (same (set_of xs)) (clauses_in s.lines) h in
      sym (meets_it a) ∙ same_meets (set_of xs) d.0 (assigned a) d.1 ∙ d.2 (meets (assigned a)) m

  new_keeps : tautology xs ≡ false → has (set_of xs) (clauses_in s.lines) ≡ false → WellFormed (with_line s (given_clause (set_of xs)))
  new_keeps e new = record {
    kept = sound_keeps s.n s.lines (given_clause (set_of xs)) b.fine.kept (given_sound s.n xs (clauses_in s.lines) named b.fine.narrow e new);
    total = b.fine.total;
    narrow = b.fine.narrow;
  }

  new_origin : list_all (is_one_of (t.clauses ++ (xs ∷ []))) (givens_in (s.lines ++ (given_clause (set_of xs) ∷ []))) ≡ true
  new_origin =
      let p = is_one_of (t.clauses ++ (xs ∷ [])) in
      ap (list_all p) (givens_more s.lines (given_clause (set_of xs)))
      ∙ list_all-append p (givens_in s.lines) (set_of xs ∷ [])
      ∙ and_from (list_all p (givens_in s.lines)) (list_all p (set_of xs ∷ [])) (all_one_of_more t.clauses xs (givens_in s.lines) b.origin)
      (and_from (p (set_of xs)) true (one_of_last t.clauses xs) refl)

  put_entered : tautology xs ≡ false → (o : Option ℕ) → Stood (set_of xs) (clauses_in s.lines) o → (free : Bool) → ltb (length s.lines) places ≡ free
      → Put places t s xs (entered o free s (set_of xs))
  put_entered e (Some k) old free g = unchanged (old_line old)
  put_entered e None new true g =
      let room = ltb-true (length s.lines) places g in
      let longer = length-append s.lines (given_clause (set_of xs) ∷ []) in
      taken_by (with_line s (given_clause (set_of xs))) refl (new_keeps e new) (omega arith)
      (λ a l m h. met_more (assigned a) s.lines (given_clause (set_of xs)) m (meets_it a ∙ h))
      (λ a l m. let p = met_less (assigned a) s.lines (given_clause (set_of xs)) m in (p.0, sym (meets_it a) ∙ p.1))
      new_origin
  put_entered e None new false g =
      let full = ltb-false (length s.lines) places g in
      let longer = length-append s.lines (given_clause (set_of xs) ∷ []) in
      let bound = book_bound s.n (s.lines ++ (given_clause (set_of xs) ∷ [])) (new_keeps e new).kept in
      (refl, refl, λ roomy. omega arith)

  put_tested : (two : Bool) → tautology xs ≡ two
      → Put places t s xs (cond two (Ok None, s) (entered (number_of (set_of xs) (clauses_in s.lines)) (ltb (length s.lines) places) s (set_of xs)))
  put_tested true e = unchanged (λ a l m. tautology-met s.n xs named e a (le_of_eq (sym l)))
  put_tested false e = put_entered e (number_of (set_of xs) (clauses_in s.lines)) (stood (set_of xs) (clauses_in s.lines)) (ltb (length s.lines) places) refl

  pub put_accepted : Put places t s xs (accepted places s xs)
  put_accepted = put_tested (tautology xs) refl

-- ---- add

pub step_add : (limits : Limits) (places : ℕ) (t : Tally) (s : State) (xs : List ℤ) → Beside places t s → Step places t (adds xs) (does limits places s (adds xs))
step_add limits places t s xs b =
    let P : Answer × State → Type 0 = λ d. Step places t (adds xs) d in
    tested P (not (is_open s)) (added (Err NotOpen), s) _ (refused_step places t s (adds xs) (added (Err NotOpen)) refl refl (λ e. omega arith) b)
    (λ is. tested P (ltb most_literals (length xs)) (added (Err TooManyNumbers), s) _ (refused_step places t s (adds xs) (added (Err TooManyNumbers)) refl refl (λ e. omega arith) b)
    (λ few. tested P (not (list_all (names s.n) xs)) (added (Err NoLiteral), s) _ (refused_step places t s (adds xs) (added (Err NoLiteral)) refl refl (λ e. omega arith) b)
    (λ named. go (accepted places s xs) (put_accepted places t s b xs (open_some s is) (not-false (list_all (names s.n) xs) named)))))
  where
    go : (d : Result (Option ℕ) Refusal × State) → Put places t s xs d → Step places t (adds xs) (added d.0, d.1)
    go (Ok l, u) h = record { beside = h.0; good = plain places None 0 (appended t (xs ∷ [])) u refl (λ r e. omega arith) }
    go (Err r, u) h = record {
      beside = subst (λ v. Beside places t v) (sym h.1) b;
      good = plain places None _ t u refl (λ r e. h.2 (subst (λ n. 3 ^ n ≤ places) b.same_n r));
    }

-- ---- open

pub step_open : (limits : Limits) → Allowed limits → (places : ℕ) (t : Tally) (s : State) (n start : ℕ) → Beside places t s → Step places t (opens n start) (does limits places s (opens n start))
step_open limits allowed places t s n start b =
    let P : Answer × State → Type 0 = λ d. Step places t (opens n start) d in
    tested P (is_open s) (opened (Err AlreadyOpen), s) _ (refused_step places t s (opens n start) (opened (Err AlreadyOpen)) refl refl (λ e. omega arith) b)
    (λ closed. tested P (not (one_to limits.variables n)) (opened (Err VariablesOutOfRange), s) _ (refused_step places t s (opens n start) (opened (Err VariablesOutOfRange)) refl refl (λ e. omega arith) b)
    (λ some. tested P (ltb limits.places places) (opened (Err TooManyPlaces), s) _ (refused_step places t s (opens n start) (opened (Err TooManyPlaces)) refl refl (λ e. omega arith) b)
    (λ book. tested P (too_wide n start) (opened (Err StartOutOfRange), s) _ (refused_step places t s (opens n start) (opened (Err StartOutOfRange)) refl refl (λ e. omega arith) b)
    (λ low. go (b.new (unopened_none s closed)) (not-false (one_to limits.variables n) some) (ltb-false limits.places places book)))))
  where
    u : State
    u = record { n = n; lines = []; assignment = truths n start }

    v : Tally
    v = record { n = n; clauses = []; steps = 0; ranks = None }

    go_nothing : one_to limits.variables n ≡ true → places ≤ limits.places → Step places empty_tally (opens n start) (opened (Ok tt), record unopened { n = n; assignment = truths n start })
    go_nothing few small =
        let p = and_parts (ltb 0 n) (leb n limits.variables) few in
        let most = leb-true n limits.variables p.1 in
        let least = ltb-true 0 n p.0 in
        record {
          beside = record {
            same_n = refl;
            fine = record { kept = refl; total = length_truths n start; narrow = le_trans most allowed.variables };
            new = λ z. absurd (omega arith);
            small = λ z. le_trans small allowed.places;
            fits = omega arith;
            forth = λ a l m. refl;
            back = λ a l m. refl;
            origin = refl;
            named = refl;
            slow = tt;
          };
          good = plain places None 0 _ _ refl (λ r e. omega arith);
        }

    go : (t ≡ empty_tally) × (s ≡ unopened) → one_to limits.variables n ≡ true → places ≤ limits.places
        → Step places t (opens n start) (opened (Ok tt), record s { n = n; assignment = truths n start })
    go e few small =
        subst (λ w. Step places w (opens n start) (opened (Ok tt), record s { n = n; assignment = truths n start })) (sym e.0)
        (subst (λ w. Step places empty_tally (opens n start) (opened (Ok tt), record w { n = n; assignment = truths n start })) (sym e.1) (go_nothing few small))

-- ---- restart

pub step_restart : (limits : Limits) (places : ℕ) (t : Tally) (s : State) (start : ℕ) → Beside places t s → Step places t (restarts start) (does limits places s (restarts start))
step_restart limits places t s start b =
    let P : Answer × State → Type 0 = λ d. Step places t (restarts start) d in
    tested P (not (is_open s)) (restarted (Err NotOpen), s) _ (refused_step places t s (restarts start) (restarted (Err NotOpen)) refl refl (λ e. omega arith) b)
    (λ is. tested P (too_wide s.n start) (restarted (Err StartOutOfRange), s) _ (refused_step places t s (restarts start) (restarted (Err StartOutOfRange)) refl refl (λ e. omega arith) b)
    (λ low. again (open_some s is)))
  where
    fine : WellFormed (with_assignment s (truths s.n start))
    fine = record { kept = b.fine.kept; total = length_truths s.n start; narrow = b.fine.narrow }

    again : (s.n ≡ 0 → ⊥) → Step places t (restarts start) (restarted (Ok tt), with_assignment s (truths s.n start))
    again some = record {
      beside = record {
        same_n = b.same_n;
        fine = fine;
        new = λ z. absurd (some z);
        small = b.small;
        fits = b.fits;
        forth = b.forth;
        back = b.back;
        origin = b.origin;
        named = b.named;
        slow = slow_start t.ranks (with_assignment s (truths s.n start)) fine;
      };
      good = plain places None 0 _ _ refl (λ r e. omega arith);
    }
