-- How the calls end: the open is refused, or the load, or the run answers.
-- Assumes nothing.
use Rattle.std.proofs.Common.{◌≡◌, ℕ, ◌+◌, ◌^◌, ◌<◌, ◌≤◌, ◌⊎◌, Bool, true, false, cond, not, ltb, leb, List, [], ◌∷◌, ◌++◌, length, take, ℤ, Some, None, Ok, Err, Option, Result, inl, inr, ⊎_elim, length-append, refl, sym, ap, ◌∙◌, subst, arith}
use Rattle.limits.specs.Limits.{program_places, program_steps}
use Rattle.std.proofs.lemmas.Bool.{cond_both, ltb-true, ltb-false, leb-true, and_parts, not-true, not-false}
use Rattle.std.proofs.lemmas.List.{take_all}
use Rattle.std.proofs.lemmas.Nat.{pow_pos}
use Rattle.text.specs.declared.faults.ReadFault.{ReadFault}
use Rattle.text.specs.Refusals.{number_of}
use Rattle.text.specs.Reading.{Reading, clause, well, refused, reading, clauses_of, fault_of}
use Rattle.words.specs.Bits.{one_to}
use Rattle.clauses.specs.Literals.{tautology}
use Rattle.clauses.specs.Sets.{set_of}
use Rattle.clauses.specs.Clauses.{Signs}
use Rattle.lines.specs.Lines.{number_of as number_in, clauses_in, given_clause}
use Rattle.guides.specs.Ranks.{longest_first}
use Rattle.answers.specs.declared.run.Ran.{Ran}
use Rattle.answers.specs.declared.refusal.Refusal.{Refusal}
use Rattle.answers.specs.declared.refusal.Refusal.TheVariants.{VariablesOutOfRange}
use Rattle.answers.specs.declared.load.LoadRefusal.{LoadRefusal}
use Rattle.answers.specs.Refusals.{load_refusal}
use Rattle.histories.specs.States.{State, session_limits, unopened, is_open}
use Rattle.histories.specs.Runs.{Run, run}
use Rattle.histories.specs.Calls.{Answer, opens, opened, loads, loaded, runs, ran, too_wide, answering, entered, accepted, taken, take_up, run_told, does}
use Rattle.histories.specs.Logs.{Log, Reached, newest_outcome}
use Rattle.histories.specs.Tallies.{Tally, appended, tally}
use Rattle.histories.proofs.Histories.{reached_beside, allowed}
use Rattle.histories.proofs.Beside.{unopened_none}
use Rattle.histories.proofs.Loading.{appended_n}
use Rattle.solve.specs.declared.fault.Fault.{Fault}
use Rattle.solve.specs.declared.fault.Fault.TheVariants.{Session, Load}
use Rattle.pages.specs.Reports.{Told, told_of}
use Rattle.solve.specs.Answers.{unless_refused, called, found}
use Rattle.solve.proofs.Playing.{load_some}

-- ---- what a load takes

-- the clause needs at most one new line, and is refused where no place is free
abbrev TakesOne : ℕ → State → Result (Option ℕ) Refusal × State → Type 0
TakesOne places s (Ok l, u) = length u.lines ≤ length s.lines + 1
TakesOne places s (Err r, u) = places ≤ length s.lines

entered_one : (places : ℕ) (s : State) (c : Signs) (o : Option ℕ) (room : Bool) → ltb (length s.lines) places ≡ room → TakesOne places s (entered o room s c)
entered_one places s c (Some k) room e = omega arith
entered_one places s c None true e = omega (arith, length-append s.lines (given_clause c ∷ []))
entered_one places s c None false e = ltb-false (length s.lines) places e

accepted_one : (places : ℕ) (s : State) (xs : List ℤ) → TakesOne places s (accepted places s xs)
accepted_one places s xs =
    cond_both (tautology xs) _ _ (TakesOne places s) (λ _. omega arith)
    (λ _. entered_one places s (set_of xs) (number_in (set_of xs) (clauses_in s.lines)) (ltb (length s.lines) places) refl)

-- The text ends well and all its clauses were taken; or it is at fault; or its
-- clauses need more places than there are.
abbrev Took : ℕ → ℕ → State → Reading → Result ℕ LoadRefusal × State → Type 0
Took places j s r (Ok k, t) = (fault_of r ≡ None) × (k ≡ j + length (clauses_of r))
Took places j s r (Err f, t) =
    ((g : ReadFault) × (fault_of r ≡ Some g)) ⊎ ((number_of (load_refusal f.fault) ≡ 8) × (places < length s.lines + length (clauses_of r)))

pub took : (places j : ℕ) (s : State) (r : Reading) → Took places j s r (take_up places j s r)
took places j s well = (refl, omega arith)
took places j s (refused f) = inl (f, refl)
took places j s (clause xs p rest) = go (accepted places s xs) (accepted_one places s xs) (λ u. took places (j + 1) u rest)
  where
    on : (u : State) → length u.lines ≤ length s.lines + 1 → (d : Result ℕ LoadRefusal × State) → Took places (j + 1) u rest d → Took places j s (clause xs p rest) d
    on u few (Ok k, t) h = (h.0, omega (arith, h.1))
    on u few (Err f, t) (inl h) = inl h
    on u few (Err f, t) (inr h) = inr (h.0, omega (arith, h.1))

    go : (d : Result (Option ℕ) Refusal × State) → TakesOne places s d → ((u : State) → Took places (j + 1) u rest (take_up places (j + 1) u rest))
        → Took places j s (clause xs p rest) (taken j p d (λ u. take_up places (j + 1) u rest))
    go (Ok l, u) few rest_took = on u few (take_up places (j + 1) u rest) (rest_took u)
    go (Err r, u) few rest_took = inr (refl, omega arith)

-- ---- the calls

appended-clauses : (t : Tally) (xss : List (List ℤ)) → t.clauses ≡ [] → (appended t xss).clauses ≡ xss
appended-clauses t [] e = e
appended-clauses t (xs ∷ xss) e = ap (λ cs. cs ++ (xs ∷ xss)) e

module _ (text : List ℕ) (n : ℕ) where
  abbrev pub xss : List (List ℤ)
  xss = clauses_of (reading n text)

  -- a history in which nothing is refused and the text is taken whole
  pub record Whole (r : Ran) (u : State) : Type 0 where
    pub log : Log
    pub reached : Reached session_limits program_places log u
    pub newest : newest_outcome log ≡ Some r.outcome
    pub same_n : (tally log).n ≡ n
    pub same_clauses : (tally log).clauses ≡ xss
    pub some : 0 < n
    pub few : n ≤ 64
    pub sound : fault_of (reading n text) ≡ None

  -- the text is at fault, or its clauses need more than 1,000 places
  abbrev pub Unloaded : LoadRefusal → Type 0
  Unloaded f = ((g : ReadFault) × (fault_of (reading n text) ≡ Some g)) ⊎ ((number_of (load_refusal f.fault) ≡ 8) × (program_places < length xss))

  -- what holds of each end holds of the end
  module _ (P : Result Told Fault → Type 0) (closed : not (one_to 64 n) ≡ true → P (Err (Session VariablesOutOfRange))) (unloaded : (f : LoadRefusal) → Unloaded f → P (Err (Load f.fault)))
      (whole : (r : Ran) (u : State) → Whole r u → P (Ok (told_of r.outcome u.assignment))) where
    after_load : (s : State) → does session_limits program_places unopened (opens n 0) ≡ (opened (Ok tt), s) → s.n ≡ n → length s.lines ≡ 0 → one_to 64 n ≡ true
        → (x : Result ℕ LoadRefusal × State) → Took program_places 0 s (reading n text) x → does session_limits program_places s (loads text) ≡ answering loaded x
        → P (found (unless_refused (answering loaded x) (λ t. does session_limits program_places t (runs longest_first program_steps))))
    after_load s o same none within (Err f, t) h e =
        subst (λ (b : Bool). P (found (cond b (does session_limits program_places t (runs longest_first program_steps)) (loaded (Err f), t)))) (sym (load_some f.fault))
        (unloaded f (⊎_elim inl (λ x. inr (x.0, omega (arith, x.1))) h))
    after_load s o same none within (Ok k, t) h e =
        let before : Log = (loads text, loaded (Ok k)) ∷ (opens n 0, opened (Ok tt)) ∷ [] in
        let at_t : Reached session_limits program_places before t = (s, (unopened, refl, o), e) in
        let n_is : (tally before).n ≡ n = appended_n _ (take k xss) in
        let t_n = (reached_beside session_limits allowed program_places before t at_t).same_n in
        let p = and_parts (ltb 0 n) (leb n 64) within in
        let some = ltb-true 0 n p.0 in
        let done : Run = run longest_first program_places program_steps t in
        let ran_so : Ran = record { outcome = done.outcome; steps = done.steps } in
        cond_both (not (is_open t)) _ (answering ran (run_told done)) (λ d. does session_limits program_places t (runs longest_first program_steps) ≡ d → P (found d))
        (λ shut _. let z = unopened_none t (not-true (is_open t) shut) in absurd (omega arith))
        (λ _ f. whole ran_so done.left (record {
          log = (runs longest_first program_steps, ran (Ok ran_so)) ∷ before;
          reached = (t, at_t, f);
          newest = refl;
          same_n = n_is;
          same_clauses = appended-clauses _ (take k xss) refl ∙ take_all k xss (omega (arith, h.1));
          some = some;
          few = leb-true n 64 p.1;
          sound = h.0;
        })) refl

    after_open : (s : State) → does session_limits program_places unopened (opens n 0) ≡ (opened (Ok tt), s) → s.n ≡ n → length s.lines ≡ 0 → one_to 64 n ≡ true
        → P (found (unless_refused (does session_limits program_places s (loads text)) (λ t. does session_limits program_places t (runs longest_first program_steps))))
    after_open s o same none within =
        let some = ltb-true 0 n (and_parts (ltb 0 n) (leb n 64) within).0 in
        cond_both (not (is_open s)) _ (answering loaded (take_up program_places 0 s (reading s.n text)))
        (λ d. does session_limits program_places s (loads text) ≡ d → P (found (unless_refused d (λ t. does session_limits program_places t (runs longest_first program_steps)))))
        (λ shut _. let z = unopened_none s (not-true (is_open s) shut) in absurd (omega arith))
        (λ _ e. after_load s o same none within (take_up program_places 0 s (reading s.n text)) (subst (λ m. Took program_places 0 s (reading m text) (take_up program_places 0 s (reading s.n text))) same (took program_places 0 s (reading s.n text))) e) refl

    pub by_ending : P (found (called text n))
    by_ending =
        let Q : Answer × State → Type 0 =
        λ d. does session_limits program_places unopened (opens n 0) ≡ d → P (found (unless_refused d (λ s. unless_refused (does session_limits program_places s (loads text)) (λ t. does session_limits program_places t (runs longest_first program_steps))))) in
        cond_both (not (one_to 64 n)) _ _ Q (λ out _. closed out)
        (λ within. cond_both (too_wide n 0) _ _ Q (λ high _. let z = leb-true (2 ^ n) 0 high in let y = pow_pos n in absurd (omega arith))
        (λ _ e. after_open _ e refl refl (not-false (one_to 64 n) within))) refl
