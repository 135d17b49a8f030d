-- Lists are played line by line. Assumes nothing.
use Rattle.std.proofs.Common.{◌≡◌, ℕ, suc, ◌+◌, ◌-◌, ◌<◌, ◌≤◌, Bool, true, false, ◌||◌, List, [], ◌∷◌, ◌++◌, length, map, take, drop, get_or, Some, None, Ok, Err, Option, Result, IfOk, IfErr, inl, inr, refl, sym, ap, ◌∙◌, subst, add-one, arith}
use Rattle.std.specs.Result.{result_unwrap_or}
use Rattle.std.specs.Io.KnownBytes.{Appends}
use Rattle.std.specs.List.{drop-map}
use Rattle.std.proofs.Math.Seq.{drop-cons}
use Rattle.std.proofs.lemmas.List.{append_assoc, append-nil, drop_all, drop-drop, take_all, length-drop}
use Rattle.session.specs.declared.session.Session.{Session}
use Rattle.protocol.specs.Commands.{Command, words_of}
use Rattle.protocol.specs.Reading.{read_words}
use Rattle.protocol.specs.Said.{Said, said}
use Rattle.protocol.specs.declared.answer.Answer.{Answer}
use Rattle.protocol.specs.declared.answer.Answer.TheVariants as answer
use Rattle.session.specs.Sessions.{KeepsPlaces}
use Rattle.replay.specs.Playing.{is_head, Played}
use Rattle.replay.specs.Lists.{is_passed_over, told, Stays, IsNew, Answered, PlaysLines, PlaysAll, GoesOn, GoesOnAnew}

-- a call that is played, or not for want of memory
pub stayed : {E : Type 0} (made : Bool) (was is : Session) (call : Option Command) (c : Command) (r : Result Answer E) (a : Answer) → Some c ≡ call
    → IfOk r (λ x. Played (made || is_head c) was c (said x) is) → KeepsPlaces was is → IfErr r (λ e. is ≡ was) → a ≡ result_unwrap_or r answer.Error
    → Stays made was call (said a) is
stayed made was is call c (Ok x) a says plays keeps kept e =
    inr (c, sym says, subst (λ y. Played (made || is_head c) was c (said y) is) (sym e) plays, keeps)
stayed made was is call c (Err x) a says plays keeps kept e = inl (ap said e, kept)

-- ---- bytes

pub appends_none : (w : Option (List ℕ)) → Appends w w []
appends_none None = tt
appends_none (Some xs) = sym (append-nil xs)

pub appends_more : (v w x : Option (List ℕ)) (a b : List ℕ) → Appends v w a → Appends w x b → Appends v x (a ++ b)
appends_more None w x a b p q = tt
appends_more (Some xs) None x a b p q = absurd p
appends_more (Some xs) (Some ys) None a b p q = absurd q
appends_more (Some xs) (Some ys) (Some zs) a b p q =
    q ∙ ap (λ us. us ++ b) p ∙ append_assoc xs a b

-- ---- lines

-- what is left at a place begins with the line there
pub left_at : {A : Type 0} (f : A → List ℕ) (xs : List A) (i : ℕ) (d : A) → i < length xs → drop i (map f xs) ≡ f (get_or xs i d) ∷ drop (i + 1) (map f xs)
left_at f xs i d h =
    rw add-one
    (drop-map f i xs ∙ ap (map f) (drop-cons xs i d h) ∙ ap (λ zs. f (get_or xs i d) ∷ zs) (sym (drop-map f (suc i) xs)))

pub none_left : {A : Type 0} (f : A → List ℕ) (xs : List A) (i : ℕ) → length xs ≤ i → drop i (map f xs) ≡ []
none_left f xs i h = drop-map f i xs ∙ ap (map f) (drop_all i xs h)

pub passes_over : (Whole : List ℕ → Type 0) (out line : List ℕ) (left lines : List (List ℕ)) (made : Bool) (was : Session) → left ≡ line ∷ lines
    → GoesOn Whole out (PlaysLines left made was) → is_passed_over line ≡ true → GoesOn Whole out (PlaysLines lines made was)
passes_over Whole out line left lines made was e goes passed rest plays =
    goes rest (subst (λ ls. PlaysLines ls made was rest) (sym e) (inl (passed, plays)))

pub answers : (Whole : List ℕ → Type 0) (out line : List ℕ) (left lines : List (List ℕ)) (made made_then : Bool) (was is : Session) (a : Said) → left ≡ line ∷ lines
    → GoesOn Whole out (PlaysLines left made was) → is_passed_over line ≡ false → Answered made was (read_words (words_of line)) a made_then is
    → GoesOn Whole (out ++ told a) (PlaysLines lines made_then is)
answers Whole out line left lines made made_then was is a e goes not_passed answered rest plays =
    subst Whole (sym (append_assoc out (told a) rest))
    (goes (told a ++ rest)
    (subst (λ ls. PlaysLines ls made was (told a ++ rest)) (sym e)
    (inr (not_passed, (a, made_then, is, rest, answered, refl, plays)))))

-- all lines are played
pub ends : (Whole : List ℕ → Type 0) (out : List ℕ) (left : List (List ℕ)) (made : Bool) (was : Session) → left ≡ [] → GoesOn Whole out (PlaysLines left made was) → Whole out
ends Whole out left made was none goes =
    subst Whole (append-nil out) (goes [] (subst (λ ls. PlaysLines ls made was []) (sym none) refl))

-- ---- sessions

-- nothing is written yet
pub starts : (lines : List (List ℕ)) (count : ℕ) → count ≡ 0 → GoesOnAnew (PlaysAll lines) [] lines false count
starts lines count e is new rest plays = (is, subst (IsNew is) e new, plays)

-- the lines from a place on
pub rest_left : {A : Type 0} (f : A → List ℕ) (xs : List A) (at : ℕ) → map f (take (length xs - at) (drop at xs)) ≡ drop at (map f xs)
rest_left f xs at =
    ap (map f) (take_all (length xs - at) (drop at xs) (omega (arith, length-drop at xs))) ∙ sym (drop-map f at xs)

pub within_rest : {A : Type 0} (xs : List A) (at k : ℕ) → at ≤ length xs → k ≤ length (take (length xs - at) (drop at xs)) → at + k ≤ length xs
within_rest xs at k h l =
    let e = take_all (length xs - at) (drop at xs) (omega (arith, length-drop at xs)) in
    omega (arith, rw e at l, length-drop at xs)

-- one session's lines are played, up to those of the next
pub renews : (Whole : List ℕ → Type 0) (out more : List ℕ) (all left : List (List ℕ)) (at k : ℕ) (made : Bool) (count next : ℕ) (s : Session) → left ≡ drop at all
    → GoesOnAnew Whole out (drop at all) made count → IsNew s count → GoesOnAnew (PlaysLines left made s) more (drop k left) true next
    → GoesOnAnew Whole (out ++ more) (drop (at + k) all) true next
renews Whole out more all left at k made count next s e goes new then is renewed rest plays =
    let there : PlaysLines (drop k left) true is rest = subst (λ v. PlaysLines v true is rest) (sym (ap (drop k) e ∙ drop-drop k at all)) plays in
    subst Whole (sym (append_assoc out more rest))
    (goes s new (more ++ rest) (subst (λ v. PlaysLines v made s (more ++ rest)) e (then is renewed rest there)))

-- the last session's lines are played
pub finishes : (Whole : List ℕ → Type 0) (out more : List ℕ) (left lines : List (List ℕ)) (made : Bool) (count : ℕ) (s : Session) → left ≡ lines
    → GoesOnAnew Whole out lines made count → IsNew s count → PlaysLines left made s more → Whole (out ++ more)
finishes Whole out more left lines made count s e goes new plays = goes s new more (subst (λ v. PlaysLines v made s more) e plays)
