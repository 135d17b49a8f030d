-- The words of a line and the call that they say. Assumes nothing.
use Rattle.std.proofs.Common.{◌≡◌, ℕ, ◌-◌, ◌^◌, ◌<◌, ◌≤◌, Bool, true, false, cond, List, [], ◌∷◌, map, codes, decimal, ℤ, Option, Some, None, option_map, option_and_then, refl, sym, ap, subst, ◌∙◌, arith}
use mir.Syntax.{w32}
use mir.Val.{SFits as FitsSigned}
use Rattle.std.specs.Fmt.{signed_decimal}
use Rattle.std.specs.List.{AllByRecursion}
use Rattle.std.specs.Str.{bytes_eq}
use Rattle.std.proofs.lemmas.Slice.Eq.{bytes_eq-Decides}
use Rattle.answers.specs.declared.run.Outcome.{Outcome}
use Rattle.answers.specs.declared.run.Outcome.TheVariants.{Met, NoneMeets, Spent, Full}
use Rattle.answers.specs.declared.report.Report.TheVariants.{Ended, Refused}
use Rattle.protocol.specs.declared.call.GuideName.{GuideName}
use Rattle.protocol.specs.declared.call.GuideName.TheVariants.{Longest, Fewest, Constant, RevFewest}
use Rattle.protocol.specs.Commands.{Command, Says, makes, opens, adds, loads, heads, restarts, runs, shows, writes_sheet, writes_report, tells_state, most_size, hexadecimal, guide_word, outcome_word}
use Rattle.protocol.specs.Reading.{natural_of, hexadecimal_of, integer_of, integers_of, size_of, small_of, guide_of, outcome_of, text_of, opening_of, running_of, ended_of, refused_of, report_of, state_of, of_one, plain_of, call_of, read_words, ALineIsItsCall}
use Rattle.protocol.proofs.Tries.{cond-some, then-some, map-some, same-some}
use Rattle.protocol.proofs.Numerals.{numeral_of-some, numeral_of-digits, integer_of-some, integer_of-signed}
use Rattle.protocol.proofs.Texts.{text_of-some, text_of-is}

-- ---- words

equal : (w v : List ℕ) → bytes_eq w v ≡ true → w ≡ v
equal w v = (bytes_eq-Decides w v).0

natural-some : (most n : ℕ) (w : List ℕ) → natural_of most w ≡ Some n
    → (w ≡ decimal n) × (n ≤ most)
natural-some = numeral_of-some 10 (omega arith) (omega arith)

natural-is : (most n : ℕ) → most < 2 ^ 64 → n ≤ most → natural_of most (decimal n) ≡ Some n
natural-is = numeral_of-digits 10 (omega arith) (omega arith)

hexadecimal-some : (n : ℕ) (w : List ℕ) → hexadecimal_of w ≡ Some n
    → (w ≡ hexadecimal n) × (n < 2 ^ 64)
hexadecimal-some n w h =
    let p = numeral_of-some 16 (omega arith) (omega arith) (2 ^ 64 - 1) n w h in
    (p.0, omega (arith, p.1))

hexadecimal-is : (n : ℕ) → n < 2 ^ 64 → hexadecimal_of (hexadecimal n) ≡ Some n
hexadecimal-is n small =
    numeral_of-digits 16 (omega arith) (omega arith) (2 ^ 64 - 1) n (omega arith) (omega arith)

small-some : (n : ℕ) (w : List ℕ) → small_of w ≡ Some n → (w ≡ decimal n) × (n < 2 ^ 32)
small-some n w h = let p = natural-some (2 ^ 32 - 1) n w h in (p.0, omega (arith, p.1))

small-is : (n : ℕ) → n < 2 ^ 32 → small_of (decimal n) ≡ Some n
small-is n small = natural-is (2 ^ 32 - 1) n (omega arith) (omega arith)

size-is : (n : ℕ) → n ≤ most_size → size_of (decimal n) ≡ Some n
size-is n small = natural-is most_size n (omega arith) small

guide-by : (w : List ℕ) (g : GuideName) (a b c d : Bool)
    → (a ≡ true → w ≡ codes "longest")
    → (b ≡ true → w ≡ codes "fewest")
    → (c ≡ true → w ≡ codes "const")
    → (d ≡ true → w ≡ codes "revfewest")
    → cond a (Some Longest)
    (cond b (Some Fewest) (cond c (Some Constant) (cond d (Some RevFewest) None)))
    ≡ Some g
    → w ≡ guide_word g
guide-by w g true b c d p q r s h = p refl ∙ ap guide_word (same-some _ g h)
guide-by w g false true c d p q r s h = q refl ∙ ap guide_word (same-some _ g h)
guide-by w g false false true d p q r s h = r refl ∙ ap guide_word (same-some _ g h)
guide-by w g false false false true p q r s h = s refl ∙ ap guide_word (same-some _ g h)
guide-by w g false false false false p q r s h = absurd (cc)

guide-some : (w : List ℕ) (g : GuideName) → guide_of w ≡ Some g → w ≡ guide_word g
guide-some w g h =
    guide-by w g _ _ _ _ (equal w (codes "longest")) (equal w (codes "fewest"))
    (equal w (codes "const")) (equal w (codes "revfewest")) h

guide-is : (g : GuideName) → guide_of (guide_word g) ≡ Some g
guide-is Longest = refl
guide-is Fewest = refl
guide-is Constant = refl
guide-is RevFewest = refl

outcome-by : (w : List ℕ) (o : Outcome) (a b c d : Bool)
    → (a ≡ true → w ≡ codes "met")
    → (b ≡ true → w ≡ codes "none")
    → (c ≡ true → w ≡ codes "spent")
    → (d ≡ true → w ≡ codes "full")
    → cond a (Some Met)
    (cond b (Some NoneMeets) (cond c (Some Spent) (cond d (Some Full) None)))
    ≡ Some o
    → w ≡ outcome_word o
outcome-by w o true b c d p q r s h = p refl ∙ ap outcome_word (same-some _ o h)
outcome-by w o false true c d p q r s h = q refl ∙ ap outcome_word (same-some _ o h)
outcome-by w o false false true d p q r s h = r refl ∙ ap outcome_word (same-some _ o h)
outcome-by w o false false false true p q r s h = s refl ∙ ap outcome_word (same-some _ o h)
outcome-by w o false false false false p q r s h = absurd (cc)

outcome-some : (w : List ℕ) (o : Outcome) → outcome_of w ≡ Some o → w ≡ outcome_word o
outcome-some w o h =
    outcome-by w o _ _ _ _ (equal w (codes "met")) (equal w (codes "none"))
    (equal w (codes "spent")) (equal w (codes "full")) h

outcome-is : (o : Outcome) → outcome_of (outcome_word o) ≡ Some o
outcome-is Met = refl
outcome-is NoneMeets = refl
outcome-is Spent = refl
outcome-is Full = refl

integers-some : (ws : List (List ℕ)) (xs : List ℤ) → integers_of ws ≡ Some xs
    → (ws ≡ map signed_decimal xs) × AllByRecursion (λ x. FitsSigned w32 x) xs
integers-some [] xs h =
    subst (λ zs. ([] ≡ map signed_decimal zs) × AllByRecursion (λ x. FitsSigned w32 x) zs)
    (same-some [] xs h) (refl, tt)
integers-some (w ∷ ws) xs h =
    let first = then-some _ (integer_of w) xs h in
    let others = then-some _ (integers_of ws) xs first.2 in
    let one = integer_of-some first.0 w first.1 in
    let more = integers-some ws others.0 others.1 in
    subst (λ zs. (w ∷ ws ≡ map signed_decimal zs) × AllByRecursion (λ x. FitsSigned w32 x) zs)
    (same-some _ xs others.2) (λ i. one.0 i ∷ more.0 i, (one.1, more.1))

integers-is : (xs : List ℤ) → AllByRecursion (λ x. FitsSigned w32 x) xs
    → integers_of (map signed_decimal xs) ≡ Some xs
integers-is [] fits = refl
integers-is (x ∷ xs) fits =
    λ i. option_and_then (λ z. option_and_then (λ zs. Some (z ∷ zs)) (integers-is xs fits.1 i))
    (integer_of-signed x fits.0 i)

-- ---- one call

-- of one word, where each word that is read is said so
one-says : {A : Type 0} (f : A → Command) (read : List ℕ → Option A) (name : List ℕ)
    → ((w : List ℕ) (x : A) → read w ≡ Some x → Says (name ∷ w ∷ []) (f x))
    → (ws : List (List ℕ)) (c : Command) → of_one f read ws ≡ Some c → Says (name ∷ ws) c
one-says f read name said [] c h = absurd (cc)
one-says f read name said (w ∷ []) c h =
    let p = then-some _ (read w) c h in
    subst (Says (name ∷ w ∷ [])) (same-some _ c p.2) (said w p.0 p.1)
one-says f read name said (w ∷ v ∷ ws) c h = absurd (cc)

opening-says : (ws : List (List ℕ)) (c : Command) → opening_of ws ≡ Some c
    → Says (codes "open" ∷ ws) c
opening-says [] c h = absurd (cc)
opening-says (places ∷ []) c h = absurd (cc)
opening-says (places ∷ start ∷ []) c h =
    let p = then-some _ (small_of places) c h in
    let q = then-some _ (hexadecimal_of start) c p.2 in
    let n = small-some p.0 places p.1 in
    let a = hexadecimal-some q.0 start q.1 in
    subst (Says (codes "open" ∷ places ∷ start ∷ [])) (same-some _ c q.2)
    (λ i. codes "open" ∷ n.0 i ∷ a.0 i ∷ [], n.1, a.1)
opening-says (places ∷ start ∷ w ∷ ws) c h = absurd (cc)

running-says : (ws : List (List ℕ)) (c : Command) → running_of ws ≡ Some c
    → Says (codes "run" ∷ ws) c
running-says [] c h = absurd (cc)
running-says (guide ∷ []) c h = absurd (cc)
running-says (guide ∷ budget ∷ []) c h =
    let p = then-some _ (guide_of guide) c h in
    let q = then-some _ (small_of budget) c p.2 in
    let g = guide-some guide p.0 p.1 in
    let b = small-some q.0 budget q.1 in
    subst (Says (codes "run" ∷ guide ∷ budget ∷ [])) (same-some _ c q.2)
    (λ i. codes "run" ∷ g i ∷ b.0 i ∷ [], b.1)
running-says (guide ∷ budget ∷ w ∷ ws) c h = absurd (cc)

ended-says : (outcome size : List ℕ) (c : Command) → ended_of outcome size ≡ Some c
    → Says (codes "report" ∷ outcome ∷ size ∷ []) c
ended-says outcome size c h =
    let p = then-some _ (outcome_of outcome) c h in
    let q = then-some _ (size_of size) c p.2 in
    let o = outcome-some outcome p.0 p.1 in
    let n = natural-some most_size q.0 size q.1 in
    subst (Says (codes "report" ∷ outcome ∷ size ∷ [])) (same-some _ c q.2)
    (λ i. codes "report" ∷ o i ∷ n.0 i ∷ [], tt, n.1)

refused-says : (number place size : List ℕ) (c : Command) → refused_of number place size ≡ Some c
    → Says (codes "report" ∷ codes "fault" ∷ number ∷ place ∷ size ∷ []) c
refused-says number place size c h =
    let p = then-some _ (small_of number) c h in
    let q = then-some _ (natural_of (2 ^ 64 - 1) place) c p.2 in
    let r = then-some _ (size_of size) c q.2 in
    let k = small-some p.0 number p.1 in
    let i = natural-some (2 ^ 64 - 1) q.0 place q.1 in
    let n = natural-some most_size r.0 size r.1 in
    subst (Says (codes "report" ∷ codes "fault" ∷ number ∷ place ∷ size ∷ [])) (same-some _ c r.2) (
      λ j. codes "report" ∷ codes "fault" ∷ k.0 j ∷ i.0 j ∷ n.0 j ∷ [],
      (k.1, omega (arith, i.1)),
      n.1,
    )

report-says : (ws : List (List ℕ)) (c : Command) → report_of ws ≡ Some c
    → Says (codes "report" ∷ ws) c
report-says [] c h = absurd (cc)
report-says (w ∷ []) c h = absurd (cc)
report-says (outcome ∷ size ∷ []) c h = ended-says outcome size c h
report-says (w ∷ v ∷ u ∷ []) c h = absurd (cc)
report-says (fault ∷ number ∷ place ∷ size ∷ []) c h =
    let p = cond-some (bytes_eq fault (codes "fault")) (refused_of number place size) c h in
    subst (λ w. Says (codes "report" ∷ w ∷ number ∷ place ∷ size ∷ []) c)
    (sym (equal fault (codes "fault") p.0)) (refused-says number place size c p.1)
report-says (a ∷ b ∷ d ∷ e ∷ f ∷ ws) c h = absurd (cc)

state-says : (ws : List (List ℕ)) (c : Command) → state_of ws ≡ Some c
    → Says (codes "state" ∷ ws) c
state-says [] c h = subst (Says (codes "state" ∷ [])) (same-some _ c h) refl
state-says (w ∷ ws) c h = absurd (cc)

making-says : (ws : List (List ℕ)) (c : Command) → of_one makes size_of ws ≡ Some c
    → Says (codes "new" ∷ ws) c
making-says =
    one-says makes size_of (codes "new") (λ w x e.
    let n = natural-some most_size x w e in
    (ap (λ v. codes "new" ∷ v ∷ []) n.0, n.1))

line-says : (ws : List (List ℕ)) (c : Command) → of_one shows small_of ws ≡ Some c
    → Says (codes "line" ∷ ws) c
line-says =
    one-says shows small_of (codes "line") (λ w x e.
    let n = small-some x w e in
    (ap (λ v. codes "line" ∷ v ∷ []) n.0, n.1))

sheet-says : (ws : List (List ℕ)) (c : Command) → of_one writes_sheet size_of ws ≡ Some c
    → Says (codes "sheet" ∷ ws) c
sheet-says =
    one-says writes_sheet size_of (codes "sheet") (λ w x e.
    let n = natural-some most_size x w e in
    (ap (λ v. codes "sheet" ∷ v ∷ []) n.0, n.1))

restart-says : (ws : List (List ℕ)) (c : Command) → of_one restarts hexadecimal_of ws ≡ Some c
    → Says (codes "restart" ∷ ws) c
restart-says =
    one-says restarts hexadecimal_of (codes "restart") (λ w x e.
    let n = hexadecimal-some x w e in
    (ap (λ v. codes "restart" ∷ v ∷ []) n.0, n.1))

load-says : (ws : List (List ℕ)) (c : Command) → of_one loads text_of ws ≡ Some c
    → Says (codes "load" ∷ ws) c
load-says = one-says loads text_of (codes "load") (λ w x e. (w, refl, text_of-some w x e))

head-says : (ws : List (List ℕ)) (c : Command) → of_one heads text_of ws ≡ Some c
    → Says (codes "head" ∷ ws) c
head-says = one-says heads text_of (codes "head") (λ w x e. (w, refl, text_of-some w x e))

adding-says : (ws : List (List ℕ)) (c : Command) → option_map adds (integers_of ws) ≡ Some c
    → Says (codes "add" ∷ ws) c
adding-says ws c h =
    let p = map-some adds (integers_of ws) c h in
    let xs = integers-some ws p.0 p.1 in
    subst (Says (codes "add" ∷ ws)) p.2 (ap (λ vs. codes "add" ∷ vs) xs.0, xs.1)

-- ---- a call by its name

-- the words of a name that passes a test
named : (name w : List ℕ) (ws : List (List ℕ)) (c : Command) → name ≡ w → Says (w ∷ ws) c
    → Says (name ∷ ws) c
named name w ws c e h = subst (λ v. Says (v ∷ ws) c) (sym e) h

plain-by : (name : List ℕ) (ws : List (List ℕ)) (k : Command) (a b c d e f : Bool)
    → (a ≡ true → name ≡ codes "new")
    → (b ≡ true → name ≡ codes "run")
    → (c ≡ true → name ≡ codes "line")
    → (d ≡ true → name ≡ codes "sheet")
    → (e ≡ true → name ≡ codes "report")
    → (f ≡ true → name ≡ codes "state")
    → cond a (of_one makes size_of ws)
    (cond b (running_of ws)
    (cond c (of_one shows small_of ws)
    (cond d (of_one writes_sheet size_of ws)
    (cond e (report_of ws)
    (cond f (state_of ws)
    (None)))))) ≡ Some k
    → Says (name ∷ ws) k
plain-by name ws k true b c d e f p q r s t u h =
    named name (codes "new") ws k (p refl) (making-says ws k h)
plain-by name ws k false true c d e f p q r s t u h =
    named name (codes "run") ws k (q refl) (running-says ws k h)
plain-by name ws k false false true d e f p q r s t u h =
    named name (codes "line") ws k (r refl) (line-says ws k h)
plain-by name ws k false false false true e f p q r s t u h =
    named name (codes "sheet") ws k (s refl) (sheet-says ws k h)
plain-by name ws k false false false false true f p q r s t u h =
    named name (codes "report") ws k (t refl) (report-says ws k h)
plain-by name ws k false false false false false true p q r s t u h =
    named name (codes "state") ws k (u refl) (state-says ws k h)
plain-by name ws k false false false false false false p q r s t u h = absurd (cc)

plain-says : (name : List ℕ) (ws : List (List ℕ)) (c : Command) → plain_of name ws ≡ Some c
    → Says (name ∷ ws) c
plain-says name ws c h =
    plain-by name ws c _ _ _ _ _ _
    (equal name (codes "new"))
    (equal name (codes "run"))
    (equal name (codes "line"))
    (equal name (codes "sheet"))
    (equal name (codes "report"))
    (equal name (codes "state"))
    h

call-by : (name : List ℕ) (ws : List (List ℕ)) (k : Command) (a b c d e : Bool)
    → (a ≡ true → name ≡ codes "open")
    → (b ≡ true → name ≡ codes "restart")
    → (c ≡ true → name ≡ codes "add")
    → (d ≡ true → name ≡ codes "load")
    → (e ≡ true → name ≡ codes "head")
    → cond a (opening_of ws)
    (cond b (of_one restarts hexadecimal_of ws)
    (cond c (option_map adds (integers_of ws))
    (cond d (of_one loads text_of ws)
    (cond e (of_one heads text_of ws)
    (plain_of name ws))))) ≡ Some k
    → Says (name ∷ ws) k
call-by name ws k true b c d e p q r s t h =
    named name (codes "open") ws k (p refl) (opening-says ws k h)
call-by name ws k false true c d e p q r s t h =
    named name (codes "restart") ws k (q refl) (restart-says ws k h)
call-by name ws k false false true d e p q r s t h =
    named name (codes "add") ws k (r refl) (adding-says ws k h)
call-by name ws k false false false true e p q r s t h =
    named name (codes "load") ws k (s refl) (load-says ws k h)
call-by name ws k false false false false true p q r s t h =
    named name (codes "head") ws k (t refl) (head-says ws k h)
call-by name ws k false false false false false p q r s t h = plain-says name ws k h

call-says : (name : List ℕ) (ws : List (List ℕ)) (c : Command) → call_of name ws ≡ Some c
    → Says (name ∷ ws) c
call-says name ws c h =
    call-by name ws c _ _ _ _ _
    (equal name (codes "open"))
    (equal name (codes "restart"))
    (equal name (codes "add"))
    (equal name (codes "load"))
    (equal name (codes "head"))
    h

read-says : (ws : List (List ℕ)) (c : Command) → read_words ws ≡ Some c → Says ws c
read-says [] c h = absurd (cc)
read-says (name ∷ ws) c h = call-says name ws c h

-- ---- the words of a call are read as it

pair-of : {A B C : Type 0} (f : A → B → C) (x : A) (y : B) (a : Option A) (b : Option B)
    → a ≡ Some x → b ≡ Some y
    → option_and_then (λ v. option_and_then (λ w. Some (f v w)) b) a ≡ Some (f x y)
pair-of f x y a b p q =
    λ i. option_and_then (λ v. option_and_then (λ w. Some (f v w)) (q i)) (p i)

triple-of : {A B C D : Type 0} (f : A → B → C → D) (x : A) (y : B) (z : C)
    (a : Option A) (b : Option B) (c : Option C) → a ≡ Some x → b ≡ Some y → c ≡ Some z
    → option_and_then (λ v. option_and_then (λ w. option_and_then (λ u. Some (f v w u)) c) b) a
    ≡ Some (f x y z)
triple-of f x y z a b c p q r =
    λ i. option_and_then (λ v.
    option_and_then (λ w. option_and_then (λ u. Some (f v w u)) (r i)) (q i)) (p i)

says-read : (ws : List (List ℕ)) (c : Command) → Says ws c → read_words ws ≡ Some c
says-read ws (makes places) h = ap read_words h.0 ∙ ap (option_map makes) (size-is places h.1)
says-read ws (opens n start) h =
    ap read_words h.0 ∙ pair-of opens n start _ _ (small-is n h.1) (hexadecimal-is start h.2)
says-read ws (adds xs) h = ap read_words h.0 ∙ ap (option_map adds) (integers-is xs h.1)
says-read ws (loads text) h = ap read_words h.1 ∙ ap (option_map loads) (text_of-is h.0 text h.2)
says-read ws (heads text) h = ap read_words h.1 ∙ ap (option_map heads) (text_of-is h.0 text h.2)
says-read ws (restarts start) h =
    ap read_words h.0 ∙ ap (option_map restarts) (hexadecimal-is start h.1)
says-read ws (runs guide budget) h =
    ap read_words h.0 ∙ pair-of runs guide budget _ _ (guide-is guide) (small-is budget h.1)
says-read ws (shows k) h = ap read_words h.0 ∙ ap (option_map shows) (small-is k h.1)
says-read ws (writes_sheet size) h =
    ap read_words h.0 ∙ ap (option_map writes_sheet) (size-is size h.1)
says-read ws (writes_report (Ended o) size) h =
    ap read_words h.0
    ∙ pair-of (λ v n. writes_report (Ended v) n) o size _ _ (outcome-is o) (size-is size h.2)
says-read ws (writes_report (Refused k place) size) h =
    ap read_words h.0
    ∙ triple-of (λ v w n. writes_report (Refused v w) n) k place size _ _ _
    (small-is k h.1.0) (natural-is (2 ^ 64 - 1) place (omega arith) (omega (arith, h.1.1)))
    (size-is size h.2)
says-read ws tells_state h = ap read_words h

pub a_line_is_its_call : ALineIsItsCall
a_line_is_its_call ws c = (read-says ws c, says-read ws c)
