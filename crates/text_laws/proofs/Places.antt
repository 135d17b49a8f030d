-- Where the words of a text stand in it. Assumes nothing.
use Rattle.std.proofs.Common.{◌≡◌, ℕ, suc, ◌+◌, ◌-◌, ◌<◌, ◌≤◌, Bool, true, false, cond, List, [], ◌∷◌, ◌++◌, length, get_or, take, sym, refl, ap, ◌∙◌, subst, subst₂, append_assoc, append-nil, arith, length-append}
use Rattle.std.specs.List.{AllByRecursion}
use Rattle.std.proofs.ByRecursion.{All-append}
use Rattle.std.proofs.Math.Seq.{take-append_seam, drop-append_seam, get_or-append_seam}
use Rattle.std.proofs.lemmas.Bool.{cond_both}
use Rattle.std.proofs.lemmas.List.{get_or_append_left, get_or-append-add, length_push}
use Rattle.std.proofs.lemmas.List.Elements.{All-from_recursion}
use Rattle.text_laws.specs.Laws.{Apart, WordsStandInTheText}
use Rattle.text_laws.specs.Standing.{IsAWord}
use Rattle.tokens.specs.Scanning.{Part, a_word, a_comment, Mode, gap, inside, part_ends, piece_of, early_past_part, opened, next_mode, ended, unended, scan}
use Rattle.tokens.specs.Words.{Piece, word, comment, parts_words, ends_line, pieces, words_of}
use Rattle.tokens.proofs.Gaps.{ends_parts, no_end}
use Rattle.tokens.proofs.Lines.{pieces_scanned}

-- no word and no comment goes on past these bytes
abbrev EndsInGap : List ℕ → Type 0
EndsInGap f = 0 < length f → parts_words (get_or f (length f - 1) 0) ≡ true

ends_in_gap : (f : List ℕ) (b : ℕ) → parts_words b ≡ true → EndsInGap (f ++ b ∷ [])
ends_in_gap f b y h =
    let last : length (f ++ b ∷ []) - 1 ≡ length f = omega (arith, length_push f b) in
    rw (last, get_or-append_seam f b [] 0) y

-- a word or a comment may begin at the place s, after the bytes f, whose pieces are `done`
abbrev Opens : List ℕ → List Piece → ℕ → Type 0
Opens f done s = (length f ≡ s) × EndsInGap f × (pieces f ≡ done)

-- one began there, and the bytes f end with its bytes so far, w
abbrev Began : List ℕ → List Piece → Part → ℕ → List ℕ → Type 0
Began f done part s w =
    (front : List ℕ) × (f ≡ front ++ w) × Opens front done s × (0 < length w)
    × AllByRecursion (λ b. part_ends part b ≡ false) w

module _ (f : List ℕ) (done : List Piece) (part : Part) (s : ℕ) where
  begins : (b : ℕ) → part_ends part b ≡ false → Opens f done s
      → Began (f ++ b ∷ []) done part s (b ∷ [])
  begins b stays opens = (f, refl, opens, omega arith, (stays, tt))

  goes_on : (b : ℕ) (w : List ℕ) → part_ends part b ≡ false → Began f done part s w
      → Began (f ++ b ∷ []) done part s (w ++ b ∷ [])
  goes_on b w stays (front, bytes, opens, some, whole) = (
    front,
    rw (bytes, append_assoc),
    opens,
    omega (arith, length_push w b),
    All-append _ w (b ∷ []) whole (stays, tt),
  )

  began_within : (w : List ℕ) → Began f done part s w → s < length f
  began_within w (front, bytes, opens, some, whole) =
      omega (arith, opens.0, ap length bytes, length-append front w)

module _ (text : List ℕ) where
  -- the word w stands at p, after the pieces `done`
  abbrev Stands : List Piece → ℕ → List ℕ → Type 0
  Stands done p w = (f back : List ℕ) × (text ≡ f ++ back) × Began f done a_word p w × Apart back

  -- so does each word of these pieces, one after the other from the place q on
  abbrev pub AllStand : ℕ → List Piece → List Piece → Type 0
  AllStand q done [] = q ≤ length text
  AllStand q done (word p w ∷ ps) =
      (q ≤ p) × Stands done p w × AllStand (suc p) (done ++ word p w ∷ []) ps
  AllStand q done (comment p c ∷ ps) = AllStand q (done ++ comment p c ∷ []) ps

  -- a scan comes past the bytes f, of which the pieces `done` are whole, in this mode
  abbrev Comes : List ℕ → List Piece → Mode → Type 0
  Comes f done m = (more : List ℕ) → pieces (f ++ more) ≡ done ++ scan m (length f) more

  -- what is going on there began at the place q or later
  abbrev Reached : ℕ → List ℕ → List Piece → Mode → Type 0
  Reached q f done (gap early fresh) = (q ≤ length f) × EndsInGap f
  Reached q f done (inside part early s w) = (q ≤ s) × Began f done part s w

  end_stands : (q : ℕ) (f : List ℕ) (done : List Piece) (m : Mode) → text ≡ f ++ []
      → Reached q f done m → AllStand q done (unended m)
  end_stands q f done (gap early fresh) end (l, g) =
      omega (arith, ap length end, length-append f [])
  end_stands q f done (inside a_word early s w) end (l, o) =
      let past = began_within f done a_word s w o in
      (l, (f, [], end, o, tt), omega (arith, ap length end, length-append f []))
  end_stands q f done (inside a_comment early s w) end (l, o) =
      let past = began_within f done a_comment s w o in
      omega (arith, ap length end, length-append f [])

  -- one byte b, and the bytes bs after it, of which the same is known
  module _ (f : List ℕ) (b : ℕ) (bs : List ℕ) (here : text ≡ f ++ (b ∷ bs))
      (rest : (q : ℕ) (done : List Piece) (m : Mode) → Comes (f ++ b ∷ []) done m
      → Reached q (f ++ b ∷ []) done m → AllStand q done (scan m (length (f ++ b ∷ [])) bs)) where
    -- past the byte the pieces `new` are whole too, and the scan is in the mode m
    abbrev Steps : ℕ → List Piece → List Piece → Mode → Type 0
    Steps q done new m =
        Comes (f ++ b ∷ []) (done ++ new) m
        → AllStand q done (new ++ scan m (length (f ++ b ∷ [])) bs)

    past_gap : (q : ℕ) (done : List Piece) (early fresh : Bool) → q ≤ length f
        → Opens f done (length f)
        → Reached q (f ++ b ∷ []) done (next_mode (gap early fresh) (length f) b)
    past_gap q done early fresh l opens =
        let part = opened early fresh b in
        cond_both (parts_words b) _ _ (Reached q (f ++ b ∷ []) done)
        (λ y. (omega (arith, length_push f b), ends_in_gap f b y))
        (λ n. (l, begins f done part (length f) b (no_end part b n) opens))

    past_part : (q : ℕ) (done : List Piece) (part : Part) (early : Bool) (s : ℕ) (w : List ℕ)
        → q ≤ s → Began f done part s w → (ends : Bool) → part_ends part b ≡ ends
        → Steps q done (cond ends (piece_of part s w ∷ []) [])
        (cond ends (gap (early_past_part part early w) (ends_line b))
        (inside part early s (w ++ b ∷ [])))
    past_part q done part early s w l o false n came =
        rest q done _ (rw append-nil at came) (l, goes_on f done part s b w n o)
    past_part q done a_word early s w l o true y came =
        let past = began_within f done a_word s w o in (
          l,
          (f, b ∷ bs, here, o, y),
          rest (suc s) _ _ came (omega (arith, length_push f b), ends_in_gap f b y),
        )
    past_part q done a_comment early s w l o true y came =
        let past = began_within f done a_comment s w o in
        rest q _ _ came (omega (arith, length_push f b), ends_in_gap f b (ends_parts a_comment b y))

    past_byte : (q : ℕ) (done : List Piece) (m : Mode) → Comes f done m → Reached q f done m
        → Steps q done (ended m b) (next_mode m (length f) b)
    past_byte q done (gap early fresh) came (l, g) =
        let so_far : pieces f ≡ done = rw (append-nil f, append-nil done) at (came []) in
        let reached = past_gap q done early fresh l (refl, g, so_far) in
        λ comes. rest q done _ (rw append-nil at comes) reached
    past_byte q done (inside part early s w) came (l, o) =
        past_part q done part early s w l o (part_ends part b) refl

  scan_stands : (q : ℕ) (f bs : List ℕ) (done : List Piece) (m : Mode) → text ≡ f ++ bs
      → Comes f done m → Reached q f done m → AllStand q done (scan m (length f) bs)
  scan_stands q f [] done m here came reached = end_stands q f done m here reached
  scan_stands q f (b ∷ bs) done m here came reached =
      let next : text ≡ (f ++ b ∷ []) ++ bs = rw (here, append_assoc) in
      let place : length f + 1 ≡ length (f ++ b ∷ []) = sym (length_push f b) in
      rw place (past_byte f b bs here
      (λ q' done' m'. scan_stands q' (f ++ b ∷ []) bs done' m' next) q done m came reached
      (λ more. rw (append_assoc f, append_assoc done, length_push f b) (came (b ∷ more))))

  pub pieces_stand : AllStand 0 [] (pieces text)
  pieces_stand =
      subst (AllStand 0 []) (pieces_scanned true 0 text)
      (scan_stands 0 [] text [] (gap true true) refl (λ more. sym (pieces_scanned true 0 more))
      (omega arith, λ no. absurd (omega arith)))

  one_stands : (q : ℕ) (done before after : List Piece) (p : ℕ) (w : List ℕ)
      → AllStand q done (before ++ (word p w ∷ after)) → Stands (done ++ before) p w
  one_stands q done [] after p w h = rw append-nil h.1
  one_stands q done (word r v ∷ before) after p w h =
      rw append_assoc at (one_stands (suc r) (done ++ word r v ∷ []) before after p w h.2)
  one_stands q done (comment r v ∷ before) after p w h =
      rw append_assoc at (one_stands q (done ++ comment r v ∷ []) before after p w h)

-- a word between bytes that part words
module _ (front w : List ℕ) where
  closed : (back : List ℕ) → Apart back → length front + length w < length (front ++ (w ++ back))
      → parts_words (get_or (front ++ (w ++ back)) (length front + length w) 0) ≡ true
  closed [] apart h = absurd (omega (arith, length-append front (w ++ []), length-append w []))
  closed (b ∷ bs) apart h =
      rw (get_or-append-add front (w ++ (b ∷ bs)) (length w) 0, get_or-append_seam w b bs 0) apart

  is_a_word : (back : List ℕ) → EndsInGap front → 0 < length w
      → AllByRecursion (λ b. parts_words b ≡ false) w → Apart back
      → IsAWord (front ++ (w ++ back)) (length front) w
  is_a_word back opens some whole apart =
      let before = get_or_append_left front (w ++ back) 0 (length front - 1) in
      record {
        some = some;
        there = rw (drop-append_seam front (w ++ back), take-append_seam w back);
        whole = All-from_recursion _ w whole;
        opens = λ h. rw (before (omega arith)) (opens h);
        closes = closed back apart;
      }

pub words_stand : WordsStandInTheText
words_stand text p ws w (before, after, e, is_ws) =
    let all = subst (AllStand text 0 []) e (pieces_stand text) in
    let (f, back, here, began, apart) = one_stands text 0 [] before after p w all in
    let (x, bytes, (place, gap_ends, is_done), some, whole) = began in
    let parts = sym (here ∙ ap (λ g. g ++ back) bytes ∙ append_assoc x w back) in
    let up_to = ap pieces (take-append_seam x (w ++ back)) ∙ is_done in
    subst₂ (λ t q. IsAWord t q w × (words_of (pieces (take q t)) ≡ ws)) parts place
    (is_a_word x w back gap_ends some whole apart, ap words_of up_to ∙ is_ws)
