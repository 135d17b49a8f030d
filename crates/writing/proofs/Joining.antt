-- Pages written one after another. Assumes nothing.
use Rattle.std.proofs.Common.{◌≡◌, ℕ, ◌+◌, ◌≤◌, List, [], ◌∷◌, ◌++◌, length, take, drop, refl, sym, ap, ap₂, ◌∙◌, subst, arith, length-append}
use Rattle.std.proofs.lemmas.List.{append_assoc, take_at, drop_at, drop-drop, length-take-le, take-append-drop}
use Rattle.writing.specs.declared.page.Page.{Page}
use Rattle.writing.specs.Items.{Item, bytes_of, bytes}
use Rattle.writing.specs.Pages.{laid, Wrote, Tells}

pub bytes_append : (is js : List Item) → bytes (is ++ js) ≡ bytes is ++ bytes js
bytes_append [] js = refl
bytes_append (i ∷ is) js = ap (λ xs. bytes_of i ++ xs) (bytes_append is js) ∙ sym (append_assoc (bytes_of i) (bytes is) (bytes js))

laid_none : (n : ℕ) (b : List ℕ) → laid n [] b ≡ b
laid_none n b = let e : n + 0 ≡ n = omega arith in ap (λ k. take n b ++ drop k b) e ∙ take-append-drop n b

laid_more : (n m : ℕ) (xs ys b : List ℕ) → m ≡ n + length xs → m + length ys ≤ length b → laid m ys (laid n xs b) ≡ laid n (xs ++ ys) b
laid_more n m xs ys b e h =
    let back : List ℕ = drop (n + length xs) b in
    let front : List ℕ = take n b ++ xs in
    let rest : List ℕ = drop (n + length (xs ++ ys)) b in
    let whole : laid n xs b ≡ front ++ back = sym (append_assoc (take n b) xs back) in
    let below : n ≤ length b = omega arith in
    let size : length front ≡ m = omega (arith, length-append (take n b) xs, length-take-le n b below) in
    let last : (n + length xs) + length ys ≡ n + length (xs ++ ys) = omega (arith, length-append xs ys) in
    let after : drop (m + length ys) (front ++ back) ≡ rest =
    sym (drop-drop (length ys) m (front ++ back)) ∙ ap (drop (length ys)) (drop_at front back m size) ∙ drop-drop (length ys) (n + length xs) b ∙ ap (λ k. drop k b) last in
    ap (laid m ys) whole ∙ ap₂ {C = List ℕ} (λ u v. u ++ (ys ++ v)) (take_at front back m size) after
    ∙ append_assoc (take n b) xs (ys ++ rest) ∙ ap (λ l. take n b ++ l) (sym (append_assoc xs ys rest))

-- nothing more
pub wrote_none : (p : Page) → Wrote [] p p
wrote_none p = record { longer = let h = p.counted in omega arith; size = refl; fits = λ _. sym (laid_none p.len p.buffer.now); lent = refl }

pub wrote_more : (xs ys : List ℕ) (p q r : Page) → Wrote xs p q → Wrote ys q r → Wrote (xs ++ ys) p r
wrote_more xs ys p q r a b =
    let n = length-append xs ys in
    record {
      longer = let x = a.longer in let y = b.longer in omega arith;
      size = b.size ∙ a.size;
      fits = λ h.
          let small = p.small in
          let x = a.longer in
          let room : p.len + length xs ≤ length p.buffer.now = omega arith in
          let at : q.len ≡ p.len + length xs = omega arith in
          let was = a.fits room in
          let same = a.size in
          let more : q.len + length ys ≤ length p.buffer.now = omega arith in
          let more' : q.len + length ys ≤ length q.buffer.now = omega arith in
          b.fits more' ∙ ap (laid q.len ys) was ∙ laid_more p.len q.len xs ys p.buffer.now at more;
      lent = b.lent ∙ a.lent;
    }

pub tells_none : (p : Page) → Tells [] p p
tells_none p = record { wrote = wrote_none p }

pub tells_more : (is js : List Item) (p q r : Page) → Tells is p q → Tells js q r → Tells (is ++ js) p r
tells_more is js p q r a b = record { wrote = subst (λ xs. Wrote xs p r) (sym (bytes_append is js)) (wrote_more (bytes is) (bytes js) p q r a.wrote b.wrote) }
