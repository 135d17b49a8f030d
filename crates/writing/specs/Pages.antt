-- What is written into lent bytes. Assumes nothing.
use Rattle.std.specs.Prelude.{◌≡◌, ℕ, ◌+◌, ◌≤◌, cond, List, ◌++◌, length, take, drop, min, Ok, Err, Result, nat_lt}
use Rattle.writing.specs.declared.page.Page.{Page}
use Rattle.writing.specs.declared.written.TooShort.{TooShort}
use Rattle.writing.specs.Items.{Item, bytes, most}

-- the bytes xs from place n on, the others as they were
abbrev pub laid : ℕ → List ℕ → List ℕ → List ℕ
laid n xs b = take n b ++ (xs ++ drop (n + length xs) b)

-- More bytes come after what a page has: its length tells them, and where all
-- of it fits they stand in the buffer. The buffer is the same stretch.
pub record Wrote (xs : List ℕ) (was is : Page) : Type 0 where
  pub longer : is.len ≡ min (was.len + length xs) most
  pub size : length is.buffer.now ≡ length was.buffer.now
  pub fits :
      was.len + length xs ≤ length was.buffer.now
      → is.buffer.now ≡ laid was.len xs was.buffer.now
  pub lent : is.buffer.ghost_name ≡ was.buffer.ghost_name

-- the bytes of items, one after another
pub record Tells (is : List Item) (was after : Page) : Type 0 where
  pub wrote : Wrote (bytes is) was after

-- Bytes go to the front of a buffer, and their number is told; those after
-- them stay. A buffer that is shorter is refused and keeps every byte.
abbrev pub filled : List ℕ → List ℕ → Result ℕ TooShort × List ℕ
filled xs b =
    cond (nat_lt (length b) (length xs)) (Err (record {}), b)
    (Ok (length xs), xs ++ drop (length xs) b)
