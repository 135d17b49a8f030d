-- The worked calls and answer lines, by computation. Assumes nothing.
use Rattle.std.proofs.Common.{refl}
use Rattle.std.specs.Fmt.{digits}
use Rattle.hex.specs.Hex.{encode_with, decode_pairs}
use Rattle.protocol.specs.Reading.{numeral_of, integer_of, hex_of}
use Rattle.protocol.specs.Worked.{WorkedLines, WorkedReadings}

pub worked_lines : WorkedLines
unfolding digits encode_with
worked_lines = record {
  done = refl;
  refused = refl;
  no_line = refl;
  stands = refl;
  taken = refl;
  text_fault = refl;
  book_fault = refl;
  not_open = refl;
  head = refl;
  head_fault = refl;
  ended = refl;
  given = refl;
  resolved = refl;
  widened = refl;
  state = refl;
  written = refl;
  unwritten = refl;
  error = refl;
}

pub worked_readings : WorkedReadings
unfolding digits encode_with decode_pairs numeral_of integer_of hex_of
worked_readings = record {
  making = refl;
  opening = refl;
  adding = refl;
  add_none = refl;
  lowest = refl;
  loading = refl;
  load_none = refl;
  head = refl;
  head_padding = refl;
  restarting = refl;
  longest = refl;
  fewest = refl;
  constant = refl;
  reversed = refl;
  showing = refl;
  writing = refl;
  met = refl;
  none = refl;
  spent = refl;
  full = refl;
  fault = refl;
  telling = refl;
  blanks = refl;
  plus = refl;
  zeros = refl;
  minus_zero = refl;
  upper_case = refl;
  too_large = refl;
  too_many = refl;
  nothing = refl;
}
