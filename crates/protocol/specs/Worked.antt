-- Worked calls and answer lines. Assumes nothing.
use Rattle.std.specs.Prelude.{◌≡◌, ℕ, List, [], ◌∷◌, ◌++◌, pos, negsuc, Some, None, codes, Option}
use Rattle.text.specs.declared.faults.TextFault.TheVariants.{AboveVariables}
use Rattle.text.specs.declared.faults.BookFault.TheVariants.{NoFreePlace}
use Rattle.lines.specs.Lines.{given_line, resolved_line, widened_line}
use Rattle.answers.specs.declared.load.LoadFault.TheVariants as load
use Rattle.answers.specs.declared.refusal.Refusal.TheVariants.{BufferTooShort}
use Rattle.answers.specs.declared.report.Report.TheVariants.{Ended, Refused}
use Rattle.answers.specs.declared.run.Outcome.TheVariants.{Met, NoneMeets, Spent, Full}
use Rattle.protocol.specs.declared.call.GuideName.TheVariants.{Longest, Fewest, Constant, RevFewest}
use Rattle.protocol.specs.Commands.{Command, makes, opens, adds, loads, heads, restarts, runs, shows, writes_sheet, writes_report, tells_state, words_of}
use Rattle.protocol.specs.Reading.{read_words}
use Rattle.protocol.specs.declared.answer.Answer.TheVariants as answer
use Rattle.protocol.specs.Said.{Said, said, written, unwritten, said_words, spoken}

-- the answer's line, without its LF
abbrev pub Reads : Said → List ℕ → Type 0
Reads a text = spoken (said_words a) ≡ text ++ (10 ∷ [])

pub record WorkedLines : Type 0 where
  pub done : Reads (said answer.Done) (codes "ok")
  pub refused : Reads (said (answer.Refused BufferTooShort)) (codes "refused 20")
  pub no_line : Reads (said (answer.Stands None)) (codes "line none")
  pub stands : Reads (said (answer.Stands (Some 7))) (codes "line 7")
  pub taken : Reads (said (answer.Taken 65535)) (codes "taken 65535")
  pub text_fault :
      Reads (said (answer.Faulty (record { fault = load.Text (AboveVariables 12); taken = 0 })))
      (codes "fault text 13 at 12 taken 0")
  pub book_fault :
      Reads (said (answer.Faulty (record { fault = load.Book (NoFreePlace 16); taken = 1 })))
      (codes "fault book 8 at 16 taken 1")
  pub not_open :
      Reads (said (answer.Faulty (record { fault = load.NotOpen; taken = 0 })))
      (codes "fault session 5 at 0 taken 0")
  pub head : Reads (said (answer.Headed 2 4)) (codes "head 2 4")
  pub head_fault :
      Reads (said (answer.HeadFaulty (AboveVariables 12))) (codes "fault text 13 at 12")
  pub ended :
      Reads (said (answer.Ended (record { outcome = NoneMeets; steps = 7 }))) (codes "none 7")
  pub given :
      Reads (said (answer.Line (given_line (record { pos = 6; neg = 255 }))))
      (codes "given pos 6 neg ff")
  pub resolved :
      Reads (said (answer.Line (resolved_line 2 6 5 (record { pos = 0; neg = 0 }))))
      (codes "resolved 2 6 5 pos 0 neg 0")
  pub widened :
      Reads (said (answer.Line (widened_line 3 (record { pos = 0; neg = 18446744073709551615 }))))
      (codes "widened 3 pos 0 neg ffffffffffffffff")
  pub state : Reads (said (answer.State 9 2 3)) (codes "lines 9 n 2 assign 3")
  pub written : Reads (written 2 (111 ∷ 107 ∷ 170 ∷ [])) (codes "length 2 6f6baa")
  pub unwritten : Reads (unwritten 20 (10 ∷ [])) (codes "refused 20 0a")
  pub error : Reads (said answer.Error) (codes "error")

-- the line is read as this call; or as none
abbrev pub Calls : List ℕ → Option Command → Type 0
Calls line call = read_words (words_of line) ≡ call

pub record WorkedReadings : Type 0 where
  pub making : Calls (codes "new 9") (Some (makes 9))
  pub opening : Calls (codes "open 2 1f") (Some (opens 2 31))
  pub adding : Calls (codes "add 1 -2 0") (Some (adds (pos 1 ∷ negsuc 1 ∷ pos 0 ∷ [])))
  pub add_none : Calls (codes "add") (Some (adds []))
  pub lowest : Calls (codes "add -2147483648") (Some (adds (negsuc 2147483647 ∷ [])))
  pub loading : Calls (codes "load 702a") (Some (loads (112 ∷ 42 ∷ [])))
  pub load_none : Calls (codes "load -") (Some (loads []))
  pub head : Calls (codes "head 70+20*3") (Some (heads (112 ∷ 32 ∷ 32 ∷ 32 ∷ [])))
  pub head_padding : Calls (codes "head +20*2") (Some (heads (32 ∷ 32 ∷ [])))
  pub restarting : Calls (codes "restart 0") (Some (restarts 0))
  pub longest : Calls (codes "run longest 6") (Some (runs Longest 6))
  pub fewest : Calls (codes "run fewest 4294967295") (Some (runs Fewest 4294967295))
  pub constant : Calls (codes "run const 0") (Some (runs Constant 0))
  pub reversed : Calls (codes "run revfewest 1") (Some (runs RevFewest 1))
  pub showing : Calls (codes "line 0") (Some (shows 0))
  pub writing : Calls (codes "sheet 33554432") (Some (writes_sheet 33554432))
  pub met : Calls (codes "report met 20") (Some (writes_report (Ended Met) 20))
  pub none : Calls (codes "report none 16") (Some (writes_report (Ended NoneMeets) 16))
  pub spent : Calls (codes "report spent 10") (Some (writes_report (Ended Spent) 10))
  pub full : Calls (codes "report full 10") (Some (writes_report (Ended Full) 10))
  pub fault : Calls (codes "report fault 13 12 19") (Some (writes_report (Refused 13 12) 19))
  pub telling : Calls (codes "state") (Some tells_state)
  -- two blanks, a sign, leading zeros, upper case, too large, a word too many
  pub blanks : Calls (codes "open  2 0") None
  pub plus : Calls (codes "add +1") None
  pub zeros : Calls (codes "line 007") None
  pub minus_zero : Calls (codes "add -0") None
  pub upper_case : Calls (codes "restart A") None
  pub too_large : Calls (codes "sheet 33554433") None
  pub too_many : Calls (codes "state 1") None
  pub nothing : Calls [] None
