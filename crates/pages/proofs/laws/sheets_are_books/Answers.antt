use Rattle.pages.proofs.Placing.{renumbers}
use Rattle.pages.proofs.Arranged.{sheet_book}
use Rattle.pages.proofs.Entries.{sheet_told}
use Rattle.pages.proofs.laws.sheets_are_books.Goals as goal

pub returns-clause-renumbers : goal.returns-clause-renumbers
returns-clause-renumbers c = renumbers

pub returns-clause-book : goal.returns-clause-book
returns-clause-book c = sheet_book

pub returns-clause-told : goal.returns-clause-told
returns-clause-told c = sheet_told
