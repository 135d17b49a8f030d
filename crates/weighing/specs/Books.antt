-- What the definitions see of a book. Assumes nothing.
use Rattle.std.specs.Prelude.{List}
use Rattle.weighing.specs.declared.book.Book.{Book}
use Rattle.clauses.specs.Clauses.{Signs}
use Rattle.lines.specs.Lines.{clauses}

-- the clauses of its lines, oldest first
abbrev pub standing : Book → List Signs
standing b = clauses b.lines.now
