-- Each law is put together from the lemmas on clauses and their literals. Assumes nothing.
use Rattle.clauses.proofs.Literals.{holds-literals, size-literals, empty_size, meets-literals, broken-literals, critical-literals, clean-literals, within-holds, holds-within, same-holds, holds_same, included-holds, holds-included}
use Rattle.lines.proofs.Numbers.{given-meets, given-size, given-clean, given-within, tautology-met}
use Rattle.lines.proofs.Resolution.{empty-meets}
use Rattle.clause_laws.proofs.Agreeing.{agreeing, word_assignment}
use Rattle.clause_laws.proofs.Assignments.{both_ways_met, broken-or-met}
use Rattle.clause_laws.proofs.Bar.{bar-broken}
use Rattle.clause_laws.proofs.Holding.{told_rising}
use Rattle.clause_laws.proofs.laws.clauses_are_sets.Goals as goal

pub returns : goal.returns
returns c =
    record {
      literals = λ d. (λ l. holds-literals l d, size-literals d);
      values = λ m d. (meets-literals m d, broken-literals m d, λ l. critical-literals m l d);
      tests = λ d. (
        empty_size d,
        clean-literals d,
        λ n. (within-holds n d, holds-within n d),
        λ e. (same-holds d e, holds_same d e),
        λ e. (included-holds d e, holds-included d e),
      );
      edges = λ d. (empty-meets d, λ a. both_ways_met a d);
      full = broken-or-met;
      own = λ n d w. (agreeing n d w, word_assignment n d w);
      given = λ n xs h. (
        λ d e. (given-meets n xs d h e, given-size n xs d h e, given-clean n xs d h e, given-within n xs d h e),
        λ a e t. tautology-met n xs h t a e,
      );
      bar = bar-broken;
      rising = told_rising;
    }
