use Rattle.std.proofs.Common.{sym, subst}
use Rattle.clauses.specs.Values.{truths}
use Rattle.writing.specs.Pages.{Tells}
use Rattle.writing.proofs.Joining.{tells_more}
use Rattle.pages.specs.Reports.{told_of, told_items}
use Rattle.pages.proofs.report.writes.write_outcome.Goals as goal

pub returns-in-Met : goal.returns-in-Met
returns-in-Met c =
    record {
      tells = subst (λ o. Tells (told_items (told_of o (truths c.args.n c.args.word))) c.args.page.now c.write_literals.new.page) (sym c.in-Met.is)
          (tells_more _ _ _ _ _ c.write_words.ensures.tells (tells_more _ _ _ _ _ c.word.ensures.tells (tells_more _ _ _ _ _ c.space.ensures.tells c.write_literals.ensures.tells)));
    }
