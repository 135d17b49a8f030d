use Rattle.std.proofs.Common.{sym, subst}
use Rattle.clauses.specs.Values.{truths}
use Rattle.writing.specs.Pages.{Tells}
use Rattle.pages.specs.Reports.{report_items}
use Rattle.pages.proofs.report.writes.ReportingWritten.write.Goals as goal

pub returns-in-Refused : goal.returns-in-Refused
returns-in-Refused c =
    let s = c.args.self.now in
    record {
      tells = subst (λ r. Tells (report_items r (truths s.n s.word)) c.args.page.now c.write_refusal.new.page) (sym c.in-Refused.is) c.write_refusal.ensures.tells;
    }
