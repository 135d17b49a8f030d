use Rattle.session.proofs.Pages.{report_fits}
use Rattle.session.proofs.session.Session.report.Goals as goal

pub returns-clause-fits : goal.returns-clause-fits
returns-clause-fits c = report_fits c.args.self.now c.args.report c.args.buffer.now _ _ c.store.ensures.value
