use Rattle.std.proofs.Common.{rules}
use Rattle.solve.proofs.Told.{tells_there}
use Rattle.solve.proofs.solving.answer.Goals as goal

pub returns-clause-tells : goal.returns-clause-tells
returns-clause-tells c = tells_there c.args.text.now c.args.buffer.now c.report-2.new.buffer c.unwrap_or.result (search rules)
