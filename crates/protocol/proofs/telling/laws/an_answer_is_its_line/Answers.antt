use Rattle.protocol.proofs.Apart.{answer_is_its_line}
use Rattle.protocol.proofs.Refusals.{refusals_differ, text_faults_differ, faults_differ}
use Rattle.protocol.proofs.Worked.{worked_lines}
use Rattle.protocol.proofs.telling.laws.an_answer_is_its_line.Goals as goal

pub returns : goal.returns
returns c = record {
  told = answer_is_its_line;
  refusals = refusals_differ;
  text_faults = text_faults_differ;
  faults = faults_differ;
  worked = worked_lines;
}
