use Rattle.steps.proofs.Rows.{one_more, row_counts}
use Rattle.steps.proofs.Flips.{neighbour_differs, first_flip_best}
use Rattle.steps.proofs.laws.flips_are_best.Goals as goal

pub returns-clause-more : goal.returns-clause-more
returns-clause-more c = one_more

pub returns-clause-row : goal.returns-clause-row
returns-clause-row c = row_counts

pub returns-clause-fewest : goal.returns-clause-fewest
returns-clause-fewest c = λ cs a w. (row_counts cs a).1 w

pub returns-clause-neighbour : goal.returns-clause-neighbour
returns-clause-neighbour c = neighbour_differs

pub returns-clause-flip : goal.returns-clause-flip
returns-clause-flip c = first_flip_best
