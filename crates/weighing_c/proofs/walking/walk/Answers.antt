use Rattle.std.proofs.Common.{◌∙◌, arith}
use Rattle.clauses.specs.Values.{truths}
use Rattle.weighing.specs.Books.{standing}
use Rattle.weighing.proofs.Neighbours.{flipped_word}
use Rattle.weighing_c.proofs.Steps.{one_more, no_more}
use Rattle.weighing_c.proofs.walking.walk.Goals as goal

pub returns-in_default : goal.returns-in_default
returns-in_default g c =
    let book = c.args.book.now in
    let m = no_more (g.G.Guide.rank c.args.guide.now) (standing book) (truths book.n c.args.assignment.now.word) c.loop-taken._taken c.args.most
    (truths book.n c.loop-taken.assignment.word) c.loop-taken.invariant c.in_default.ensures.value (omega arith) in
    record { walked = rw c.flip.ensures.same m }

pub loop-taken-preserved : goal.loop-taken-preserved
loop-taken-preserved g c =
    let book = c.args.book.now in
    let word = c.loop-taken.assignment.word in
    let f = flipped_word book.n c.in-Some.v word c.one.result book.wide c.one.ensures.bits in
    rw c.flip.ensures.same
    (f ∙ one_more (g.G.Guide.rank c.args.guide.now) (standing book) (truths book.n c.args.assignment.now.word) c.loop-taken._taken c.in-Some.v
    (truths book.n word) c.loop-taken.invariant c.in-Some.ensures.value)
