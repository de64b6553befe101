-- `evaluate::yes::yes` meets its contract. Assumes nothing.
use Rattle.std.proofs.Common.{arith, refl}
use Rattle.evaluate.proofs.CertainAnswers.{lists_fit, yes_answer}
use Rattle.evaluate.proofs.HeldGraph.{predicates_below}
use Rattle.evaluate.proofs.Readied.{parts_few, threadable}
use Rattle.evaluate.proofs.yes.yes.Goals as goal

pub thread-requires : goal.thread-requires
thread-requires c = threadable c.requires.0.ready (omega arith)

pub some_joined-requires : goal.some_joined-requires
some_joined-requires c =
    let p = c.requires in
    let r = p.0.ready in
    let few = parts_few r in
    record {
      fits = lists_fit r c.thread.new.next c.thread.ensures (omega arith);
      predicates = predicates_below r.graph.graph;
      blank = (p.1, refl);
    }

pub returns : goal.returns
returns c pack query r = yes_answer r c.thread.new.next c.thread.ensures c.some_joined.result c.some_joined.ensures.0
