-- `evaluate::pairs::pairs` meets its contract. Assumes nothing.
use Rattle.std.proofs.Common.{arith, refl}
use Rattle.evaluate.proofs.CertainAnswers.{lists_fit, pairs_answer}
use Rattle.evaluate.proofs.NamedNodes.{named_few, named_inward}
use Rattle.evaluate.proofs.HeldGraph.{predicates_below}
use Rattle.evaluate.proofs.Readied.{parts_few, threadable}
use Rattle.evaluate.proofs.pairs.pairs.Goals as goal

pub thread-requires : goal.thread-requires
thread-requires c = threadable c.requires.0.ready (omega arith)

pub joined_pairs-requires : goal.joined_pairs-requires
joined_pairs-requires c =
    let p = c.requires in
    let r = p.0.ready in
    let few = parts_few r in (
      record {
        fits = lists_fit r c.thread.new.next c.thread.ensures (omega arith);
        predicates = predicates_below r.graph.graph;
        blank = (p.2, refl);
      },
      record {
        by_subject = p.1;
        inward = named_inward r.graph.graph c.named.ensures;
        nodes = c.named.ensures.within;
        few = named_few r.graph.graph c.named.ensures;
        unseen = p.3;
        room = p.4;
      },
    )

pub returns : goal.returns
returns c pack query r = pairs_answer r c.thread.new.next c.thread.ensures c.named.ensures c.joined_pairs.result _ c.joined_pairs.ensures.0
