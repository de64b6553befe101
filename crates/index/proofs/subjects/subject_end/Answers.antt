-- `index::subjects::subject_end` meets its contract. Assumes nothing.
use Rattle.index.proofs.BySubject.{end_stop}
use Rattle.index.proofs.subjects.subject_end.Goals as goal

pub returns-then-triples-end : goal.returns-then-triples-end
returns-then-triples-end c = let pre = c.requires in
    end_stop c.loop-end.invariant pre.2 pre.1 c.loop-end-test.true c.if-triples-end.true
