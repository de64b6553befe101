-- `core_graph::nodes::NodeKeys::add` meets its contract: the subject first, then the object. Assumes nothing.
use Rattle.std.proofs.lemmas.Result.{err_from_is_err_and}
use Rattle.core_graph.proofs.Growing.{full_then, grows_one, grows_then, one_beyond}
use Rattle.core_graph.proofs.NodeKeys.{link_keys, subject_beyond, type_keys}
use Rattle.core_graph.proofs.nodes.NodeKeysGives.add.Goals as goal

pub returns-then-head-eq0 : goal.returns-then-head-eq0
returns-then-head-eq0 c = let s = c.args.nodes.now in
    type_keys _ _ c.if-head-eq0.true (rw c.subject_key-subject.ensures at (grows_one s.fits s.ascending _ c.in_ok-insert_at.ensures))

pub returns-in_err-insert_at : goal.returns-in_err-insert_at
returns-in_err-insert_at c = let s = c.args.nodes.now in
    rw (err_from_is_err_and c.from_residual.result c.from_residual.ensures.1).1
    (subject_beyond _ _ _ _ (rw c.subject_key-subject.ensures at (one_beyond s.fits s.ascending c.in_err-insert_at.ensures)))

pub returns-in_err-insert_at-2 : goal.returns-in_err-insert_at-2
returns-in_err-insert_at-2 c =
    let s = c.args.nodes.now in
    let one = c.insert_at.new.self in
    rw (err_from_is_err_and c.from_residual-in_err-insert_at-2.result c.from_residual-in_err-insert_at-2.ensures.1).1
    (full_then (link_keys _ _ c.if-head-eq0.false) (rw c.subject_key-subject.ensures at (grows_one s.fits s.ascending _ c.in_ok-insert_at.ensures))
    (rw c.object_key-object.ensures at (one_beyond one.fits one.ascending c.in_err-insert_at-2.ensures)))

pub returns : goal.returns
returns c =
    let s = c.args.nodes.now in
    let one = c.insert_at.new.self in
    grows_then (link_keys _ _ c.if-head-eq0.false) (rw c.subject_key-subject.ensures at (grows_one s.fits s.ascending _ c.in_ok-insert_at.ensures))
    (rw c.object_key-object.ensures at (grows_one one.fits one.ascending _ c.in_ok-insert_at-2.ensures))
