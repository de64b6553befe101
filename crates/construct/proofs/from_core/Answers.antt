-- `construct::from_core` meets its contract. Assumes nothing.
use Rattle.std.proofs.Common.{Err, refl, ap, ◌∙◌, arith}
use Rattle.construct.proofs.FromCore.{clash_answer, clash_inside, graph_answer, index_ready, mixed_answer}
use Rattle.core_lists.proofs.Places.{input_codes}
use Rattle.mixed.proofs.MixedLaws.{keys_small}
use Rattle.construct.proofs.from_core.Goals as goal

pub build-requires : goal.build-requires
build-requires c = let p = c.requires in
    (keys_small p.0.input, input_codes p.0.input, p.1, p.2)

pub index_subjects-requires : goal.index_subjects-requires
index_subjects-requires c = let p = c.requires in
    let w = index_ready _ _ c.args.core.now _ _ _ _ _ c.in-Ok.ensures _ refl p.0 (omega (arith, p.2, c.build.auto.edges)) in
    (w.0, w.1, omega (arith, w.0.few_nodes, p.3))

pub clash_records-requires : goal.clash_records-requires
clash_records-requires c = let p = c.requires in
    (keys_small p.0.input, clash_inside _ _ c.args.core.now _ _ _ _ _ c.build.ensures _ (c.in-Err-Clash.is ∙ ap Err c.in-Err-Clash.field-0-is) p.0)

pub returns-in-Ok : goal.returns-in-Ok
returns-in-Ok c = graph_answer _ _ c.args.core.now _ _ _ _ _ c.in-Ok.ensures _ refl _ refl _ _ c.index_subjects.ensures

pub returns-in-Err-Clash : goal.returns-in-Err-Clash
returns-in-Err-Clash c = clash_answer _ _ c.args.core.now _ _ _ _ _ c.build.ensures _ (c.in-Err-Clash.is ∙ ap Err c.in-Err-Clash.field-0-is) _ c.clash_records.ensures _

pub returns-in-Err-Mixed : goal.returns-in-Err-Mixed
returns-in-Err-Mixed c = mixed_answer _ _ c.args.core.now _ _ _ _ _ c.build.ensures (c.in-Err-Mixed.is ∙ ap Err c.in-Err-Mixed.field-0-is) _ refl _
