-- `ciravehy::ciravehy_build` meets its contract. Assumes nothing.
use Rattle.std.proofs.Common.{sym, ap, ◌∙◌, arith}
use Rattle.ciravehy.specs.Exported.{refusal_number, report_of}
use Rattle.graph.specs.declared.Size.{Size}
use Rattle.ciravehy.proofs.Bounds.{build_small}
use Rattle.ciravehy.proofs.ciravehy_build.Goals as goal
use Rattle.ciravehy.proofs.ciravehy_build.Goals.{in-Ok, in-Err}

pub numbers-requires : goal.numbers-requires
numbers-requires c = let (n, t) = build_small c.in-Ok.ensures in (omega (arith, n, t), omega (arith, n, t), omega arith)

pub returns : goal.returns
returns c = record {
  answer = c.build-built.result;
  answers = c.build-built.ensures;
  refusal = c.refusal_number.ensures
      ∙ ap refusal_number (elim c.match-built.branch [ in-Ok w ↦ w.built-is ∙ sym w.in-Ok.is | in-Err w ↦ w.built-is ∙ sym w.in-Err.is ]);
  report = elim c.match-built.branch [
    | in-Ok w ↦ w.report-is ∙ w.numbers.ensures ∙ ap (report_of (λ (size : Size). size) (λ size. 0)) (sym w.in-Ok.is)
    | in-Err w ↦ w.report-is ∙ w.refused.ensures ∙ ap (report_of (λ (size : Size). size) (λ size. 0)) (sym w.in-Err.is)
  ];
}
