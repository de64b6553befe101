-- `ciravehy::ciravehy_pairs` meets its contract. Assumes nothing.
use Rattle.std.proofs.Common.{sym, ap, ◌∙◌, arith}
use Rattle.ciravehy.specs.Exported.{refusal_number, report_of}
use Rattle.pairs.specs.declared.PairAnswer.{PairAnswer}
use Rattle.ciravehy.proofs.Bounds.{pairs_small}
use Rattle.ciravehy.proofs.ciravehy_pairs.Goals as goal
use Rattle.ciravehy.proofs.ciravehy_pairs.Goals.{in-Ok, in-Err}

pub numbers-requires : goal.numbers-requires
numbers-requires c =
    let s = pairs_small c.in-Ok.ensures in
    (omega (arith, s.0, s.1, s.2), omega (arith, s.0, s.1, s.2), omega (arith, s.0, s.1, s.2))

pub returns : goal.returns
returns c = record {
  answer = c.pairs-found.result;
  answers = c.pairs-found.ensures;
  refusal = c.refusal_number.ensures
      ∙ ap refusal_number (elim c.match-found.branch [ in-Ok w ↦ w.found-is ∙ sym w.in-Ok.is | in-Err w ↦ w.found-is ∙ sym w.in-Err.is ]);
  report = elim c.match-found.branch [
    | in-Ok w ↦ w.report-is ∙ w.numbers.ensures ∙ ap (report_of (λ (a : PairAnswer). a.size) (λ a. a.pairs)) (sym w.in-Ok.is)
    | in-Err w ↦ w.report-is ∙ w.refused.ensures ∙ ap (report_of (λ (a : PairAnswer). a.size) (λ a. a.pairs)) (sym w.in-Err.is)
  ];
}
