-- `ciravehy::ciravehy_yes_no` meets its contract. Assumes nothing.
use Rattle.std.proofs.Common.{replicate, sym, ap, ◌∙◌, arith}
use Rattle.ciravehy.specs.Exported.{refusal_number, report_of}
use Rattle.meaning.specs.Limits.{clash_width}
use Rattle.report.specs.Report.{number, reported}
use Rattle.yes_no.specs.declared.YesNo.{YesNo}
use Rattle.ciravehy.proofs.Bounds.{yes_no_small}
use Rattle.ciravehy.proofs.ciravehy_yes_no.Goals as goal
use Rattle.ciravehy.proofs.ciravehy_yes_no.Goals.{in-Ok, in-Err}

pub numbers-requires : goal.numbers-requires
numbers-requires c = let (n, t) = yes_no_small c.in-Ok.ensures in (omega (arith, n, t), omega (arith, n, t), omega (arith, c.said.ensures.1))

pub returns : goal.returns
returns c = record {
  answer = c.yes_no-decided.result;
  answers = c.yes_no-decided.ensures;
  refusal = c.refusal_number.ensures
      ∙ ap refusal_number (elim c.match-decided.branch [ in-Ok w ↦ w.decided-is ∙ sym w.in-Ok.is | in-Err w ↦ w.decided-is ∙ sym w.in-Err.is ]);
  report = elim c.match-decided.branch [
    | in-Ok w ↦ w.report-is ∙ w.numbers.ensures
        ∙ ap (λ n. reported w.in-Ok.a.size.nodes w.in-Ok.a.size.triples n (replicate clash_width 0)) w.said.ensures.0
        ∙ ap (report_of (λ (a : YesNo). a.size) (λ a. number a.yes)) (sym w.in-Ok.is)
    | in-Err w ↦ w.report-is ∙ w.refused.ensures ∙ ap (report_of (λ (a : YesNo). a.size) (λ a. number a.yes)) (sym w.in-Err.is)
  ];
}
