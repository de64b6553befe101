-- `ciravehy::ciravehy_read_back` meets its contract. Assumes nothing.
use Rattle.std.proofs.Common.{sym, ap, ◌∙◌}
use Rattle.ciravehy.specs.Exported.{refusal_number, term_of}
use Rattle.ciravehy.proofs.ciravehy_read_back.Goals as goal
use Rattle.ciravehy.proofs.ciravehy_read_back.Goals.{in-Ok, in-Err}

pub returns : goal.returns
returns c = record {
  answer = c.read_back-read.result;
  answers = c.read_back-read.ensures;
  refusal = c.refusal_number.ensures
      ∙ ap refusal_number (elim c.match-read.branch [ in-Ok w ↦ w.read-is ∙ sym w.in-Ok.is | in-Err w ↦ w.read-is ]);
  report = elim c.match-read.branch [
    | in-Ok w ↦ w.report-is ∙ w.term.ensures ∙ ap term_of (sym w.in-Ok.is)
    | in-Err w ↦ w.report-is ∙ ap term_of (sym w.in-Err.is)
  ];
}
