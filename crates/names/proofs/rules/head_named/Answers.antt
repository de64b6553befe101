-- `rules::head_named` meets its contract. Assumes nothing.
use mathlib.Core.Bool.{not}
use borrow.Author.Tests.{eq-eqb, le-ltb, lt-ltb, ne_eqb}
use mathlib.Core.Path.{◌∙◌, ap}
use Rattle.names.proofs.Heads.{head_named_lem}
use Rattle.meaning.proofs.Lists.Testing.{failed, passed}
use Rattle.names.proofs.rules.head_named.Goals as goal

pub returns-then-not-has_arguments : goal.returns-then-not-has_arguments
returns-then-not-has_arguments c = λ P g h a. rw (failed (c.has_arguments.ensures P g) (ap not c.if-not-has_arguments.true)) at (head_named_lem g a)

pub returns-then-kind-eq0 : goal.returns-then-kind-eq0
returns-then-kind-eq0 c = λ P g h a. rw (passed (c.has_arguments.ensures P g) (ap not c.if-not-has_arguments.false), eq-eqb _ _ c.if-kind-eq0.true) at (head_named_lem g a)

pub returns-then-setting-label : goal.returns-then-setting-label
returns-then-setting-label c =
    λ P g h a. rw (passed (c.has_arguments.ensures P g) (ap not c.if-not-has_arguments.false), ne_eqb _ _ c.if-kind-eq0.false, le-ltb _ _ c.if-setting-label.true)
    at (head_named_lem g a)

pub returns-then-kind-ne1 : goal.returns-then-kind-ne1
returns-then-kind-ne1 c =
    λ P g h a. rw (
      passed (c.has_arguments.ensures P g) (ap not c.if-not-has_arguments.false),
      ne_eqb _ _ c.if-kind-eq0.false,
      lt-ltb _ _ c.if-setting-label.false,
      ne_eqb _ _ c.if-kind-ne1.true,
    ) at (head_named_lem g a)

pub returns : goal.returns
returns c =
    λ P g h a. c.has_arguments-2.ensures P g ∙ rw (
      passed (c.has_arguments.ensures P g) (ap not c.if-not-has_arguments.false),
      ne_eqb _ _ c.if-kind-eq0.false,
      lt-ltb _ _ c.if-setting-label.false,
      eq-eqb _ _ c.if-kind-ne1.false,
    ) at (head_named_lem g a)
