-- Card 14: "Every pack accepted before gives the graph it gave." A pack with at most 8 types and 96 shapes, refused or not, is
-- answered by build as it was. Assumes nothing.
use mathlib.Core.List.{List}
use mathlib.Core.Logic.{◌↔◌}
use mathlib.Core.Path.{subst, sym}
use Prim.Native.Nat.{ℕ}
use Rattle.std.specs.Prelude.{Result, Ok, Err}
use Rattle.build.specs.Before.{GivenBy, GraphBy, RefusedBy}
use Rattle.build.specs.Before as By
use Rattle.construct.specs.Outcome.{Gives, GivesGraph, Refuses}
use Rattle.construct.specs.Outcome as Now
use Rattle.graph.specs.declared.Size.{Size}
use Rattle.meaning.specs.Pack.{Text}
use Rattle.meaning.specs.declared.refusal.Refusal.{Refusal}
use Rattle.pack.proofs.Before.{accepted_before, before_same}
use Rattle.pack.specs.Before.{FewBefore, first_refusal_before}
use Rattle.pack.specs.Checked.{first_refusal}

-- ---- what the contract says, by the check

module _ (pack : Text) (fronts : List (List ℕ)) where
  graph_by : {size : Size} → GivesGraph pack size fronts ↔ GraphBy (first_refusal pack) size fronts
  graph_by = (
    λ g. record { of = g.of; is = g.has.is; small = g.has.small; obeyed = g.has.obeyed; graph = g.has.graph },
    λ g. record { of = g.of; has = record { is = g.is; small = g.small; obeyed = g.obeyed; graph = g.graph } },
  )

  pub given_by : (r : Result Size Refusal) → Gives pack r fronts ↔ GivenBy (first_refusal pack) r fronts
  given_by (Ok size) = graph_by
  given_by (Err e) = (λ g. g, λ g. g)

module _ (pack : Text) (r : Result Size Refusal) where
  pub refused_by : Refuses pack r ↔ RefusedBy (first_refusal pack) r
  refused_by = (to, from)
    where
      to : Refuses pack r → RefusedBy (first_refusal pack) r
      to (Now.not_accepted k e q) = By.not_accepted k e q
      to (Now.too_large P e l q) = By.too_large P e l q
      to (Now.two_objects P e s n a p b c g q) = By.two_objects P e s n a p b c g q
      to (Now.mixed_kinds P e s n t m q) = By.mixed_kinds P e s n t m q

      from : RefusedBy (first_refusal pack) r → Refuses pack r
      from (By.not_accepted k e q) = Now.not_accepted k e q
      from (By.too_large P e l q) = Now.too_large P e l q
      from (By.two_objects P e s n a p b c g q) = Now.two_objects P e s n a p b c g q
      from (By.mixed_kinds P e s n t m q) = Now.mixed_kinds P e s n t m q

  -- ---- "for a pack with at most 8 types and 96 shapes, refused or not, what a build gives is what it gave"

  module _ (few : FewBefore pack) where
    pub refused_before : RefusedBy (first_refusal_before pack) r ↔ Refuses pack r
    refused_before = (
      λ x. refused_by.1 (subst (λ c. RefusedBy c r) (before_same pack few) x),
      λ x. subst (λ c. RefusedBy c r) (sym (before_same pack few)) (refused_by.0 x),
    )

    pub given_before : (fronts : List (List ℕ)) → GivenBy (first_refusal_before pack) r fronts ↔ Gives pack r fronts
    given_before fronts = (
      λ x. (given_by pack fronts r).1 (subst (λ c. GivenBy c r fronts) (before_same pack few) x),
      λ x. subst (λ c. GivenBy c r fronts) (sym (before_same pack few)) ((given_by pack fronts r).0 x),
    )

-- ---- "Every pack accepted before gives the graph it gave."

pub gives_as_before : (pack : Text) (r : Result Size Refusal) (fronts : List (List ℕ)) → GivenBy (first_refusal_before pack) r fronts → Gives pack r fronts
gives_as_before pack (Ok size) fronts x = record { of = x.of; has = record { is = accepted_before pack x.of x.is; small = x.small; obeyed = x.obeyed; graph = x.graph } }
gives_as_before pack (Err e) fronts x = x
