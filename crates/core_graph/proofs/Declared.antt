-- What refusal 7 leaves true besides Model.Resolved: a triple's predicate and a shape's owner are among the pack's. Assumes
-- nothing.
use Rattle.std.specs.Prelude.{◌≡◌, ℕ, ◌<◌, Bool, true, false, not, ◌&&◌, T, List, [], ◌∷◌, length}
use lib.Dec.{ltb→lt}
use mathlib.Core.Path.{sym, subst}
use native.Mathlib.Omega.{arith}
use Rattle.meaning.proofs.Lists.Members.{both, every_at}
use Rattle.meaning.proofs.Model.Resolved.{shape_in_only}
use Rattle.meaning.specs.Core.{Assignment, CoreEdge, Node, head_fact, triple}
use Rattle.meaning.specs.Member.{◌∈◌}
use Rattle.meaning.specs.Pack.{Atom, HasShape, Head, Pack, Rule, Shape, has_type, links_to, links_to_value, shape_of}
use Rattle.meaning.specs.Tests.{every}
use Rattle.meaning.specs.WellFormed.{dangling, good_atom, good_dependency, good_head, good_predicate, good_row, good_rule, good_shape, good_target, good_term, good_type, in_atoms}

module _ (P : Pack) where
  -- a head that gives a triple
  good_head_lem : (atoms : List Atom) (h : Head) → T (good_head P atoms h) → (α : Assignment) {n m : Node} {p : ℕ} → head_fact α h ≡ triple n p m
      → T (good_predicate P p)
  unfolding head_fact
  good_head_lem atoms (has_type s t) g α e = absurd (let z : ◌≡◌ {A = ℕ} 0 1 = cc in omega arith)
  good_head_lem atoms (links_to s q o) g α {p = p} e =
      let z : q ≡ p = cc in
      let front = ((both (good_term P atoms s && good_predicate P q) (good_term P atoms o)).0 g).0 in
      subst (λ x. T (good_predicate P x)) z ((both (good_term P atoms s) (good_predicate P q)).0 front).1
  good_head_lem atoms (links_to_value s q v) g α {p = p} e =
      let z : q ≡ p = cc in
      let front = ((both (good_term P atoms s && good_predicate P q) (in_atoms atoms (v ∷ []))).0 g).0 in
      subst (λ x. T (good_predicate P x)) z ((both (good_term P atoms s) (good_predicate P q)).0 front).1

  -- the tests that all passed: of shapes, of rules
  all_good : dangling P ≡ false → T (every (good_shape P) P.setting.shapes) × T (every (good_rule P) P.setting.rules)
  unfolding dangling
  all_good not-7 =
      let all = ((both ((dependencies && shapes) && rules) rows).0 (passed (((dependencies && shapes) && rules) && rows) not-7)).0 in
      let front = (both (dependencies && shapes) rules).0 all in
      (((both dependencies shapes).0 front.0).1, front.1)
    where
      dependencies : Bool
      dependencies = every (good_dependency P) P.setting.dependencies

      shapes : Bool
      shapes = every (good_shape P) P.setting.shapes

      rules : Bool
      rules = every (good_rule P) P.setting.rules

      rows : Bool
      rows = every (good_row P) P.rows

      passed : (b : Bool) → not b ≡ false → T b
      passed true e = tt
      passed false e = subst T e tt

module _ (P : Pack) (not-7 : dangling P ≡ false) where
  -- The predicate of a triple that a rule's head gives.
  pub head_predicate : {r : Rule} → r ∈ P.setting.rules → (α : Assignment) {n m : Node} {p : ℕ} → head_fact α r.head ≡ triple n p m
      → p < length P.setting.predicates
  head_predicate {r} i α {p = p} e =
      let g = every_at (good_rule P) P.setting.rules (all_good P not-7).1 i in
      let h = ((both (every (good_atom P) r.atoms) (good_head P r.atoms r.head)).0 g).1 in
      ltb→lt p (length P.setting.predicates) (good_head_lem P r.atoms r.head h α e)

  -- So that of a core triple.
  pub edge_predicate : {n m : Node} {p : ℕ} → CoreEdge P n p m → p < length P.setting.predicates
  edge_predicate g = head_predicate g.listed g.values g.says

  -- The type whose shape it is.
  pub shape_owner : {t p : ℕ} {s : Shape} → HasShape P.setting t p s → t < length P.setting.types
  unfolding shape_of
  shape_owner {t} {p} {s} e =
      let r = shape_in_only P.setting.shapes t p s e.is in
      let g = every_at (good_shape P) P.setting.shapes (all_good P not-7).0 r.1 in
      let q = ((both (good_type P r.0.owner && good_predicate P r.0.predicate) (good_target P r.0.shape.target)).0 g).0 in
      ltb→lt t (length P.setting.types)
      (subst (λ x. T (good_type P x)) (sym r.2) ((both (good_type P r.0.owner) (good_predicate P r.0.predicate)).0 q).0)
