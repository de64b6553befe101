-- A bounded pack's shape table: its types are few, so its codes fit. Assumes nothing.
use Rattle.std.specs.Prelude.{◌≡◌, ℕ, ◌+◌, ◌*◌, ◌<◌, ◌≤◌, List}
use mathlib.Core.Option.{Option, none, some}
use mathlib.Core.Path.{refl, ◌∙◌}
use native.Mathlib.Omega.{arith}
use Rattle.core_graph.proofs.Declared.{shape_owner}
use Rattle.core_graph.specs.Bounds.{Bounded}
use Rattle.meaning.proofs.Model.Resolved.{resolved}
use Rattle.meaning.specs.Limits.{literal_bit, max_types, multiplicity_room}
use Rattle.meaning.specs.Pack.{HasShape, Literal, Pack, Shape, Target, shape_of, type}
use Rattle.meaning.specs.Tables.{ShapeTable, cell_at, cell_of, target_code}
use Rattle.shapes.proofs.Cells.{multiplicity_small}
use Rattle.shapes.specs.Shapes.{CodesFit, FewTypes, Tabled}

pub few_types : {P : Pack} → Bounded P → FewTypes P.setting
few_types {P} b = record {
  owners = λ e. omega (arith, shape_owner P b.resolved e, b.types);
  targets = λ e q. omega (arith, (resolved P b.resolved).target_type e q, b.types);
}

code_small : (S : Target) → ((u : ℕ) → S ≡ type u → u < max_types) → target_code S ≤ literal_bit
code_small Literal h = omega arith
code_small (type u) h = omega (arith, h u refl)

pub codes_fit : {P : Pack} {table : List (List ℕ)} → ShapeTable P.setting table → Bounded P → CodesFit table
codes_fit {P} {table} tab b t p ht hp = go (shape_of P.setting t p) refl
  where
    go : (o : Option Shape) → shape_of P.setting t p ≡ o → cell_at table t p < (literal_bit + 1) * multiplicity_room
    go none e = let c : cell_at table t p ≡ cell_of none = tab.cells t p ht hp ∙ rw e in omega arith
    go (some s) e =
        let c : cell_at table t p ≡ cell_of (some s) = tab.cells t p ht hp ∙ rw e in
        let k : HasShape P.setting t p s = record { is = e } in
        omega (arith, c, multiplicity_small s.multiplicity, code_small s.target (λ u q. (few_types b).targets k q))

pub tabled : {P : Pack} {table : List (List ℕ)} → ShapeTable P.setting table → Bounded P → Tabled P.setting table
tabled tab b = record { cells = tab; few = few_types b }
