-- Looking for a member whose multiplicity passes a test. Assumes nothing.
use lib.Dec.{T}
use mathlib.Core.Bool.{Bool, true, false}
use mathlib.Core.List.{List}
use mathlib.Core.Option.{some}
use mathlib.Core.Path.{◌≡◌, sym, ◌∙◌, subst}
use native.Mathlib.Omega.{arith}
use Prim.Native.Nat.{ℕ, ◌%◌, ◌<◌}
use Rattle.meaning.specs.Limits.{max_predicates, multiplicity_room}
use Rattle.meaning.specs.Pack.{AnswersTest, Multiplicity, Shape, multiplicity_number}
use Rattle.meaning.specs.Tables.{cell_at, cell_of}
use Rattle.shapes.specs.Shapes.{SomePasses}
use Rattle.shapes.proofs.Cells.{cell_held, cell_multiplicity, held_shape, shape_held}
use Rattle.shapes.proofs.Search.{Searching, next, search_again, search_done, search_next, search_start}
use Rattle.shapes.proofs.Sets.{type_in, types_in}
use Rattle.meaning.proofs.Lists.Lowest.{cleared}

-- the cell holds a shape whose multiplicity passes the test
pub record Passes (test : Multiplicity → Bool) (cell : ℕ) : Type 0 where
  pub shape : Shape
  pub is : cell ≡ cell_of (some shape)
  pub passes : T (test shape.multiplicity)

-- the members that pass are still to come
pub record Passing (test : Multiplicity → Bool) (table : List (List ℕ)) (mask p left : ℕ) : Type 0 where
  pub rest : Searching (λ t. Passes test (cell_at table t p)) mask left

pub pass_start : (test : Multiplicity → Bool) (table : List (List ℕ)) (mask p : ℕ) → Passing test table mask p (types_in mask)
pass_start test table mask p = record { rest = search_start (λ t. Passes test (cell_at table t p)) mask }

module _ {test : Multiplicity → Bool} {table : List (List ℕ)} {mask p left : ℕ} (v : Passing test table mask p left) where
  module _ (more : left ≡ 0 → ⊥) where
    abbrev cell : ℕ
    cell = cell_at table (next left) p

    again : ¬ Passes test cell → Passing test table mask p (cleared left)
    again n = record { rest = search_again v.rest more (λ t h. h) n }

    pub no_shape : cell ≡ 0 → Passing test table mask p (cleared left)
    no_shape e = again (λ h. cell_held h.shape (sym h.is ∙ e))

    module _ {r : Bool} (a : AnswersTest test (cell % multiplicity_room) r) where
      pub fails : r ≡ false → Passing test table mask p (cleared left)
      fails e = again (λ h.
          let m : cell % multiplicity_room ≡ multiplicity_number h.shape.multiplicity = rw h.is (cell_multiplicity h.shape) in
          subst T (sym (a h.shape.multiplicity m) ∙ e) h.passes)

      pub found : p < max_predicates → (cell ≡ 0 → ⊥) → r ≡ true → SomePasses test table mask p true
      found hp n e S tab =
          let m = search_next v.rest more in
          let h = held_shape tab.cells m.0 hp n in
          let k : cell % multiplicity_room ≡ multiplicity_number h.0.multiplicity = rw h.2 (cell_multiplicity h.0) in (
            λ u. record {
              member = next left;
              shape = h.0;
              has = (type_in (next left) mask).1 (omega (arith, m.0), m.1);
              declared = h.1;
              holds = subst T (sym e ∙ a h.0.multiplicity k) tt;
            },
            λ s. tt,
          )

  pub none_passes : p < max_predicates → left ≡ 0 → SomePasses test table mask p false
  none_passes hp e S tab = (
    λ u. absurd u,
    λ s.
        let ht = tab.few.owners s.declared in
        search_done v.rest e s.member (ht, ((type_in s.member mask).0 s.has).1)
        (record { shape = s.shape; is = shape_held tab.cells ht hp s.shape s.declared; passes = s.holds }),
  )
