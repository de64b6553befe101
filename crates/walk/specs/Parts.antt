-- A query's parts as the walk sees them, and what is to be done after each. Assumes nothing.
use Rattle.std.specs.Prelude.{eqb, take, drop, get_or, cond, List, ◌⊎◌, ◌≡◌, ℕ, ◌-◌, ◌<◌}
use Rattle.meaning.specs.Pack.{Text}
use Rattle.meaning.specs.Query.{Expr, stay, step, any_step, at_iri, at_literal}
use Rattle.query.specs.Tree.{first_number, kind_of, second_number}

-- What kind of part it is, and the roots of its own parts.
pub data Part : Type 0 where
  leaf : Part  -- stay, a step, a label: no parts
  test : ℕ → Part  -- nested
  repeat : ℕ → Part  -- star
  chain : ℕ → ℕ → Part  -- sequence: left and right
  either : ℕ → ℕ → Part  -- union: left and right

-- c is the root of a part of p.
abbrev pub Child : Part → ℕ → Type 0
Child leaf c = ⊥
Child (test body) c = c ≡ body
Child (repeat body) c = c ≡ body
Child (chain left right) c = (c ≡ left) ⊎ (c ≡ right)
Child (either left right) c = (c ≡ left) ⊎ (c ≡ right)

-- The left part stands before the right one.
abbrev pub Ordered : Part → Type 0
Ordered leaf = Unit {0}
Ordered (test body) = Unit {0}
Ordered (repeat body) = Unit {0}
Ordered (chain left right) = left < right
Ordered (either left right) = left < right

unfoldable pub part_by : ℕ → ℕ → ℕ → Part
part_by kind left right =
    cond (eqb kind 5) (test right)
    (cond (eqb kind 6) (repeat right)
    (cond (eqb kind 7) (chain left right)
    (cond (eqb kind 8) (either left right)
    leaf)))

-- The part i of the list t.
unfoldable pub part_of : List ℕ → ℕ → Part
part_of t i = part_by (kind_of t i) (first_number t i) (i - 1)

unfoldable pub leaf_by : ℕ → Text → Expr
leaf_by kind s =
    cond (eqb kind 1) any_step
    (cond (eqb kind 2) (step s)
    (cond (eqb kind 3) (at_iri s)
    (cond (eqb kind 4) (at_literal s)
    stay)))

-- The name or label of the part i, a text of the query q.
abbrev pub part_text : Text → List ℕ → ℕ → Text
part_text q t i = take (second_number t i) (drop (first_number t i) q)

-- The expression of a part that has no parts.
unfoldable pub leaf_of : Text → List ℕ → ℕ → Expr
leaf_of q t i = leaf_by (kind_of t i) (part_text q t i)

-- ---- what is to be done after a part

module _ (next : ℕ → ℕ) (done : ℕ) where
  -- After the parts of the part i: after the left part of a sequence its right part, after the body of a star the star
  -- itself, after the body of a nested test nothing more, after any other what is to be done after i.
  abbrev pub Linked : ℕ → Part → Type 0
  Linked i leaf = Unit {0}
  Linked i (test body) = next body ≡ done
  Linked i (repeat body) = next body ≡ i
  Linked i (chain left right) = (next left ≡ right) × (next right ≡ next i)
  Linked i (either left right) = (next left ≡ next i) × (next right ≡ next i)

-- The parts below `done` are threaded: after the root nothing more is to be done.
pub record Threaded (part : ℕ → Part) (next : ℕ → ℕ) (done : ℕ) : Type 0 where
  pub root : next (done - 1) ≡ done
  pub linked : (i : ℕ) → i < done → Linked next done i (part i)

-- The numbers of a list, as a function.
abbrev pub listed : List ℕ → ℕ → ℕ
listed xs i = get_or xs i 0
