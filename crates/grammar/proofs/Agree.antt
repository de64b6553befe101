-- The reading and the grammar agree: a text has at most one expression, and the reading finds it exactly when there is
-- one. Assumes nothing.
use borrow.Author.Tests.{leb-true, le-leb}
use lib.Dec.{leb}
use lib.ListN.{length}
use mathlib.Core.Bool.{Bool, true, false, cond}
use mathlib.Core.List.{[], ◌∷◌, append-nil}
use mathlib.Core.Logic.{◌↔◌}
use mathlib.Core.Option.{none, some}
use mathlib.Core.Path.{◌≡◌, refl, sym, subst, ◌∙◌}
use native.Mathlib.Omega.{arith}
use Prim.Native.Nat.{ℕ, ◌≤◌}
use Rattle.meaning.specs.Limits.{max_open_brackets, max_query_bytes}
use Rattle.meaning.specs.Pack.{Text}
use Rattle.meaning.specs.Query.{Expr}
use Rattle.grammar.specs.Grammar.{a_union, Reads, IsQuery}
use Rattle.grammar.specs.Parse.{Out, bad, ok, run, parts, with_stars, name, leaf, atom_of, step_by, sequence_by, union_by, atom_at, parse, whole, expression_of}
use Rattle.grammar.proofs.Complete.{going_ends, complete}
use Rattle.grammar.proofs.Sound.{never, sound}

-- The whole of q is a union with the expression e exactly if q is read to its end and e is given.
pub reads_whole : (q : Text) (d : ℕ) (e : Expr) → Reads a_union d q e ↔ (parse a_union d q ≡ ok e [])
reads_whole q d e = (
  (λ x. rw append-nil at (going_ends (complete x [] (refl, refl, refl)) refl)),
  (λ h. let (t, p, x) = sound a_union d q e [] h in subst (λ (y : Text). Reads a_union d y e) (sym (p ∙ append-nil t)) x),
)

-- The empty text is none.
none_empty : parse a_union max_open_brackets [] ≡ bad
unfolding parse union_by sequence_by step_by atom_at atom_of leaf name run parts with_stars
none_empty = refl

some_byte : (q : Text) (e : Expr) → parse a_union max_open_brackets q ≡ ok e [] → 1 ≤ length q
some_byte [] e h = absurd (never (sym none_empty ∙ h))
some_byte (c ∷ q) e h = omega arith

whole_some : (o : Out) (e : Expr) → whole o ≡ some e → o ≡ ok e []
unfolding whole
whole_some bad e h = cc
whole_some (ok a []) e h = cc
whole_some (ok a (c ∷ s)) e h = cc

-- The reading finds the expression exactly when there is one.
pub reading : (q : Text) (e : Expr) → IsQuery q e ↔ (expression_of q ≡ some e)
unfolding expression_of whole
reading q e = ((λ x. rw (le-leb (length q) max_query_bytes x.fits, (reads_whole q max_open_brackets e).0 x.reads) refl), (λ h. go (leb (length q) max_query_bytes) refl h))
  where
    go : (b : Bool) → leb (length q) max_query_bytes ≡ b → cond b (whole (parse a_union max_open_brackets q)) none ≡ some e → IsQuery q e
    go true p h =
        let w = whole_some (parse a_union max_open_brackets q) e h in
        record { some = some_byte q e w; fits = leb-true (length q) max_query_bytes p; reads = (reads_whole q max_open_brackets e).1 w }
    go false p h = absurd (let z : ◌≡◌ {A = ℕ} 0 1 = cc in omega arith)

-- A text has at most one expression.
pub one_expression : (q : Text) (a b : Expr) → IsQuery q a → IsQuery q b → a ≡ b
one_expression q a b x y = let p = (reading q a).0 x in let r = (reading q b).0 y in cc
