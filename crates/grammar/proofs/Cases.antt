-- The proved cases: the reading is computed over the table, and the agreement carries it to the grammar. Assumes nothing.
use mathlib.Core.List.{map}
use mathlib.Core.Option.{Option, none, some}
use mathlib.Core.Path.{◌≡◌, refl}
use native.Mathlib.Omega.{arith}
use Prim.Native.Nat.{ℕ}
use Rattle.meaning.proofs.Lists.Members.{map_each}
use Rattle.meaning.specs.Member.{◌∈◌}
use Rattle.meaning.specs.Pack.{Text}
use Rattle.meaning.specs.Query.{Expr}
use Rattle.grammar.specs.Cases.{Case, Says, cases}
use Rattle.grammar.specs.Grammar.{stars}
use Rattle.grammar.specs.Parse.{run, joined, parts, with_stars, closed, label, name, leaf, atom_of, step_by, sequence_by, union_by, atom_at, parse, whole, expression_of}
use Rattle.grammar.proofs.Agree.{reading}

computed : map (λ c. expression_of c.text) cases ≡ map (λ c. c.expression) cases
unfolding expression_of whole parse union_by sequence_by step_by atom_at atom_of leaf name label closed with_stars parts joined run stars
computed = refl

told : (q : Text) (o : Option Expr) → expression_of q ≡ o → Says q o
told q (some e) h = (reading q e).1 h
told q none h = λ e x. let p = (reading q e).0 x in let z : ◌≡◌ {A = ℕ} 0 1 = cc in omega arith

pub cases_hold : (c : Case) → c ∈ cases → Says c.text c.expression
cases_hold c m = told c.text c.expression (map_each (λ c. expression_of c.text) (λ c. c.expression) cases computed c m)
