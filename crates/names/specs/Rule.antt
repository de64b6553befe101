-- A rule's numbers at a place, and what the functions on them say. Assumes nothing.
use Rattle.std.specs.Prelude.{drop, length, take, Bool, ◌&&◌, List, ◌≡◌, ℕ, ◌*◌, ◌+◌, ◌≤◌}
use Rattle.records.specs.PackHeld.{RecordsHeld}
use Rattle.meaning.specs.Limits.{atom_width, head_width, max_columns, rule_width}
use Rattle.meaning.specs.Member.{◌∈◌}
use Rattle.meaning.specs.Pack.{Atom, Head, Pack, Rule, Term, has_type, links_to, links_to_value}
use Rattle.meaning.specs.Tables.{atom_numbers, head_numbers, rule_numbers}
use Rattle.meaning.specs.WellFormed.{constructor_arities, good_predicate, good_type, has_arity}
use Rattle.names.specs.PackGiven.{RuleBounds}

-- ---- atoms, one after another: n of them from a place on

abbrev pub AtomNumbers : Atom → List ℕ → Type 0
AtomNumbers a numbers = numbers ≡ atom_numbers a

pub record AtomsAt (as' : List Atom) (numbers : List ℕ) (first n : ℕ) : Type 0 where
  pub many : n ≡ length as'
  pub held : RecordsHeld AtomNumbers atom_width as' first numbers
  pub short : (a : Atom) → a ∈ as' → length a.variables ≤ max_columns
  pub room : first + n * atom_width ≤ length numbers

-- ---- the head

pub record HeadAt (h : Head) (numbers : List ℕ) (at : ℕ) : Type 0 where
  pub are : take head_width (drop at numbers) ≡ head_numbers h

-- a term's constructor is there and has as many arguments
abbrev pub term_named : Pack → Term → Bool
term_named P t = has_arity (constructor_arities P) t.constructor (length t.variables)

-- good_head but for its variables
abbrev pub head_named : Pack → Head → Bool
head_named P (has_type s t) = term_named P s && good_type P t
head_named P (links_to s p o) = term_named P s && good_predicate P p && term_named P o
head_named P (links_to_value s p v) = term_named P s && good_predicate P p

-- ---- the rule

pub record RuleAt (r : Rule) (numbers : List ℕ) (at : ℕ) : Type 0 where
  pub are : take rule_width (drop at numbers) ≡ rule_numbers r
  pub bounds : RuleBounds r
  pub room : at + rule_width ≤ length numbers

-- ---- some, every

pub record IsAtoms (numbers : List ℕ) (first n : ℕ) : Type 0 where
  pub list : List Atom
  pub given : AtomsAt list numbers first n

pub record IsRule (numbers : List ℕ) (at : ℕ) : Type 0 where
  pub rule : Rule
  pub given : RuleAt rule numbers at

abbrev pub ForAtoms : List ℕ → ℕ → ℕ → (List Atom → Type 0) → Type 0
ForAtoms numbers first n Q = (as' : List Atom) → AtomsAt as' numbers first n → Q as'

abbrev pub ForHead : List ℕ → ℕ → (Head → Type 0) → Type 0
ForHead numbers at Q = (h : Head) → HeadAt h numbers at → Q h

abbrev pub ForRule : List ℕ → ℕ → (Rule → Type 0) → Type 0
ForRule numbers at Q = (r : Rule) → RuleAt r numbers at → Q r
