-- A rule's numbers are held as matching supposes: refusals 4 and 7 leave what it asks. Assumes nothing.
use Rattle.std.proofs.Common.{◌≡◌, ℕ, ◌+◌, ◌*◌, ◌<◌, false, T, eqb, List, [], ◌∷◌, ◌++◌, length, get_or, take, drop, replicate, sym, refl, ap, ◌∙◌, subst, ⊎_elim, arith}
use lib.ListN.{get_elem?}
use mathlib.Core.List.Memᴰ
use mathlib.Core.List.{flat_map}
use mathlib.Core.Option.{Option, none, some}
use Rattle.core_graph.specs.Bounds.{Bounded}
use Rattle.matching.specs.Rule.{RuleGiven, RuleHeld}
use Rattle.meaning.proofs.Lists.Members.{element}
use Rattle.meaning.proofs.Lists.Places.{inside}
use Rattle.meaning.proofs.Model.Resolved.{Bound, head_variables, resolved}
use Rattle.meaning.specs.Limits.{atom_width, atoms_length, max_columns, max_head_variables, row_width, rule_width, rules_at}
use Rattle.meaning.specs.Member.{◌∈◌, here, there}
use Rattle.meaning.specs.Pack.{Atom, Head, Pack, Row, Rule, has_type, links_to, links_to_value}
use Rattle.meaning.specs.Tables.{atom_numbers, head_arguments}
use Rattle.meaning.specs.Tests.{there_and}
use Rattle.meaning.specs.WellFormed.{dangling, has_arity}
use Rattle.names.specs.PackGiven.{Bounds, Resolved}
use Rattle.names.proofs.Good.{atom_good, row_good, same_arity}
use Rattle.names.proofs.RuleNumbers.{atom_count, atoms_part, count_at, length_atom, variable_count, variables_few, variables_part, variables_at}
use Rattle.names.proofs.Rule.{rule_at}
use Rattle.rule_heads.specs.RuleOf.{Bytes, IsRuleOf, RuleOf}
use Rattle.meaning.proofs.Lists.Blocks.{length_flat}
use Rattle.meaning.proofs.Lists.Bytes.{AllBytes, byte_below, bytes_append, bytes_cons, bytes_flat, bytes_take, bytes_zeros}
use Rattle.meaning.proofs.Lists.Padding.{unpadded}
use Rattle.meaning.proofs.Lists.Parts.{number_at}

-- ---- the bounds that the core's passes suppose

pub bounded : {P : Pack} → Bounds P → dangling P ≡ false → Bounded P
bounded b e = record { values = b.values; types = b.types; predicates = b.predicates; constructors = b.constructors; arities = b.arguments; resolved = e }

-- ---- counts are arities

relation_there : (arities : List ℕ) (r m : ℕ) → T (has_arity arities r m) → r < length arities
relation_there arities r m = go (get_elem? arities r) refl
  where
    go : (o : Option ℕ) → get_elem? arities r ≡ o → T (there_and (eqb m) o) → r < length arities
    go none e a = absurd a
    go (some k) e a = inside arities r k e

module _ (P : Pack) (not-7 : dangling P ≡ false) where
  row_arity : (rule : Rule) → rule ∈ P.setting.rules → (r : Row) → r ∈ P.rows → (a : Atom) → a ∈ rule.atoms → r.relation ≡ a.relation
      → length r.cells ≡ length a.variables
  row_arity rule i r j a k e =
      same_arity P.setting.arities a.relation (length r.cells) (length a.variables)
      (subst (λ (x : ℕ). T (has_arity P.setting.arities x (length r.cells))) e (row_good P not-7 r j)) (atom_good P not-7 rule i a k)

-- ---- the head's variables

in_variables : (h : Head) (v : ℕ) → v ∈ head_arguments h → v ∈ head_variables h
unfolding head_arguments head_variables
in_variables (has_type s t) v i = i
in_variables (links_to s p o) v i = i
in_variables (links_to_value s p x) v i = ⊎_elim there last (Memᴰ.append_cases s.variables i)
  where
    last : v ∈ (x ∷ []) → v ∈ (x ∷ s.variables)
    last (here e) = here e
    last (there m) = elim m [ ]

-- ---- the rule

module _ {P : Pack} {r : Rule} {numbers : List ℕ} {at : ℕ} {rows : List ℕ} (g : RuleOf P r numbers at rows) where
  in_atom : (v : ℕ) → v ∈ head_arguments r.head → (a : Atom) × (a ∈ r.atoms) × (v ∈ a.variables)
  unfolding Bound
  in_atom v i = (resolved P g.resolved).bound r g.listed v (in_variables r.head v i)

  -- ---- its numbers fit eight bits

  atom_small : (a : Atom) → a ∈ r.atoms → AllBytes (atom_numbers a)
  atom_small a i =
      bytes_cons (omega (arith, relation_there P.setting.arities a.relation (length a.variables) (atom_good P g.resolved r g.listed a i), g.bounds.relations))
      (bytes_cons (omega (arith, g.is.bounds.variables a i))
      (bytes_take max_columns (a.variables ++ replicate max_columns 0)
      (bytes_append a.variables (replicate max_columns 0)
      (record { each = λ v m. omega (arith, g.is.bounds.below a i v m) }) (bytes_zeros max_columns))))

  by_part : (k w : ℕ) (xs : List ℕ) → take w (drop (at + k) numbers) ≡ take w xs → AllBytes (take w xs) → (i : ℕ) → i < w → get_or numbers (at + k + i) 0 < 256
  by_part k w xs e s i h =
      omega (arith, number_at numbers (take w xs) (at + k) w e i h, byte_below s i)

  pub atoms_small : Bytes numbers (at + 1) atoms_length
  atoms_small = record {
    room = omega (arith, g.is.room);
    each = by_part 1 atoms_length (flat_map atom_numbers r.atoms ++ replicate atoms_length 0) (atoms_part g.is)
        (bytes_take atoms_length (flat_map atom_numbers r.atoms ++ replicate atoms_length 0)
        (bytes_append (flat_map atom_numbers r.atoms) (replicate atoms_length 0) (bytes_flat atom_numbers r.atoms atom_small) (bytes_zeros atoms_length)));
  }

  arguments_small : (v : ℕ) → v ∈ head_arguments r.head → v < 256
  arguments_small v i =
      let q = in_atom v i in
      omega (arith, g.is.bounds.below q.0 q.1 v q.2)

  pub variables_small : Bytes numbers (at + variables_at) max_head_variables
  variables_small = record {
    room = omega (arith, g.is.room);
    each = by_part variables_at max_head_variables (head_arguments r.head ++ replicate max_head_variables 0) (variables_part g.is)
        (bytes_take max_head_variables (head_arguments r.head ++ replicate max_head_variables 0)
        (bytes_append (head_arguments r.head) (replicate max_head_variables 0) (record { each = arguments_small }) (bytes_zeros max_head_variables)));
  }

  -- ---- and are held

  abbrev atom_list : List ℕ
  atom_list = take atoms_length (drop (at + 1) numbers)

  abbrev variable_list : List ℕ
  variable_list = take max_head_variables (drop (at + variables_at) numbers)

  atoms_are : take (length r.atoms * atom_width) atom_list ≡ flat_map atom_numbers r.atoms
  atoms_are =
      let flat = flat_map atom_numbers r.atoms in
      let l : length flat ≡ length r.atoms * atom_width = length_flat atom_numbers atom_width length_atom r.atoms in
      ap (λ (k : ℕ). take k atom_list) (sym l) ∙ ap (λ (t : List ℕ). take (length flat) t) (atoms_part g.is)
      ∙ unpadded flat (replicate atoms_length 0) atoms_length (omega (arith, l, g.is.bounds.atoms))

  variables_are : take (get_or numbers (at + count_at) 0) variable_list ≡ head_arguments r.head
  variables_are =
      ap (λ (k : ℕ). take k variable_list) (variable_count g.is) ∙ ap (λ (t : List ℕ). take (length (head_arguments r.head)) t) (variables_part g.is)
      ∙ unpadded (head_arguments r.head) (replicate max_head_variables 0) max_head_variables g.is.bounds.arguments

  pub rule_held : RuleHeld P.rows r.atoms (head_arguments r.head) rows (take atoms_length (drop (at + 1) numbers)) (get_or numbers at 0)
      (take max_head_variables (drop (at + variables_at) numbers)) (get_or numbers (at + count_at) 0)
  rule_held = record {
    rows_held = g.holds_rows;
    atoms_held = record { are = atoms_are };
    atoms_counted = atom_count g.is;
    vars_held = variables_are;
    vars_counted = variables_few g.is;
    few_rows = g.bounds.rows;
    few_atoms = g.is.bounds.atoms;
    short = g.is.bounds.variables;
    variables = g.is.bounds.below;
    values = λ x i v j. omega (arith, (resolved P g.resolved).cells x i v j, g.bounds.values);
    arities = λ x i a j e. row_arity P g.resolved r g.listed x i a j e;
    bound = in_atom;
  }

pub rule_given : {numbers : List ℕ} {at : ℕ} {rows : List ℕ} → IsRuleOf numbers at rows
    → RuleGiven rows (take atoms_length (drop (at + 1) numbers)) (get_or numbers at 0) (take max_head_variables (drop (at + variables_at) numbers)) (get_or numbers (at + count_at) 0)
rule_given i = record { rows = i.pack.rows; atoms = i.rule.atoms; vars = head_arguments i.rule.head; held = rule_held i.given }

-- ---- of the pack

pub rule_of : {P : Pack} {counts numbers rows : List ℕ} → Resolved P counts numbers rows → (i : ℕ) (r : Rule) → get_elem? P.setting.rules i ≡ some r
    → RuleOf P r numbers (rules_at + i * rule_width) (take (get_or counts 8 0 * row_width) rows)
rule_of {P} {counts} {numbers} {rows} g i r e = record {
  is = rule_at g.given.setting i r e;
  listed = element P.setting.rules i r e;
  bounds = g.given.setting.bounds;
  resolved = g.resolved;
  holds_rows = record { are = ap (λ (k : ℕ). take k rows) many ∙ g.given.holds_rows.are };
}
  where
    many : get_or counts 8 0 * row_width ≡ row_width * length P.rows
    many = omega (arith, g.given.many)
