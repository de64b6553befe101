-- The parts of a rule's numbers: atoms, head variables, head. Assumes nothing.
use lib.ListN.{drop, get_or, get_elem?, length, length-append, replicate, take}
use lib.Seq.{drop_at, drop-drop, get_or_at, length-take-le, slice, take_all, take-append-le, take-append_seam, take_at}
use mathlib.Core.List.{List, ◌∷◌, ◌++◌, append_assoc, flat_map}
use mathlib.Core.Option.{some}
use mathlib.Core.Path.{◌≡◌, refl, sym, ap, ◌∙◌}
use native.Mathlib.Omega.{arith}
use Prim.Native.Nat.{ℕ, suc, ◌+◌, ◌*◌, ◌≤◌}
use Rattle.meaning.specs.Limits.{atom_width, atoms_length, head_width, max_atoms, max_columns, max_head_variables, rule_width}
use Rattle.meaning.specs.Pack.{Atom, Head, Rule, has_type, links_to, links_to_value}
use Rattle.meaning.specs.Tables.{atom_numbers, head_arguments, head_numbers, rule_numbers}
use Rattle.meaning.proofs.Lists.Places.{inside}
use Rattle.names.specs.Rule.{AtomsAt, HeadAt, RuleAt}
use Rattle.meaning.proofs.Lists.Parts.{first_is_at, number_at, part_of, slice_by}
use Rattle.meaning.proofs.Lists.Blocks.{flat_at, length_flat}
use Rattle.meaning.proofs.Lists.Padding.{unpadded}

-- where they are: how many variables, these, the head
abbrev pub count_at : ℕ
count_at = 1 + atoms_length

abbrev pub variables_at : ℕ
variables_at = count_at + 1

abbrev pub head_from : ℕ
head_from = variables_at + max_head_variables

-- ---- of any list that is put together so

abbrev whole : ℕ → ℕ → List ℕ → List ℕ → List ℕ → List ℕ
whole x v as' vs h = x ∷ (as' ++ (v ∷ (vs ++ h)))

module _ (x v : ℕ) (as' vs h : List ℕ) (m : length as' ≡ atoms_length) (n : length vs ≡ max_head_variables) where
  count_there : get_or (whole x v as' vs h) count_at 0 ≡ v
  count_there = get_or_at as' v (vs ++ h) 0 atoms_length m

  variables_there : drop variables_at (whole x v as' vs h) ≡ vs ++ h
  variables_there = sym (drop-drop 1 atoms_length (as' ++ (v ∷ (vs ++ h)))) ∙ ap (λ (t : List ℕ). drop 1 t) (drop_at as' (v ∷ (vs ++ h)) atoms_length m)

  head_there : drop head_from (whole x v as' vs h) ≡ h
  head_there =
      sym (drop-drop max_head_variables variables_at (whole x v as' vs h)) ∙ ap (λ (t : List ℕ). drop max_head_variables t) variables_there
      ∙ drop_at vs h max_head_variables n

  atoms_there : (k w : ℕ) → k + w ≤ atoms_length → take w (drop (suc k) (whole x v as' vs h)) ≡ take w (drop k as')
  atoms_there k w l = part_of (as' ++ (v ∷ (vs ++ h))) as' atoms_length k w (take_at as' (v ∷ (vs ++ h)) atoms_length m) l

-- ---- of a rule

pub length_atom : (a : Atom) → length (atom_numbers a) ≡ atom_width
length_atom a =
    ap suc (ap suc (length-take-le max_columns (a.variables ++ replicate max_columns 0) (omega (arith, length-append a.variables (replicate max_columns 0)))))

length_head : (h : Head) → length (head_numbers h) ≡ head_width
unfolding head_numbers
length_head (has_type s t) = refl
length_head (links_to s p o) = refl
length_head (links_to_value s p v) = refl

abbrev flat : Rule → List ℕ
flat r = flat_map atom_numbers r.atoms

abbrev atom_part : Rule → List ℕ
atom_part r = take atoms_length (flat r ++ replicate atoms_length 0)

abbrev variable_part : Rule → List ℕ
variable_part r = take max_head_variables (head_arguments r.head ++ replicate max_head_variables 0)

abbrev parts : Rule → List ℕ
parts r = whole (length r.atoms) (length (head_arguments r.head)) (atom_part r) (variable_part r) (head_numbers r.head)

rule_is : (r : Rule) → rule_numbers r ≡ parts r
unfolding rule_numbers
rule_is r = append_assoc (length r.atoms ∷ atom_part r) (length (head_arguments r.head) ∷ variable_part r) (head_numbers r.head)

module _ (r : Rule) where
  atoms_long : length (atom_part r) ≡ atoms_length
  atoms_long = length-take-le atoms_length (flat r ++ replicate atoms_length 0) (omega (arith, length-append (flat r) (replicate atoms_length 0)))

  variables_long : length (variable_part r) ≡ max_head_variables
  variables_long =
      length-take-le max_head_variables (head_arguments r.head ++ replicate max_head_variables 0)
      (omega (arith, length-append (head_arguments r.head) (replicate max_head_variables 0)))

  count_in : get_or (parts r) count_at 0 ≡ length (head_arguments r.head)
  count_in = count_there (length r.atoms) _ (atom_part r) (variable_part r) (head_numbers r.head) atoms_long variables_long

  variables_in : drop variables_at (parts r) ≡ variable_part r ++ head_numbers r.head
  variables_in =
      variables_there (length r.atoms) (length (head_arguments r.head)) (atom_part r) (variable_part r) (head_numbers r.head) atoms_long variables_long

  head_in : drop head_from (parts r) ≡ head_numbers r.head
  head_in = head_there (length r.atoms) (length (head_arguments r.head)) (atom_part r) (variable_part r) (head_numbers r.head) atoms_long variables_long

  -- atom i's numbers
  atom_part_lem : length r.atoms ≤ max_atoms → (i : ℕ) (a : Atom) → get_elem? r.atoms i ≡ some a → take atom_width (drop (suc (i * atom_width)) (parts r)) ≡ atom_numbers a
  atom_part_lem few i a e =
      let l = inside r.atoms i a e in
      atoms_there (length r.atoms) (length (head_arguments r.head)) (atom_part r) (variable_part r) (head_numbers r.head) atoms_long variables_long (i * atom_width) atom_width (omega arith)
      ∙ sym (part_of (flat r ++ replicate atoms_length 0) (atom_part r) atoms_length (i * atom_width) atom_width refl (omega arith))
      ∙ part_of (flat r ++ replicate atoms_length 0) (flat r) (length (flat r)) (i * atom_width) atom_width (take-append_seam (flat r) (replicate atoms_length 0))
      (omega (arith, length_flat atom_numbers atom_width length_atom r.atoms))
      ∙ flat_at atom_numbers atom_width length_atom r.atoms i a e

-- ---- of a rule's numbers at a place

module _ {r : Rule} {numbers : List ℕ} {at : ℕ} (g : RuleAt r numbers at) where
  are : take rule_width (drop at numbers) ≡ parts r
  are = g.are ∙ rule_is r

  -- what stands from number k of the rule on
  part : (k w : ℕ) → k + w ≤ rule_width → take w (drop (at + k) numbers) ≡ take w (drop k (parts r))
  part k w h = ap (λ (t : List ℕ). take w t) (sym (drop-drop k at numbers)) ∙ part_of (drop at numbers) (parts r) rule_width k w are h

  pub atom_count : get_or numbers at 0 ≡ length r.atoms
  atom_count = first_is_at numbers (parts r) at rule_width are (omega arith)

  pub atoms_at : AtomsAt r.atoms numbers (at + 1) (get_or numbers at 0)
  atoms_at = record {
    many = atom_count;
    held = record {
      each = λ i a e.
          let l = inside r.atoms i a e in
          let p : at + 1 + i * atom_width ≡ at + suc (i * atom_width) = omega arith in
          ap (λ (t : List ℕ). take atom_width t) (drop-drop (i * atom_width) (at + 1) numbers) ∙ ap (λ (k : ℕ). take atom_width (drop k numbers)) p
          ∙ part (suc (i * atom_width)) atom_width (omega (arith, g.bounds.atoms)) ∙ atom_part_lem r g.bounds.atoms i a e;
    };
    short = g.bounds.variables;
    room = omega (arith, atom_count, g.bounds.atoms, g.room);
  }

  pub head_at : HeadAt r.head numbers (at + head_from)
  head_at = record {
    are = part head_from head_width (omega arith)
        ∙ ap (λ (t : List ℕ). take head_width t) (head_in r)
        ∙ take_all head_width (head_numbers r.head) (omega (arith, length_head r.head));
  }

  pub variable_count : get_or numbers (at + count_at) 0 ≡ length (head_arguments r.head)
  variable_count =
      number_at numbers (parts r) at rule_width are count_at (omega arith)
      ∙ count_in r

  pub variables_few : get_or numbers (at + count_at) 0 ≤ max_head_variables
  variables_few = omega (arith, variable_count, g.bounds.arguments)

  pub variables_are : slice (at + variables_at) (at + variables_at + get_or numbers (at + count_at) 0) numbers ≡ head_arguments r.head
  variables_are =
      let n : ℕ = length (head_arguments r.head) in
      ap (λ (k : ℕ). slice (at + variables_at) (at + variables_at + k) numbers) variable_count ∙ sym (slice_by (at + variables_at) n numbers)
      ∙ part variables_at n (omega (arith, g.bounds.arguments))
      ∙ ap (λ (t : List ℕ). take n t) (variables_in r)
      ∙ take-append-le n (variable_part r) (head_numbers r.head) (omega (arith, variables_long r, g.bounds.arguments))
      ∙ unpadded (head_arguments r.head) (replicate max_head_variables 0) max_head_variables g.bounds.arguments

  -- all places of the atoms, and of the variables
  pub atoms_part : take atoms_length (drop (at + 1) numbers) ≡ take atoms_length (flat_map atom_numbers r.atoms ++ replicate atoms_length 0)
  atoms_part = part 1 atoms_length (omega arith) ∙ take_at (atom_part r) (length (head_arguments r.head) ∷ (variable_part r ++ head_numbers r.head)) atoms_length (atoms_long r)

  pub variables_part : take max_head_variables (drop (at + variables_at) numbers) ≡ take max_head_variables (head_arguments r.head ++ replicate max_head_variables 0)
  variables_part =
      part variables_at max_head_variables (omega arith) ∙ ap (λ (t : List ℕ). take max_head_variables t) (variables_in r)
      ∙ take_at (variable_part r) (head_numbers r.head) max_head_variables (variables_long r)
