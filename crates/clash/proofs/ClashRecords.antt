-- The records of a clash, written one after the other. Assumes nothing.
use lib.ListN.{drop, drop_of_length-le, get_or, get_elem?, length, length-append, set}
use lib.Seq.{sets-eq}
use mathlib.Core.List.{List, [], ◌∷◌, ◌++◌, append-nil}
use mathlib.Core.Option.{some}
use mathlib.Core.Path.{◌≡◌, sym, ap, subst, ◌∙◌}
use native.Mathlib.Omega.{arith}
use Prim.Native.Nat.{ℕ, suc, ◌+◌, ◌<◌, ◌≤◌}
use Rattle.spread.specs.Keys.{key_of, object_of, predicate_of, subject_of, triple_key}
use Rattle.clash.specs.Clash.{ClashAt, ClashWritten}
use Rattle.core_lists.specs.Input.{Input, CoreFits}
use Rattle.node_list.specs.Records.{Arities, core_numbers, overwritten}
use Rattle.node_list.proofs.CoreList.{numbers_long}
use Rattle.core_lists.proofs.Places.{masked, place_small, predicate_small, well}
use Rattle.core_lists.proofs.ResolvedNodes.{proper}
use Rattle.node_list.proofs.Records.{core_record}
use Rattle.meaning.proofs.Lists.Places.{entry_is, inside, ∈_at}
use Rattle.meaning.specs.Built.{core}
use Rattle.meaning.specs.Core.{CoreNode, Node, as_object, as_subject}
use Rattle.meaning.specs.Limits.{clash_width, max_predicates, node_width, place_room}
use Rattle.meaning.specs.Listing.{NodeRecord}
use Rattle.meaning.specs.Pack.{Pack}
use Rattle.meaning.proofs.Lists.Overwriting.{parts_written, written_long}

-- where the objects' records stand
abbrev pub first_at : ℕ
first_at = node_width + 1

abbrev pub second_at : ℕ
second_at = first_at + node_width

-- a node, a predicate and two nodes
pub four_parts : (p : ℕ) (a b c out : List ℕ) → length a ≡ node_width → length b ≡ node_width → length c ≡ node_width → clash_width ≤ length out
    → overwritten second_at c (overwritten first_at b (set (overwritten 0 a out) node_width p)) ≡ a ++ (p ∷ []) ++ b ++ c ++ drop clash_width out
four_parts p a b c out la lb lc h =
    let o = overwritten 0 a out in
    let lo : length o ≡ length out = written_long 0 node_width a out la (omega arith) in
    let e₁ : set o node_width p ≡ overwritten 0 (a ++ (p ∷ [])) out = sets-eq (p ∷ []) o node_width (omega arith) ∙ parts_written 0 node_width a out la (omega arith) (p ∷ []) in
    let l₁ : length (a ++ (p ∷ [])) ≡ first_at = length-append a (p ∷ []) ∙ omega arith in
    let e₂ = parts_written 0 first_at (a ++ (p ∷ [])) out l₁ (omega arith) b in
    let l₂ : length (a ++ (p ∷ []) ++ b) ≡ second_at = length-append (a ++ (p ∷ [])) b ∙ omega arith in
    let e₃ = parts_written 0 second_at (a ++ (p ∷ []) ++ b) out l₂ (omega arith) c in
    let l₃ : 0 + length (a ++ (p ∷ []) ++ b ++ c) ≡ clash_width = (let l = length-append (a ++ (p ∷ []) ++ b) c in omega arith) in
    ap (λ x. overwritten second_at c (overwritten first_at b x)) e₁ ∙ ap (overwritten second_at c) e₂ ∙ e₃ ∙ ap (λ (n : ℕ). a ++ (p ∷ []) ++ b ++ c ++ drop n out) l₃

-- the places that a key names
module _ {nodes triples masks : List ℕ} (l : CoreFits nodes triples masks) (i : ℕ) (h : i < length triples) where
  pub subject_place : subject_of (get_or triples i 0) < length nodes
  subject_place = l.subject (get_or triples i 0) (∈_at triples i h)

  pub object_place : object_of (get_or triples i 0) < length nodes
  object_place = l.object (get_or triples i 0) (∈_at triples i h)

pub clash_place : {P : Pack} {nodes triples : List ℕ} {i : ℕ} → ClashAt P nodes triples i → suc i < length triples
clash_place {triples = triples} {i} x = inside triples (suc i) _ x.second_key

key_parts : (s p o : ℕ) → p < max_predicates → o < place_room → (subject_of (triple_key s p o) ≡ s) × (predicate_of (triple_key s p o) ≡ p) × (object_of (triple_key s p o) ≡ o)
unfolding triple_key
key_parts s p o h l = (omega arith, omega arith, omega arith)

module _ {P : Pack} {table : List (List ℕ)} {nodes triples masks : List ℕ} (I : Input P table nodes triples masks) (arities : List ℕ) (ar : Arities P arities) where
  node_record : (n : Node) (i j : ℕ) → j ≡ i → CoreNode P n → get_elem? nodes i ≡ some (key_of n) → NodeRecord P (core n) (core_numbers arities (get_or nodes j 0) (get_or masks j 0))
  node_record n i j q c e =
      subst (λ x. NodeRecord P (core n) (core_numbers arities (get_or nodes x 0) (get_or masks x 0))) (sym q)
      (subst (λ k. NodeRecord P (core n) (core_numbers arities k (get_or masks i 0))) (sym (entry_is nodes i (key_of n) 0 e))
      (core_record P I.bounded arities ar (get_or masks i 0) n (proper P (well I) c) (masked I n i c e)))

  pub clash_written : {i : ℕ} (out out₁ out₂ out₃ : List ℕ) → length out ≡ clash_width → let f = get_or triples i 0 in let g = get_or triples (i + 1) 0 in
      out₁ ≡ overwritten 0 (core_numbers arities (get_or nodes (subject_of f) 0) (get_or masks (subject_of f) 0)) out
      → out₂ ≡ overwritten first_at (core_numbers arities (get_or nodes (object_of f) 0) (get_or masks (object_of f) 0)) (set out₁ node_width (predicate_of f))
      → out₃ ≡ overwritten second_at (core_numbers arities (get_or nodes (object_of g) 0) (get_or masks (object_of g) 0)) out₂
      → ClashAt P nodes triples i → ClashWritten P out₃
  clash_written {i} out out₁ out₂ out₃ room e₁ e₂ e₃ x = record {
    subject = sn;
    predicate = predicate_of f;
    first = fn;
    second = gn;
    given = record {
      clash = x.clash;
      is_first = x.is_first;
      subject_is = node_record x.clash.subject x.subject (subject_of f) (ap (λ (k : ℕ). subject_of k) ef ∙ pf.0) (as_subject x.clash.edge₁) x.subject_is_at;
      predicate_is = ap (λ (k : ℕ). predicate_of k) ef ∙ pf.1;
      first_is = node_record x.clash.first x.first (object_of f) (ap (λ (k : ℕ). object_of k) ef ∙ pf.2) (as_object x.clash.edge₁) x.first_is_at;
      second_is = node_record x.clash.second x.second (object_of g) (ap (λ (k : ℕ). object_of k) eg ∙ pg.2) (as_object x.clash.edge₂) x.second_at;
    };
    written = e₃ ∙ ap (overwritten second_at gn) (e₂ ∙ ap (λ y. overwritten first_at fn (set y node_width (predicate_of f))) e₁)
        ∙ four_parts (predicate_of f) sn fn gn out (numbers_long arities _ _) (numbers_long arities _ _) (numbers_long arities _ _) (omega arith)
        ∙ rw (drop_of_length-le out (let l : length out ≤ clash_width = omega arith in l)) (append-nil (sn ++ (predicate_of f ∷ []) ++ fn ++ gn));
  }
    where
      f : ℕ
      f = get_or triples i 0

      g : ℕ
      g = get_or triples (i + 1) 0

      sn : List ℕ
      sn = core_numbers arities (get_or nodes (subject_of f) 0) (get_or masks (subject_of f) 0)

      fn : List ℕ
      fn = core_numbers arities (get_or nodes (object_of f) 0) (get_or masks (object_of f) 0)

      gn : List ℕ
      gn = core_numbers arities (get_or nodes (object_of g) 0) (get_or masks (object_of g) 0)

      ef : f ≡ triple_key x.subject x.clash.predicate x.first
      ef = entry_is triples i _ 0 x.first_key

      eg : g ≡ triple_key x.subject x.clash.predicate x.second
      eg = let e : i + 1 ≡ suc i = omega arith in ap (λ (n : ℕ). get_or triples n 0) e ∙ entry_is triples (suc i) _ 0 x.second_key

      pf : (subject_of (triple_key x.subject x.clash.predicate x.first) ≡ x.subject) × (predicate_of (triple_key x.subject x.clash.predicate x.first) ≡ x.clash.predicate)
          × (object_of (triple_key x.subject x.clash.predicate x.first) ≡ x.first)
      pf = key_parts x.subject x.clash.predicate x.first (predicate_small I x.clash.edge₁) (place_small I x.clash.first x.first x.first_is_at)

      pg : (subject_of (triple_key x.subject x.clash.predicate x.second) ≡ x.subject) × (predicate_of (triple_key x.subject x.clash.predicate x.second) ≡ x.clash.predicate)
          × (object_of (triple_key x.subject x.clash.predicate x.second) ≡ x.second)
      pg = key_parts x.subject x.clash.predicate x.second (predicate_small I x.clash.edge₁) (place_small I x.clash.second x.second x.second_at)
