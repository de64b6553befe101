-- Refusals 5 to 8, which look at the decoded pack (document 01, "Refused, in checking order"), as tests that compute: each
-- says whether the refusal is true of the pack; the first true one is given. Assumes nothing.
use Rattle.std.specs.Prelude.{ltb, eqb, length, Bool, true, not, ◌&&◌, ◌||◌, List, [], ◌∷◌, map, ℕ, ◌/◌, ◌%◌, ◌^◌}
use Rattle.std.proofs.Math.ListN.{get_elem?}
use Rattle.meaning.specs.Pack.{Pack, Text, Row, Atom, Term, Head, has_type, links_to, links_to_value, Rule, Target, Literal, type, ShapeRecord, Dependency, Constructor}
use Rattle.meaning.specs.Tests.{every, any, any_two, there_and, elem, same_text, begins}

-- ---- 5: "Two values, two type names or two predicate names are equal, or two shapes share type and predicate."

abbrev pub same_cell : ShapeRecord → ShapeRecord → Bool
same_cell r s = eqb r.owner s.owner && eqb r.predicate s.predicate

unfoldable pub duplicates : Pack → Bool
duplicates P =
    any_two same_text P.setting.values || any_two same_text P.setting.types || any_two same_text P.setting.predicates
    || any_two same_cell P.setting.shapes

-- ---- 6: "A prefix begins another constructor's prefix, or equals it."

abbrev pub prefixes : Pack → List Text
prefixes P = map (λ (k : Constructor). k.prefix) P.setting.constructors

unfoldable pub prefix_clash : Pack → Bool
prefix_clash P = any_two (λ a b. begins a b || begins b a) (prefixes P)

-- ---- 7: "A number names no record or column, a count differs from the arity, or a head variable is in no atom."

-- the record is there, and its arity is the count
abbrev pub has_arity : List ℕ → ℕ → ℕ → Bool
has_arity arities r count = there_and (eqb count) (get_elem? arities r)

abbrev pub constructor_arities : Pack → List ℕ
constructor_arities P = map (λ (k : Constructor). k.arity) P.setting.constructors

-- every column that the two masks name is one of the relation's k
abbrev pub good_dependency : Pack → Dependency → Bool
good_dependency P d = there_and (λ k. ltb d.left (2 ^ k) && ltb d.right (2 ^ k)) (get_elem? P.setting.arities d.relation)

abbrev pub good_type : Pack → ℕ → Bool
good_type P t = ltb t (length P.setting.types)

abbrev pub good_predicate : Pack → ℕ → Bool
good_predicate P p = ltb p (length P.setting.predicates)

abbrev pub good_target : Pack → Target → Bool
good_target P Literal = true
good_target P (type t) = good_type P t

abbrev pub good_shape : Pack → ShapeRecord → Bool
good_shape P s = good_type P s.owner && good_predicate P s.predicate && good_target P s.shape.target

-- every variable is in some atom
abbrev pub in_atoms : List Atom → List ℕ → Bool
in_atoms atoms vs = every (λ v. any (λ (a : Atom). elem v a.variables) atoms) vs

abbrev pub good_term : Pack → List Atom → Term → Bool
good_term P atoms t = has_arity (constructor_arities P) t.constructor (length t.variables) && in_atoms atoms t.variables

abbrev pub good_head : Pack → List Atom → Head → Bool
good_head P atoms (has_type s t) = good_term P atoms s && good_type P t
good_head P atoms (links_to s p o) = good_term P atoms s && good_predicate P p && good_term P atoms o
good_head P atoms (links_to_value s p v) = good_term P atoms s && good_predicate P p && in_atoms atoms (v ∷ [])

abbrev pub good_atom : Pack → Atom → Bool
good_atom P a = has_arity P.setting.arities a.relation (length a.variables)

abbrev pub good_rule : Pack → Rule → Bool
good_rule P r = every (good_atom P) r.atoms && good_head P r.atoms r.head

abbrev pub good_row : Pack → Row → Bool
good_row P r =
    has_arity P.setting.arities r.relation (length r.cells) && every (λ v. ltb v (length P.setting.values)) r.cells

unfoldable pub dangling : Pack → Bool
dangling P =
    not (every (good_dependency P) P.setting.dependencies && every (good_shape P) P.setting.shapes
    && every (good_rule P) P.setting.rules && every (good_row P) P.rows)

-- ---- 8: "Rows break a dependency."

-- equal at every column that the mask names; column 0 is the bit of weight 1
unfoldable pub agree : ℕ → List ℕ → List ℕ → Bool
agree m [] ys = true
agree m (x ∷ xs) [] = true
agree m (x ∷ xs) (y ∷ ys) = (eqb (m % 2) 0 || eqb x y) && agree (m / 2) xs ys

-- "Rows equal on the left columns are equal on the right ones; no left columns means all rows."
abbrev pub breaks : Dependency → Row → Row → Bool
breaks d r s =
    eqb r.relation d.relation && eqb s.relation d.relation
    && agree d.left r.cells s.cells && not (agree d.right r.cells s.cells)

unfoldable pub broken : Pack → Bool
unfolding agree
broken P = any (λ d. any_two (breaks d) P.rows) P.setting.dependencies
