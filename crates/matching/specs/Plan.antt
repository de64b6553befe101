-- A rule as the search holds it: for each atom the keys of its candidate rows; bindings of variables; and what is found
-- from them. Assumes nothing.
use Rattle.std.specs.Prelude.{Option, Some, None, Result, Ok, Err, eqb, length, get_or, set, take, drop, Bool, true, false, cond}
use Rattle.std.specs.Prelude.{List, [], ◌∷◌, ◌++◌, map, ◌≢◌, ◌⊎◌, ◌↔◌, ◌≡◌, ℕ, zero, suc, ◌+◌, ◌*◌, ◌%◌, ◌^◌, ◌≤◌, ◌<◌}
use Rattle.meaning.specs.Core.{Assignment}
use Rattle.meaning.specs.Limits.{atoms_length, atom_width, candidates_length, key_width, max_atoms, max_columns, max_rows, max_values, max_variables, row_width, unused}
use Rattle.meaning.specs.Member.{◌∈◌}
use Rattle.meaning.specs.Ordered.{InOrder, ListOf, Over as OverSet}
use Rattle.meaning.specs.Tables.{packed}
use Rattle.std.specs.declared.ops.Range.{Range}
use Rattle.sets.specs.OrderedSet.{OrderedSet, Same, members_of}
use Rattle.sets.specs.declared.ordered.Full.{Full}

-- value numbers as one number, the first of the lowest weight
unfoldable pub stacked : List ℕ → ℕ
stacked [] = 0
stacked (x ∷ xs) = stacked xs * max_values + x

-- the variables of atom j
abbrev pub variables_at : List ℕ → ℕ → List ℕ
variables_at atoms j = take (get_or atoms (j * atom_width + 1) 0) (drop (j * atom_width + 2) atoms)

-- variables, as many as a key has room for
pub record KeyVariables (vars : List ℕ) : Type 0 where
  pub short : length vars ≤ key_width
  pub below : (v : ℕ) → v ∈ vars → v < max_variables

abbrev pub AreVariables : List ℕ → Type 0
AreVariables vars = (v : ℕ) → v ∈ vars → v < max_variables

-- ---- bindings of the variables; unused where there is none

abbrev pub Bound : List ℕ → ℕ → Type 0
Bound env v = get_or env v 0 ≢ unused

pub record Bindings (env : List ℕ) : Type 0 where
  pub long : length env ≡ max_variables
  pub small : (v : ℕ) → Bound env v → get_or env v 0 < max_values

-- the assignment gives each bound variable its value
pub record Extends (env : List ℕ) (σ : Assignment) : Type 0 where
  pub at : (v : ℕ) → Bound env v → σ v ≡ get_or env v 0

abbrev pub AllBound : List ℕ → List ℕ → Type 0
AllBound vars env = (v : ℕ) → v ∈ vars → Bound env v

abbrev pub binding_of : List ℕ → Assignment
binding_of env v = get_or env v 0

-- ---- the variables that occur once, over the orders of the atoms and the head, do not matter: they are bound to 1 from the start

unfoldable pub mark_of : ℕ → ℕ
mark_of x = cond (eqb x 0) 1 unused

abbrev pub marked : List ℕ → ℕ → List ℕ
marked seen v = set seen v (mark_of (get_or seen v 0))

-- the variables of n atoms from j on
unfoldable pub variables_from : List ℕ → ℕ → ℕ → List ℕ
variables_from atoms j zero = []
variables_from atoms j (suc n) = variables_at atoms j ++ variables_from atoms (suc j) n

-- what start binds has its value there, other variables that of the assignment
abbrev pub masked : List ℕ → Assignment → Assignment
masked start σ v = cond (eqb (get_or start v 0) unused) (σ v) (get_or start v 0)

-- ---- the order of an atom's variables: each once, those that earlier atoms have (and have marked) last

unfoldable pub rank_by : ℕ → ℕ → ℕ
rank_by mark v = cond (eqb mark 0) v (v + max_variables)

-- the rank of one of the variables
pub record Ranked (own seen : List ℕ) (k : ℕ) : Type 0 where
  pub variable : ℕ
  pub member : variable ∈ own
  pub is : k ≡ rank_by (get_or seen variable 0) variable

-- the variables of these ranks are written for atom j, and those of earlier atoms stay
pub record OrderWritten (orders : List ℕ) (j : ℕ) (ranks orders' : List ℕ) : Type 0 where
  pub count : get_or orders' (j * atom_width + 1) 0 ≡ length ranks
  pub variables : (i : ℕ) → i < length ranks → get_or orders' (j * atom_width + 2 + i) 0 ≡ get_or ranks i 0 % max_variables
  pub earlier : (i : ℕ) → i < j * atom_width → get_or orders' i 0 ≡ get_or orders i 0

-- each atom has the same variables in both
pub record SameVariables (atoms orders : List ℕ) (count : ℕ) : Type 0 where
  pub same : (j : ℕ) → j < count → (v : ℕ) → (v ∈ variables_at orders j) ↔ (v ∈ variables_at atoms j)

abbrev pub Among : List ℕ → List ℕ → Type 0
Among xs ys = (x : ℕ) → x ∈ xs → x ∈ ys

-- ---- the candidates of an atom: the keys of its relation's rows, in that order, with what start binds in place

-- the cells from a place on are those of the atom under the assignment
abbrev pub CellsAre : List ℕ → ℕ → List ℕ → Assignment → Type 0
CellsAre rows place own σ = (c : ℕ) → c < length own → get_or rows (place + c) 0 ≡ σ (get_or own c 0)

-- the first column that has the variable; the count of the columns where none has
unfoldable pub column_of : List ℕ → ℕ → ℕ
column_of [] v = 0
column_of (w ∷ own) v = cond (eqb w v) 0 (suc (column_of own v))

-- the first column of each of the variables
pub record FirstColumns (own vars cols : List ℕ) : Type 0 where
  pub are : (i : ℕ) → i < length vars → get_or cols i 0 ≡ column_of own (get_or vars i 0)

-- the first n columns have values' numbers, from a place on
pub record ColumnsBytes (rows : List ℕ) (place : ℕ) (cols : List ℕ) (n : ℕ) : Type 0 where
  pub within : (i : ℕ) → i < n → place + get_or cols i 0 < length rows
  pub small : (i : ℕ) → i < n → get_or rows (place + get_or cols i 0) 0 < max_values

-- the variables' columns, from a place on, have their values under the assignment
abbrev pub ColumnsAre : List ℕ → ℕ → List ℕ → List ℕ → Assignment → Type 0
ColumnsAre rows place vars cols σ = (i : ℕ) → i < length vars → get_or rows (place + get_or cols i 0) 0 ≡ σ (get_or vars i 0)

-- the key of the values that the columns have, whatever assignment they are of
abbrev pub KeyFrom : ℕ → List ℕ → ℕ → List ℕ → List ℕ → List ℕ → Type 0
KeyFrom key rows place order cols start = (σ : Assignment) → ColumnsAre rows place order cols σ → key ≡ stacked (map (masked start σ) order)

-- a row of the relation that is the atom's under an assignment, by the key of its values
pub record Candidate (rows : List ℕ) (relation : ℕ) (own order start : List ℕ) (key : ℕ) : Type 0 where
  pub index : ℕ
  pub within : suc index * row_width ≤ length rows
  pub relation_is : get_or rows (index * row_width) 0 ≡ relation
  pub values : Assignment
  pub cells : CellsAre rows (index * row_width + 1) own values
  pub is : key ≡ stacked (map (masked start values) order)

-- each row of the relation has a value's number in each of the atom's columns
pub record RowsBytes (rows : List ℕ) (relation arity : ℕ) : Type 0 where
  pub small : (r : ℕ) → suc r * row_width ≤ length rows → get_or rows (r * row_width) 0 ≡ relation → (c : ℕ) → c < arity → get_or rows (r * row_width + 1 + c) 0 < max_values

-- the keys of atom j's candidates
abbrev pub candidates_at : List ℕ → List ℕ → ℕ → List ℕ
candidates_at cands counts j = take (get_or counts j 0) (drop (j * max_rows) cands)

-- the atoms' variables are in bounds
pub record AtomsBelow (atoms : List ℕ) (count : ℕ) : Type 0 where
  pub few : count ≤ max_atoms
  pub long : atoms_length ≤ length atoms
  pub arity : (j : ℕ) → j < count → get_or atoms (j * atom_width + 1) 0 ≤ max_columns
  pub variables : (j : ℕ) → j < count → KeyVariables (variables_at atoms j)

abbrev pub AtomsBytes : List ℕ → List ℕ → ℕ → Type 0
AtomsBytes rows atoms count = (j : ℕ) → j < count → RowsBytes rows (get_or atoms (j * atom_width) 0) (length (variables_at atoms j))

-- each atom's candidates are listed
pub record Prepared (rows atoms orders start : List ℕ) (count : ℕ) (cands counts : List ℕ) : Type 0 where
  pub counted : (j : ℕ) → j < count → get_or counts j 0 ≤ max_rows
  pub list : (j : ℕ) → j < count → ListOf ◌<◌ (Candidate rows (get_or atoms (j * atom_width) 0) (variables_at atoms j) (variables_at orders j) start) (candidates_at cands counts j)

-- an atom of these has no candidate; else nothing is said
abbrev pub Unmatched : Bool → List ℕ → ℕ → Type 0
Unmatched true counts count = (j : ℕ) × (j < count) × (get_or counts j 0 ≡ 0)
Unmatched false counts count = Unit {0}

-- ---- what is found

module _ (atoms : List ℕ) (atomCount : ℕ) (vars cands counts : List ℕ) where
  -- what the search supposes
  pub record Plan : Type 0 where
    pub few : atomCount ≤ max_atoms
    pub long : atoms_length ≤ length atoms
    pub arity : (j : ℕ) → j < atomCount → get_or atoms (j * atom_width + 1) 0 ≤ max_columns
    pub variables : (j : ℕ) → j < atomCount → KeyVariables (variables_at atoms j)
    pub room : candidates_length ≤ length cands
    pub counted : (j : ℕ) → j < atomCount → get_or counts j 0 ≤ max_rows
    pub small : (j : ℕ) → j < atomCount → (key : ℕ) → key ∈ candidates_at cands counts j → key < max_values ^ length (variables_at atoms j)
    pub ascending : (j : ℕ) → j < atomCount → InOrder ◌<◌ (candidates_at cands counts j)
    pub heads : KeyVariables vars

  -- the key of a head, by an assignment that extends the bindings and makes each atom from `at` on a candidate
  pub record Solution (at : ℕ) (env : List ℕ) (k : ℕ) : Type 0 where
    pub values : Assignment
    pub small : (v : ℕ) → values v < max_values
    pub extends : Extends env values
    pub fits : (j : ℕ) → at ≤ j → j < atomCount → stacked (map values (variables_at atoms j)) ∈ candidates_at cands counts j
    pub is : k ≡ packed (map values vars)

  -- each head variable is bound, or is in an atom from `at` on
  pub record Reaches (at : ℕ) (env : List ℕ) : Type 0 where
    pub bound : (v : ℕ) → v ∈ vars → Bound env v ⊎ ((j : ℕ) × (at ≤ j) × (j < atomCount) × (v ∈ variables_at atoms j))

-- ---- what is answered once the keys in Q are added to a set, the first n keys of a slice

-- the set with them is in the first m of the keys that are left
pub record GrownTo (m : ℕ) (keys : List ℕ) (n : ℕ) (Q : ℕ → Type 0) (keys' : List ℕ) : Type 0 where
  pub room : m ≤ length keys
  pub list : ListOf ◌<◌ (λ k. (k ∈ take n keys) ⊎ Q k) (take m keys')

-- it has more keys than there is room for
pub record GrownOver (keys : List ℕ) (n : ℕ) (Q : ℕ → Type 0) : Type 0 where
  pub over : OverSet (length keys) (λ k. (k ∈ take n keys) ⊎ Q k)

abbrev pub KeysGrown : {A : Type 0} → Result A Full → (ℕ → Type 0) → OrderedSet → OrderedSet → Type 0
KeysGrown (Ok _) Q a b = GrownTo b.count a.keys a.count Q b.keys × Same a b
KeysGrown (Err _) Q a b = GrownOver a.keys a.count Q

-- one key is added, for which there is room
abbrev pub Stored : ℕ → OrderedSet → OrderedSet → Type 0
Stored key a b = (b.count ≤ a.count + 1) × ListOf ◌<◌ (λ k. (k ≡ key) ⊎ (k ∈ members_of a)) (members_of b) × Same a b

-- ---- a head's key under bindings

-- all head variables are bound, and the key is that of their values; or one is not
abbrev pub BoundKey : Option ℕ → List ℕ → List ℕ → Type 0
BoundKey (Some k) vars env = AllBound vars env × (k ≡ packed (map (binding_of env) vars))
BoundKey None vars env = (v : ℕ) × (v ∈ vars) × (get_or env v 0 ≡ unused)

-- the key is known, and in the set; else nothing is said
abbrev pub Settled : Bool → List ℕ → List ℕ → List ℕ → Type 0
Settled true vars env set = AllBound vars env × (packed (map (binding_of env) vars) ∈ set)
Settled false vars env set = Unit {0}

-- ---- an atom's variables bound to the row that has a key

-- what extends these bindings extends env, and has the row's values
pub record RowBindings (vs : List ℕ) (key : ℕ) (env env' : List ℕ) : Type 0 where
  pub bindings : Bindings env'
  pub forth : (σ : Assignment) → ((v : ℕ) → σ v < max_values) → Extends env σ → key ≡ stacked (map σ vs) → Extends env' σ
  pub back : (σ : Assignment) → Extends env' σ → Extends env σ × (key ≡ stacked (map σ vs))
  pub kept : (v : ℕ) → Bound env v → Bound env' v
  pub new : AllBound vs env'

-- the variables are bound; or nothing that extends env has the row's values
abbrev pub RowBound : Bool → List ℕ → ℕ → List ℕ → List ℕ → Type 0
RowBound true vs key env env' = RowBindings vs key env env'
RowBound false vs key env env' = (σ : Assignment) → ((v : ℕ) → σ v < max_values) → Extends env σ → key ≡ stacked (map σ vs) → ⊥

-- ---- the candidates that bindings leave

pub record SpanOf (s : Range ℕ) (vs env keys : List ℕ) : Type 0 where
  pub within : s.end ≤ length keys
  pub holds : (σ : Assignment) → ((v : ℕ) → σ v < max_values) → Extends env σ → (i : ℕ) → i < length keys → get_or keys i 0 ≡ stacked (map σ vs) → (s.start ≤ i) × (i < s.end)
