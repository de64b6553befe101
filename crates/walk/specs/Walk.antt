-- The walk over a graph: a state is a part, which is to be done, and a node; the part `done` says that nothing is left to
-- do. Assumes nothing.
use Rattle.std.specs.Prelude.{◌⊎◌, ◌≡◌, ℕ, ◌<◌}
use Rattle.meaning.specs.Query.{Expr, View, Joins}
use Rattle.walk.specs.Parts.{Part, leaf, test, repeat, chain, either}

module _ (G : View) (part : ℕ → Part) (leaves : ℕ → Expr) (next : ℕ → ℕ) (done : ℕ) where
  -- One step from (i, n) to (j, m), where the part i is p. A nested test is passed where `Test` says so of its body.
  abbrev pub StepBy : (ℕ → G.Node → Type 0) → Part → ℕ → G.Node → ℕ → G.Node → Type 0
  StepBy Test leaf i n j m = (j ≡ next i) × Joins G (leaves i) n m
  StepBy Test (test body) i n j m = (j ≡ next i) × (n ≡ m) × Test body n
  StepBy Test (repeat body) i n j m = (n ≡ m) × (((j ≡ next i) × G.IsNode n) ⊎ (j ≡ body))
  StepBy Test (chain left right) i n j m = (n ≡ m) × (j ≡ left)
  StepBy Test (either left right) i n j m = (n ≡ m) × ((j ≡ left) ⊎ (j ≡ right))

  abbrev pub Step : (ℕ → G.Node → Type 0) → ℕ → G.Node → ℕ → G.Node → Type 0
  Step Test i n j m = (i < done) × StepBy Test (part i) i n j m

  -- Forward: the states that are reached from (i, n).
  pub data Reached (Test : ℕ → G.Node → Type 0) (i : ℕ) (n : G.Node) : ℕ → G.Node → Type 0 where
    start : Reached Test i n i n
    onward : {j k : ℕ} {m o : G.Node} → Reached Test i n j m → Step Test j m k o → Reached Test i n k o

  -- Backward: the states that are alive, from which `done` is reached. A nested test asks it of its body: one least set
  -- for all parts at once.
  pub data Alive : ℕ → G.Node → Type 0 where
    ended : {n : G.Node} → Alive done n
    moves : {i : ℕ} {n m : G.Node} → i < done → part i ≡ leaf → Joins G (leaves i) n m → Alive (next i) m → Alive i n
    tested : {i body : ℕ} {n : G.Node} → i < done → part i ≡ test body → Alive body n → Alive (next i) n → Alive i n
    stops : {i body : ℕ} {n : G.Node} → i < done → part i ≡ repeat body → G.IsNode n → Alive (next i) n → Alive i n
    repeats : {i body : ℕ} {n : G.Node} → i < done → part i ≡ repeat body → Alive body n → Alive i n
    begins : {i left right : ℕ} {n : G.Node} → i < done → part i ≡ chain left right → Alive left n → Alive i n
    goes_left : {i left right : ℕ} {n : G.Node} → i < done → part i ≡ either left right → Alive left n → Alive i n
    goes_right : {i left right : ℕ} {n : G.Node} → i < done → part i ≡ either left right → Alive right n → Alive i n

  -- A set of states that holds every end, and with a state all those from which a step leads to it.
  pub record Saturated (B : ℕ → G.Node → Type 0) : Type 0 where
    pub ends : (n : G.Node) → B done n
    pub back : (i j : ℕ) (n m : G.Node) → Step B i n j m → B j m → B i n

-- "edges join its nodes"
abbrev pub EdgesJoinNodes : View → Type 0
EdgesJoinNodes G = (n m : G.Node) (p : ℕ) → G.Edge n p m → G.IsNode n × G.IsNode m
