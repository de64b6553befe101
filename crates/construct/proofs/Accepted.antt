-- What is known of a pack that none of 3 to 8 refuses. Assumes nothing.
use Rattle.std.proofs.Common.{◌≡◌, ℕ, Bool, true, false, List, sym, refl, ap, ◌∙◌, ◌≤◌, arith}
use mathlib.Core.Option.{Option, none, some}
use Rattle.pack.proofs.Accepted.{WellFormed}
use Rattle.meaning.proofs.Theory.Theorem.{has_graph, none_obeys}
use Rattle.meaning.specs.NoGraph.{NoGraph}
use Rattle.meaning.proofs.RefusalNumbers.{number_of_refusal}
use Rattle.meaning.specs.Pack.{Pack}
use Rattle.meaning.specs.Refusals.{number_of as number, refusal_of}
use Rattle.meaning.specs.WellFormed.{duplicates, prefix_clash, dangling, broken}
use Rattle.pack.specs.Checked.{Checked, refused, accepted, first_true, on_pack, check_within, well_formed, first_refusal, number_of}
use Rattle.pack.specs.Contents.{bad_size}
use Rattle.pack.specs.Unpack.{unpack}
use Rattle.spelling.proofs.CoreTerms.{plain_distinct}
use Rattle.construct.specs.Outcome.{NoneObeys, SomeObeys}

-- Neither 3 to 7 nor 8 refuses it.
pub record Accepts (s : List ℕ) : Type 0 where
  pub pack : Pack
  pub all : first_refusal s ≡ accepted pack
  pub formed : well_formed s ≡ accepted pack

-- what the answer 0 says
pub accepts : (s : List ℕ) → 0 ≡ number_of (first_refusal s) → Accepts s
unfolding well_formed first_refusal check_within on_pack first_true
accepts s h = go (bad_size s) refl
  where
    tests : bad_size s ≡ false → (P : Pack) → unpack s ≡ some P → (a b c d : Bool) → duplicates P ≡ a → prefix_clash P ≡ b → dangling P ≡ c → broken P ≡ d → Accepts s
    tests z P e true b c d u v w x = absurd (let k : ◌≡◌ {A = ℕ} 0 5 = rw (z, check_within, e, u, first_true) at h in omega arith)
    tests z P e false true c d u v w x = absurd (let k : ◌≡◌ {A = ℕ} 0 6 = rw (z, check_within, e, u, first_true, v) at h in omega arith)
    tests z P e false false true d u v w x = absurd (let k : ◌≡◌ {A = ℕ} 0 7 = rw (z, check_within, e, u, first_true, v, w) at h in omega arith)
    tests z P e false false false true u v w x = absurd (let k : ◌≡◌ {A = ℕ} 0 8 = rw (z, check_within, e, u, first_true, v, w, x) at h in omega arith)
    tests z P e false false false false u v w x = record {
      pack = P;
      all = rw (z, check_within, e, u, first_true, v, w, x);
      formed = rw (z, check_within, e, u, first_true, v, w);
    }

    parsed : bad_size s ≡ false → (o : Option Pack) → unpack s ≡ o → Accepts s
    parsed z none e = absurd (let k : ◌≡◌ {A = ℕ} 0 4 = rw (z, check_within, e) at h in omega arith)
    parsed z (some P) e = tests z P e (duplicates P) (prefix_clash P) (dangling P) (broken P) refl refl refl refl

    go : (b : Bool) → bad_size s ≡ b → Accepts s
    go true e = absurd (let k : ◌≡◌ {A = ℕ} 0 3 = rw (e, check_within) at h in omega arith)
    go false e = parsed e (unpack s) refl

module _ {s : List ℕ} {P : Pack} (w : WellFormed s P) where
  -- Demand 3: some finite graph obeys exactly if neither 10 nor 11 is true.
  pub some_obeys : ¬ NoGraph P → SomeObeys P
  some_obeys n = (has_graph P w.named _ (plain_distinct P w.distinct w.prefix_free w.named)).1 n

  pub none_obey : NoGraph P → NoneObeys P
  none_obey = none_obeys P w.named _ (plain_distinct P w.distinct w.prefix_free w.named)

-- a pack that is accepted is well formed
pub accepted_formed : (s : List ℕ) (P : Pack) → first_refusal s ≡ accepted P → well_formed s ≡ accepted P
accepted_formed s P e =
    let a = accepts s (ap number_of (sym e)) in
    let z : ◌≡◌ {A = Checked} (accepted a.pack) (accepted P) = sym a.all ∙ e in
    a.formed ∙ z

-- ---- "A refusal gives its number"

-- the first refusal is one of 3 to 8
first_within : (s : List ℕ) (k : ℕ) → first_refusal s ≡ refused k → (3 ≤ k) × (k ≤ 8)
unfolding first_refusal check_within on_pack first_true
first_within s k h = go (bad_size s) refl
  where
    here : (m : ℕ) → 3 ≤ m → m ≤ 8 → ◌≡◌ {A = Checked} (refused m) (refused k) → (3 ≤ k) × (k ≤ 8)
    here m a b e = let z : m ≡ k = cc in (omega arith, omega arith)

    tests : bad_size s ≡ false → (P : Pack) → unpack s ≡ some P → (a b c d : Bool) → duplicates P ≡ a → prefix_clash P ≡ b → dangling P ≡ c → broken P ≡ d → (3 ≤ k) × (k ≤ 8)
    tests z P e true b c d u v w x = here 5 (omega arith) (omega arith) (rw (z, check_within, e, u, first_true) at h)
    tests z P e false true c d u v w x = here 6 (omega arith) (omega arith) (rw (z, check_within, e, u, first_true, v) at h)
    tests z P e false false true d u v w x = here 7 (omega arith) (omega arith) (rw (z, check_within, e, u, first_true, v, w) at h)
    tests z P e false false false true u v w x = here 8 (omega arith) (omega arith) (rw (z, check_within, e, u, first_true, v, w, x) at h)
    tests z P e false false false false u v w x =
        let q : ◌≡◌ {A = Checked} (accepted P) (refused k) = rw (z, check_within, e, u, first_true, v, w, x) at h in
        absurd (let y : ◌≡◌ {A = ℕ} 0 1 = cc in omega arith)

    parsed : bad_size s ≡ false → (o : Option Pack) → unpack s ≡ o → (3 ≤ k) × (k ≤ 8)
    parsed z none e = here 4 (omega arith) (omega arith) (rw (z, check_within, e) at h)
    parsed z (some P) e = tests z P e (duplicates P) (prefix_clash P) (dangling P) (broken P) refl refl refl refl

    go : (b : Bool) → bad_size s ≡ b → (3 ≤ k) × (k ≤ 8)
    go true e = here 3 (omega arith) (omega arith) (rw (e, check_within) at h)
    go false e = parsed e (unpack s) refl

-- so the refusal that is answered has that number
pub number_given : (s : List ℕ) (k : ℕ) → first_refusal s ≡ refused k → number (refusal_of k) ≡ k
number_given s k h =
    let (a, b) = first_within s k h in
    number_of_refusal k (omega arith) (omega arith) (λ e. omega arith)
