-- What is known of a pack that is well formed. Assumes nothing.
use mathlib.Core.Bool.{Bool, true, false}
use mathlib.Core.List.{List, [], ◌∷◌}
use mathlib.Core.Option.{Option, none, some}
use mathlib.Core.Path.{◌≡◌, refl, sym, subst}
use native.Mathlib.Omega.{arith}
use Prim.Native.Nat.{ℕ}
use Rattle.meaning.specs.Pack.{Pack}
use Rattle.meaning.specs.WellFormed.{duplicates, prefix_clash, dangling, broken}
use Rattle.pack.specs.Checked.{Checked, refused, accepted, first_true, on_pack, check_within, well_formed, first_refusal}
use Rattle.pack.specs.Contents.{bad_size}
use Rattle.pack.specs.Unpack.{unpack}

not_accepted : {Q : Type 0} {n : ℕ} {P : Pack} → ◌≡◌ {A = Checked} (refused n) (accepted P) → Q
not_accepted e = absurd (let z : ◌≡◌ {A = ℕ} 0 1 = cc in omega arith)

pub record WellFormed (s : List ℕ) (P : Pack) : Type 0 where
  pub size : bad_size s ≡ false
  pub read : unpack s ≡ some P
  pub distinct : duplicates P ≡ false
  pub prefix_free : prefix_clash P ≡ false
  pub named : dangling P ≡ false

all_untrue : (P Q : Pack) → first_true ((5, duplicates) ∷ (6, prefix_clash) ∷ (7, dangling) ∷ []) P ≡ accepted Q
    → (P ≡ Q) × (duplicates P ≡ false) × (prefix_clash P ≡ false) × (dangling P ≡ false)
unfolding first_true
all_untrue P Q h = go (duplicates P) (prefix_clash P) (dangling P) refl refl refl
  where
    go : (a b c : Bool) → duplicates P ≡ a → prefix_clash P ≡ b → dangling P ≡ c → (P ≡ Q) × (duplicates P ≡ false) × (prefix_clash P ≡ false) × (dangling P ≡ false)
    go true b c x y z = not_accepted (rw (x, first_true) at h)
    go false true c x y z = not_accepted (rw (x, first_true, y) at h)
    go false false true x y z = not_accepted (rw (x, first_true, y, z) at h)
    go false false false x y z = let k : ◌≡◌ {A = Checked} (accepted P) (accepted Q) = rw (x, first_true, y, z) at h in (cc, x, y, z)

pub well_formed_lem : (s : List ℕ) (P : Pack) → well_formed s ≡ accepted P → WellFormed s P
unfolding well_formed check_within on_pack
well_formed_lem s P h = go (bad_size s) refl
  where
    parsed : bad_size s ≡ false → (o : Option Pack) → unpack s ≡ o → on_pack ((5, duplicates) ∷ (6, prefix_clash) ∷ (7, dangling) ∷ []) o ≡ accepted P → WellFormed s P
    parsed b none e k = not_accepted k
    parsed b (some Q) e k =
        let r = all_untrue Q P k in
        subst (WellFormed s) r.0 (record { size = b; read = e; distinct = r.1; prefix_free = r.2; named = r.3 })

    go : (b : Bool) → bad_size s ≡ b → WellFormed s P
    go true e = not_accepted (rw (e, check_within) at h)
    go false e = parsed e (unpack s) refl (rw (e, check_within) at h)

-- ---- refusal 8 comes after them

module _ (s : List ℕ) where
  -- a refusal of 3 to 7 stays the first
  pub refused_first : (k : ℕ) → well_formed s ≡ refused k → first_refusal s ≡ refused k
  unfolding well_formed first_refusal check_within on_pack first_true
  refused_first k h = go (bad_size s) refl
    where
      tests : bad_size s ≡ false → (P : Pack) → unpack s ≡ some P → (a b c : Bool) → duplicates P ≡ a → prefix_clash P ≡ b → dangling P ≡ c → first_refusal s ≡ refused k
      tests z P e true b c u v w = rw (z, check_within, e, u, first_true) (rw (z, check_within, e, u, first_true) at h)
      tests z P e false true c u v w = rw (z, check_within, e, u, first_true, v) (rw (z, check_within, e, u, first_true, v) at h)
      tests z P e false false true u v w = rw (z, check_within, e, u, first_true, v, w) (rw (z, check_within, e, u, first_true, v, w) at h)
      tests z P e false false false u v w = not_accepted (sym (rw (z, check_within, e, u, first_true, v, w) at h))

      parsed : bad_size s ≡ false → (o : Option Pack) → unpack s ≡ o → first_refusal s ≡ refused k
      parsed z none e = rw (z, check_within, e) (rw (z, check_within, e) at h)
      parsed z (some P) e = tests z P e (duplicates P) (prefix_clash P) (dangling P) refl refl refl

      go : (b : Bool) → bad_size s ≡ b → first_refusal s ≡ refused k
      go true e = rw (e, check_within) (rw (e, check_within) at h)
      go false e = parsed e (unpack s) refl

  module _ (P : Pack) (w : WellFormed s P) where
    pub refused_8 : broken P ≡ true → first_refusal s ≡ refused 8
    unfolding first_refusal check_within on_pack first_true
    refused_8 e = rw (w.size, check_within, w.read, w.distinct, first_true, w.prefix_free, w.named, e)

    pub keeps_dependencies : broken P ≡ false → first_refusal s ≡ accepted P
    unfolding first_refusal check_within on_pack first_true
    keeps_dependencies e = rw (w.size, check_within, w.read, w.distinct, first_true, w.prefix_free, w.named, e)
