-- An IRI comes from one constructor and one list of values, where refusals 5 and 6 are not true: for any way to write a
-- value that is injective and never writes "/", and so for document 01's. Assumes nothing.
use lib.ListN.{length, get_or, get_elem?, length-map}
use mathlib.Core.Bool.{false, ◌||◌}
use mathlib.Core.List.Memᴰ
use mathlib.Core.List.{List, [], ◌∷◌, ◌++◌, map, head-eq_of_cons-eq, tail-eq_of_cons-eq, nil≢cons, cons≢nil, append_cancel_left}
use mathlib.Core.Option.{some, some-injective}
use mathlib.Core.Path.{◌≡◌, refl, sym, ap, ◌∙◌, subst}
use native.Mathlib.Omega.{arith}
use Prim.Native.Nat.{ℕ, zero, suc, ◌<◌}
use Rattle.meaning.specs.Member.{◌∈◌, here, there}
use Rattle.meaning.specs.Pack.{Pack, Text, Constructor}
use Rattle.meaning.specs.Tests.{any_two, same_text, begins}
use Rattle.meaning.specs.WellFormed.{duplicates, prefix_clash, prefixes, same_cell}
use Rattle.spelling.proofs.Segments.{segment_inj, segment_slashless}
use Rattle.spelling.proofs.Slashes.{Slashless, AllSlashless, joined_inj}
use Rattle.spelling.specs.Iri.{joined, text_of, prefix_of, IsTerm, iri_by, iri_of}
use Rattle.spelling.specs.Segment.{segment}
use Rattle.meaning.proofs.Lists.Places.{inside}
use Rattle.meaning.proofs.Cases.{or_neither}
use Rattle.meaning.proofs.Lists.Pairs.{no_two_place}
use Rattle.meaning.proofs.Lists.Texts.{begins_both, eq_same}

-- What a way to write a value has to keep.
pub record Writes (write : Text → Text) : Type 0 where
  pub injective : (v w : Text) → write v ≡ write w → v ≡ w
  pub slashless : (v : Text) → Slashless (write v)

pub segment_writes : Writes segment
segment_writes = record { injective = segment_inj; slashless = segment_slashless }

-- ---- what refusals 5 and 6 leave

pub values_differ : (P : Pack) → duplicates P ≡ false → (v w : ℕ) → v < length P.setting.values → w < length P.setting.values
    → text_of P v ≡ text_of P w → v ≡ w
unfolding duplicates
values_differ P h v w lv lw e =
    let S = P.setting in
    let a = any_two same_text S.values in
    let b = any_two same_text S.types in
    let c = any_two same_text S.predicates in
    let d = (or_neither a b (or_neither (a || b) c (or_neither (a || b || c) (any_two same_cell S.shapes) h).0).0).0 in
    no_two_place same_text [] S.values v w d lv lw (eq_same e) (eq_same (sym e))

prefix_at : (ks : List Constructor) (c : ℕ) {k : Constructor} → get_elem? ks c ≡ some k
    → (c < length (map (λ (l : Constructor). l.prefix) ks)) × (get_or (map (λ (l : Constructor). l.prefix) ks) c [] ≡ k.prefix)
prefix_at ks c h = (rw length-map (inside ks c _ h), go ks c h)
  where
    go : (ls : List Constructor) (d : ℕ) {l : Constructor} → get_elem? ls d ≡ some l → get_or (map (λ (m : Constructor). m.prefix) ls) d [] ≡ l.prefix
    go [] d {l} e = let z : ◌≡◌ {A = ℕ} 0 1 = cc in absurd (omega arith)
    go (m ∷ ls) zero {l} e = ap (λ (n : Constructor). n.prefix) (some-injective m l e)
    go (m ∷ ls) (suc d) e = go ls d e

-- the prefix of a constructor of the pack
pub prefix_of_lem : (P : Pack) (c : ℕ) {k : Constructor} → get_elem? P.setting.constructors c ≡ some k → prefix_of P c ≡ k.prefix
prefix_of_lem P c h = (prefix_at P.setting.constructors c h).1

-- of two constructors whose prefixes begin one text, both are one
pub one_constructor : (P : Pack) → prefix_clash P ≡ false → (c d : ℕ) {k l : Constructor}
    → get_elem? P.setting.constructors c ≡ some k → get_elem? P.setting.constructors d ≡ some l
    → (s t : Text) → prefix_of P c ++ s ≡ prefix_of P d ++ t → c ≡ d
unfolding prefix_clash
one_constructor P free c d hc hd s t e =
    no_two_place (λ a b. begins a b || begins b a) [] (prefixes P) c d free
    (prefix_at P.setting.constructors c hc).0 (prefix_at P.setting.constructors d hd).0
    (begins_both (prefix_of P c) (prefix_of P d) s t e) (begins_both (prefix_of P d) (prefix_of P c) t s (sym e))

-- ---- the theorem

pub all_slashless : {write : Text → Text} → Writes write → (f : ℕ → Text) (vs : List ℕ) → AllSlashless (map (λ v. write (f v)) vs)
all_slashless {write} W f vs t m = let r = Memᴰ.of_map (λ v. write (f v)) vs m in subst Slashless r.2 (W.slashless (f r.0))

module _ {write : Text → Text} (W : Writes write) (P : Pack) (distinct : duplicates P ≡ false) where
  abbrev written : ℕ → Text
  written v = write (text_of P v)

  abbrev InPack : List ℕ → Type 0
  InPack vs = (v : ℕ) → v ∈ vs → v < length P.setting.values

  written_inj : (vs ws : List ℕ) → InPack vs → InPack ws → map written vs ≡ map written ws → vs ≡ ws
  written_inj [] [] hv hw h = refl
  written_inj [] (w ∷ ws) hv hw h = absurd (nil≢cons h)
  written_inj (v ∷ vs) [] hv hw h = absurd (cons≢nil h)
  written_inj (v ∷ vs) (w ∷ ws) hv hw h =
      let t = W.injective (text_of P v) (text_of P w) (head-eq_of_cons-eq h) in
      let e = values_differ P distinct v w (hv v (here refl)) (hw w (here refl)) t in
      let r = written_inj vs ws (λ x m. hv x (there m)) (λ x m. hw x (there m)) (tail-eq_of_cons-eq h) in
      λ i. e i ∷ r i

  pub iri_by_inj : prefix_clash P ≡ false → {c d : ℕ} {vs ws : List ℕ} → IsTerm P c vs → IsTerm P d ws
      → iri_by write P c vs ≡ iri_by write P d ws → (c ≡ d) × (vs ≡ ws)
  unfolding iri_by
  iri_by_inj free {c} {d} {vs} {ws} a b h =
      let x = joined (map written vs) in
      let y = joined (map written ws) in
      let e : c ≡ d = one_constructor P free c d a.listed b.listed x y h in
      let k = a.constructor in
      let l = b.constructor in
      let f : k ≡ l = some-injective k l (sym a.listed ∙ ap (get_elem? P.setting.constructors) e ∙ b.listed) in
      let n : length vs ≡ length ws = a.count ∙ ap (λ (m : Constructor). m.arity) f ∙ sym b.count in
      let same : prefix_of P c ++ x ≡ prefix_of P c ++ y = h ∙ ap (λ (m : ℕ). prefix_of P m ++ y) (sym e) in
      let texts =
      joined_inj (map written vs) (map written ws) (all_slashless W (text_of P) vs) (all_slashless W (text_of P) ws)
      (length-map vs written ∙ n ∙ sym (length-map ws written)) (append_cancel_left (prefix_of P c) x y same) in
      (e, written_inj vs ws a.values b.values texts)

-- document 01's spelling
pub iri_of_inj : (P : Pack) → duplicates P ≡ false → prefix_clash P ≡ false → {c d : ℕ} {vs ws : List ℕ} → IsTerm P c vs → IsTerm P d ws
    → iri_of P c vs ≡ iri_of P d ws → (c ≡ d) × (vs ≡ ws)
iri_of_inj P distinct free a b h = iri_by_inj segment_writes P distinct free a b h
