-- Read-back finds a constructor and values exactly where they spell the text. Assumes nothing.
use borrow.Author.Tests.{eqb-true, eq-eqb}
use lib.Dec.{eqb}
use lib.ListN.{length, get_or, get_elem?, drop, length-map}
use lib.Seq.{drop-append_seam}
use mathlib.Core.Bool.{true, false}
use mathlib.Core.List.Memᴰ
use mathlib.Core.List.{List, [], ◌∷◌, ◌++◌, map}
use mathlib.Core.Logic.{◌↔◌}
use mathlib.Core.Option.{none, some, some-injective, none-ne-some}
use mathlib.Core.Path.{◌≡◌, refl, sym, ap, ◌∙◌, subst}
use native.Mathlib.Nat.{add-zero, zero-add, le_of_suc-le-suc, not-suc-le-zero}
use native.Mathlib.Omega.{arith}
use Prim.Native.Nat.{ℕ, zero, suc, ◌+◌, ◌<◌}
use Rattle.meaning.proofs.Lists.Members.{element}
use Rattle.meaning.proofs.Lists.Texts.{begins_append, begins_rest, eq_same, same_eq}
use Rattle.meaning.specs.Member.{◌∈◌, here, there}
use Rattle.meaning.specs.Pack.{Pack, Text, Constructor}
use Rattle.meaning.specs.Tests.{same_text, begins}
use Rattle.meaning.specs.WellFormed.{duplicates, prefix_clash}
use Rattle.meaning.proofs.Cases.{case_on, case_some}
use Rattle.spelling.proofs.Injective.{Writes, all_slashless, iri_by_inj, prefix_of_lem, one_constructor}
use Rattle.spelling.proofs.Splitting.{joined_split, split_joined}
use Rattle.spelling.specs.Iri.{joined, text_of, iri_by}
use Rattle.spelling.specs.ReadBack.{ReadsBackBy, split, find_by, find_all_by, arguments_by, read_from_by, read_back_by}

-- ---- one part, and all of them

module _ (write : Text → Text) where
  -- value v is written so
  pub record IsAt (values : List Text) (part : Text) (v : ℕ) : Type 0 where
    pub below : v < length values
    pub is : write (get_or values v []) ≡ part

  find_next : (t : Text) (ts : List Text) (part : Text) (v : ℕ) → IsAt ts part v → IsAt (t ∷ ts) part (suc v)
  find_next t ts part v a = record { below = omega (arith, a.below); is = a.is }

  pub find_sound : (values : List Text) (part : Text) (v : ℕ) → find_by write values part ≡ some v → IsAt values part v
  unfolding find_by
  find_sound [] part v h = absurd (none-ne-some v h)
  find_sound (t ∷ ts) part v h =
      case_on (same_text (write t) part)
      (λ e. rw (← some-injective 0 v (rw e at h)) (record { below = omega arith; is = same_eq (write t) part e }))
      (λ e. case_some (find_by write ts part)
      (λ q. absurd (none-ne-some v (rw (e, q) at h)))
      (λ w q. rw (← some-injective (suc w) v (rw (e, q) at h)) (find_next t ts part w (find_sound ts part w q))))

  pub find_complete : (values : List Text) (part : Text) (v : ℕ) → IsAt values part v → (w : ℕ) × (find_by write values part ≡ some w)
  unfolding find_by
  find_complete [] part v a = absurd (not-suc-le-zero a.below)
  find_complete (t ∷ ts) part zero a = (0, rw (eq_same a.is))
  find_complete (t ∷ ts) part (suc v) a =
      case_on (same_text (write t) part) (λ e. (0, rw e))
      (λ e. let r = find_complete ts part v (record { below = le_of_suc-le-suc a.below; is = a.is }) in (suc r.0, rw (e, r.1)))

  abbrev pub written_in : List Text → ℕ → Text
  written_in values v = write (get_or values v [])

  -- the values vs are written so
  pub record AreAt (values parts : List Text) (vs : List ℕ) : Type 0 where
    pub below : (v : ℕ) → v ∈ vs → v < length values
    pub are : map (written_in values) vs ≡ parts

  are_more : (values : List Text) (p : Text) (ps : List Text) (v : ℕ) (vs : List ℕ) → IsAt values p v → AreAt values ps vs → AreAt values (p ∷ ps) (v ∷ vs)
  are_more values p ps v vs a b = record { below = below; are = λ i. a.is i ∷ b.are i }
    where
      below : (w : ℕ) → w ∈ (v ∷ vs) → w < length values
      below w (here e) = subst (λ (x : ℕ). x < length values) (sym e) a.below
      below w (there m) = b.below w m

  pub find_all_sound : (values parts : List Text) (vs : List ℕ) → find_all_by write values parts ≡ some vs → AreAt values parts vs
  unfolding find_all_by
  find_all_sound values [] vs h =
      rw (← some-injective [] vs h) (record { below = λ v m. absurd (Memᴰ.not-nil m); are = refl })
  find_all_sound values (p ∷ ps) vs h =
      case_some (find_by write values p) (λ q. absurd (none-ne-some vs (rw q at h)))
      (λ v q. case_some (find_all_by write values ps) (λ r. absurd (none-ne-some vs (rw (q, r) at h)))
      (λ ws r. rw (← some-injective (v ∷ ws) vs (rw (q, r) at h))
      (are_more values p ps v ws (find_sound values p v q) (find_all_sound values ps ws r))))

  find_all_complete : (values : List Text) (vs : List ℕ) → ((v : ℕ) → v ∈ vs → v < length values)
      → (ws : List ℕ) × (find_all_by write values (map (written_in values) vs) ≡ some ws)
  unfolding find_all_by
  find_all_complete values [] b = ([], refl)
  find_all_complete values (v ∷ vs) b =
      let r = find_complete values (written_in values v) v (record { below = b v (here refl); is = refl }) in
      let s = find_all_complete values vs (λ w m. b w (there m)) in
      (r.0 ∷ s.0, rw (r.1, s.1))

  -- ---- the arguments

  pub record Arguments (values : List Text) (arity : ℕ) (rest : Text) (vs : List ℕ) : Type 0 where
    pub below : (v : ℕ) → v ∈ vs → v < length values
    pub spelled : joined (map (written_in values) vs) ≡ rest
    pub count : length vs ≡ arity

  arguments_sound : (values : List Text) (arity : ℕ) (rest : Text) (vs : List ℕ) → arguments_by write values arity rest ≡ some vs → Arguments values arity rest vs
  unfolding arguments_by
  arguments_sound values arity rest vs h =
      case_some (find_all_by write values (split rest)) (λ q. absurd (none-ne-some vs (rw q at h)))
      (λ ws q. case_on (eqb (length ws) arity)
      (λ e. let f = find_all_sound values (split rest) ws q in
      rw (← some-injective ws vs (rw (q, e) at h))
      (record { below = f.below; spelled = ap joined f.are ∙ joined_split rest; count = eqb-true (length ws) arity e }))
      (λ e. absurd (none-ne-some vs (rw (q, e) at h))))

  module _ (W : Writes write) (values : List Text) where
    arguments_complete : {arity : ℕ} {rest : Text} {vs : List ℕ} → Arguments values arity rest vs → 0 < length vs
        → (ws : List ℕ) × (arguments_by write values arity rest ≡ some ws)
    unfolding arguments_by
    arguments_complete {arity} {rest} {vs} a n =
        let gs = map (written_in values) vs in
        let r = find_all_complete values vs a.below in
        let parts : split rest ≡ gs = ap split (sym a.spelled) ∙ parted vs n in
        let e = find_all_sound values gs r.0 r.1 in
        let c : length r.0 ≡ arity =
        sym (length-map r.0 (written_in values)) ∙ ap length e.are ∙ length-map vs (written_in values) ∙ a.count in
        (r.0, rw (parts, r.1, eq-eqb (length r.0) arity c))
      where
        parted : (us : List ℕ) → 0 < length us → split (joined (map (written_in values) us)) ≡ map (written_in values) us
        parted [] l = absurd (not-suc-le-zero l)
        parted (u ∷ us) l = split_joined (written_in values u) (map (written_in values) us) (all_slashless W (λ x. get_or values x []) (u ∷ us))

  -- ---- the constructors

  -- constructor i of the list was read
  record ReadAs (values : List Text) (ks : List Constructor) (text : Text) (i : ℕ) (vs : List ℕ) : Type 0 where
    k : Constructor
    listed : get_elem? ks i ≡ some k
    starts : begins k.prefix text ≡ true
    found : arguments_by write values k.arity (drop (length k.prefix) text) ≡ some vs

  read_next : (values : List Text) (l : Constructor) (ks : List Constructor) (text : Text) (i : ℕ) (vs : List ℕ)
      → ReadAs values ks text i vs → ReadAs values (l ∷ ks) text (suc i) vs
  read_next values l ks text i vs r = record { k = r.k; listed = r.listed; starts = r.starts; found = r.found }

  read_from_sound : (values : List Text) (from : ℕ) (ks : List Constructor) (text : Text) (c : ℕ) (vs : List ℕ)
      → read_from_by write values from ks text ≡ some (c, vs) → (i : ℕ) × (c ≡ from + i) × ReadAs values ks text i vs
  unfolding read_from_by
  read_from_sound values from [] text c vs h = absurd (none-ne-some (c, vs) h)
  read_from_sound values from (k ∷ ks) text c vs h =
      case_on (begins k.prefix text)
      (λ e. case_some (arguments_by write values k.arity (drop (length k.prefix) text))
      (λ q. absurd (none-ne-some (c, vs) (rw (e, q) at h)))
      (λ ws q. let p = some-injective (from, ws) (c, vs) (rw (e, q) at h) in
      let f : from ≡ c = ap (λ (x : ℕ × List ℕ). x.0) p in
      (0, omega arith, record { k = k; listed = refl; starts = e; found = q ∙ ap (λ (x : ℕ × List ℕ). some x.1) p })))
      (λ e. let r = read_from_sound values (suc from) ks text c vs (rw e at h) in
      (suc r.0, omega (arith, r.1), read_next values k ks text r.0 vs r.2))

  -- the one constructor whose prefix begins the text decides
  read_from_complete : (values : List Text) (from : ℕ) (ks : List Constructor) (text : Text) (i : ℕ) (vs : List ℕ) → ReadAs values ks text i vs
      → ((j : ℕ) (l : Constructor) → get_elem? ks j ≡ some l → begins l.prefix text ≡ true → j ≡ i)
      → read_from_by write values from ks text ≡ some (from + i, vs)
  unfolding read_from_by
  read_from_complete values from [] text i vs r only = let z : ◌≡◌ {A = ℕ} 0 1 = cc r.listed in absurd (omega arith)
  read_from_complete values from (l ∷ ks) text zero vs r only =
      let e : l ≡ r.k = some-injective l r.k r.listed in
      rw (e, r.starts, r.found, add-zero)
  read_from_complete values from (l ∷ ks) text (suc i) vs r only =
      case_on (begins l.prefix text)
      (λ e. let z : ◌≡◌ {A = ℕ} 0 (suc i) = only 0 l refl e in absurd (omega arith))
      (λ e. let n : suc from + i ≡ from + suc i = omega arith in
      rw (e, ← n) (read_from_complete values (suc from) ks text i vs
      (record { k = r.k; listed = r.listed; starts = r.starts; found = r.found })
      (λ j m a b. let z = only (suc j) m a b in omega arith)))

-- ---- read-back

-- "arity 1 to 4": no constructor without arguments
abbrev pub SomeArguments : Pack → Type 0
SomeArguments P = (k : Constructor) → k ∈ P.setting.constructors → 0 < k.arity

module _ {write : Text → Text} (P : Pack) where
  -- what is read is spelled so
  pub read_back_sound : {text : Text} {c : ℕ} {vs : List ℕ} → read_back_by write P text ≡ some (c, vs) → ReadsBackBy write P text c vs
  unfolding read_back_by iri_by
  read_back_sound {text} {c} {vs} h =
      let r = read_from_sound write P.setting.values 0 P.setting.constructors text c vs h in
      let k = r.2.k in
      let e : c ≡ r.0 = omega (arith, r.1) in
      let l : get_elem? P.setting.constructors c ≡ some k = ap (get_elem? P.setting.constructors) e ∙ r.2.listed in
      let a = arguments_sound write P.setting.values k.arity (drop (length k.prefix) text) vs r.2.found in
      record {
        term = record { constructor = k; listed = l; count = a.count; values = a.below };
        spelled = rw (prefix_of_lem P c l, a.spelled) (begins_rest k.prefix text r.2.starts);
      }

  module _ (W : Writes write) (distinct : duplicates P ≡ false) (free : prefix_clash P ≡ false) where
    -- one constructor and one list of values
    pub reads_back_once : {text : Text} {c d : ℕ} {vs ws : List ℕ} → ReadsBackBy write P text c vs → ReadsBackBy write P text d ws → (c ≡ d) × (vs ≡ ws)
    reads_back_once a b = iri_by_inj W P distinct free a.term b.term (a.spelled ∙ sym b.spelled)

    -- what is spelled is read
    pub read_back_complete : SomeArguments P → {text : Text} {c : ℕ} {vs : List ℕ} → ReadsBackBy write P text c vs → read_back_by write P text ≡ some (c, vs)
    unfolding read_back_by iri_by
    read_back_complete args {text} {c} {vs} b =
        let ks = P.setting.constructors in
        let t = b.term in
        let k = t.constructor in
        let rest = joined (map (λ v. write (text_of P v)) vs) in
        let s : k.prefix ++ rest ≡ text = rw (← prefix_of_lem P c t.listed) b.spelled in
        let cut : drop (length k.prefix) text ≡ rest = rw (← s) (drop-append_seam k.prefix rest) in
        let starts : begins k.prefix text ≡ true = rw (← s) (begins_append k.prefix rest) in
        let some_values : 0 < length vs = omega (arith, args k (element ks c k t.listed), t.count) in
        let found = arguments_complete write W P.setting.values (record { below = t.values; spelled = sym cut; count = t.count }) some_values in
        let read = read_from_complete write P.setting.values 0 ks text c found.0
        (record { k = k; listed = t.listed; starts = starts; found = found.1 })
        (λ j l lj st. one_constructor P free j c lj t.listed (drop (length l.prefix) text) rest
        (rw (prefix_of_lem P j lj, prefix_of_lem P c t.listed) (begins_rest l.prefix text st ∙ sym s))) in
        let again : read_back_by write P text ≡ some (c, found.0) = rw (zero-add c) at read in
        let same = reads_back_once (read_back_sound again) b in
        again ∙ ap (λ (ws : List ℕ). some (c, ws)) same.1

    pub read_back_exact : SomeArguments P → (text : Text) (c : ℕ) (vs : List ℕ) → (read_back_by write P text ≡ some (c, vs)) ↔ ReadsBackBy write P text c vs
    read_back_exact args text c vs = (read_back_sound, read_back_complete args)

    -- where nothing is read, no constructor spells the text
    pub read_back_none : SomeArguments P → (text : Text)
        → (read_back_by write P text ≡ none) ↔ ((c : ℕ) (vs : List ℕ) → ReadsBackBy write P text c vs → ⊥)
    read_back_none args text = (
      (λ n c vs b. none-ne-some (c, vs) (sym n ∙ read_back_complete args b)),
      (λ never. case_some (read_back_by write P text) (λ e. e) (λ r e. absurd (never r.0 r.1 (read_back_sound e)))),
    )
