-- The loop over a rule's atoms: those before the cursor are put, and 0 stands past them. Assumes nothing.
use lib.ListN.{drop, length, length-append, length-replicate, replicate, take}
use lib.Seq.{drop-append-add, take-append-add, take_at}
use mathlib.Core.List.{List, [], ◌∷◌, ◌++◌, flat_map, append_assoc, append-nil}
use mathlib.Core.Option.{Option, none, some, some-injective}
use mathlib.Core.Path.{◌≡◌, refl, sym, ap, ◌∙◌}
use native.Mathlib.Nat.{sub-zero}
use native.Mathlib.Omega.{arith}
use Prim.Native.Nat.{ℕ, suc, ◌+◌, ◌*◌, ◌-◌, ◌≤◌, ◌<◌, zero-le}
use Rattle.meaning.specs.Limits.{atoms_length, atom_width, max_atoms}
use Rattle.meaning.specs.Pack.{Atom}
use Rattle.meaning.specs.Tables.{atom_numbers}
use Rattle.pack.specs.Readers.{Read, give, next}
use Rattle.pack.specs.Records.{atom, atoms}
use Rattle.pack.specs.Shown.{left, Got, Not}
use Rattle.pack.specs.declared.cursor.Cursor.{Cursor}
use Rattle.records.specs.Kept.{Put}
use Rattle.records.proofs.Terms.{length_atom}
use Rattle.meaning.proofs.Lists.Blocks.{length_flat}
use Rattle.meaning.proofs.Lists.Padding.{drop_zeros, take_zeros}

-- ---- atoms one after another

-- the atom in front of the others
front_atom : {c e d : Cursor} {a : Atom} {bs : List Atom} (k : ℕ) → Got atom c a e → Got (atoms (suc k)) c bs d
    → (cs : List Atom) × (bs ≡ a ∷ cs) × Got (atoms k) e cs d
unfolding atoms
front_atom {c} {e} {d} {a} {bs} k g h = go (atoms k (left e)) refl (rw g.reads at h.reads)
  where
    go : (o : Option (Read (List Atom))) → atoms k (left e) ≡ o → next o (λ as'. give (a ∷ as')) ≡ some (record { got = bs; rest = left d })
        → (cs : List Atom) × (bs ≡ a ∷ cs) × Got (atoms k) e cs d
    go none q r = absurd (let z : ◌≡◌ {A = ℕ} 0 1 = cc in omega arith)
    go (some x) q r =
        let p = some-injective _ _ r in
        let f : x.rest ≡ left d = ap (λ (y : Read (List Atom)). y.rest) p in (
          x.got,
          sym (ap (λ (y : Read (List Atom)). y.got) p),
          record {
            reads = q ∙ rw (← f);
            bytes = h.bytes ∙ sym g.bytes;
            same = h.same ∙ sym g.same;
          },
        )

no_atom : {Q : Type 0} {c d : Cursor} {bs : List Atom} (k : ℕ) → Not atom c → Got (atoms (suc k)) c bs d → Q
unfolding atoms
no_atom k n h = let e = rw n.reads at h.reads in absurd (let z : ◌≡◌ {A = ℕ} 0 1 = cc in omega arith)

no_atoms : {c d : Cursor} {bs : List Atom} → Got (atoms 0) c bs d → bs ≡ []
unfolding atoms
no_atoms g = sym (ap (λ (y : Read (List Atom)). y.got) (some-injective _ _ g.reads))

-- ---- their numbers

flat_append : (xs ys : List Atom) → flat_map atom_numbers (xs ++ ys) ≡ flat_map atom_numbers xs ++ flat_map atom_numbers ys
unfolding flat_map
flat_append [] ys = refl
flat_append (x ∷ xs) ys =
    ap (λ (t : List ℕ). atom_numbers x ++ t) (flat_append xs ys) ∙ sym (append_assoc (atom_numbers x) (flat_map atom_numbers xs) (flat_map atom_numbers ys))

flat_snoc : (xs : List Atom) (a : Atom) → flat_map atom_numbers (xs ++ (a ∷ [])) ≡ flat_map atom_numbers xs ++ atom_numbers a
unfolding flat_map
flat_snoc xs a = flat_append xs (a ∷ []) ∙ ap (λ (t : List ℕ). flat_map atom_numbers xs ++ t) (append-nil (atom_numbers a))

-- those of i atoms, and 0 in the rest
abbrev pub zeros : ℕ → List ℕ
zeros i = replicate ((max_atoms - i) * atom_width) 0

one_less : (i : ℕ) → i < max_atoms → drop atom_width (zeros i) ≡ zeros (i + 1)
one_less i h =
    drop_zeros atom_width ((max_atoms - i) * atom_width) ((max_atoms - (i + 1)) * atom_width) (omega arith)

-- so they are the first of all numbers with zeros behind
all_zeros : (xs : List Atom) → length xs ≤ max_atoms → flat_map atom_numbers xs ++ zeros (length xs) ≡ take atoms_length (flat_map atom_numbers xs ++ replicate atoms_length 0)
all_zeros xs h =
    let f = flat_map atom_numbers xs in
    let m = (max_atoms - length xs) * atom_width in
    let e : atoms_length ≡ length f + m = omega (arith, length_flat atom_numbers atom_width length_atom xs) in
    let t : take {A = ℕ} m (replicate atoms_length 0) ≡ replicate m 0 = take_zeros m atoms_length (length xs * atom_width) (omega arith) in
    ap (λ (ys : List ℕ). f ++ ys) (sym t) ∙ sym (take-append-add f (replicate atoms_length 0) m) ∙ ap (λ (k : ℕ). take k (f ++ replicate atoms_length 0)) (sym e)

-- ---- the loop

-- the atoms of `done` are put, and with those from c on they are all n
pub record AtomsPut (c₀ : Cursor) (n i : ℕ) (c : Cursor) (out : List ℕ) : Type 0 where
  pub within : i ≤ n
  pub done : List Atom
  pub many : length done ≡ i
  pub held : out ≡ flat_map atom_numbers done ++ zeros i
  pub asked : (as' : List Atom) (d : Cursor) → Got (atoms n) c₀ as' d → (bs : List Atom) × Got (atoms (n - i)) c bs d × (done ++ bs ≡ as')

pub atoms_start : {c : Cursor} (n : ℕ) → AtomsPut c n 0 c (replicate atoms_length 0)
unfolding flat_map
atoms_start n = record {
  within = zero-le;
  done = [];
  many = refl;
  held = refl;
  asked = λ as' d g. (as', rw sub-zero g, refl);
}

module _ {c₀ c : Cursor} {n i : ℕ} {out : List ℕ} (p : AtomsPut c₀ n i c out) where
  ahead : {as' : List Atom} {d : Cursor} → i < n → Got (atoms n) c₀ as' d
      → (bs : List Atom) × Got (atoms (suc (n - (i + 1)))) c bs d × (p.done ++ bs ≡ as')
  ahead h g =
      let q = p.asked _ _ g in
      let e : n - i ≡ suc (n - (i + 1)) = omega arith in
      (q.0, rw e at q.1, q.2)

  front_long : length (flat_map atom_numbers p.done) ≡ i * atom_width
  front_long = length_flat atom_numbers atom_width length_atom p.done ∙ ap (λ (k : ℕ). k * atom_width) p.many

  pub atoms_long : n ≤ max_atoms → length out ≡ atoms_length
  atoms_long few =
      ap length p.held ∙ omega (arith, length-append (flat_map atom_numbers p.done) (zeros i), front_long, length-replicate {A = ℕ} ((max_atoms - i) * atom_width) 0, p.within)

  put_atom : (a : Atom) {out' : List ℕ} → i < max_atoms → Put (atom_numbers a) (i * atom_width) out out' → out' ≡ flat_map atom_numbers (p.done ++ (a ∷ [])) ++ zeros (i + 1)
  put_atom a h q =
      let f = flat_map atom_numbers p.done in
      let e : i * atom_width + length (atom_numbers a) ≡ length f + atom_width = omega (arith, front_long, length_atom a) in
      let t : take (i * atom_width) out ≡ f = ap (take (i * atom_width)) p.held ∙ take_at f (zeros i) (i * atom_width) front_long in
      let r : drop (i * atom_width + length (atom_numbers a)) out ≡ zeros (i + 1) =
      ap (λ (k : ℕ). drop k out) e ∙ ap (drop (length f + atom_width)) p.held ∙ drop-append-add f (zeros i) atom_width ∙ one_less i h
      in
      q.is ∙ ap (λ (ys : List ℕ). ys ++ atom_numbers a ++ drop (i * atom_width + length (atom_numbers a)) out) t
      ∙ ap (λ (ys : List ℕ). f ++ atom_numbers a ++ ys) r ∙ ap (λ (ys : List ℕ). ys ++ zeros (i + 1)) (sym (flat_snoc p.done a))

  pub atoms_on : {a : Atom} {e : Cursor} {out' : List ℕ} → Got atom c a e → i < n → n ≤ max_atoms → Put (atom_numbers a) (i * atom_width) out out'
      → AtomsPut c₀ n (i + 1) e out'
  atoms_on {a} g h few q = record {
    within = omega arith;
    done = p.done ++ (a ∷ []);
    many = omega (arith, length-append p.done (a ∷ []), p.many);
    held = put_atom a (omega arith) q;
    asked = λ as' d k.
        let q = ahead h k in
        let r = front_atom (n - (i + 1)) g q.1 in
        (r.0, r.2, append_assoc p.done (a ∷ []) r.0 ∙ ap (λ (ys : List Atom). p.done ++ ys) (sym r.1) ∙ q.2);
  }

  pub atoms_stuck : {Q : Type 0} {d : Cursor} {as' : List Atom} → i < n → Not atom c → Got (atoms n) c₀ as' d → Q
  atoms_stuck h k g = no_atom (n - (i + 1)) k (ahead h g).1

  pub atoms_done : {d : Cursor} {as' : List Atom} → n ≤ i → n ≤ max_atoms → Got (atoms n) c₀ as' d
      → out ≡ take atoms_length (flat_map atom_numbers as' ++ replicate atoms_length 0)
  atoms_done {d} {as'} h few g =
      let q = p.asked _ _ g in
      let e : n - i ≡ 0 = omega arith in
      let b : q.0 ≡ [] = no_atoms (rw e at q.1) in
      let a : p.done ≡ as' = sym (append-nil p.done) ∙ ap (λ (ys : List Atom). p.done ++ ys) (sym b) ∙ q.2 in
      let l : length p.done ≤ max_atoms = omega (arith, p.many, p.within) in
      p.held ∙ ap (λ (k : ℕ). flat_map atom_numbers p.done ++ zeros k) (sym p.many) ∙ all_zeros p.done l
      ∙ ap (λ (xs : List Atom). take atoms_length (flat_map atom_numbers xs ++ replicate atoms_length 0)) a
