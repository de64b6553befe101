-- A pack has at most one first clash, so what refusal 10 gives is fixed by its definition. Assumes nothing.
use mathlib.Core.List.{List}
use mathlib.Core.Path.{◌≡◌, sym, subst, subst₂, ◌∙◌}
use native.Mathlib.Omega.{arith}
use Prim.Native.Nat.{ℕ}
use Rattle.meaning.proofs.Lists.Ordered.{≺_trans}
use Rattle.meaning.proofs.Lists.Sorted.{Compared, alike, compare, higher, lower}
use Rattle.meaning.proofs.Model.Listing.{core_key_one}
use Rattle.meaning.proofs.Theory.OneGraph.{record_unique}
use Rattle.meaning.specs.Built.{core}
use Rattle.meaning.specs.Clash.{ClashGiven, FirstClash}
use Rattle.meaning.specs.Core.{CoreEdge, Node}
use Rattle.meaning.specs.Listing.{NodeRecord, ◌◃◌, node_key}
use Rattle.meaning.specs.NoGraph.{TwoObjects}
use Rattle.meaning.specs.Pack.{Pack}

-- neither stands before the other: one node
neither : (n m : Node) → ¬ (core n ◃ core m) → ¬ (core m ◃ core n) → n ≡ m
neither n m a b = go (compare (node_key (core n)) (node_key (core m)))
  where
    go : Compared (node_key (core n)) (node_key (core m)) → n ≡ m
    go (lower h) = absurd (a h)
    go (alike e) = core_key_one n m e
    go (higher h) = absurd (b h)

module _ (P : Pack) where
  -- the same subject, predicate and objects
  pub record Same (c d : TwoObjects P) : Type 0 where
    pub subject : c.subject ≡ d.subject
    pub predicate : c.predicate ≡ d.predicate
    pub first : c.first ≡ d.first
    pub second : c.second ≡ d.second

  module _ (c d : TwoObjects P) (x : FirstClash P c) (y : FirstClash P d) where
    -- of one subject and predicate, the second of the one does not stand before that of the other
    no_lower : c.subject ≡ d.subject → c.predicate ≡ d.predicate → ¬ (core c.second ◃ core d.second)
    no_lower s p l =
        let at : (o : Node) → CoreEdge P c.subject c.predicate o → CoreEdge P d.subject d.predicate o = λ o e. subst₂ (λ n q. CoreEdge P n q o) s p e in
        let f = y.lowest_objects c.first (at c.first c.edge₁) (≺_trans x.lower_first l) in
        let g = y.lowest_objects c.second (at c.second c.edge₂) l in
        c.differ (f ∙ sym g)

  pub first_once : (c d : TwoObjects P) → FirstClash P c → FirstClash P d → Same c d
  first_once c d x y =
      let s = neither c.subject d.subject (y.lowest_subject c) (x.lowest_subject d) in
      let l = x.lowest_predicate d (sym s) in
      let m = y.lowest_predicate c s in
      let p : c.predicate ≡ d.predicate = omega arith in
      let g = neither c.second d.second (no_lower c d x y s p) (no_lower d c y x (sym s) (sym p)) in
      let f = y.lowest_objects c.first (subst₂ (λ n q. CoreEdge P n q c.first) s p c.edge₁) (subst (λ o. core c.first ◃ core o) g x.lower_first) in
      record { subject = s; predicate = p; first = f; second = g }

  pub clash_unique : {s s' : List ℕ} {p p' : ℕ} {f f' g g' : List ℕ} → ClashGiven P s p f g → ClashGiven P s' p' f' g' → (s ≡ s') × (p ≡ p')
      × (f ≡ f') × (g ≡ g')
  clash_unique x y =
      let e = first_once x.clash y.clash x.is_first y.is_first in (
        one e.subject x.subject_is y.subject_is,
        x.predicate_is ∙ e.predicate ∙ sym y.predicate_is,
        one e.first x.first_is y.first_is,
        one e.second x.second_is y.second_is,
      )
    where
      one : {n m : Node} {r r' : List ℕ} → n ≡ m → NodeRecord P (core n) r → NodeRecord P (core m) r' → r ≡ r'
      one {n} {m} {r} {r'} e a b = record_unique P (core m) r r' (subst (λ k. NodeRecord P (core k) r) e a) b
