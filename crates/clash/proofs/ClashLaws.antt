-- The search for two objects of one node and predicate, side by side in the list of triples: what it finds is the first clash.
-- Assumes nothing.
use lib.ListN.{get_or, get_elem?, length}
use mathlib.Core.Bool.{Bool, true, false}
use mathlib.Core.List.{List}
use mathlib.Core.Logic.{◌≢◌}
use mathlib.Core.Option.{Option, some}
use mathlib.Core.Path.{◌≡◌, sym, ap, subst, ◌∙◌}
use native.Mathlib.Decide.{dec_lt, ℕ_discrete}
use native.Mathlib.Omega.{arith}
use Prim.Native.Nat.{ℕ, zero, suc, ◌+◌, ◌-◌, ◌%◌, ◌<◌, ◌≤◌}
use Rattle.spread.specs.Keys.{key_of, object_of, origin_of, predicate_of, subject_of, triple_key}
use Rattle.clash.specs.Clash.{ClashAt, Clashes, LimitedAt, SameOrigin}
use Rattle.core_lists.specs.Input.{Input}
use Rattle.core_lists.proofs.Keys.{key_less, less_key}
use Rattle.core_lists.proofs.Places.{EdgeAt, edge_at, edge_key, limits_masked, masked, place_of, place_small, predicate_small, same_node_at, same_place, shaped, well}
use Rattle.core_lists.proofs.ResolvedNodes.{proper}
use Rattle.core_lists.proofs.Shaped.{limits_shape}
use Rattle.meaning.proofs.Lists.Members.{element}
use Rattle.meaning.proofs.Lists.OrderedPlaces.{greater_later, lower_earlier, next_le}
use Rattle.meaning.proofs.Lists.Places.{entry_at, entry_is, inside, placed}
use Rattle.meaning.proofs.Model.Clash.{Limits}
use Rattle.meaning.specs.Built.{core}
use Rattle.meaning.specs.Clash.{FirstClash}
use Rattle.meaning.specs.Core.{CoreEdge, CoreNode, Node, as_object, as_subject}
use Rattle.meaning.specs.Limits.{place_room, predicate_room}
use Rattle.meaning.specs.Listing.{◌◃◌}
use Rattle.meaning.specs.Member.{◌∈◌}
use Rattle.meaning.specs.NoGraph.{TwoObjects}
use Rattle.meaning.specs.Ordered.{InOrder}
use Rattle.meaning.specs.Pack.{Pack, limits}
use Rattle.shapes.specs.Shapes.{SomePasses}

module _ (table : List (List ℕ)) (triples masks : List ℕ) where
  -- two of one origin clash if their subject is limited
  pub same_clashes : (i : ℕ) (r : Bool) → SameOrigin triples i → LimitedAt table triples masks i r → Clashes table triples masks i r
  same_clashes i true e l = (e, l)
  same_clashes i false e l = λ _. l

  -- those before place i are no clash
  pub record Searched (i : ℕ) : Type 0 where
    pub from : 0 < i
    pub clear : (j : ℕ) → 0 < j → j < i → Clashes table triples masks j false

  -- no key below b is a clash with the one before
  abbrev Cleared : ℕ → Type 0
  Cleared b = (j : ℕ) → 0 < j → j < length triples → get_or triples j 0 < b → Clashes table triples masks j false

module _ {P : Pack} {table : List (List ℕ)} {nodes triples masks : List ℕ} (I : Input P table nodes triples masks) where
  -- ---- places are in node order

  module _ {n m : Node} (i j : ℕ) (c : CoreNode P n) (d : CoreNode P m) (e : get_elem? nodes i ≡ some (key_of n)) (f : get_elem? nodes j ≡ some (key_of m)) where
    earlier_place : core n ◃ core m → i < j
    earlier_place h =
        let k = key_less P I.bounded n m (proper P (well I) c) (proper P (well I) d) h in
        let x = entry_is nodes i (key_of n) 0 e in
        let y = entry_is nodes j (key_of m) 0 f in
        lower_earlier nodes I.held.node_keys_are.ascending i j (inside nodes i (key_of n) e) (omega arith)

    place_earlier : i < j → core n ◃ core m
    place_earlier h =
        let k = greater_later nodes I.held.node_keys_are.ascending i j h (inside nodes j (key_of m) f) in
        let x = entry_is nodes i (key_of n) 0 e in
        let y = entry_is nodes j (key_of m) 0 f in
        less_key P I.bounded n m (proper P (well I) c) (proper P (well I) d) (omega arith)

  -- ---- a clash has a key at which the search stops

  -- the places of a clash's subject and objects
  record Placing (c : TwoObjects P) : Type 0 where
    s : ℕ
    o₁ : ℕ
    o₂ : ℕ
    subject_is_at : get_elem? nodes s ≡ some (key_of c.subject)
    first_is_at : get_elem? nodes o₁ ≡ some (key_of c.first)
    second_at : get_elem? nodes o₂ ≡ some (key_of c.second)

  placing : (c : TwoObjects P) → Placing c
  placing c =
      let (i, e) = place_of I (as_subject c.edge₁) in
      let (o, f) = place_of I (as_object c.edge₁) in
      let (o', g) = place_of I (as_object c.edge₂) in
      record { s = i; o₁ = o; o₂ = o'; subject_is_at = e; first_is_at = f; second_at = g }

  module _ (b : ℕ) (clear : Cleared table triples masks b) (c : TwoObjects P) (x : Placing c) where
    -- the lower of the two keys has a neighbour that the search has seen
    seen : (o o' : ℕ) → o < place_room → o' < place_room → o < o' → triple_key x.s c.predicate o ∈ triples
        → triple_key x.s c.predicate o' ∈ triples → triple_key x.s c.predicate o' < b → ⊥
    unfolding triple_key
    seen o o' lo lo' l m m' u =
        let i = x.s in
        let p = c.predicate in
        let y = triple_key i p o in
        let y' = triple_key i p o' in
        let hp = predicate_small I c.edge₁ in
        let r = placed m in
        let n = next_le triples I.held.triple_keys_are.ascending r.0 y y' r.1 m' (omega arith) in
        let k = get_or triples (suc r.0) 0 in
        let ia = entry_is triples r.0 y 0 r.1 in
        let n1 = n.1 in let n2 = n.2 in
        let q : origin_of y ≡ origin_of k = omega arith in
        let es : subject_of k ≡ i = omega arith in
        let ep : predicate_of k ≡ p = omega arith in
        let d : suc r.0 - 1 ≡ r.0 = omega arith in
        let w = clear (suc r.0) (omega arith) n.0 (omega arith) (rw d (ap (λ (w : ℕ). origin_of w) ia ∙ q)) in
        let lim : Limits P (core c.subject) p = record { member = c.member; shape = c.shape; has = c.has; declared = c.declared; limited = c.limited } in
        let at-k = subst (λ j. get_elem? nodes j ≡ some (key_of c.subject)) (sym es) x.subject_is_at in
        (w P.setting (shaped I)).1 ((limits_shape P (get_or masks (subject_of k) 0) (predicate_of k)).1
        ((limits_masked P (masked I c.subject (subject_of k) (as_subject c.edge₁) at-k) (predicate_of k)).1 (subst (λ w. Limits P (core c.subject) w) (sym ep) lim)))

    none_below : triple_key x.s c.predicate x.o₁ < b → triple_key x.s c.predicate x.o₂ < b → ⊥
    none_below u v = decide (dec_lt x.o₁ x.o₂) (dec_lt x.o₂ x.o₁)
      where
        k₁ : triple_key x.s c.predicate x.o₁ ∈ triples
        k₁ = edge_key I x.s x.o₁ c.edge₁ x.subject_is_at x.first_is_at

        k₂ : triple_key x.s c.predicate x.o₂ ∈ triples
        k₂ = edge_key I x.s x.o₂ c.edge₂ x.subject_is_at x.second_at

        l₁ : x.o₁ < place_room
        l₁ = place_small I c.first x.o₁ x.first_is_at

        l₂ : x.o₂ < place_room
        l₂ = place_small I c.second x.o₂ x.second_at

        decide : Dec (x.o₁ < x.o₂) → Dec (x.o₂ < x.o₁) → ⊥
        decide (yes l) r = seen x.o₁ x.o₂ l₁ l₂ l k₁ k₂ v
        decide (no n) (yes l) = seen x.o₂ x.o₁ l₂ l₁ l k₂ k₁ u
        decide (no n) (no m) =
            let q : x.o₁ ≡ x.o₂ = omega arith in
            c.differ (same_node_at I x.o₂ (as_object c.edge₁) (as_object c.edge₂) (subst (λ j. get_elem? nodes j ≡ some (key_of c.first)) q x.first_is_at) x.second_at)

  -- none was found
  pub clash_none : (last : ℕ) → Searched table triples masks last → length triples ≤ last → ¬ TwoObjects P
  clash_none last s done c =
      let x = placing c in
      let k = triple_key x.s c.predicate x.o₁ in
      let k' = triple_key x.s c.predicate x.o₂ in
      none_below (k + k' + 1) (λ j h l u. s.clear j h (omega arith)) c x (omega arith) (omega arith)

  -- ---- the clash found

  -- the subject of the triple with key k is limited
  limited_at : (k : ℕ) (e : EdgeAt I k) → SomePasses limits table (get_or masks (subject_of k) 0) (predicate_of k) true → Limits P (core e.from) (predicate_of k)
  limited_at k e l = (limits_masked P (masked I e.from (subject_of k) (as_subject e.edge) e.from_at) (predicate_of k)).0
      ((limits_shape P (get_or masks (subject_of k) 0) (predicate_of k)).0 ((l P.setting (shaped I)).0 tt))

  module _ (a b : ℕ) (less : a < b) (ea : EdgeAt I a) (eb : EdgeAt I b) (q : origin_of a ≡ origin_of b) (r : Limits P (core eb.from) (predicate_of b)) where
    predicate_same : predicate_of a ≡ predicate_of b
    predicate_same = ap (λ (x : ℕ). x % predicate_room) q

    subject_same : subject_of a ≡ subject_of b
    subject_same = omega arith

    from_same : ea.from ≡ eb.from
    from_same = same_node_at I (subject_of b) (as_subject ea.edge) (as_subject eb.edge) (subst (λ s. get_elem? nodes s ≡ some (key_of ea.from)) subject_same ea.from_at) eb.from_at

    objects_less : object_of a < object_of b
    objects_less = omega arith

    lower_first : core ea.to ◃ core eb.to
    lower_first = place_earlier (object_of a) (object_of b) (as_object ea.edge) (as_object eb.edge) ea.to_at eb.to_at objects_less

    edge₁ : CoreEdge P eb.from (predicate_of b) ea.to
    edge₁ = subst (λ p. CoreEdge P eb.from p ea.to) predicate_same (subst (λ n. CoreEdge P n (predicate_of a) ea.to) from_same ea.edge)

    -- the same with other objects
    abbrev with_objects : (m o : Node) → CoreEdge P eb.from (predicate_of b) m → CoreEdge P eb.from (predicate_of b) o → m ≢ o → TwoObjects P
    with_objects m o e f d = record {
      subject = eb.from;
      predicate = predicate_of b;
      first = m;
      second = o;
      member = r.member;
      shape = r.shape;
      edge₁ = e;
      edge₂ = f;
      differ = d;
      has = r.has;
      declared = r.declared;
      limited = r.limited;
    }

    objects_differ : ea.to ≢ eb.to
    objects_differ d =
        let e = same_place I eb.to (object_of a) (object_of b) (subst (λ n. get_elem? nodes (object_of a) ≡ some (key_of n)) d ea.to_at) eb.to_at in
        let l = objects_less in
        let z : ⊥ = omega arith in z

    abbrev clash : TwoObjects P
    clash = with_objects ea.to eb.to edge₁ eb.edge objects_differ

    first_is : a ≡ triple_key (subject_of b) (predicate_of b) (object_of a)
    first_is = ea.is ∙ subst (λ p. triple_key (subject_of a) (predicate_of a) (object_of a) ≡ triple_key (subject_of b) p (object_of a)) predicate_same
        (ap (λ (s : ℕ). triple_key s (predicate_of a) (object_of a)) subject_same)

    module _ (clear : Cleared table triples masks b) where
      lowest_subject : (d : TwoObjects P) → ¬ (core d.subject ◃ core eb.from)
      unfolding triple_key
      lowest_subject d h =
          let x = placing d in
          let l = earlier_place x.s (subject_of b) (as_subject d.edge₁) (as_subject eb.edge) x.subject_is_at eb.from_at h in
          let hp = predicate_small I d.edge₁ in
          let h₁ = place_small I d.first x.o₁ x.first_is_at in
          let h₂ = place_small I d.second x.o₂ x.second_at in
          none_below b clear d x (omega arith) (omega arith)

      lowest_predicate : (d : TwoObjects P) → d.subject ≡ eb.from → predicate_of b ≤ d.predicate
      unfolding triple_key
      lowest_predicate d e = go (dec_lt d.predicate (predicate_of b))
        where
          go : Dec (d.predicate < predicate_of b) → predicate_of b ≤ d.predicate
          go (no n) = omega arith
          go (yes l) =
              let x = placing d in
              let s = same_place I eb.from x.s (subject_of b) (subst (λ n. get_elem? nodes x.s ≡ some (key_of n)) e x.subject_is_at) eb.from_at in
              let h₁ = place_small I d.first x.o₁ x.first_is_at in
              let h₂ = place_small I d.second x.o₂ x.second_at in
              absurd (none_below b clear d x (omega arith) (omega arith))

      lowest_objects : (o : Node) → CoreEdge P eb.from (predicate_of b) o → core o ◃ core eb.to → o ≡ ea.to
      unfolding triple_key
      lowest_objects o e h = go (place_of I (as_object e))
        where
          go : (k : ℕ) × (get_elem? nodes k ≡ some (key_of o)) → o ≡ ea.to
          go (k, f) = decide (ℕ_discrete k (object_of a))
            where
              decide : Dec (k ≡ object_of a) → o ≡ ea.to
              decide (yes q) = same_node_at I k (as_object e) (as_object ea.edge) f (subst (λ j. get_elem? nodes j ≡ some (key_of ea.to)) (sym q) ea.to_at)
              decide (no n) =
                  let l = earlier_place k (object_of b) (as_object e) (as_object eb.edge) f eb.to_at h in
                  let differ : o ≢ ea.to = λ z. n (same_place I ea.to k (object_of a) (subst (λ m. get_elem? nodes k ≡ some (key_of m)) z f) ea.to_at) in
                  let other = with_objects o ea.to e edge₁ differ in
                  let x : Placing other = record { s = subject_of b; o₁ = k; o₂ = object_of a; subject_is_at = eb.from_at; first_is_at = f; second_at = ea.to_at } in
                  let fa = first_is in
                  let fb = eb.is in
                  absurd (none_below b clear other x (omega arith) (omega arith))

      found_first : FirstClash P clash
      found_first = record { lowest_subject = lowest_subject; lowest_predicate = lowest_predicate; lowest_objects = lowest_objects; lower_first = lower_first }

  -- what stands at a place where the search stops
  clash_is : (i : ℕ) → suc i < length triples → Searched table triples masks (suc i) → origin_of (get_or triples i 0) ≡ origin_of (get_or triples (suc i) 0)
      → LimitedAt table triples masks (suc i) true → ClashAt P nodes triples i
  clash_is i h s q l = go (get_or triples i 0) (get_or triples (suc i) 0) (entry_at triples i (omega arith)) (entry_at triples (suc i) h) (greater_later triples asc i (suc i) (omega arith) h) q l clear
    where
      asc : InOrder ◌<◌ triples
      asc = I.held.triple_keys_are.ascending

      clear : Cleared table triples masks (get_or triples (suc i) 0)
      clear j k m u = s.clear j k (lower_earlier triples asc j (suc i) m u)

      go : (a b : ℕ) → get_elem? triples i ≡ some a → get_elem? triples (suc i) ≡ some b → a < b → origin_of a ≡ origin_of b
          → SomePasses limits table (get_or masks (subject_of b) 0) (predicate_of b) true → Cleared table triples masks b → ClashAt P nodes triples i
      go a b ia ib less q l clear = with_edges (edge_at I a (element triples i a ia)) (edge_at I b (element triples (suc i) b ib))
        where
          with_edges : EdgeAt I a → EdgeAt I b → ClashAt P nodes triples i
          with_edges ea eb = let r = limited_at b eb l in record {
            clash = clash a b less ea eb q r;
            is_first = found_first a b less ea eb q r clear;
            subject = subject_of b;
            first = object_of a;
            second = object_of b;
            subject_is_at = eb.from_at;
            first_is_at = ea.to_at;
            second_at = eb.to_at;
            first_key = ia ∙ ap {B = Option ℕ} some (first_is a b less ea eb q r);
            second_key = ib ∙ ap {B = Option ℕ} some eb.is;
          }

  pub clash_before : (i : ℕ) → Searched table triples masks i → i < length triples → Clashes table triples masks i true → ClashAt P nodes triples (i - 1)
  clash_before zero s l c = absurd (let h = s.from in let z : ⊥ = omega arith in z)
  clash_before (suc j) s l c = let e : suc j - 1 ≡ j = omega arith in rw e (clash_is j l s (rw e at c.0) c.1)
