-- Breadth-first numbers are listing order, both ways.
use Rattle.std.proofs.Common.{◌≡◌, ℕ, zero, suc, ◌<◌, ◌⊎◌, List, [], sym, refl, ap, subst, subst₂, inl, inr, arith}
use mathlib.Core.Option.{some}
use native.Mathlib.Decide.{dec_lt}
use Rattle.features.specs.Terms.{Term, only, ◌▸◌}
use Rattle.features.specs.Graphs.{Graph, Leads, here, Denotes}
use Rattle.features.specs.Order.{◌≺◌, Trail, InOrder}
use Rattle.features.specs.Numbering.{Mention, by_variable, by_attribute, Mentions, Sooner, FirstMention, BreadthFirst, Inside, TrailRule}
use Rattle.features.proofs.Paths.{leads_same, leads_more, leads_back, leads_inside}
use Rattle.features.proofs.TotalOrder.{Three, first, second, third, compare, not_both, never, trail_same}
use Rattle.features.proofs.Ordering.{≺-extend, ≺-last, ≺-front, ≺-cancel, ≺-then, ≺-last-then, only_first, Ended, empty, more, ended}

-- of two mentions one is sooner, unless they are one
pub sooner_or : (k l : Mention) → Three (Sooner k l) (k ≡ l) (Sooner l k)
sooner_or (by_variable x) (by_variable y) = pick (compare x y)
  where
    pick : Three (x < y) (x ≡ y) (y < x) → Three (x < y) (by_variable x ≡ by_variable y) (y < x)
    pick (first h) = first h
    pick (second e) = second (ap by_variable e)
    pick (third h) = third h
sooner_or (by_variable x) (by_attribute j b) = first tt
sooner_or (by_attribute i a) (by_variable y) = third tt
sooner_or (by_attribute i a) (by_attribute j b) = pick (compare i j) (compare a b)
  where
    pick : Three (i < j) (i ≡ j) (j < i) → Three (a < b) (a ≡ b) (b < a) → Three ((i < j) ⊎ ((i ≡ j) × (a < b))) (by_attribute i a ≡ by_attribute j b) ((j < i) ⊎ ((j ≡ i) × (b < a)))
    pick (first h) c = first (inl h)
    pick (third h) c = third (inl h)
    pick (second e) (first h) = first (inr (e, h))
    pick (second e) (second f) = second (cc)
    pick (second e) (third h) = third (inr (sym e, h))

pub sooner_trans : (k l o : Mention) → Sooner k l → Sooner l o → Sooner k o
sooner_trans (by_variable x) (by_variable y) (by_variable z) h i = omega arith
sooner_trans (by_variable x) (by_variable y) (by_attribute j b) h i = tt
sooner_trans (by_variable x) (by_attribute i a) (by_variable z) h k = absurd k
sooner_trans (by_variable x) (by_attribute i a) (by_attribute j b) h k = tt
sooner_trans (by_attribute i a) (by_variable y) o h k = absurd h
sooner_trans (by_attribute i a) (by_attribute j b) (by_variable z) h k = k
sooner_trans (by_attribute i a) (by_attribute j b) (by_attribute n c) (inl h) (inl k) = inl (omega arith)
sooner_trans (by_attribute i a) (by_attribute j b) (by_attribute n c) (inl h) (inr k) = inl (omega (arith, k.0))
sooner_trans (by_attribute i a) (by_attribute j b) (by_attribute n c) (inr h) (inl k) = inl (omega (arith, h.0))
sooner_trans (by_attribute i a) (by_attribute j b) (by_attribute n c) (inr h) (inr k) = inr (omega (arith, h.0, k.0), omega (arith, h.1, k.1))

pub first_mention_same : (g : Graph) (n : ℕ) (k l : Mention) → FirstMention g n k → FirstMention g n l → k ≡ l
first_mention_same g n k l a b = pick (sooner_or k l)
  where
    pick : Three (Sooner k l) (k ≡ l) (Sooner l k) → k ≡ l
    pick (first h) = absurd (b.none_sooner k a.mentions h)
    pick (second e) = e
    pick (third h) = absurd (a.none_sooner l b.mentions h)

mentions_same : (g : Graph) (n o : ℕ) (k : Mention) → Mentions g n k → Mentions g o k → n ≡ o
mentions_same g n o (by_variable x) a b = cc (a.1, b.1)
mentions_same g n o (by_attribute i a) h k = let e = h.1 in let f = k.1 in cc

-- a first mention by an attribute is by a node with a lesser number
abbrev pub GivenBefore : ℕ → Mention → Type 0
GivenBefore n (by_variable x) = Unit {0}
GivenBefore n (by_attribute i a) = i < n

-- numbers are breadth-first where each node's first mention is sooner than the next one's
module _ (g : Graph) (firsts : ℕ → Mention) (next_later : (n : ℕ) → suc n < g.nodes → Sooner (firsts n) (firsts (suc n))) where
  firsts_rising : (n o : ℕ) → n < o → o < g.nodes → Sooner (firsts n) (firsts o)
  firsts_rising n zero h l = absurd (omega arith)
  firsts_rising n (suc o) h l = pick (λ q. firsts_rising n o q (omega arith)) (dec_lt n o)
    where
      pick : (n < o → Sooner (firsts n) (firsts o)) → Dec (n < o) → Sooner (firsts n) (firsts (suc o))
      pick before (yes q) = sooner_trans (firsts n) (firsts o) (firsts (suc o)) (before q) (next_later o l)
      pick before (no q) = subst (λ (z : ℕ). Sooner (firsts z) (firsts (suc o))) (omega arith) (next_later o l)

  pub breadth_first_by_firsts : ((n : ℕ) → n < g.nodes → FirstMention g n (firsts n)) → ((n : ℕ) → n < g.nodes → GivenBefore n (firsts n)) → BreadthFirst g
  breadth_first_by_firsts are before = record {
    mentioned = λ n l. (firsts n, are n l);
    numbered_before = λ n i a l f. subst (GivenBefore n) (first_mention_same g n (firsts n) (by_attribute i a) (are n l) f) (before n l);
    rising = λ n o k j h l f e.
        subst₂ Sooner (first_mention_same g n (firsts n) k (are n (omega arith)) f) (first_mention_same g o (firsts o) j (are o l) e) (firsts_rising n o h l);
  }

-- the term that follows the first mentions back
data Traced (g : Graph) : ℕ → Term → Type 0 where
  at_variable : {n x : ℕ} → FirstMention g n (by_variable x) → Traced g n (only x)
  at_attribute : {n i a : ℕ} {t : Term} → i < n → FirstMention g n (by_attribute i a) → Traced g i t → Traced g n (t ▸ a)

module _ (g : Graph) where
  traced_denotes : {n : ℕ} {t : Term} → Traced g n t → Denotes g t n
  traced_denotes {n} (at_variable {x = x} f) = (f.mentions.0, subst (λ (z : ℕ). Leads g (g.root x) [] z) f.mentions.1 here)
  traced_denotes (at_attribute h f r) = let d = traced_denotes r in (d.0, leads_more d.1 f.mentions.1)

  traced_same : {n o : ℕ} {s t : Term} → n ≡ o → Traced g n s → Traced g o t → s ≡ t
  traced_same {n} {o} e (at_variable {x = x} f) (at_variable {x = y} h) =
      let q = first_mention_same g o (by_variable x) (by_variable y) (subst (λ (z : ℕ). FirstMention g z (by_variable x)) e f) h in
      let r : x ≡ y = cc q in
      ap only r
  traced_same {n} {o} e (at_variable {x = x} f) (at_attribute {i = i} {a = a} l h r) =
      absurd (h.none_sooner (by_variable x) (subst (λ (z : ℕ). Mentions g z (by_variable x)) e f.mentions) tt)
  traced_same {n} {o} e (at_attribute {i = i} {a = a} l h r) (at_variable {x = x} f) =
      absurd (h.none_sooner (by_variable x) (subst (λ (z : ℕ). Mentions g z (by_variable x)) (sym e) f.mentions) tt)
  traced_same {n} {o} e (at_attribute {i = i} {a = a} {t = s} l f r) (at_attribute {i = j} {a = b} {t = t} m h q) =
      let p = first_mention_same g o (by_attribute i a) (by_attribute j b) (subst (λ (z : ℕ). FirstMention g z (by_attribute i a)) e f) h in
      let c : i ≡ j = cc p in
      let d : a ≡ b = cc p in
      let u = traced_same c r q in
      λ k. u k ▸ d k

module _ (g : Graph) (inside : Inside g) where
  pub denotes_inside : (t : Term) (n : ℕ) → Denotes g t n → n < g.nodes
  denotes_inside t n d = leads_inside inside.edges (inside.roots t.var d.0) d.1

  module _ (bf : BreadthFirst g) where
    traced_below : (b n : ℕ) → n < b → n < g.nodes → (t : Term) × Traced g n t
    traced_below zero n l lt = absurd (omega arith)
    traced_below (suc b) n l lt = by_mention (bf.mentioned n lt).0 (bf.mentioned n lt).1 (λ i h. traced_below b i (omega arith) (omega arith))
      where
        by_mention : (k : Mention) → FirstMention g n k → ((i : ℕ) → i < n → (t : Term) × Traced g i t) → (t : Term) × Traced g n t
        by_mention (by_variable x) f before = (only x, at_variable f)
        by_mention (by_attribute i a) f before =
            let h = bf.numbered_before n i a lt f in
            let r = before i h in
            (r.0 ▸ a, at_attribute h f r.1)

    traced : (n : ℕ) → n < g.nodes → (t : Term) × Traced g n t
    traced n lt = traced_below (suc n) n (omega arith) lt

    traced_rising : {n o : ℕ} {s t : Term} → n < o → o < g.nodes → Traced g n s → Traced g o t → s ≺ t
    traced_rising {n} {o} l lt (at_variable {x = x} f) (at_variable {x = y} h) =
        inr (refl, inl (bf.rising n o (by_variable x) (by_variable y) l lt f h))
    traced_rising {n} {o} l lt (at_variable {x = x} f) (at_attribute {a = a} {t = t} m h q) = only_first x t a
    traced_rising {n} {o} l lt (at_attribute {i = i} {a = a} m f r) (at_variable {x = y} h) =
        absurd (bf.rising n o (by_attribute i a) (by_variable y) l lt f h)
    traced_rising {n} {o} l lt (at_attribute {i = i} {a = a} {t = s} m f r) (at_attribute {i = j} {a = b} {t = t} p h q) =
        by_order (λ u. traced_rising u (omega arith) r q) (bf.rising n o (by_attribute i a) (by_attribute j b) l lt f h)
      where
        by_order : (i < j → s ≺ t) → (i < j) ⊎ ((i ≡ j) × (a < b)) → s ▸ a ≺ t ▸ b
        by_order below (inl u) = ≺-extend s t a b (below u)
        by_order below (inr u) = subst (λ (z : Term). s ▸ a ≺ z ▸ b) (traced_same g u.0 r q) (≺-last s a b u.1)

    -- no term that denotes a node comes before the traced one
    traced_first : {xs : List ℕ} → Ended xs → (x n : ℕ) {t : Term} → x < g.vars → Leads g (g.root x) xs n → Traced g n t → record { var = x; path = xs } ≺ t → ⊥
    traced_first empty x n lt l (at_variable {x = y} f) (inl b) = absurd (omega arith)
    traced_first empty x n lt l (at_variable {x = y} f) (inr b) = f.none_sooner (by_variable x) (lt, leads_same here l) (head b.1)
      where
        head : (x < y) ⊎ ((x ≡ y) × ⊥) → x < y
        head (inl h) = h
        head (inr h) = absurd h.1
    traced_first empty x n lt l (at_attribute m f r) c = f.none_sooner (by_variable x) (lt, leads_same here l) tt
    traced_first (more {xs} a e) x n lt l (at_variable {x = y} f) c = not_both (only y) (record { var = x; path = xs } ▸ a) (only_first y (record { var = x; path = xs }) a) c
    traced_first (more {xs} a e) x n lt l (at_attribute {i = i} {a = b} {t = t} m f r) c =
        let back = leads_back xs l in
        by_order back.0 back.1 back.2 (λ j s u k. traced_first e x j lt k u) (sooner_or (by_attribute back.0 a) (by_attribute i b))
      where
        q : Term
        q = record { var = x; path = xs }

        by_order : (j : ℕ) → Leads g (g.root x) xs j → g.edge j a ≡ some n → ((j : ℕ) (s : Term) → Traced g j s → Leads g (g.root x) xs j → q ≺ s → ⊥) → Three (Sooner (by_attribute j a) (by_attribute i b)) (by_attribute j a ≡ by_attribute i b) (Sooner (by_attribute i b) (by_attribute j a)) → ⊥
        by_order j k d before (first h) = f.none_sooner (by_attribute j a) (leads_inside inside.edges (inside.roots x lt) k, d) h
        by_order j k d before (second h) =
            let u : j ≡ i = cc h in
            let v : a ≡ b = cc h in
            before i t r (subst (λ (z : ℕ). Leads g (g.root x) xs z) u k) (≺-cancel q t b (subst (λ (z : ℕ). q ▸ z ≺ t ▸ b) v c))
        by_order j k d before (third (inl h)) =
            let s = traced j (leads_inside inside.edges (inside.roots x lt) k) in
            not_both (q ▸ a) (t ▸ b) c (≺-extend t q b a (≺-then t s.0 q (traced_rising h (leads_inside inside.edges (inside.roots x lt) k) r s.1) (before j s.0 s.1 k)))
        by_order j k d before (third (inr h)) =
            not_both (q ▸ a) (t ▸ b) c (≺-last-then t q b a h.1 (before i t r (subst (λ (z : ℕ). Leads g (g.root x) xs z) (sym h.0) k)))

    traced_trail : {n : ℕ} {t : Term} → Traced g n t → Trail g n t
    traced_trail {n} {t} r = record { denotes = traced_denotes g r; first = λ p d. traced_first (ended p.path) p.var n d.0 d.1 r }

    pub breadth_first_in_order : InOrder g
    breadth_first_in_order = record {
      reached = λ n lt. let r = traced n lt in (r.0, traced_trail r.1);
      rising = λ i j s t l lt a b.
          let r = traced i (omega arith) in
          let q = traced j lt in
          subst₂ (λ (x y : Term). x ≺ y) (trail_same g i r.0 s (traced_trail r.1) a) (trail_same g j q.0 t (traced_trail q.1) b) (traced_rising l lt r.1 q.1);
    }

-- how a trail ends, and the mention that this is
data Ends (g : Graph) : Term → Mention → Type 0 where
  in_variable : {x : ℕ} → Ends g (only x) (by_variable x)
  in_attribute : {i a : ℕ} {t : Term} → i < g.nodes → Trail g i t → Ends g (t ▸ a) (by_attribute i a)

module _ (g : Graph) (inside : Inside g) (sorted : InOrder g) where
  -- a front of a trail is a trail
  trail_front : (t : Term) (a i n : ℕ) → Trail g n (t ▸ a) → Denotes g t i → g.edge i a ≡ some n → Trail g i t
  trail_front t a i n r d e = record { denotes = d; first = λ p h l. r.first (p ▸ a) (h.0, leads_more h.1 e) (≺-extend p t a a l) }

  mention_of : (n x : ℕ) (xs : List ℕ) → Ended xs → n < g.nodes → Trail g n (record { var = x; path = xs }) → (k : Mention) × FirstMention g n k × Ends g (record { var = x; path = xs }) k
  mention_of n x xs empty lt r = (by_variable x, record { mentions = (r.denotes.0, leads_same here r.denotes.1); none_sooner = none_sooner }, in_variable)
    where
      none_sooner : (l : Mention) → Mentions g n l → Sooner l (by_variable x) → ⊥
      none_sooner (by_variable y) m h = r.first (only y) (m.0, subst (λ (z : ℕ). Leads g (g.root y) [] z) m.1 here) (inr (refl, inl h))
      none_sooner (by_attribute i a) m h = h
  mention_of n x ys (more {xs} a e) lt r =
      let b = leads_back xs r.denotes.1 in
      let d : Denotes g q b.0 = (r.denotes.0, b.1) in
      let i_in = denotes_inside g inside q b.0 d in
      (by_attribute b.0 a, record { mentions = (i_in, b.2); none_sooner = none_sooner b.0 i_in d b.2 }, in_attribute i_in (trail_front q a b.0 n r d b.2))
    where
      q : Term
      q = record { var = x; path = xs }

      none_sooner : (i : ℕ) → i < g.nodes → Denotes g q i → g.edge i a ≡ some n → (l : Mention) → Mentions g n l → Sooner l (by_attribute i a) → ⊥
      none_sooner i i_in d f (by_variable y) m h = r.first (only y) (m.0, subst (λ (z : ℕ). Leads g (g.root y) [] z) m.1 here) (only_first y q a)
      none_sooner i i_in d f (by_attribute j c) m (inl h) =
          let s = sorted.reached j m.0 in
          let u = sorted.reached i i_in in
          let before = ≺-then s.0 u.0 q (sorted.rising j i s.0 u.0 h i_in s.1 u.1) (u.1.first q d) in
          r.first (s.0 ▸ c) (s.1.denotes.0, leads_more s.1.denotes.1 m.1) (≺-extend s.0 q c a before)
      none_sooner i i_in d f (by_attribute j c) m (inr h) =
          r.first (q ▸ c) (d.0, leads_more d.1 (subst (λ (z : ℕ). g.edge z c ≡ some n) h.0 m.1)) (≺-last q c a h.1)

  -- the trail of a node ends in its first mention
  trail_ends : (n : ℕ) (t : Term) (k : Mention) → n < g.nodes → Trail g n t → FirstMention g n k → Ends g t k
  trail_ends n t k lt r f =
      let e = mention_of n t.var t.path (ended t.path) lt r in
      subst (λ (z : Mention). Ends g t z) (first_mention_same g n e.0 k e.1 f) e.2

  giver_before : (n i a : ℕ) (t : Term) → n < g.nodes → Trail g n t → Ends g t (by_attribute i a) → i < n
  giver_before n i a t lt r (in_attribute {t = q} i_in s) = pick (compare i n)
    where
      pick : Three (i < n) (i ≡ n) (n < i) → i < n
      pick (first h) = h
      pick (second h) = absurd (never q (subst (λ (z : Term). q ≺ z) (sym (trail_same g n q (q ▸ a) (subst (λ (z : ℕ). Trail g z q) h s) r)) (≺-front q a)))
      pick (third h) = absurd (not_both q (q ▸ a) (≺-front q a) (sorted.rising n i (q ▸ a) q h i_in r s))

  -- sooner mentions end earlier trails
  ends_rising : (s t : Term) (k l : Mention) → Ends g s k → Ends g t l → Sooner k l → s ≺ t
  ends_rising s t k l (in_variable {x = x}) (in_variable {x = y}) h = inr (refl, inl h)
  ends_rising s t k l (in_variable {x = x}) (in_attribute {a = b} {t = q} j_in r) h = only_first x q b
  ends_rising s t k l (in_attribute i_in r) in_variable h = absurd h
  ends_rising s t k l (in_attribute {i = i} {a = a} {t = p} i_in r) (in_attribute {i = j} {a = b} {t = q} j_in u) (inl h) = ≺-extend p q a b (sorted.rising i j p q h j_in r u)
  ends_rising s t k l (in_attribute {i = i} {a = a} {t = p} i_in r) (in_attribute {i = j} {a = b} {t = q} j_in u) (inr h) =
      subst (λ (z : Term). p ▸ a ≺ z ▸ b) (trail_same g j p q (subst (λ (z : ℕ). Trail g z p) h.0 r) u) (≺-last p a b h.1)

  mentions_rising : (n o : ℕ) (k l : Mention) → n < o → o < g.nodes → FirstMention g n k → FirstMention g o l → Sooner k l
  mentions_rising n o k l h lt e f = pick (sooner_or k l)
    where
      n_in : n < g.nodes
      n_in = omega arith

      pick : Three (Sooner k l) (k ≡ l) (Sooner l k) → Sooner k l
      pick (first u) = u
      pick (second u) = absurd (omega (arith, mentions_same g n o l (subst (λ (z : Mention). Mentions g n z) u e.mentions) f.mentions))
      pick (third u) =
          let r = sorted.reached n n_in in
          let q = sorted.reached o lt in
          absurd (not_both r.0 q.0 (sorted.rising n o r.0 q.0 h lt r.1 q.1) (ends_rising q.0 r.0 l k (trail_ends o q.0 l lt q.1 f) (trail_ends n r.0 k n_in r.1 e) u))

  pub in_order_breadth_first : BreadthFirst g
  in_order_breadth_first = record {
    mentioned = λ n lt.
        let r = sorted.reached n lt in
        let e = mention_of n r.0.var r.0.path (ended r.0.path) lt r.1 in
        (e.0, e.1);
    numbered_before = λ n i a lt f.
        let r = sorted.reached n lt in
        giver_before n i a r.0 lt r.1 (trail_ends n r.0 (by_attribute i a) lt r.1 f);
    rising = mentions_rising;
  }

  in_variable_is : (t : Term) (x n : ℕ) → Ends g t (by_variable x) → Trail g n t → Trail g n (only x)
  in_variable_is t x n in_variable r = r

  in_attribute_is : (t s : Term) (i a n : ℕ) → Ends g t (by_attribute i a) → Trail g n t → Trail g i s → Trail g n (s ▸ a)
  in_attribute_is t s i a n (in_attribute {t = q} i_in u) r v = subst (λ (z : Term). Trail g n (z ▸ a)) (trail_same g i q s u v) r

  pub trails_by_first_mention : TrailRule g
  trails_by_first_mention = record {
    at_variable = λ n x lt f.
        let r = sorted.reached n lt in
        in_variable_is r.0 x n (trail_ends n r.0 (by_variable x) lt r.1 f) r.1;
    at_attribute = λ n i a t lt f s.
        let r = sorted.reached n lt in
        in_attribute_is r.0 t i a n (trail_ends n r.0 (by_attribute i a) lt r.1 f) r.1 s;
  }
