-- Nodes numbered mention by mention: that keeps, is breadth-first at the end, and leaves no other choice.
use Rattle.std.proofs.Common.{◌≡◌, ℕ, ◌+◌, ◌<◌, ◌≤◌, ◌⊎◌, refl, ap, subst, inl, inr, arith}
use mathlib.Core.Option.{some}
use native.Mathlib.Decide.{dec_lt}
use Rattle.features.specs.Graphs.{Graph}
use Rattle.features.specs.Numbering.{Mention, by_variable, by_attribute, Mentions, Sooner, FirstMention, BreadthFirst}
use Rattle.features.proofs.TotalOrder.{Three, first, second, third}
use Rattle.features.proofs.Numbering.{GivenBefore, sooner_or, sooner_trans, first_mention_same}
use Rattle.graphs.specs.Mentioned.{NumberedUpTo}

pub mentioned_once : (g : Graph) (n o : ℕ) (k : Mention) → Mentions g n k → Mentions g o k → n ≡ o
mentioned_once g n o (by_variable x) a b = cc (a.1, b.1)
mentioned_once g n o (by_attribute i a) h k = let e = h.1 in let f = k.1 in cc

module _ (g : Graph) where
  pub numbered_none : NumberedUpTo g (by_variable 0) 0
  numbered_none = record {
    mentioned = λ n k m s. absurd (never k s);
    firsts = λ n l. absurd (omega arith);
    rising = λ n o k l h i. absurd (omega arith);
  }
    where
      never : (k : Mention) → Sooner k (by_variable 0) → ⊥
      never (by_variable x) s = omega arith
      never (by_attribute i a) s = s

  -- d comes after c, and no mention stands between
  pub record Next (c d : Mention) : Type 0 where
    pub later : Sooner c d
    pub between : (n : ℕ) (k : Mention) → Mentions g n k → Sooner k d → Sooner k c ⊎ (k ≡ c)

  -- c mentions nothing, so that d may stand for it
  pub numbered_past : (c d : Mention) (next : ℕ) → ((k : Mention) → Sooner k c → Sooner k d) → ((n : ℕ) (k : Mention) → Mentions g n k → Sooner k d → Sooner k c) → NumberedUpTo g c next → NumberedUpTo g d next
  numbered_past c d next on back s = record {
    mentioned = λ n k m h. s.mentioned n k m (back n k m h);
    firsts = λ n l. let f = s.firsts n l in (f.0, f.1, on f.0 f.2, f.3);
    rising = s.rising;
  }

  pub numbered_known : (c d : Mention) (n next : ℕ) → Mentions g n c → n < next → Next c d → NumberedUpTo g c next → NumberedUpTo g d next
  numbered_known c d n next here below step s = record {
    mentioned = λ o k m h. pick o k m (step.between o k m h);
    firsts = λ o l. let f = s.firsts o l in (f.0, f.1, sooner_trans f.0 c d f.2 step.later, f.3);
    rising = s.rising;
  }
    where
      pick : (o : ℕ) (k : Mention) → Mentions g o k → Sooner k c ⊎ (k ≡ c) → o < next
      pick o k m (inl h) = s.mentioned o k m h
      pick o k m (inr e) = subst (λ (z : ℕ). z < next) (mentioned_once g n o c here (subst (λ (z : Mention). Mentions g o z) e m)) below

  pub numbered_new : (c d : Mention) (next : ℕ) → Mentions g next c → GivenBefore next c → Next c d → NumberedUpTo g c next → NumberedUpTo g d (next + 1)
  numbered_new c d next here before step s = record {
    mentioned = λ o k m h. pick o k m (step.between o k m h);
    firsts = λ o l. by_number o (dec_lt o next) l;
    rising = λ n o k l h i e f. by_last n o k l (dec_lt o next) h i e f;
  }
    where
      pick : (o : ℕ) (k : Mention) → Mentions g o k → Sooner k c ⊎ (k ≡ c) → o < next + 1
      pick o k m (inl h) = let b = s.mentioned o k m h in omega arith
      pick o k m (inr e) = let q = mentioned_once g next o c here (subst (λ (z : Mention). Mentions g o z) e m) in omega arith

      new_first : FirstMention g next c
      new_first = record { mentions = here; none_sooner = λ l m h. let b = s.mentioned next l m h in omega arith }

      by_number : (o : ℕ) → Dec (o < next) → o < next + 1 → (k : Mention) × FirstMention g o k × Sooner k d × GivenBefore o k
      by_number o (yes b) l = let f = s.firsts o b in (f.0, f.1, sooner_trans f.0 c d f.2 step.later, f.3)
      by_number o (no b) l =
          let same : next ≡ o = omega arith in
          subst (λ (z : ℕ). (k : Mention) × FirstMention g z k × Sooner k d × GivenBefore z k) same (c, new_first, step.later, before)

      by_last : (n o : ℕ) (k l : Mention) → Dec (o < next) → n < o → o < next + 1 → FirstMention g n k → FirstMention g o l → Sooner k l
      by_last n o k l (yes b) h i e f = s.rising n o k l h b e f
      by_last n o k l (no b) h i e f =
          let same : next ≡ o = omega arith in
          let old = s.firsts n (omega arith) in
          let k_is = first_mention_same g n old.0 k old.1 e in
          let l_is = first_mention_same g o c l (subst (λ (z : ℕ). FirstMention g z c) same new_first) f in
          subst (λ (z : Mention). Sooner k z) l_is (subst (λ (z : Mention). Sooner z c) k_is old.2)

  pub numbered_all : (next : ℕ) → g.nodes ≤ next → NumberedUpTo g (by_attribute g.nodes 0) next → BreadthFirst g
  numbered_all next enough s = record {
    mentioned = λ n l. let f = s.firsts n (omega arith) in (f.0, f.1);
    numbered_before = λ n i a l e. let f = s.firsts n (omega arith) in subst (GivenBefore n) (first_mention_same g n f.0 (by_attribute i a) f.1 e) f.3;
    rising = λ n o k l h i. s.rising n o k l h (omega arith);
  }

  -- in a breadth-first numbering
  module _ (bf : BreadthFirst g) where
    -- the next mention is of a node that has its number, or of the next
    pub mentioned_next : (c : Mention) (n next : ℕ) → n < g.nodes → Mentions g n c → NumberedUpTo g c next → next < n → ⊥
    mentioned_next c n next inside here s above =
        let o = bf.mentioned next (omega arith) in
        let f = bf.mentioned n inside in
        pick o.0 o.1 f.0 f.1 (bf.rising next n o.0 f.0 above inside o.1 f.1) (sooner_or o.0 c)
      where
        pick : (k : Mention) → FirstMention g next k → (l : Mention) → FirstMention g n l → Sooner k l → Three (Sooner k c) (k ≡ c) (Sooner c k) → ⊥
        pick k a l b h (first i) = let z = s.mentioned next k a.mentions i in omega arith
        pick k a l b h (second e) = let z = mentioned_once g next n c (subst (λ (z : Mention). Mentions g next z) e a.mentions) here in omega arith
        pick k a l b h (third i) = b.none_sooner c here (sooner_trans c k l i h)

    -- a node has its number before its attributes are gone through
    pub visited_numbered : (i next : ℕ) → i < g.nodes → NumberedUpTo g (by_attribute i 0) next → i < next
    visited_numbered i next inside s = let f = bf.mentioned i inside in by_mention f.0 f.1
      where
        by_mention : (k : Mention) → FirstMention g i k → i < next
        by_mention (by_variable x) f = s.mentioned i (by_variable x) f.mentions tt
        by_mention (by_attribute j a) f = s.mentioned i (by_attribute j a) f.mentions (inl (bf.numbered_before i j a inside f))

    -- at the end all have theirs
    pub all_numbered : (next : ℕ) → NumberedUpTo g (by_attribute g.nodes 0) next → next < g.nodes → ⊥
    all_numbered next s below = let f = bf.mentioned next below in by_mention f.0 f.1
      where
        by_mention : (k : Mention) → FirstMention g next k → ⊥
        by_mention (by_variable x) f = let z = s.mentioned next (by_variable x) f.mentions tt in omega arith
        by_mention (by_attribute j a) f = let z = s.mentioned next (by_attribute j a) f.mentions (inl f.mentions.0) in omega arith

  -- the mention after each
  pub next_variable : (x : ℕ) → Next (by_variable x) (by_variable (x + 1))
  next_variable x = record { later = omega arith; between = between }
    where
      between : (n : ℕ) (k : Mention) → Mentions g n k → Sooner k (by_variable (x + 1)) → Sooner k (by_variable x) ⊎ (k ≡ by_variable x)
      between n (by_variable y) m h = pick (dec_lt y x)
        where
          pick : Dec (y < x) → (y < x) ⊎ (by_variable y ≡ by_variable x)
          pick (yes l) = inl l
          pick (no l) = let e : y ≡ x = omega arith in inr (ap by_variable e)
      between n (by_attribute i a) m h = absurd h

  pub next_attribute : (i a : ℕ) → Next (by_attribute i a) (by_attribute i (a + 1))
  next_attribute i a = record { later = inr (refl, omega arith); between = between }
    where
      between : (n : ℕ) (k : Mention) → Mentions g n k → Sooner k (by_attribute i (a + 1)) → Sooner k (by_attribute i a) ⊎ (k ≡ by_attribute i a)
      between n (by_variable y) m h = inl tt
      between n (by_attribute j b) m (inl h) = inl (inl h)
      between n (by_attribute j b) m (inr h) = pick (dec_lt b a) h.0 h.1
        where
          pick : Dec (b < a) → j ≡ i → b < a + 1 → ((j < i) ⊎ ((j ≡ i) × (b < a))) ⊎ (by_attribute j b ≡ by_attribute i a)
          pick (yes l) e f = inl (inr (e, l))
          pick (no l) e f = let d : b ≡ a = omega arith in inr (cc)

  -- from the variables to the attributes
  pub before_attributes : (n : ℕ) (k : Mention) → Mentions g n k → Sooner k (by_attribute 0 0) → Sooner k (by_variable g.vars)
  before_attributes n (by_variable x) m h = m.0
  before_attributes n (by_attribute i a) m (inl h) = absurd (omega arith)
  before_attributes n (by_attribute i a) m (inr h) = absurd (omega (arith, h.1))

  pub to_attributes : (next : ℕ) → NumberedUpTo g (by_variable g.vars) next → NumberedUpTo g (by_attribute 0 0) next
  to_attributes next = numbered_past (by_variable g.vars) (by_attribute 0 0) next on before_attributes
    where
      on : (k : Mention) → Sooner k (by_variable g.vars) → Sooner k (by_attribute 0 0)
      on (by_variable x) h = tt
      on (by_attribute i a) h = absurd h

  -- over attributes that a node lacks
  module _ (i a b : ℕ) (lacks : (e t : ℕ) → a ≤ e → e < b → g.edge i e ≡ some t → ⊥) where
    pub before_lacked : (n : ℕ) (k : Mention) → Mentions g n k → Sooner k (by_attribute i b) → Sooner k (by_attribute i a)
    before_lacked n (by_variable x) m s = tt
    before_lacked n (by_attribute j c) m (inl s) = inl s
    before_lacked n (by_attribute j c) m (inr s) = pick (dec_lt c a)
      where
        pick : Dec (c < a) → (j < i) ⊎ ((j ≡ i) × (c < a))
        pick (yes l) = inr (s.0, l)
        pick (no l) = absurd (lacks c n (omega arith) s.1 (subst (λ (z : ℕ). g.edge z c ≡ some n) s.0 m.1))

    pub over_attribute : (next : ℕ) → a ≤ b → NumberedUpTo g (by_attribute i a) next → NumberedUpTo g (by_attribute i b) next
    over_attribute next h = numbered_past (by_attribute i a) (by_attribute i b) next on before_lacked
      where
        on : (k : Mention) → Sooner k (by_attribute i a) → Sooner k (by_attribute i b)
        on (by_variable x) s = tt
        on (by_attribute j c) (inl s) = inl s
        on (by_attribute j c) (inr s) = inr (s.0, omega (arith, s.1))

  -- from the last attribute of a node to the next node
  module _ (i b : ℕ) (lacks : (e t : ℕ) → b ≤ e → g.edge i e ≡ some t → ⊥) where
    pub before_next_node : (n : ℕ) (k : Mention) → Mentions g n k → Sooner k (by_attribute (i + 1) 0) → Sooner k (by_attribute i b)
    before_next_node n (by_variable x) m s = tt
    before_next_node n (by_attribute j c) m (inl s) = pick (dec_lt j i) (dec_lt c b)
      where
        pick : Dec (j < i) → Dec (c < b) → (j < i) ⊎ ((j ≡ i) × (c < b))
        pick (yes l) d = inl l
        pick (no l) (yes d) = inr (omega arith, d)
        pick (no l) (no d) =
            let e : j ≡ i = omega arith in
            absurd (lacks c n (omega arith) (subst (λ (z : ℕ). g.edge z c ≡ some n) e m.1))
    before_next_node n (by_attribute j c) m (inr s) = absurd (omega (arith, s.1))

    pub to_next_node : (next : ℕ) → NumberedUpTo g (by_attribute i b) next → NumberedUpTo g (by_attribute (i + 1) 0) next
    to_next_node next = numbered_past (by_attribute i b) (by_attribute (i + 1) 0) next on before_next_node
      where
        on : (k : Mention) → Sooner k (by_attribute i b) → Sooner k (by_attribute (i + 1) 0)
        on (by_variable x) s = tt
        on (by_attribute j c) (inl s) = inl (omega arith)
        on (by_attribute j c) (inr s) = inl (omega (arith, s.0))
