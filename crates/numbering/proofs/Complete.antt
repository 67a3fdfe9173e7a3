-- Where every numbered node was visited, the numbers are breadth first.
use Rattle.std.proofs.Common.{◌≡◌, ℕ, ◌<◌, ◌⊎◌, [], vec_len, sym, refl, ap, ◌∙◌, subst, subst₂, inl, inr, arith}
use mathlib.Core.Option.{Option, some, map, map-eq-some_iff}
use Rattle.features.specs.Graphs.{Graph}
use Rattle.features.specs.Numbering.{Mention, by_variable, by_attribute, Mentions, Sooner, FirstMention, BreadthFirst, Inside}
use Rattle.features.proofs.Numbering.{first_mention_same, breadth_first_in_order}
use Rattle.growth.specs.Joins.{Numbering, renumbered}
use Rattle.numbering.specs.declared.numbers.Numbers.{Numbers}
use Rattle.numbering.specs.Given.{ord, num, given}
use Rattle.numbering.specs.Frontier.{MentionsNode, NumberedBefore, Underway, Numbered}
use Rattle.numbering.proofs.Frontiers.{few}

module _ (g : Graph) (count : ℕ) (o n : ℕ → ℕ) where
  -- the nodes of a numbering lead to one another
  pub inside_numbers : Numbering g count o n → Inside (renumbered g count o n)
  inside_numbers of = record {
    edges = λ k a t lt e.
        let y = (map-eq-some_iff n (g.edge (o k) a)).0 e in
        subst (λ (z : ℕ). z < count) y.2 (of.edges k a y.0 lt y.1).0;
    roots = λ x lt. (of.roots x lt).0;
  }

  module _ (gi : ℕ → Mention) (at : NumberedBefore g (by_attribute count 0) count o n gi) where
    -- every mention was seen
    has : (y : ℕ) (l : Mention) → MentionsNode g count o y l → (n y < count) × (o (n y) ≡ y) × (Sooner l (gi (n y)) → ⊥)
    has y (by_variable x) p = at.all y (by_variable x) p tt
    has y (by_attribute i a) p = at.all y (by_attribute i a) p (inl p.0)

    pub numbering : Numbering g count o n
    numbering = record {
      inside = at.inside;
      numbered = at.numbered;
      found = λ k lt. found k (gi k) (at.mentioned k lt);
      roots = λ x lt. let r = has (g.root x) (by_variable x) (lt, refl) in (r.0, r.1);
      edges = λ k a y lt e. let r = has y (by_attribute k a) (lt, e) in (r.0, r.1);
    }
      where
        found : (k : ℕ) (l : Mention) → MentionsNode g k o (o k) l → ((x : ℕ) × (x < g.vars) × (g.root x ≡ o k)) ⊎ ((j : ℕ) × (a : ℕ) × (j < k) × (g.edge (o j) a ≡ some (o k)))
        found k (by_variable x) p = inl (x, p.0, p.1)
        found k (by_attribute j a) p = inr (j, a, p.0, p.1)

    -- a mention of a number is a mention of its node
    of_node : (k : ℕ) (l : Mention) → Mentions (renumbered g count o n) k l → (y : ℕ) × MentionsNode g count o y l × (n y ≡ k)
    of_node k (by_variable x) p = (g.root x, (p.0, refl), p.1)
    of_node k (by_attribute i a) p = let y = (map-eq-some_iff n (g.edge (o i) a)).0 p.1 in (y.0, (p.0, y.1), y.2)

    of_number : (k : ℕ) (l : Mention) → k < count → MentionsNode g k o (o k) l → Mentions (renumbered g count o n) k l
    of_number k (by_variable x) lt p = (p.0, ap n p.1 ∙ at.numbered k lt)
    of_number k (by_attribute i a) lt p = (omega (arith, p.0), ap (λ (z : Option ℕ). map n z) p.1 ∙ ap some (at.numbered k lt))

    pub first_mention : (k : ℕ) → k < count → FirstMention (renumbered g count o n) k (gi k)
    first_mention k lt = record {
      mentions = of_number k (gi k) lt (at.mentioned k lt);
      none_sooner = λ l p s.
          let y = of_node k l p in
          (has y.0 l y.1).2 (subst (λ (z : ℕ). Sooner l (gi z)) (sym y.2) s);
    }

    pub breadth_first : BreadthFirst (renumbered g count o n)
    breadth_first = record {
      mentioned = λ k lt. (gi k, first_mention k lt);
      numbered_before = λ k i a lt f.
          let e = first_mention_same (renumbered g count o n) k (gi k) (by_attribute i a) (first_mention k lt) f in
          let p : MentionsNode g k o (o k) (by_attribute i a) = subst (λ (z : Mention). MentionsNode g k o (o k) z) e (at.mentioned k lt) in
          p.0;
      rising = λ j k l m lt in_c p q.
          let j_in : j < count = omega arith in
          subst₂ (λ (y z : Mention). Sooner y z)
          (first_mention_same (renumbered g count o n) j (gi j) l (first_mention j j_in) p)
          (first_mention_same (renumbered g count o n) k (gi k) m (first_mention k in_c) q)
          (at.rising j k lt in_c);
    }

pub complete : (g : Graph) (n : Numbers) → Underway g (by_attribute (vec_len n.listed) 0) (vec_len n.listed) n [] → Numbered g n
complete g n at =
    let order = numbering g (vec_len n.listed) (ord n) (num n) (given n) at.numbered in
    let first = breadth_first g (vec_len n.listed) (ord n) (num n) (given n) at.numbered in
    record {
      few = few g (by_attribute (vec_len n.listed) 0) (vec_len n.listed) (ord n) (num n) (given n) at.numbered;
      numbering = order;
      breadth_first = first;
      in_order = breadth_first_in_order (renumbered g (vec_len n.listed) (ord n) (num n)) (inside_numbers g (vec_len n.listed) (ord n) (num n) order) first;
      first = first_mention g (vec_len n.listed) (ord n) (num n) (given n) at.numbered;
    }
