-- The attributes of a row gone through from the lowest up.
use Rattle.std.proofs.Common.{◌≡◌, ℕ, ◌+◌, ◌<◌, ◌≤◌, false, sym, refl, ap, ◌∙◌, inl, inr, arith}
use mathlib.Core.Option.{some, none}
use native.Mathlib.Decide.{dec_lt}
use Rattle.std.proofs.lemmas.Bool.{both_ways}
use Rattle.kinds.specs.Masks.{has}
use Rattle.kinds.specs.BitSets.{has_none}
use Rattle.features.specs.Graphs.{Graph}
use Rattle.features.specs.Numbering.{Mention, by_attribute, Mentions}
use Rattle.features.proofs.Numbering.{GivenBefore}
use Rattle.tables.specs.Attributes.{Lowest, WithoutLowest}
use Rattle.tables.specs.declared.node.Node.{Node}
use Rattle.tables.specs.Views.{edge_of}
use Rattle.tables.proofs.Leading.{not_present}
use Rattle.tables.proofs.Walking.{nowhere}
use Rattle.graphs.specs.Mentioned.{NumberedUpTo, WithMention, LeftFrom}
use Rattle.graphs.proofs.Numbering.{Next, numbered_known, numbered_new, next_attribute, over_attribute, to_next_node}

pub numbered_with : (g : Graph) (c d : Mention) (n next r : ℕ) → Mentions g n c → (n ≡ next → GivenBefore next c) → Next g c d → WithMention next n r → NumberedUpTo g c next → NumberedUpTo g d r
numbered_with g c d n next r here before step (inl h) s = rw h.1 (numbered_known g c d n next here h.0 step s)
numbered_with g c d n next r here before step (inr h) s = rw h.1 (numbered_new g c d next (rw h.0 at here) (before h.0) step s)

pub left_start : (p : ℕ) → LeftFrom p p 0
left_start p = record { gone = λ b l. absurd (omega arith); kept = λ b l. refl }

module _ (r : Node) (left a : ℕ) (from : LeftFrom r.present left a) where
  -- all are gone through
  pub none_left : left ≡ 0 → (b : ℕ) → a ≤ b → edge_of r b ≡ none
  none_left e b l = not_present r b (sym (from.kept b l) ∙ ap (λ (z : ℕ). has z b) e ∙ has_none b)

  module _ (x : ℕ) (low : Lowest left x) where
    pub lowest_from : a ≤ x
    lowest_from = pick (dec_lt x a)
      where
        pick : Dec (x < a) → a ≤ x
        pick (yes l) = absurd (both_ways (has left x) (from.gone x l) low.present)
        pick (no l) = omega arith

    pub lacked_between : (b : ℕ) → a ≤ b → b < x → edge_of r b ≡ none
    lacked_between b l h = not_present r b (sym (from.kept b l) ∙ low.none_lower b h)

    pub left_next : (rest : ℕ) → WithoutLowest left rest → LeftFrom r.present rest (x + 1)
    left_next rest w = record { gone = λ b l. gone b (dec_lt b x) l; kept = λ b l. w.others x b low (λ e. omega arith) ∙ from.kept b (omega (arith, lowest_from)) }
      where
        gone : (b : ℕ) → Dec (b < x) → b < x + 1 → has rest b ≡ false
        gone b (yes h) l = w.others x b low (λ e. omega arith) ∙ low.none_lower b h
        gone b (no h) l = let e : b ≡ x = omega arith in ap (has rest) e ∙ w.gone x low

  -- how the numbering goes on, where r is the row of node i
  module _ (g : Graph) (i : ℕ) (is : (b : ℕ) → g.edge i b ≡ edge_of r b) where
    pub no_edge_left : left ≡ 0 → (b t : ℕ) → a ≤ b → g.edge i b ≡ some t → ⊥
    no_edge_left e b t l = nowhere (g.edge i b) (is b ∙ none_left e b l)

    pub no_edge_between : (x : ℕ) → Lowest left x → (b t : ℕ) → a ≤ b → b < x → g.edge i b ≡ some t → ⊥
    no_edge_between x low b t l h = nowhere (g.edge i b) (is b ∙ lacked_between x low b l h)

    module _ (next : ℕ) (s : NumberedUpTo g (by_attribute i a) next) where
      pub numbered_node : left ≡ 0 → NumberedUpTo g (by_attribute (i + 1) 0) next
      numbered_node e = to_next_node g i a (no_edge_left e) next s

      pub numbered_here : (x : ℕ) → Lowest left x → NumberedUpTo g (by_attribute i x) next
      numbered_here x low = over_attribute g i a x (no_edge_between x low) next (lowest_from x low) s

      pub numbered_more : (x t o : ℕ) → Lowest left x → edge_of r x ≡ some t → i < g.nodes → i < next → WithMention next t o → NumberedUpTo g (by_attribute i (x + 1)) o
      numbered_more x t o low leads inside before w =
          numbered_with g (by_attribute i x) (by_attribute i (x + 1)) t next o (inside, is x ∙ leads) (λ e. before) (next_attribute g i x) w (numbered_here x low)

pub with_mention_most : (next n r most : ℕ) → n < most → next ≤ most → WithMention next n r → (next ≤ r) × (r ≤ most)
with_mention_most next n r most l h (inl w) = (omega (arith, w.1), omega (arith, w.1))
with_mention_most next n r most l h (inr w) = (omega (arith, w.1), omega (arith, w.0, w.1))
