-- The attributes of a row, from the lowest up.
use Rattle.std.proofs.Common.{◌≡◌, ℕ, ◌+◌, ◌<◌, ◌≤◌, Bool, true, false, ◌⊎◌, List, [], ◌∷◌, ◌++◌, length, vec_items, vec_len, sym, refl, ap, ◌∙◌, subst, inl, inr, arith}
use mathlib.Core.Option.{some}
use Rattle.std.proofs.lemmas.Bool.{both_ways, cases_lt, cases_eq}
use Rattle.kinds.specs.Masks.{has}
use Rattle.kinds.specs.BitSets.{has_none}
use Rattle.features.specs.Graphs.{Graph}
use Rattle.features.specs.Numbering.{Mention, by_variable, by_attribute, Sooner}
use Rattle.tables.specs.declared.node.Node.{Node}
use Rattle.tables.specs.declared.table.Table.{Table}
use Rattle.tables.specs.Views.{row as row_of, edge_of, graph, Sound}
use Rattle.tables.specs.Attributes.{Lowest, WithoutLowest}
use Rattle.tables.proofs.Leading.{not_present}
use Rattle.tables.proofs.Walking.{nowhere}
use Rattle.numbering.specs.declared.mention.Mention.TheVariants.{Attribute}
use Rattle.numbering.specs.declared.numbers.Numbers.{Numbers}
use Rattle.numbering.specs.Given.{ord, HasNumber, Next}
use Rattle.numbering.specs.Frontier.{MentionsNode, Underway}
use Rattle.numbering.proofs.Frontiers.{attribute_follows}
use Rattle.numbering.proofs.Steps.{on_to, free, mentioned, order_stays}

-- what is left of a set without the attributes below a
pub record Left (present left a : ℕ) : Type 0 where
  pub below : (b : ℕ) → b < a → has left b ≡ false
  pub above : (b : ℕ) → a ≤ b → has left b ≡ has present b

pub all_left : (present : ℕ) → Left present present 0
all_left present = record { below = λ b lt. absurd (omega arith); above = λ b le. refl }

-- an attribute of a row is in its set
pub edge_present : (r : Node) (b y : ℕ) → edge_of r b ≡ some y → has r.present b ≡ true
edge_present r b y e = pick (has r.present b) refl
  where
    pick : (p : Bool) → has r.present b ≡ p → has r.present b ≡ true
    pick true h = h
    pick false h = absurd (nowhere (edge_of r b) (not_present r b h) e)

module _ (set left a b : ℕ) (at : Left set left a) (lowest : Lowest left b) where
  pub lowest_above : a ≤ b
  lowest_above = elim (cases_lt b a) [ inl lt ↦ absurd (both_ways (has left b) (at.below b lt) lowest.present) | inr le ↦ le ]

  pub one_less : (rest : ℕ) → WithoutLowest left rest → Left set rest (b + 1)
  one_less rest w = record {
    below = λ c lt. elim (cases_eq c b) [ inl e ↦ subst (λ (z : ℕ). has rest z ≡ false) (sym e) (w.gone b lowest) | inr ne ↦ w.others b c lowest ne ∙ lowest.none_lower c (omega arith) ];
    above = λ c le. let ab = lowest_above in let ne : c ≡ b → ⊥ = λ e. omega arith in w.others b c lowest ne ∙ at.above c (omega arith);
  }

module _ (g : Graph) (v i a : ℕ) (n : Numbers) (waits : List ℕ) (r : Node) (left : ℕ) (is : (b : ℕ) → g.edge (ord n i) b ≡ edge_of r b) (set : Left r.present left a) (at : Underway g (by_attribute i a) v n waits) where
  -- between a and the lowest attribute that is left there is none
  pub to_lowest : (b : ℕ) → Lowest left b → Underway g (by_attribute i b) v n waits
  to_lowest b lowest = on_to g (by_attribute i a) (by_attribute i b) v n waits at before none_between
    where
      before : (h : Mention) → Sooner h (by_attribute i a) → Sooner h (by_attribute i b)
      before (by_variable x) s = tt
      before (by_attribute j c) (inl s) = inl s
      before (by_attribute j c) (inr s) = inr (s.0, omega (arith, s.1, lowest_above r.present left a b set lowest))

      none_between : (y : ℕ) (l : Mention) → MentionsNode g (vec_len n.listed) (ord n) y l → Sooner l (by_attribute i b) → Sooner l (by_attribute i a)
      none_between y (by_variable x) p s = tt
      none_between y (by_attribute j c) p (inl s) = inl s
      none_between y (by_attribute j c) p (inr (e, lt)) =
          let on : edge_of r c ≡ some y = sym (is c) ∙ subst (λ (z : ℕ). g.edge (ord n z) c ≡ some y) e p.1 in
          elim (cases_lt c a) [
            | inl l ↦ inr (e, l)
            | inr l ↦ absurd (both_ways (has left c) (lowest.none_lower c lt) (set.above c l ∙ edge_present r c y on))
          ]

  -- no attribute is left
  pub to_next : left ≡ 0 → Underway g (by_attribute (i + 1) 0) v n waits
  to_next none_left = on_to g (by_attribute i a) (by_attribute (i + 1) 0) v n waits at before none_between
    where
      before : (h : Mention) → Sooner h (by_attribute i a) → Sooner h (by_attribute (i + 1) 0)
      before (by_variable x) s = tt
      before (by_attribute j c) (inl s) = inl (omega arith)
      before (by_attribute j c) (inr s) = inl (omega (arith, s.0))

      none_between : (y : ℕ) (l : Mention) → MentionsNode g (vec_len n.listed) (ord n) y l → Sooner l (by_attribute (i + 1) 0) → Sooner l (by_attribute i a)
      none_between y (by_variable x) p s = tt
      none_between y (by_attribute j c) p (inr s) = absurd (omega (arith, s.1))
      none_between y (by_attribute j c) p (inl s) = pick (cases_eq j i) (cases_lt c a)
        where
          pick : (j ≡ i) ⊎ (j ≡ i → ⊥) → (c < a) ⊎ (a ≤ c) → (j < i) ⊎ ((j ≡ i) × (c < a))
          pick (inr ne) l = inl (omega arith)
          pick (inl e) (inl l) = inr (e, l)
          pick (inl e) (inr l) =
              let on : edge_of r c ≡ some y = sym (is c) ∙ subst (λ (z : ℕ). g.edge (ord n z) c ≡ some y) e p.1 in
              absurd (both_ways (has left c) (ap (λ (z : ℕ). has z c) none_left ∙ has_none c) (set.above c l ∙ edge_present r c y on))

-- one turn of a visit: row i of the order is this one, and its attributes below a were visited
module _ (t : Table) (sound : Sound t) (row : ℕ) (row_in : row < vec_len t.rows) (n : Numbers) (i : ℕ) (order : ord n i ≡ row) (waits : List ℕ) (left a : ℕ)
    (set : Left (row_of (vec_items t.rows) row).present left a) (at : Underway (graph t) (by_attribute i a) (i + 1) n waits) where
  edges : (b : ℕ) → (graph t).edge (ord n i) b ≡ (graph t).edge row b
  edges b = ap (λ (z : ℕ). (graph t).edge z b) order

  pub visit_done : left ≡ 0 → Underway (graph t) (by_attribute (i + 1) 0) (i + 1) n waits
  visit_done e = to_next (graph t) (i + 1) i a n waits (row_of (vec_items t.rows) row) left edges set at e

  module _ (b target : ℕ) (lowest : Lowest left b) (leads : (graph t).edge row b ≡ some target) where
    pub target_in : target < vec_len t.rows
    target_in = sound.edges_inside row b target row_in leads

    before_target : Underway (graph t) (by_attribute i b) (i + 1) n waits
    before_target = to_lowest (graph t) (i + 1) i a n waits (row_of (vec_items t.rows) row) left edges set at b lowest

    pub target_free : (room : ℕ) → 272 ≤ room → (HasNumber n target → ⊥) → (vec_len n.listed < 272) × (length waits < room)
    target_free room space = free (graph t) (by_attribute i a) (i + 1) n waits target room at sound.rows space target_in

    module _ (n' : Numbers) (waits' : List ℕ) (if-known : HasNumber n target → (n' ≡ n) × (waits' ≡ waits)) (if-fresh : (HasNumber n target → ⊥) → Next n n' target (Attribute i b) × (waits' ≡ waits ++ (target ∷ []))) where
      here : MentionsNode (graph t) (vec_len n.listed) (ord n) target (by_attribute i b)
      here = (omega (arith, at.visited), edges b ∙ leads)

      pub target_mentioned : Underway (graph t) (by_attribute i (b + 1)) (i + 1) n' waits'
      target_mentioned = mentioned (graph t) (by_attribute i b) (by_attribute i (b + 1)) (i + 1) n n' waits waits' target (Attribute i b) before_target (attribute_follows i b) refl sound.rows target_in here if-known if-fresh

      pub row_stays : ord n' i ≡ row
      row_stays = order_stays (graph t) (by_attribute i b) (by_attribute i (b + 1)) (i + 1) n n' waits waits' target (Attribute i b) before_target (attribute_follows i b) refl sound.rows target_in here if-known if-fresh i (omega (arith, at.visited)) ∙ order
