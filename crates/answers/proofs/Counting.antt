-- Two graphs that hold the same statements have equally many nodes.
use Rattle.std.proofs.Common.{◌≡◌, ℕ, zero, suc, ◌-◌, ◌<◌, ◌≤◌, ◌⊎◌, List, refl, subst, inl, inr, arith}
use Rattle.kinds.specs.Meaning.{Meaning}
use Rattle.features.specs.Terms.{Term, Statement}
use Rattle.features.specs.Graphs.{Graph, Denotes}
use Rattle.features.specs.Holding.{Holds}
use Rattle.features.proofs.Paths.{denotes_one}
use Rattle.features.proofs.TotalOrder.{Three, first, second, third, compare}
use Rattle.answers.specs.Theorems.{EquallyManyNodes}

-- who has the place `from` moves to the place `to`, whose holder is gone
abbrev Moved : (from to : ℕ) → (ℕ → ℕ → Type 0) → ℕ → ℕ → Type 0
Moved from to At n k = ((k ≡ to → ⊥) × At n k) ⊎ ((k ≡ to) × At n from)

-- each of the first numbers has one of so many places, and no two share one: so there are no more numbers than places
pub no_more_than_places : (numbers places : ℕ) (At : ℕ → ℕ → Type 0)
    → ((n : ℕ) → n < numbers → (k : ℕ) × (k < places) × At n k)
    → ((n i k : ℕ) → n < numbers → i < numbers → At n k → At i k → n ≡ i) → numbers ≤ places
no_more_than_places zero places At place alone = omega arith
no_more_than_places (suc a) places At place alone =
    let fewer : a ≤ places - 1 = no_more_than_places a (places - 1) (Moved (places - 1) gone.0 At) moved moved_alone in
    omega (arith, gone.1)
  where
    gone : (k : ℕ) × (k < places) × At a k
    gone = place a (omega arith)

    move : (n k : ℕ) → n < a → k < places → At n k → Three (k < places - 1) (k ≡ places - 1) (places - 1 < k) → (k ≡ gone.0 → ⊥) → (k : ℕ) × (k < places - 1) × Moved (places - 1) gone.0 At n k
    move n k l o at (first h) other = (k, h, inl (other, at))
    move n k l o at (second e) other = (gone.0, omega (arith, gone.1), inr (refl, subst (λ (z : ℕ). At n z) e at))
    move n k l o at (third h) other = absurd (omega arith)

    moved : (n : ℕ) → n < a → (k : ℕ) × (k < places - 1) × Moved (places - 1) gone.0 At n k
    moved n l =
        let r = place n (omega arith) in
        move n r.0 l r.1 r.2 (compare r.0 (places - 1)) (λ e.
        let same : n ≡ a = alone n a gone.0 (omega arith) (omega arith) (subst (λ (z : ℕ). At n z) e r.2) gone.2 in
        omega arith)

    moved_alone : (n i k : ℕ) → n < a → i < a → Moved (places - 1) gone.0 At n k → Moved (places - 1) gone.0 At i k → n ≡ i
    moved_alone n i k l o (inl p) (inl q) = alone n i k (omega arith) (omega arith) p.1 q.1
    moved_alone n i k l o (inl p) (inr q) = absurd (p.0 q.0)
    moved_alone n i k l o (inr p) (inl q) = absurd (q.0 p.0)
    moved_alone n i k l o (inr p) (inr q) = alone n i (places - 1) (omega arith) (omega arith) p.1 q.1

module _ (m : Meaning) (g h : Graph) (kept kept' : List Statement) (vars : ℕ) (said : List Statement) (holds : Holds m g kept vars said) (holds' : Holds m h kept' vars said) where
  -- each node has its place where its terms lead there
  pub no_more_nodes : g.nodes ≤ h.nodes
  no_more_nodes = no_more_than_places g.nodes h.nodes (λ n k. (p : Term) × Denotes g p n × Denotes h p k) place alone
    where
      place : (n : ℕ) → n < g.nodes → (k : ℕ) × (k < h.nodes) × ((p : Term) × Denotes g p n × Denotes h p k)
      place n lt =
          let r = holds.reached n lt in
          let d = holds'.joined r.0 r.0 (holds.nothing_else r.0 r.0 n r.1 r.1) in
          (d.0, holds'.inside r.0 d.0 d.1, (r.0, r.1, d.1))

      alone : (n i k : ℕ) → n < g.nodes → i < g.nodes → (p : Term) × Denotes g p n × Denotes h p k → (p : Term) × Denotes g p i × Denotes h p k → n ≡ i
      alone n i k l o (p, d, e) (q, d', e') =
          let b = holds.joined p q (holds'.nothing_else p q k e e') in
          let left = denotes_one g p n b.0 d b.1 in
          let right = denotes_one g q i b.0 d' b.2 in
          cc

pub equally_many_nodes : EquallyManyNodes
equally_many_nodes m g h kept kept' vars said holds holds' =
    let left = no_more_nodes m g h kept kept' vars said holds holds' in
    let right = no_more_nodes m h g kept' kept vars said holds' holds in
    omega arith
