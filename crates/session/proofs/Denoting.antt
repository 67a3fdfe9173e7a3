-- Nodes that terms denote.
use Rattle.std.proofs.Common.{◌≡◌, ℕ, ◌<◌, Bool, eqb, ◌⊎◌, Some, None, MatchBool, Option, sym, subst, inl, inr, MatchOption, vec_len}
use Rattle.std.proofs.lemmas.Bool.{eq-eqb, ne_eqb, cases_eq}
use Rattle.features.specs.Terms.{Term}
use Rattle.features.specs.Graphs.{Graph, Leads, Denotes}
use Rattle.features.proofs.Paths.{denotes_one}
use Rattle.growth.specs.Joins.{OneNode}
use Rattle.tables.specs.declared.table.Table.{Table}
use Rattle.tables.specs.Views.{graph}

-- two terms denote one node exactly where their nodes are equal
pub one_where_equal : (g : Graph) (p q : Term) (a b : ℕ) → Denotes g p a → Denotes g q b → MatchBool (eqb a b) (OneNode g p q) (OneNode g p q → ⊥)
one_where_equal g p q a b d e = pick (cases_eq a b)
  where
    pick : (a ≡ b) ⊎ (a ≡ b → ⊥) → MatchBool (eqb a b) (OneNode g p q) (OneNode g p q → ⊥)
    pick (inl same) =
        subst (λ (t : Bool). MatchBool t (OneNode g p q) (OneNode g p q → ⊥)) (sym (eq-eqb a b same))
        (a, d, subst (λ (z : ℕ). Denotes g q z) (sym same) e)
    pick (inr other) =
        subst (λ (t : Bool). MatchBool t (OneNode g p q) (OneNode g p q → ⊥)) (sym (ne_eqb a b other))
        (λ r. other (rw (denotes_one g p a r.0 d r.1) (denotes_one g q r.0 b r.2 e)))

-- a declared variable's node is where its path leads from its root
pub found_from_root : (t : Table) (p : Term) (root : ℕ) → p.var < vec_len t.roots → root ≡ (graph t).root p.var → (o : Option ℕ)
    → MatchOption o ((n : ℕ) → Leads (graph t) root p.path n → ⊥) (λ n. Leads (graph t) root p.path n × (n < vec_len t.rows))
    → MatchOption o ((n : ℕ) → Denotes (graph t) p n → ⊥) (λ n. Denotes (graph t) p n × (n < vec_len t.rows))
found_from_root t p root l e None never = λ n d. never n (subst (λ (z : ℕ). Leads (graph t) z p.path n) (sym e) d.1)
found_from_root t p root l e (Some n) (leads, inside) = ((l, subst (λ (z : ℕ). Leads (graph t) z p.path n) e leads), inside)
