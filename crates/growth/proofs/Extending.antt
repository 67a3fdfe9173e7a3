-- A graph with one node more, on which nothing but the top stands: what it stands for.
use mathlib.Core.Path.{◌≡◌, refl, sym, subst, ◌∙◌}
use mathlib.Core.Logic.{◌⊎◌, inl, inr}
use mathlib.Core.Bool.{true}
use mathlib.Core.Option.{Option, some}
use mathlib.Core.List.{List, Memᴰ}
use Prim.Native.Nat.{ℕ, suc, ◌<◌, ◌≤◌}
use native.Mathlib.Omega.{arith}
use native.Mathlib.Decide.{dec_lt}
use Rattle.kinds.specs.Meaning.{Meaning, Lawful}
use Rattle.features.specs.Terms.{Term, Statement, is}
use Rattle.features.specs.Graphs.{Graph, Denotes}
use Rattle.features.specs.Closing.{Joined, Came, top, said_of}
use Rattle.features.proofs.Paths.{denotes_one}
use Rattle.growth.specs.Standing.{Judged, greatest, Stands}
use Rattle.growth.specs.Theorems.{AllFollow}
use Rattle.growth.proofs.Agreeing.{Agrees, agreeing_joins, shape_agrees}
use Rattle.growth.proofs.Redundant.{said_follows, joined_widens, came_widens, judged_same}

-- h has one node more than g, which the terms of New denote; said' says of it no more than the top
pub record Extends (m : Meaning) (g : Graph) (vars : ℕ) (said : List Statement) (New : Term → Type 0) (h : Graph) (vars' : ℕ) (said' : List Statement) : Type 0 where
  pub nodes : h.nodes ≡ suc g.nodes
  pub all : h.vars ≡ vars'
  pub declared : vars ≤ vars'
  pub keeps : (p : Term) (n : ℕ) → Denotes g p n → Denotes h p n
  pub splits : (p : Term) (n : ℕ) → Denotes h p n → Denotes g p n ⊎ (New p × (n ≡ g.nodes))
  pub new : (p : Term) × Denotes h p g.nodes
  pub new_joined : (p q : Term) → New p → New q → Joined vars' said' p q
  pub more : (s : Statement) → Memᴰ s said → Memᴰ s said'
  pub agrees : Agrees h said'
  pub tops : (q : Term) (v : ℕ) → Memᴰ (is q v) said' → Memᴰ (is q v) said ⊎ (v ≡ m.top)

module _ (m : Meaning) (lawful : Lawful m) (g h : Graph) (state state' : ℕ → Option ℕ) (vars vars' : ℕ) (said said' : List Statement) (New : Term → Type 0) (stands : Stands m g state vars said) (extends : Extends m g vars said New h vars' said') where
  joins : {p q : Term} → Joined vars' said' p q → (n : ℕ) × Denotes h p n × Denotes h q n
  joins j = agreeing_joins h vars' said' (omega (arith, extends.all)) extends.agrees j

  each_follows : AllFollow m vars' said' said
  each_follows s i = said_follows m vars' s (extends.more s i)

  -- of what was said before, a term that is joined now denotes the same node
  said_node : (p q : Term) (n v : ℕ) → Denotes h p n → Memᴰ (is q v) said → Joined vars' said' p q → Denotes g q n
  said_node p q n v d i j =
      let a = shape_agrees g vars said stands.shape (is q v) i in
      let b = joins j in
      subst (λ (z : ℕ). Denotes g q z) (denotes_one h q a.0 b.0 (extends.keeps q a.0 a.1) b.2 ∙ denotes_one h p b.0 n b.1 d) a.1

  came_before : (p : Term) (n : ℕ) → Denotes g p n → (w : ℕ) → Came m vars' said' p w → Came m vars said p w
  came_before p n d w top = top
  came_before p n d w (said_of q v i j) = pick (extends.tops q v i)
    where
      pick : Memᴰ (is q v) said ⊎ (v ≡ m.top) → Came m vars said p v
      pick (inl i') = said_of q v i' (stands.shape.nothing_else p q n d (said_node p q n v (extends.keeps p n d) i' j))
      pick (inr e) = subst (λ (z : ℕ). Came m vars said p z) (sym e) top

  only_top : (p : Term) → Denotes h p g.nodes → (w : ℕ) → Came m vars' said' p w → w ≡ m.top
  only_top p d w top = refl
  only_top p d w (said_of q v i j) = pick (extends.tops q v i)
    where
      pick : Memᴰ (is q v) said ⊎ (v ≡ m.top) → v ≡ m.top
      pick (inl i') = absurd (omega (arith, stands.shape.inside q g.nodes (said_node p q g.nodes v d i' j)))
      pick (inr e) = e

  top_there : (p : Term) → Denotes h p g.nodes → Judged m vars' said' p (some m.top)
  top_there p d = greatest (λ w c. subst (λ (z : ℕ). m.below m.top z ≡ true) (sym (only_top p d w c)) (lawful.same m.top lawful.top_value), λ u under. under m.top top)

  one_node : (p q : Term) (n : ℕ) → Denotes h p n → Denotes h q n → Joined vars' said' p q
  one_node p q n d e = pick (extends.splits p n d) (extends.splits q n e)
    where
      pick : Denotes g p n ⊎ (New p × (n ≡ g.nodes)) → Denotes g q n ⊎ (New q × (n ≡ g.nodes)) → Joined vars' said' p q
      pick (inl d') (inl e') = joined_widens {m = m} extends.declared each_follows (stands.shape.nothing_else p q n d' e')
      pick (inl d') (inr e') = absurd (omega (arith, stands.shape.inside p n d', e'.1))
      pick (inr d') (inl e') = absurd (omega (arith, stands.shape.inside q n e', d'.1))
      pick (inr d') (inr e') = extends.new_joined p q d'.0 e'.0

  reached_there : (n : ℕ) → n < h.nodes → (p : Term) × Denotes h p n
  reached_there n lt = pick (dec_lt n g.nodes)
    where
      pick : Dec (n < g.nodes) → (p : Term) × Denotes h p n
      pick (yes old) = let r = stands.shape.reached n old in (r.0, extends.keeps r.0 n r.1)
      pick (no out) =
          let e : g.nodes ≡ n = omega (arith, lt, out, extends.nodes) in
          subst (λ (z : ℕ). (p : Term) × Denotes h p z) e extends.new

  inside_there : (p : Term) (n : ℕ) → Denotes h p n → n < h.nodes
  inside_there p n d = pick (extends.splits p n d)
    where
      pick : Denotes g p n ⊎ (New p × (n ≡ g.nodes)) → n < h.nodes
      pick (inl d') = omega (arith, stands.shape.inside p n d', extends.nodes)
      pick (inr d') = omega (arith, d'.1, extends.nodes)

  pub extended_stands : ((n : ℕ) → n < g.nodes → state' n ≡ state n) → state' g.nodes ≡ some m.top → Stands m h state' vars' said'
  extended_stands states stands-new = record {
    shape = record { all = extends.all; joined = λ p q j. joins j; nothing_else = one_node; reached = reached_there; inside = inside_there };
    judged = λ p n d. judged_there p n d (extends.splits p n d);
  }
    where
      judged_there : (p : Term) (n : ℕ) → Denotes h p n → Denotes g p n ⊎ (New p × (n ≡ g.nodes)) → Judged m vars' said' p (state' n)
      judged_there p n d (inl d') =
          rw (states n (stands.shape.inside p n d')) (judged_same (λ w c. came_widens extends.declared each_follows c) (came_before p n d') (stands.judged p n d'))
      judged_there p n d (inr d') =
          subst (λ (z : ℕ). Judged m vars' said' p (state' z)) (sym d'.1) (rw stands-new (top_there p (subst (λ (z : ℕ). Denotes h p z) d'.1 d)))
