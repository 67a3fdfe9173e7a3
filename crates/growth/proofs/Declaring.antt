-- The empty graph stands for nothing said, and one variable more adds nothing to what was said.
use mathlib.Core.Path.{◌≡◌, sym, ap, subst, subst₂, ◌∙◌}
use mathlib.Core.Logic.{◌⊎◌, inl, inr}
use mathlib.Core.Option.{Option}
use mathlib.Core.List.Memᴰ
use mathlib.Core.List.{List, []}
use Prim.Native.Nat.{ℕ, suc, ◌<◌}
use native.Mathlib.Omega.{arith}
use native.Mathlib.Decide.{dec_lt}
use Rattle.kinds.specs.Meaning.{Meaning, Lawful}
use Rattle.features.specs.Terms.{Term, Statement, only}
use Rattle.features.specs.Graphs.{Graph, Leads, here, Denotes}
use Rattle.features.specs.Closing.{Joined, variable}
use Rattle.growth.specs.Standing.{Stands}
use Rattle.growth.specs.Changes.{NewVariable}
use Rattle.growth.proofs.Agreeing.{agreeing_joins, shape_agrees}
use Rattle.growth.proofs.Keeping.{denotes_kept, denotes_before, agrees_kept, bare_ends}
use Rattle.growth.proofs.Extending.{Extends, extended_stands}

module _ (m : Meaning) (g : Graph) (state : ℕ → Option ℕ) (nodes : g.nodes ≡ 0) (vars : g.vars ≡ 0) where
  nothing_denotes : (p : Term) (n : ℕ) → Denotes g p n → ⊥
  nothing_denotes p n d = omega (arith, d.0, vars)

  pub empty_stands : Stands m g state 0 []
  empty_stands = record {
    shape = record {
      all = vars;
      joined = λ p q j. agreeing_joins g 0 [] (omega arith) (λ s i. absurd (Memᴰ.not-nil i)) j;
      nothing_else = λ p q n d e. absurd (nothing_denotes p n d);
      reached = λ n lt. absurd (omega (arith, lt, nodes));
      inside = λ p n d. absurd (nothing_denotes p n d);
    };
    judged = λ p n d. absurd (nothing_denotes p n d);
  }

module _ (m : Meaning) (lawful : Lawful m) (g h : Graph) (state state' : ℕ → Option ℕ) (vars : ℕ) (said : List Statement) (stands : Stands m g state vars said) (new : NewVariable m.top g state h state') where
  abbrev New : Term → Type 0
  New p = p ≡ only vars

  splits : (p : Term) (n : ℕ) → Denotes h p n → Denotes g p n ⊎ (New p × (n ≡ g.nodes))
  splits p n d = pick (dec_lt p.var g.vars)
    where
      pick : Dec (p.var < g.vars) → Denotes g p n ⊎ (New p × (n ≡ g.nodes))
      pick (yes lt) = inl (denotes_before g vars said stands.shape h new.kept.roots new.edges p n lt d)
      pick (no out) =
          let x : p.var ≡ g.vars = omega (arith, out, d.0, new.vars) in
          let b = bare_ends h g.nodes new.bare (ap h.root x ∙ new.root) d.1 in
          let y : p.var ≡ vars = x ∙ stands.shape.all in
          inr (λ i. record { var = y i; path = b.0 i }, b.1)

  pub new_variable_stands : Stands m h state' (suc vars) said
  new_variable_stands = extended_stands m lawful g h state state' vars (suc vars) said said New stands extends new.kept.states new.stands
    where
      all : h.vars ≡ suc vars
      all = omega (arith, new.vars, stands.shape.all)

      keeps : (p : Term) (n : ℕ) → Denotes g p n → Denotes h p n
      keeps = denotes_kept g vars said stands.shape h new.kept.roots (omega (arith, new.vars)) (λ n a k lt e. new.edges n a lt ∙ e)

      new_joined : (p q : Term) → New p → New q → Joined (suc vars) said p q
      new_joined p q a b = subst₂ (λ (x y : Term). Joined (suc vars) said x y) (sym a) (sym b) (variable vars (omega arith))

      extends : Extends m g vars said New h (suc vars) said
      extends = record {
        nodes = new.nodes;
        all = all;
        declared = omega arith;
        keeps = keeps;
        splits = splits;
        new = (only vars, (omega (arith, all), subst (λ (z : ℕ). Leads h z [] g.nodes) (sym new.root ∙ ap h.root stands.shape.all) here));
        new_joined = new_joined;
        more = λ s i. i;
        agrees = agrees_kept keeps (shape_agrees g vars said stands.shape);
        tops = λ q v i. inl i;
      }
