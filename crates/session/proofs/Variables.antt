-- One variable more, declared or refused.
use Rattle.std.proofs.Common.{◌≡◌, ℕ, suc, ◌<◌, ◌≤◌, cond, ltb, List, Ok, Err, sym, refl, ap, subst, arith}
use mathlib.Core.Option.{Option, some, none}
use Rattle.std.proofs.lemmas.Bool.{lt-ltb, le-ltb, cond-true, cond-false}
use Rattle.kinds.specs.Meaning.{Meaning, Lawful}
use Rattle.features.specs.Terms.{Statement}
use Rattle.features.specs.Graphs.{Graph}
use Rattle.features.specs.Holding.{Holds, aparts_of}
use Rattle.growth.specs.Changes.{NewVariable}
use Rattle.growth.proofs.Holding.{declared_holds}
use Rattle.answers.specs.declared.refusal.Refusal.TheVariants.{VariablesFull, NodesFull}
use Rattle.answers.specs.Answers.{Declared, no_variable, no_node, numbered, Right, declared, declare, declares}
use Rattle.answers.specs.Runs.{asked, Has, Step}
use Rattle.answers.proofs.Keeping.{step_taken}

-- the graph with one node more, on which a new variable stands
abbrev widened : ℕ → Graph → Graph
widened v g = record {
  nodes = suc g.nodes;
  value = λ n. cond (ltb n g.nodes) (g.value n) v;
  edge = λ n a. cond (ltb n g.nodes) (g.edge n a) none;
  vars = suc g.vars;
  root = λ x. cond (ltb x g.vars) (g.root x) g.nodes;
}

-- the value of each node stands on it
abbrev standing : Graph → ℕ → Option ℕ
standing g n = some (g.value n)

widened_new : (v : ℕ) (g : Graph) → NewVariable v g (standing g) (widened v g) (standing (widened v g))
widened_new v g = record {
  kept = record {
    roots = λ x l. cond-true (ltb x g.vars) (g.root x) g.nodes (lt-ltb x g.vars l);
    states = λ n l. ap some (cond-true (ltb n g.nodes) (g.value n) v (lt-ltb n g.nodes l));
  };
  nodes = refl;
  vars = refl;
  root = cond-false (ltb g.vars g.vars) (g.root g.vars) g.nodes (le-ltb g.vars g.vars (omega arith));
  edges = λ n a l. cond-true (ltb n g.nodes) (g.edge n a) none (lt-ltb n g.nodes l);
  bare = λ a. cond-false (ltb g.nodes g.nodes) (g.edge g.nodes a) none (le-ltb g.nodes g.nodes (omega arith));
  stands = ap some (cond-false (ltb g.nodes g.nodes) (g.value g.nodes) v (le-ltb g.nodes g.nodes (omega arith)));
}

module _ {S : Type 0} (graph : S → Graph) (kept : S → List Statement) (m : Meaning) (lawful : Lawful m) (s : S) where
  -- with a new variable, what is held is held still, by a graph with one node more
  widens : (h : Graph) → NewVariable m.top (graph s) (standing (graph s)) h (standing h)
      → (vars : ℕ) (said : List Statement) → Has graph kept m s vars said → Holds m h (kept s) (suc vars) said
  widens h new vars said has = declared_holds m lawful (graph s) h (standing h) (kept s) vars said has.holds new (λ n l. refl)

  as_said : (h : Graph) (vars : ℕ) (said : List Statement) → Has graph kept m s vars said → Holds m h (kept s) (suc vars) said → Holds m h (aparts_of said) (suc vars) said
  as_said h vars said has = subst (λ (k : List Statement). Holds m h k (suc vars) said) has.holds.aparts

  pub no_variable_left : 64 ≤ (graph s).vars → Step graph kept m s (asked declare (declares (Err VariablesFull))) s
  no_variable_left full =
      step_taken graph kept m lawful s s declare (declares (Err VariablesFull))
      (λ vars said has. declared (no_variable (subst (λ (n : ℕ). 64 ≤ n) has.holds.all full))) (λ vars said has. has.holds) (λ _. (refl, refl))

  module _ (left : (graph s).vars < 64) where
    pub no_node_left : 256 ≤ (graph s).nodes → Step graph kept m s (asked declare (declares (Err NodesFull))) s
    no_node_left full =
        step_taken graph kept m lawful s s declare (declares (Err NodesFull)) right (λ vars said has. has.holds) (λ _. (refl, refl))
      where
        right : (vars : ℕ) (said : List Statement) → Has graph kept m s vars said → Right m vars said declare (declares (Err NodesFull))
        right vars said has =
            let h = widened m.top (graph s) in
            declared (no_node (subst (λ (n : ℕ). n < 64) has.holds.all left)
            (h, as_said h vars said has (widens h (widened_new m.top (graph s)) vars said has), omega arith))

    pub variable_declared : (t : S) → (graph s).nodes < 256 → NewVariable m.top (graph s) (standing (graph s)) (graph t) (standing (graph t)) → kept t ≡ kept s
        → Step graph kept m s (asked declare (declares (Ok (graph s).vars))) t
    variable_declared t room new same =
        step_taken graph kept m lawful s t declare (declares (Ok (graph s).vars)) right holds (λ idle. absurd idle)
      where
        right : (vars : ℕ) (said : List Statement) → Has graph kept m s vars said → Right m vars said declare (declares (Ok (graph s).vars))
        right vars said has =
            declared (subst (λ (n : ℕ). Declared m vars said (Ok n)) (sym has.holds.all)
            (numbered (subst (λ (n : ℕ). n < 64) has.holds.all left)
            (graph t, as_said (graph t) vars said has (widens (graph t) new vars said has), omega (arith, new.nodes))))

        holds : (vars : ℕ) (said : List Statement) → Has graph kept m s vars said → Holds m (graph t) (kept t) (suc vars) said
        holds vars said has = subst (λ (k : List Statement). Holds m (graph t) k (suc vars) said) (sym same) (widens (graph t) new vars said has)
