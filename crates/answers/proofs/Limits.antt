-- What is said never passes the limits of a listing, so that every listing can be read back.
use Rattle.std.proofs.Common.{◌≡◌, ℕ, ◌<◌, ◌≤◌, List, [], subst, arith}
use Rattle.kinds.specs.Meaning.{Meaning, Lawful}
use Rattle.features.specs.Terms.{Statement}
use Rattle.features.specs.Graphs.{Graph}
use Rattle.features.specs.Bytes.{WithinLimits, Written}
use Rattle.features.specs.Order.{InOrder}
use Rattle.features.specs.Holding.{Holds, Listed, aparts_of}
use Rattle.features.specs.Theorems.{NoClash}
use Rattle.features.proofs.General.{held_model}
use Rattle.features.proofs.TotalOrder.{Three, first, second, third, compare}
use Rattle.answers.specs.Answers.{Call, Answer, Right, Stated, Nodes, vars_after, said_after}
use Rattle.answers.specs.Answers.{no_value, leaf_branches, not_apart, too_many, accepted, faultless, no_variable, no_node, numbered, declared, stated, same, value, listed}
use Rattle.answers.proofs.Counting.{equally_many_nodes}
use Rattle.answers.proofs.Keeping.{nothing_denotes}

-- as many variables and nodes as a listing can have
abbrev pub Bounded : Meaning → ℕ → List Statement → Type 0
Bounded m vars said = (vars ≤ 64) × Nodes m vars said (λ n. n ≤ 256)

pub bounded_at_first : (m : Meaning) (g : Graph) (kept : List Statement) → Holds m g kept 0 [] → Bounded m 0 []
bounded_at_first m g kept holds =
    (omega arith, (g, subst (λ (z : List Statement). Holds m g z 0 []) holds.aparts holds, few (compare 0 g.nodes)))
  where
    few : Three (0 < g.nodes) (0 ≡ g.nodes) (g.nodes < 0) → g.nodes ≤ 256
    few (first some) = let r = holds.reached 0 some in absurd (nothing_denotes m (holds.nothing_else r.0 r.0 0 r.1 r.1))
    few (second none) = omega arith
    few (third never) = omega arith

-- a right answer keeps to the limits
pub bounded_after : (m : Meaning) (vars : ℕ) (said : List Statement) {c : Call} {a : Answer}
    → Bounded m vars said → Right m vars said c a → Bounded m (vars_after vars a) (said_after said c a)
bounded_after m vars said b (declared (no_variable full)) = b
bounded_after m vars said b (declared (no_node room many)) = b
bounded_after m vars said b (declared (numbered room few)) = (omega arith, few)
bounded_after m vars said b (stated (Stated.faulty e)) = b
bounded_after m vars said b (stated (faultless e (no_value t at))) = b
bounded_after m vars said b (stated (faultless e (leaf_branches t n at))) = b
bounded_after m vars said b (stated (faultless e (not_apart i n l broken least))) = b
bounded_after m vars said b (stated (faultless e (too_many none many))) = b
bounded_after m vars said b (stated (faultless e (accepted none few))) = (b.0, few)
bounded_after m vars said b (same s) = b
bounded_after m vars said b (value v) = b
bounded_after m vars said b (listed l) = b

-- the graph of a listing within the limits is one that is read
pub readable : (m : Meaning) → Lawful m → (vars : ℕ) (said : List Statement) {bytes : List ℕ} → NoClash m vars said → Bounded m vars said
    → Listed m vars said bytes → (g : Graph) × Written m bytes g × InOrder g × Holds m g (aparts_of said) vars said
readable m lawful vars said free (few_vars, (h, holds, few)) l =
    let g = l.graph in
    let feature = (held_model m lawful g (aparts_of said) vars said l.holds free).feature in
    let same = equally_many_nodes m g h (aparts_of said) (aparts_of said) vars said l.holds holds in
    let all = l.holds.all in
    let within : WithinLimits g = record {
      few_nodes = omega (arith, same, few);
      few_vars = omega (arith, all, few_vars);
      values = λ n lt. lawful.bounded (g.value n) (feature.values n lt);
      edges = feature.edges;
      roots = feature.roots;
    } in
    (g, record { within = within; feature = feature; bytes = l.bytes_are }, l.ordered, l.holds)
