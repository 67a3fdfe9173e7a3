-- A closed graph judged: which clash it shows first, or that there is none.
use Rattle.std.proofs.Common.{◌≡◌, ℕ, ◌<◌, ◌≤◌, Bool, true, false, cond, List, length, get_or, Ok, Err, vec_items, Result, sym, refl, ap, ◌∙◌, subst, arith, vec_len}
use mathlib.Core.Option.{Option, some, none}
use Rattle.kinds.specs.Meaning.{Meaning, Lawful}
use Rattle.features.specs.Terms.{Statement}
use Rattle.features.specs.Graphs.{Graph}
use Rattle.features.specs.Holding.{Holds, aparts_of}
use Rattle.features.specs.Clashes.{Broken}
use Rattle.features.specs.Theorems.{NoClash}
use Rattle.growth.specs.Standing.{Stands}
use Rattle.growth.specs.Joins.{LeafAt, ApartOnOne}
use Rattle.growth.specs.Theorems.{SameShape}
use Rattle.growth.proofs.Holding.{same_shape_stands, standing_holds}
use Rattle.growth.proofs.Naming.{names_no_value, names_leaf_branches, names_broken}
use Rattle.tables.specs.Views.{graph}
use Rattle.numbering.specs.Given.{ord}
use Rattle.numbering.specs.Traces.{TrailWritten}
use Rattle.closing.specs.declared.closer.Closer.{Closer}
use Rattle.closing.specs.Closings.{Arranged, closed_graph, closed_state}
use Rattle.answers.specs.declared.refusal.Refusal.{Refusal}
use Rattle.answers.specs.declared.refusal.Refusal.TheVariants.{ValueClash, LeafClash, ApartClash, NodesFull}
use Rattle.answers.specs.Answers.{EveryNodeValued, EveryLeafBare, Closed, no_value, leaf_branches, not_apart, too_many, accepted, noted}
use Rattle.session.specs.Judging.{Ready}

-- an answer that names a trail, as it was written
pub as_written : (P : Result (Unit {0}) Refusal → List ℕ → Type 0) (clash : ℕ → ℕ → Refusal) (g : Graph) (c : Closer) (k var count : ℕ) (before after : List ℕ)
    → (w : TrailWritten g c.numbers k var count before after)
    → P (Err (clash var (length w.path))) (noted (record { var = var; path = w.path }) before) → P (Err (clash var count)) after
as_written P clash g c k var count before after w p =
    subst (λ (n : ℕ). P (Err (clash var n)) after) (sym w.attributes) (subst (λ (l : List ℕ). P (Err (clash var (length w.path))) l) (sym w.written) p)

-- where nothing is missing, its value stands on a row
pub value_there : (b : Bool) (v : ℕ) → (◌≡◌ {A = Option ℕ} (cond b none (some v)) none → ⊥) → ◌≡◌ {A = Option ℕ} (cond b none (some v)) (some v)
value_there true v h = absurd (h refl)
value_there false v h = refl

module _ (m : Meaning) (lawful : Lawful m) (c : Closer) (arranged : Arranged c) (kept : List Statement) (vars : ℕ) (said : List Statement) (ready : Ready m kept c vars said) (before : List ℕ) where
  pub void_clash : (k : ℕ) → closed_state c k ≡ none → ((j : ℕ) → j < k → closed_state c j ≡ none → ⊥) → (var count : ℕ) (after : List ℕ)
      → TrailWritten (graph c.work.table) c.numbers k var count before after → Closed m vars said before (Err (ValueClash var count)) after
  void_clash k e first var count after w =
      as_written (Closed m vars said before) ValueClash (graph c.work.table) c k var count before after w
      (no_value (record { var = var; path = w.path })
      ((names_no_value m (closed_graph c) (closed_state c) vars said arranged.numbered.in_order ready.stands).0 k (record { var = var; path = w.path }) e first w.trail))

  -- the graph of `next` has the same shape
  next_shape : SameShape (closed_graph c) (graph c.next)
  next_shape =
      let same = arranged.same in
      record {
        nodes = same.nodes;
        vars = same.vars;
        roots = λ x lt. same.roots x (omega (arith, lt, same.vars));
        edges = λ n a lt. same.edges n a (omega (arith, lt, same.nodes));
      }

  next_stands : Stands m (graph c.next) (closed_state c) vars said
  next_stands = same_shape_stands m (closed_graph c) (graph c.next) (closed_state c) (closed_state c) vars said next_shape (λ n lt. refl) ready.stands

  module _ (valued : (k : ℕ) → k < vec_len c.numbers.listed → closed_state c k ≡ none → ⊥) where
    every_node_valued : EveryNodeValued m vars said
    every_node_valued = (names_no_value m (closed_graph c) (closed_state c) vars said arranged.numbered.in_order ready.stands).1 valued

    -- then `next` holds what was said
    pub next_holds : Holds m (graph c.next) kept vars said
    next_holds =
        standing_holds m (graph c.next) (closed_state c) kept vars said next_stands
        (λ k lt.
        let inside : k < vec_len c.numbers.listed = omega (arith, lt, arranged.same.nodes) in
        value_there (get_or (vec_items c.work.void) (ord c.numbers k) false) ((closed_graph c).value k) (valued k inside) ∙ ap some (sym (arranged.same.values k lt)))
        ready.proper ready.aparts

    pub leaf_clash : (k : ℕ) → LeafAt m (closed_graph c) (closed_state c) k → ((j : ℕ) → j < k → LeafAt m (closed_graph c) (closed_state c) j → ⊥) → (var count : ℕ) (after : List ℕ)
        → TrailWritten (graph c.work.table) c.numbers k var count before after → Closed m vars said before (Err (LeafClash var count)) after
    leaf_clash k leaf first var count after w =
        as_written (Closed m vars said before) LeafClash (graph c.work.table) c k var count before after w
        (leaf_branches (record { var = var; path = w.path }) every_node_valued
        ((names_leaf_branches m (closed_graph c) (closed_state c) vars said lawful arranged.numbered.in_order ready.stands).0 k (record { var = var; path = w.path }) leaf first w.trail))

    module _ (bare : (k : ℕ) → k < vec_len c.numbers.listed → LeafAt m (closed_graph c) (closed_state c) k → ⊥) where
      every_leaf_bare : EveryLeafBare m vars said
      every_leaf_bare = (names_leaf_branches m (closed_graph c) (closed_state c) vars said lawful arranged.numbered.in_order ready.stands).1 bare

      broken_on_one : (i : ℕ) → Broken m vars said (aparts_of said) i → ApartOnOne (graph c.next) kept i
      broken_on_one i b =
          ((names_broken m (graph c.next) vars said next_stands.shape).1 kept i).0 (subst (λ (l : List Statement). Broken m vars said l i) (sym ready.aparts) b)

      pub apart_clash : (i : ℕ) → ApartOnOne (graph c.next) kept i → ((j : ℕ) → j < i → ApartOnOne (graph c.next) kept j → ⊥) → Closed m vars said before (Err (ApartClash i)) before
      apart_clash i on_one first =
          not_apart i every_node_valued every_leaf_bare
          (subst (λ (l : List Statement). Broken m vars said l i) ready.aparts (((names_broken m (graph c.next) vars said next_stands.shape).1 kept i).1 on_one))
          (λ j lt b. first j lt (broken_on_one j b))

      module _ (whole : (i : ℕ) → ApartOnOne (graph c.next) kept i → ⊥) where
        no_clash : NoClash m vars said
        no_clash = record { valued = every_node_valued; leaves_bare = every_leaf_bare; aparts_kept = λ i b. whole i (broken_on_one i b) }

        pub values_stand : (k : ℕ) → k < vec_len c.numbers.listed → closed_state c k ≡ some ((closed_graph c).value k)
        values_stand k lt =
            value_there (get_or (vec_items c.work.void) (ord c.numbers k) false) ((closed_graph c).value k) (valued k lt)

        closed_holds : Holds m (closed_graph c) (aparts_of said) vars said
        closed_holds = standing_holds m (closed_graph c) (closed_state c) (aparts_of said) vars said ready.stands values_stand ready.proper refl

        pub nodes_full : 256 < vec_len c.numbers.listed → Closed m vars said before (Err NodesFull) before
        nodes_full many = too_many no_clash (closed_graph c, closed_holds, many)

        pub taken : vec_len c.numbers.listed ≤ 256 → Closed m vars said before (Ok tt) before
        taken few = accepted no_clash (closed_graph c, closed_holds, few)
