-- The parts of a listing: how long they are, and what one node or variable more adds.
use Rattle.std.proofs.Common.{◌≡◌, ℕ, ◌+◌, ◌*◌, ◌<◌, ◌≤◌, List, [], ◌∷◌, ◌++◌, length, get_or, vec_items, sum_by, sym, refl, ap, ◌∙◌, subst, suc, add-zero, zero-add, arith}
use Rattle.std.proofs.lemmas.List.Sums.{sum_by-cons}
use Rattle.features.specs.Graphs.{Graph}
use Rattle.features.specs.Bytes.{attributes_of}
use Rattle.features.specs.Listing.{little, one_if, count, record_of, written}
use Rattle.features.proofs.Bytes.{attributes_bound, count_bound, count_constant, length_along, length_records, listing_length}
use Rattle.tables.specs.declared.node.Node.{Node}
use Rattle.tables.specs.declared.table.Table.{Table}
use Rattle.tables.specs.Views.{blank, row, edge_of, graph}
use Rattle.buffers.specs.Writing.{Wrote}
use Rattle.buffers.specs.declared.Writer.{Writer}
use Rattle.listings.specs.Parts.{entries_of, bytes_of, first_nodes, first_variables}
use Rattle.listings.proofs.Placing.{wrote_more, room_for_more}

-- the graph of one row
abbrev alone : Node → Graph
alone r = record { nodes = 1; value = λ n. r.value; edge = λ n a. edge_of r a; vars = 0; root = λ x. 0 }

-- a row with d attributes
module _ (r : Node) (d : ℕ) (degree : d ≡ count (λ a. one_if (edge_of r a)) 0 32) where
  pub degree_bound : d ≤ 32
  degree_bound = subst (λ (x : ℕ). x ≤ 32) (sym degree) (attributes_bound (alone r) 0)

  pub bytes_parts : little 8 r.value ++ (d ∷ []) ++ entries_of r ≡ bytes_of r
  unfolding bytes_of entries_of
  bytes_parts = ap (λ (x : ℕ). little 8 r.value ++ (x ∷ []) ++ entries_of r) degree

nine_before : (v d : ℕ) (rest : List ℕ) → length (little 8 v ++ (d ∷ []) ++ rest) ≡ 9 + length rest
nine_before v d rest = omega arith

pub bytes_before_entries : (r : Node) → length (bytes_of r) ≡ 9 + length (entries_of r)
unfolding bytes_of entries_of
bytes_before_entries r = nine_before r.value (count (λ a. one_if (edge_of r a)) 0 32) (entries_of r)

-- one node more
module _ (t : Table) (i : ℕ) where
  pub wrote_node : {x y z : Writer} → Wrote (first_nodes (graph t) i) x y → Wrote (bytes_of (row (vec_items t.rows) i)) y z → Wrote (first_nodes (graph t) (i + 1)) x z
  unfolding first_nodes bytes_of entries_of
  wrote_node = wrote_more (record_of (graph t)) i

  pub node_fits : i < (graph t).nodes → length (first_nodes (graph t) i) + length (bytes_of (row (vec_items t.rows) i)) ≤ length (first_nodes (graph t) (graph t).nodes)
  unfolding first_nodes bytes_of entries_of
  node_fits = room_for_more (record_of (graph t)) i (graph t).nodes

pub no_nodes : (g : Graph) → first_nodes g 0 ≡ []
unfolding first_nodes
no_nodes g = refl

pub no_variables : (g : Graph) → first_variables g 0 ≡ []
unfolding first_variables
no_variables g = refl

pub first_nodes_bound : (g : Graph) (k : ℕ) → length (first_nodes g k) ≤ k * 105
unfolding first_nodes
first_nodes_bound g k = omega (arith, length_records g k, count_bound (λ n. 8 + 1 + 3 * attributes_of g n) 105 0 k (λ n l m. omega (arith, attributes_bound g n)))

-- one variable more
module _ (g : Graph) (i : ℕ) where
  pub wrote_variable : {x y z : Writer} → Wrote (first_variables g i) x y → Wrote (little 2 (g.root i)) y z → Wrote (first_variables g (i + 1)) x z
  unfolding first_variables
  wrote_variable = wrote_more (λ v. little 2 (g.root v)) i

  pub length_variables : length (first_variables g i) ≡ 2 * i
  unfolding first_variables
  length_variables = omega (arith, length_along (λ x. little 2 (g.root x)) 0 i, count_constant (λ x. length (little 2 (g.root x))) 2 0 i (λ n l m. refl))

module _ (g : Graph) where
  pub length_parts : length (written g) ≡ length (first_nodes g g.nodes) + 2 * g.vars + 8
  unfolding first_nodes
  length_parts = omega (arith, listing_length g, length_records g g.nodes)

  pub written_parts : first_nodes g g.nodes ++ first_variables g g.vars ++ little 2 g.nodes ++ little 2 g.vars ++ little 4 (length (first_nodes g g.nodes)) ≡ written g
  unfolding first_nodes first_variables
  written_parts = refl

-- how many bytes a row has
abbrev pub width_of : Node → ℕ
width_of r = 9 + 3 * count (λ a. one_if (edge_of r a)) 0 32

sum_counted : {X : Type 0} (f : X → ℕ) (h : ℕ → ℕ) (d : X) (a : ℕ) (xs : List X) → ((i : ℕ) → i < length xs → f (get_or xs i d) ≡ h (a + i)) → sum_by f xs ≡ count h a (length xs)
sum_counted f h d a [] e = refl
sum_counted f h d a (x ∷ xs) e =
    let first = e 0 (omega arith) ∙ ap h (add-zero a) in
    let rest = sum_counted f h d (suc a) xs (λ i l. e (suc i) (omega arith) ∙ ap h (omega arith)) in
    omega (arith, sum_by-cons f x xs, first, rest)

-- all rows in use together, as a slice shows them
module _ (t : Table) (rows : List Node) (all : length rows ≡ (graph t).nodes) (each : (i : ℕ) → i < (graph t).nodes → get_or rows i blank ≡ row (vec_items t.rows) i) where
  pub sum_of_widths : sum_by width_of rows ≡ length (first_nodes (graph t) (graph t).nodes)
  unfolding first_nodes
  sum_of_widths =
      let Width : ℕ → ℕ = λ i. 8 + 1 + 3 * attributes_of (graph t) i in
      sum_counted width_of Width blank 0 rows (λ i l. omega (arith, ap width_of (each i (omega arith)), ap Width (zero-add i)))
      ∙ ap (count Width 0) all ∙ sym (length_records (graph t) (graph t).nodes)
