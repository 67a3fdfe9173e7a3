use Rattle.std.proofs.Common.{◌≡◌, ℕ, ◌<◌, ◌≤◌, Bool, true, false, List, length, get_or, vec_len, MatchBool, sym, ap, subst, arith}
use Rattle.arrayvec.specs.ArrayVec.{array_vec_len}
use Rattle.features.specs.Graphs.{Graph, Map}
use Rattle.features.specs.Numbering.{by_attribute}
use Rattle.tables.specs.declared.table.Table.{Table}
use Rattle.graphs.specs.declared.feature_graph.FeatureGraph.{FeatureGraph}
use Rattle.graphs.specs.Held.{graph_of}
use Rattle.graphs.proofs.Numbering.{all_numbered}
use Rattle.kinds.specs.Meaning.{Meaning}
use Rattle.comparing.specs.Images.{MappedUpTo}
use Rattle.comparing.proofs.Mapping.{at_most, images_map}
use Rattle.comparing.proofs.maps.maps.Goals as goal

-- every node has its image at the end
images_end : (a b : FeatureGraph) (i next : ℕ) (images : List ℕ) → i ≡ (graph_of a).nodes → MappedUpTo (graph_of a) (graph_of b) (by_attribute i 0) next images
    → MappedUpTo (graph_of a) (graph_of b) (by_attribute (graph_of a).nodes 0) next images × ((graph_of a).nodes ≤ next)
images_end a b i next images all s =
    let e = subst (λ (z : ℕ). MappedUpTo (graph_of a) (graph_of b) (by_attribute z 0) next images) all s in
    (e, at_most next (graph_of a).nodes (graph_of a) a.ordered (λ bf. all_numbered (graph_of a) bf next e.numbered))

pub values_below-requires : goal.values_below-requires
values_below-requires g c =
    let a = c.args.from.now in
    let all : c.loop-node.node ≡ vec_len a.table.rows =
    omega (arith, c.loop-node.auto.node-end, c.loop-node-test.false, c.len-node-end.ensures, ap (λ (t : Table). vec_len t.rows) c.table-3.ensures) in
    let end = images_end a c.args.into.now c.loop-node.node (array_vec_len c.loop-node.images) c.loop-node.images.items all c.loop-node.invariant.0 in
    let same = c.as_slice.ensures.value in
    record {
      room = omega (arith, end.1, ap length same);
      inside = λ n l. omega (arith, end.0.inside n (omega (arith, end.1)), ap (λ (xs : List ℕ). get_or xs n 0) same);
    }

answer : (m : Meaning) (g h : Graph) (next : ℕ) (images : List ℕ) (r : Bool) → g.vars ≤ h.vars → g.nodes ≤ next → MappedUpTo g h (by_attribute g.nodes 0) next images
    → MatchBool r ((n : ℕ) → n < g.nodes → m.below (h.value (get_or images n 0)) (g.value n) ≡ true) (((n : ℕ) → n < g.nodes → m.below (h.value (get_or images n 0)) (g.value n) ≡ true) → ⊥)
    → MatchBool r ((f : ℕ → ℕ) × Map m g h f) ((f : ℕ → ℕ) → Map m g h f → ⊥)
answer m g h next images true enough all s w = ((λ n. get_or images n 0), images_map g h m next images enough all w s)
answer m g h next images false enough all s w = λ f map. w (λ n l. subst (λ (z : ℕ). m.below (h.value z) (g.value n) ≡ true) (s.forced m f map n (omega arith)) (map.values n l))

pub returns : goal.returns
returns g c =
    let a = c.args.from.now in
    let b = c.args.into.now in
    let next = array_vec_len c.loop-node.images in
    let all : c.loop-node.node ≡ vec_len a.table.rows =
    omega (arith, c.loop-node.auto.node-end, c.loop-node-test.false, c.len-node-end.ensures, ap (λ (t : Table). vec_len t.rows) c.table-3.ensures) in
    let end = images_end a b c.loop-node.node next c.loop-node.images.items all c.loop-node.invariant.0 in
    let mapped = subst (λ (xs : List ℕ). MappedUpTo (graph_of a) (graph_of b) (by_attribute (graph_of a).nodes 0) next xs) (sym c.as_slice.ensures.value) end.0 in
    let enough : vec_len a.table.roots ≤ vec_len b.table.roots = omega (arith, c.if-len.false, c.len.ensures, c.len-2.ensures, ap (λ (t : Table). vec_len t.roots) c.table.ensures, ap (λ (t : Table). vec_len t.roots) c.table-2.ensures) in
    answer (g.K.Kind.meaning c.args.kind.now) (graph_of a) (graph_of b) next c.as_slice.result.now c.values_below.result enough end.1 mapped c.values_below.ensures
