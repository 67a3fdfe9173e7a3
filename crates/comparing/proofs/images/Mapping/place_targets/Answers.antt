use Rattle.std.proofs.Common.{◌≡◌, ℕ, ◌+◌, ◌<◌, ◌≤◌, get_or, vec_items, vec_len, sym, ap, ◌∙◌, subst, List, length, arith}
use mathlib.Core.Option.{some, none}
use mathlib.Core.Logic.{∥∥₁_elim}
use native.Mathlib.Bridge.{le_prop}
use denote.Ref.{Bor}
use Rattle.arrayvec.specs.ArrayVec.{array_vec_len}
use Rattle.features.specs.Numbering.{by_attribute}
use Rattle.tables.specs.declared.node.Node.{Node}
use Rattle.tables.specs.declared.table.Table.{Table}
use Rattle.tables.specs.Views.{row, edge_of}
use Rattle.tables.proofs.Extended.{read_row}
use Rattle.tables.proofs.Known.{sound_known}
use Rattle.tables.proofs.Walking.{nowhere}
use Rattle.graphs.specs.declared.feature_graph.FeatureGraph.{FeatureGraph}
use Rattle.graphs.specs.Held.{graph_of}
use Rattle.graphs.specs.Mentioned.{NumberedUpTo, LeftFrom}
use Rattle.graphs.proofs.Numbering.{mentioned_next, visited_numbered, next_attribute, before_lacked, before_next_node}
use Rattle.graphs.proofs.Visiting.{left_start, left_next, no_edge_left, no_edge_between, numbered_here, numbered_node, with_mention_most}
use Rattle.comparing.proofs.Mapping.{at_most, mapped_more, mapped_past, led_by_edge}
use Rattle.comparing.proofs.images.Mapping.place_targets.Goals as goal

-- a node that is visited has its image
given : (a : FeatureGraph) (i next : ℕ) → i < (graph_of a).nodes → NumberedUpTo (graph_of a) (by_attribute i 0) next → i < next
given a i next l s = ∥∥₁_elim a.ordered le_prop (λ bf. visited_numbered (graph_of a) bf i next l s)

pub bounds-as_slice-node : goal.bounds-as_slice-node
bounds-as_slice-node c =
    let a = c.args.self.now.from.now in
    let b = c.args.self.now.into.now in
    let numbered = given a c.args.node (array_vec_len c.args.images.now) c.requires.inside c.requires.mapped.numbered in
    omega (arith, numbered, ap length c.as_slice.ensures.value)

pub index-requires : goal.index-requires
index-requires c =
    let a = c.args.self.now.from.now in
    let b = c.args.self.now.into.now in
    let numbered = given a c.args.node (array_vec_len c.args.images.now) c.requires.inside c.requires.mapped.numbered in
    let rows = ap (λ (t : Table). vec_len t.rows) c.table.ensures in
    omega (arith, c.requires.mapped.inside c.args.node numbered, rows, ap (λ (xs : List ℕ). get_or xs c.args.node 0) c.as_slice.ensures.value)

pub loop-attribute-init : goal.loop-attribute-init
loop-attribute-init c =
    let a = c.args.self.now.from.now in
    let b = c.args.self.now.into.now in
    let i = c.args.node in
    let numbered = given a i (array_vec_len c.args.images.now) c.requires.inside c.requires.mapped.numbered in
    let slice = c.as_slice.result.now in
    let rows = ap (λ (t : Table). vec_len t.rows) c.table.ensures in
    let at : get_or slice i 0 < vec_len c.table.result.now.rows = omega (arith, c.requires.mapped.inside i numbered, rows, ap (λ (xs : List ℕ). get_or xs i 0) c.as_slice.ensures.value) in
    let here : i < vec_len c.table-2.result.now.rows = omega (arith, c.requires.inside, ap (λ (t : Table). vec_len t.rows) c.table-2.ensures) in
    let same = c.into_iter-attribute-iterator.ensures.into_iter_gives in
    let node = ap (λ (z : _). z.node.now) same ∙ c.edges-attribute-items.ensures.node in
    let left = ap (λ (z : _). z.left) same ∙ c.edges-attribute-items.ensures.left in
    let present = c.into_iter-attribute-iterator.result.node.now.present in (
      0,
      c.requires.mapped,
      subst (λ (z : ℕ). LeftFrom present z 0) (ap (λ (z : Node). z.present) node ∙ sym left) (left_start present),
      c.requires.most,
      numbered,
      read_row c.table.result.now (get_or slice i 0) at c.index.result.now c.index.ensures ∙ ap (λ (t : Table). row (vec_items t.rows) (get_or slice i 0)) c.table.ensures
          ∙ ap (λ (xs : List ℕ). row (vec_items b.table.rows) (get_or xs i 0)) c.as_slice.ensures.value,
      node ∙ read_row c.table-2.result.now i here c.index-2.result.now c.index-2.ensures ∙ ap (λ (t : Table). row (vec_items t.rows) i) c.table-2.ensures,
    )

pub returns-in_default : goal.returns-in_default
returns-in_default c =
    let a = c.args.self.now.from.now in
    let b = c.args.self.now.into.now in
    let i = c.args.node in
    let inv = c.loop-attribute.invariant in
    let r = c.loop-attribute.attribute-iterator.node.now in
    let left = c.loop-attribute.attribute-iterator.left in
    let images = c.loop-attribute.images.items in
    let next = array_vec_len c.loop-attribute.images in
    let x = c.in-Some.attribute in
    let n = c.in-Some.target in
    let step = c.in-Some.ensures.steps in
    let is : (d : ℕ) → (graph_of a).edge i d ≡ edge_of r d = λ d. sym (ap (λ (z : Node). edge_of z d) inv.6) in
    let leads = is x ∙ step.1.2 in
    let inside = (sound_known a.sound).edges_inside i x n c.requires.inside leads in
    let lacks : (graph_of b).edge (get_or images i 0) x ≡ none = sym (ap (λ (z : Node). edge_of z x) inv.5) ∙ c.in_default.ensures in
    λ m f map. nowhere ((graph_of b).edge (get_or images i 0) x) lacks (sym (ap (λ (z : ℕ). (graph_of b).edge z x) (inv.1.forced m f map i inv.4)) ∙ map.edges i x n c.requires.inside leads)

pub place-requires : goal.place-requires
place-requires c =
    let a = c.args.self.now.from.now in
    let b = c.args.self.now.into.now in
    let i = c.args.node in
    let inv = c.loop-attribute.invariant in
    let r = c.loop-attribute.attribute-iterator.node.now in
    let left = c.loop-attribute.attribute-iterator.left in
    let images = c.loop-attribute.images.items in
    let next = array_vec_len c.loop-attribute.images in
    let x = c.in-Some.attribute in
    let n = c.in-Some.target in
    let step = c.in-Some.ensures.steps in
    let is : (d : ℕ) → (graph_of a).edge i d ≡ edge_of r d = λ d. sym (ap (λ (z : Node). edge_of z d) inv.6) in
    let leads = is x ∙ step.1.2 in
    let inside = (sound_known a.sound).edges_inside i x n c.requires.inside leads in
    let known : n ≤ next = at_most next n (graph_of a) a.ordered (λ bf. mentioned_next (graph_of a) bf (by_attribute i x) n next inside (c.requires.inside, leads) (numbered_here r left inv.0 inv.2 (graph_of a) i is next inv.1.numbered x step.1.0)) in
    record { known = known; room = omega (arith, inside, a.few) }

pub returns-then-not-place : goal.returns-then-not-place
returns-then-not-place c =
    let a = c.args.self.now.from.now in
    let b = c.args.self.now.into.now in
    let i = c.args.node in
    let inv = c.loop-attribute.invariant in
    let r = c.loop-attribute.attribute-iterator.node.now in
    let left = c.loop-attribute.attribute-iterator.left in
    let images = c.loop-attribute.images.items in
    let next = array_vec_len c.loop-attribute.images in
    let x = c.in-Some.attribute in
    let n = c.in-Some.target in
    let step = c.in-Some.ensures.steps in
    let is : (d : ℕ) → (graph_of a).edge i d ≡ edge_of r d = λ d. sym (ap (λ (z : Node). edge_of z d) inv.6) in
    let leads = is x ∙ step.1.2 in
    let inside = (sound_known a.sound).edges_inside i x n c.requires.inside leads in
    let w = c.in-Some-target.led in
    let there : (graph_of b).edge (get_or images i 0) x ≡ some w = sym (ap (λ (z : Node). edge_of z x) inv.5) ∙ c.in-Some-target.ensures in
    let e = c.if-not-place.ensures in
    λ m f map. e.1 (sym (inv.1.forced m f map n e.0) ∙ led_by_edge (graph_of a) (graph_of b) i x n w next images c.requires.inside inv.4 leads there inv.1.forced m f map)

pub loop-attribute-preserved : goal.loop-attribute-preserved
loop-attribute-preserved c =
    let a = c.args.self.now.from.now in
    let b = c.args.self.now.into.now in
    let i = c.args.node in
    let inv = c.loop-attribute.invariant in
    let r = c.loop-attribute.attribute-iterator.node.now in
    let left = c.loop-attribute.attribute-iterator.left in
    let images = c.loop-attribute.images.items in
    let next = array_vec_len c.loop-attribute.images in
    let x = c.in-Some.attribute in
    let n = c.in-Some.target in
    let step = c.in-Some.ensures.steps in
    let is : (d : ℕ) → (graph_of a).edge i d ≡ edge_of r d = λ d. sym (ap (λ (z : Node). edge_of z d) inv.6) in
    let leads = is x ∙ step.1.2 in
    let inside = (sound_known a.sound).edges_inside i x n c.requires.inside leads in
    let w = c.in-Some-target.led in
    let there : (graph_of b).edge (get_or images i 0) x ≡ some w = sym (ap (λ (z : Node). edge_of z x) inv.5) ∙ c.in-Some-target.ensures in
    let more = array_vec_len c.place.new.images in
    let w_in = (sound_known b.sound).edges_inside (get_or images i 0) x w (inv.1.inside i inv.4) there in
    let e = c.if-not-place.ensures in
    let s =
    mapped_past (graph_of a) (graph_of b) (by_attribute i inv.0) (by_attribute i x) next images (before_lacked (graph_of a) i inv.0 x (no_edge_between r left inv.0 inv.2 (graph_of a) i is x step.1.0))
    (numbered_here r left inv.0 inv.2 (graph_of a) i is next inv.1.numbered x step.1.0) inv.1 in
    let most = with_mention_most next n more (vec_len a.table.rows) inside inv.3 e.0 in
    let grown : i < more = omega (arith, inv.4, most.0) in (
      x + 1,
      mapped_more (graph_of a) (graph_of b) (by_attribute i x) (by_attribute i (x + 1)) n next more w images c.place.new.images.items (c.requires.inside, leads) (λ q. inv.4)
          (next_attribute (graph_of a) i x) e.0 e.2 e.1 w_in (inv.4, there) (led_by_edge (graph_of a) (graph_of b) i x n w next images c.requires.inside inv.4 leads there inv.1.forced) s,
      subst (λ (z : Bor Node). LeftFrom z.now.present c.next.new.self.left (x + 1)) (sym step.0) (left_next r left inv.0 inv.2 x step.1.0 c.next.new.self.left step.1.1),
      most.1,
      grown,
      inv.5 ∙ ap (row (vec_items b.table.rows)) (sym (e.2 i inv.4)),
      ap (λ (z : Bor Node). z.now) step.0 ∙ inv.6,
    )

pub returns : goal.returns
returns c =
    let a = c.args.self.now.from.now in
    let b = c.args.self.now.into.now in
    let i = c.args.node in
    let inv = c.loop-attribute.invariant in
    let r = c.loop-attribute.attribute-iterator.node.now in
    let left = c.loop-attribute.attribute-iterator.left in
    let next = array_vec_len c.loop-attribute.images in
    let is : (d : ℕ) → (graph_of a).edge i d ≡ edge_of r d = λ d. sym (ap (λ (z : Node). edge_of z d) inv.6) in
    let gone = c.in-None.ensures.steps.1.0 in (
      mapped_past (graph_of a) (graph_of b) (by_attribute i inv.0) (by_attribute (i + 1) 0) next c.loop-attribute.images.items (before_next_node (graph_of a) i inv.0 (no_edge_left r left inv.0 inv.2 (graph_of a) i is gone))
          (numbered_node r left inv.0 inv.2 (graph_of a) i is next inv.1.numbered gone) inv.1,
      inv.3,
    )
