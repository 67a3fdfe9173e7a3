use Rattle.std.proofs.Common.{◌≡◌, ℕ, ◌+◌, ◌<◌, ◌≤◌, ◌⊎◌, List, [], length, drop, vec_items, vec_len, sym, ap, ◌∙◌, subst, inl, inr, arith, length-append, length-drop}
use Rattle.arrayvec.specs.ArrayVec.{array_vec_len}
use Rattle.features.specs.Numbering.{by_variable, by_attribute}
use Rattle.tables.specs.declared.table.Table.{Table}
use Rattle.graphs.specs.Held.{graph_of}
use Rattle.graphs.proofs.Numbering.{mentioned_next, next_variable, to_attributes, before_attributes}
use Rattle.graphs.proofs.Visiting.{with_mention_most}
use Rattle.tables.proofs.Known.{sound_known}
use Rattle.comparing.specs.Images.{MappedUpTo}
use Rattle.comparing.proofs.Dropped.{next_at}
use Rattle.comparing.proofs.Mapping.{at_most, mapped_none, mapped_more, mapped_past}
use Rattle.comparing.proofs.images.Mapping.place_variables.Goals as goal

-- a list is at its end where it is, or where a list that is no shorter is
all_given : (x : ℕ) (xs ys : List ℕ) → x ≤ length xs → length xs ≤ length ys → (length (drop x xs) ≡ 0) ⊎ (length (drop x ys) ≡ 0) → x ≡ length xs
all_given x xs ys l m (inl e) = omega (arith, length-drop x xs)
all_given x xs ys l m (inr e) = omega (arith, length-drop x ys)

pub loop-node-init : goal.loop-node-init
loop-node-init c =
    let a = c.args.self.now.from.now in
    let b = c.args.self.now.into.now in
    let first = c.requires.first in
    let same = c.into_iter-node-iterator.ensures.into_iter_gives in
    let zip = c.zip-node-items.ensures in
    let none = ap length first in
    record {
      mapped = rw first (mapped_none (graph_of a) (graph_of b) []);
      few = omega arith;
      most = omega arith;
      nodes_left = ap (λ (z : _). z.a.rest.now) same ∙ ap (λ (z : _). z.rest.now) zip.first ∙ c.iter.ensures.rest ∙ c.deref.ensures.value ∙ ap (λ (t : Table). vec_items t.roots) c.table-from.ensures;
      images_left = ap (λ (z : _). z.b.rest.now) same ∙ zip.second.0 ∙ ap (λ (t : Table). vec_items t.roots) c.table-into.ensures;
    }

pub place-requires : goal.place-requires
place-requires c =
    let a = c.args.self.now.from.now in
    let b = c.args.self.now.into.now in
    let x = length c.loop-node.yielded in
    let inv = c.loop-node.invariant in
    let next = array_vec_len c.loop-node.images in
    let step = c.in-Some.ensures.steps in
    let n = c.in-Some.node.now in
    let w = c.in-Some.image.now in
    let node = next_at (vec_items a.table.roots) x n c.next.new.self.a.rest.now (sym inv.nodes_left ∙ step.0) in
    let image = next_at (vec_items b.table.roots) x w c.next.new.self.b.rest.now (sym inv.images_left ∙ step.1) in
    let l : x < vec_len a.table.roots = let long = a.table.roots.ok.0 in omega (arith, node.inside) in
    let there : x < vec_len b.table.roots = let long = b.table.roots.ok.0 in omega (arith, image.inside) in
    let inside : n < vec_len a.table.rows = omega (arith, node.here, (sound_known a.sound).roots_inside x l) in
    let known : n ≤ next = at_most next n (graph_of a) a.ordered (λ bf. mentioned_next (graph_of a) bf (by_variable x) n next inside (l, node.here) inv.mapped.numbered) in
    record { known = known; room = omega (arith, inside, a.few) }

pub returns-then-not-place : goal.returns-then-not-place
returns-then-not-place c =
    let a = c.args.self.now.from.now in
    let b = c.args.self.now.into.now in
    let x = length c.loop-node.yielded in
    let inv = c.loop-node.invariant in
    let next = array_vec_len c.loop-node.images in
    let step = c.in-Some.ensures.steps in
    let n = c.in-Some.node.now in
    let w = c.in-Some.image.now in
    let node = next_at (vec_items a.table.roots) x n c.next.new.self.a.rest.now (sym inv.nodes_left ∙ step.0) in
    let image = next_at (vec_items b.table.roots) x w c.next.new.self.b.rest.now (sym inv.images_left ∙ step.1) in
    let l : x < vec_len a.table.roots = let long = a.table.roots.ok.0 in omega (arith, node.inside) in
    let there : x < vec_len b.table.roots = let long = b.table.roots.ok.0 in omega (arith, image.inside) in
    let inside : n < vec_len a.table.rows = omega (arith, node.here, (sound_known a.sound).roots_inside x l) in
    let e = c.if-not-place.ensures in
    λ m f map. e.1 (sym (inv.mapped.forced m f map n e.0) ∙ ap f (sym node.here) ∙ map.roots x l ∙ image.here)

pub loop-node-preserved : goal.loop-node-preserved
loop-node-preserved c =
    let a = c.args.self.now.from.now in
    let b = c.args.self.now.into.now in
    let x = length c.loop-node.yielded in
    let inv = c.loop-node.invariant in
    let next = array_vec_len c.loop-node.images in
    let step = c.in-Some.ensures.steps in
    let n = c.in-Some.node.now in
    let w = c.in-Some.image.now in
    let node = next_at (vec_items a.table.roots) x n c.next.new.self.a.rest.now (sym inv.nodes_left ∙ step.0) in
    let image = next_at (vec_items b.table.roots) x w c.next.new.self.b.rest.now (sym inv.images_left ∙ step.1) in
    let l : x < vec_len a.table.roots = let long = a.table.roots.ok.0 in omega (arith, node.inside) in
    let there : x < vec_len b.table.roots = let long = b.table.roots.ok.0 in omega (arith, image.inside) in
    let inside : n < vec_len a.table.rows = omega (arith, node.here, (sound_known a.sound).roots_inside x l) in
    let e = c.if-not-place.ensures in
    let r = array_vec_len c.place.new.images in
    let w_in : w < vec_len b.table.rows = omega (arith, image.here, (sound_known b.sound).roots_inside x there) in
    let mapped =
    mapped_more (graph_of a) (graph_of b) (by_variable x) (by_variable (x + 1)) n next r w c.loop-node.images.items c.place.new.images.items (l, node.here) (λ q. tt)
    (next_variable (graph_of a) x) e.0 e.2 e.1 w_in image.here (λ m f map. ap f (sym node.here) ∙ map.roots x l ∙ image.here) inv.mapped in
    simp length-append (record {
      mapped = mapped;
      few = omega arith;
      most = (with_mention_most next n r (vec_len a.table.rows) inside inv.most e.0).1;
      nodes_left = node.others;
      images_left = image.others;
    })

pub returns : goal.returns
returns c =
    let a = c.args.self.now.from.now in
    let b = c.args.self.now.into.now in
    let x = length c.loop-node.yielded in
    let inv = c.loop-node.invariant in
    let next = array_vec_len c.loop-node.images in
    let images = c.loop-node.images.items in
    let ended : (length (drop x (vec_items a.table.roots)) ≡ 0) ⊎ (length (drop x (vec_items b.table.roots)) ≡ 0) =
    elim c.in-None.ensures.steps [
      | inl e ↦ inl (sym (ap length inv.nodes_left) ∙ e.1.0)
      | inr e ↦ inr (sym (ap length inv.images_left) ∙ e.1.0)
    ] in
    let long = a.table.roots.ok.0 in
    let long' = b.table.roots.ok.0 in
    let all : x ≡ vec_len a.table.roots = all_given x (vec_items a.table.roots) (vec_items b.table.roots) (omega arith) (omega (arith, c.requires.variables)) ended ∙ sym long in
    let s = subst (λ (z : ℕ). MappedUpTo (graph_of a) (graph_of b) (by_variable z) next images) all inv.mapped in
    (mapped_past (graph_of a) (graph_of b) (by_variable (vec_len a.table.roots)) (by_attribute 0 0) next images (before_attributes (graph_of a)) (to_attributes (graph_of a) next s.numbered) s, inv.most)
