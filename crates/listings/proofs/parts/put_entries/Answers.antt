use Rattle.std.proofs.Common.{◌≡◌, ℕ, [], ◌∷◌, ◌++◌, get_or, sym, ap, ◌∙◌, arith}
use mathlib.Core.Option.{some}
use denote.Ref.{Bor}
use Rattle.features.specs.Listing.{little}
use Rattle.tables.specs.declared.node.Node.{Node}
use Rattle.tables.specs.Views.{edge_of}
use Rattle.tables.proofs.Leading.{shown_edge}
use Rattle.buffers.proofs.Runs.{wrote_none, wrote_append, wrote_same}
use Rattle.listings.specs.Parts.{entries_of}
use Rattle.listings.proofs.Entries.{only, entries_done, entry_fits, entries_more}
use Rattle.listings.proofs.parts.put_entries.Goals as goal

pub loop-attribute-init : goal.loop-attribute-init
loop-attribute-init c =
    let same = c.into_iter-attribute-iterator.ensures.into_iter_gives in
    let left = ap (λ (z : _). z.left) same ∙ c.edges-attribute-items.ensures.left in (
      [],
      wrote_none c.args.writer.now,
      ap (λ (z : ℕ). entries_of (only c.args.node.now z)) left,
      ap (λ (z : _). z.node.now) same ∙ c.edges-attribute-items.ensures.node,
    )

pub put_entry-requires : goal.put_entry-requires
put_entry-requires c =
    let inv = c.loop-attribute.invariant in
    let low = c.in-Some.ensures.steps.1.0 in
    let fits = entry_fits c.args.node.now c.loop-attribute.attribute-iterator.left c.in-Some.attribute inv.0 low inv.2 in
    record { fits = omega (arith, fits, inv.1.room, c.requires); small = low.below }

-- where an edge leads, by the row's targets
target_is : (r : Node) (a t u : ℕ) → edge_of r a ≡ some t → edge_of r a ≡ some u → t ≡ u
target_is r a t u e f = cc

pub loop-attribute-preserved : goal.loop-attribute-preserved
loop-attribute-preserved c =
    let inv = c.loop-attribute.invariant in
    let step = c.in-Some.ensures.steps in
    let r = c.args.node.now in
    let it = c.loop-attribute.attribute-iterator in
    let a = c.in-Some.attribute in
    let leads = target_is it.node.now a (get_or it.node.now.targets a 0) c.in-Some.target (shown_edge it.node.now a step.1.0.below (it.of_the_node a step.1.0.present)) step.1.2 in
    let is : get_or r.targets a 0 ≡ c.in-Some.target = ap (λ (z : Node). get_or z.targets a 0) (sym inv.3) ∙ leads in
    let put = wrote_same (ap (λ (z : ℕ). a ∷ little 2 z) (sym is)) c.put_entry.ensures in (
      inv.0 ++ (a ∷ little 2 (get_or r.targets a 0)),
      wrote_append inv.1 put,
      entries_more r it.left c.next.new.self.left a inv.0 step.1.0 step.1.1 inv.2,
      ap (λ (z : Bor Node). z.now) step.0 ∙ inv.3,
    )

pub returns : goal.returns
returns c =
    let inv = c.loop-attribute.invariant in
    wrote_same (entries_done c.args.node.now c.loop-attribute.attribute-iterator.left inv.0 c.in-None.ensures.steps.1.0 inv.2) inv.1
