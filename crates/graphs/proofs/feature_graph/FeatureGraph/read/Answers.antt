use Rattle.std.proofs.Common.{◌≤◌, vec_len, vec_capacity, sym, refl, subst, arith}
use Rattle.features.specs.Numbering.{BreadthFirst}
use Rattle.features.specs.Order.{InOrder}
use Rattle.features.proofs.Numbering.{breadth_first_in_order}
use Rattle.tables.specs.declared.table.Table.{Table}
use Rattle.tables.specs.Views.{graph, Sound}
use Rattle.tables.proofs.Known.{sound_known}
use Rattle.features.specs.Bytes.{Written}
use Rattle.std.proofs.lemmas.Result.{err_from_is_err_and}
use Rattle.graphs.proofs.Alike.{written_once}
use Rattle.graphs.proofs.Refusing.{listings_are_read}
use Rattle.graphs.proofs.Whole.{inside_of}
use Rattle.graphs.proofs.feature_graph.FeatureGraph.read.Goals as goal

pub invariant_of-self : goal.invariant_of-self
invariant_of-self g c = record {
  sound = c.args.self.now.sound;
  few = c.args.self.now.few;
  row_room = omega (arith, c.read_table.ensures.row_room, c.args.self.now.row_room);
  root_room = omega (arith, c.read_table.ensures.root_room, c.args.self.now.root_room);
  ordered = c.args.self.now.ordered;
}

pub invariant_of-self-2 : goal.invariant_of-self-2
invariant_of-self-2 g c =
    let e = c.in_ok-read_table.ensures in
    let x = sym c.swap.ensures.x_after in
    let y = sym c.swap.ensures.y_after in
    record {
      sound = ∣ subst Sound x e.cases.0 ∣₁;
      few = subst (λ (z : Table). vec_len z.rows ≤ 256) x e.cases.1.within.few_nodes;
      row_room = subst (λ (z : Table). 272 ≤ vec_capacity z.rows) y (sound_known c.args.self.now.sound).row_room;
      root_room = subst (λ (z : Table). 64 ≤ vec_capacity z.roots) y (sound_known c.args.self.now.sound).root_room;
      ordered = ∣ subst (λ (z : Table). BreadthFirst (graph z)) x e.cases.2 ∣₁;
    }

pub returns : goal.returns
returns g c =
    let m = g.K.Kind.meaning c.args.kind.now in
    let bs = c.args.bytes.now in
    let e = c.in_ok-read_table.ensures in
    let x = sym c.swap.ensures.x_after in
    let t = graph c.read_table.new.table in
    let read = subst (λ (z : Table). Written m bs (graph z)) x e.cases.1 in
    record {
      cases = (read, subst (λ (z : Table). InOrder (graph z)) x (breadth_first_in_order t (inside_of m bs t e.cases.1) e.cases.2));
      accepted = λ h w order. (refl, written_once m bs h (graph c.swap.new.x) w read);
    }

pub returns-in_err-read_table : goal.returns-in_err-read_table
returns-in_err-read_table g c =
    let m = g.K.Kind.meaning c.args.kind.now in
    let bs = c.args.bytes.now in
    let ground = c.in_err-read_table.ensures.cases in
    let p = err_from_is_err_and c.from_residual.result c.from_residual.ensures.1 in
    record {
      cases = rw (p.1, p.2) (ground, refl);
      accepted = λ h w order. absurd (listings_are_read m bs h w order c.in_err-read_table.field-0.0 ground);
    }
