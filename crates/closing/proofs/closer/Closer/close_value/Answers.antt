use Rattle.std.proofs.Common.{ℕ, refl, subst}
use Rattle.growth.specs.Changes.{Grown}
use Rattle.tables.specs.Views.{graph, values}
use Rattle.joining.specs.declared.workspace.Workspace.{Workspace}
use Rattle.terms.specs.Terms.{term_of}
use Rattle.closing.proofs.Composing.{value_closed}
use Rattle.closing.proofs.closer.Closer.close_value.Goals as goal

pub returns : goal.returns
returns g c =
    let m = g.K.Kind.meaning c.args.kind.now in
    let w = c.begin.new.self in
    let p = term_of c.args.p in
    let u = c.grow-end.new.table in
    let grown = subst (λ (z : ℕ). Grown z (graph w.table) (values w.table) ((graph w.table).root p.var) p.path (graph u) (values u) c.grow-end.result) c.top.ensures c.grow-end.ensures.grown in
    let now : Workspace = record { table = u; class = w.class; void = w.void; joins = w.joins; sound = ∣ c.grow-end.ensures.sound ∣₁; classes = w.classes; voids = w.voids } in
    record {
      arranged = c.arrange.ensures.arranged;
      stands = value_closed m (g.met.K.Kind.lawful c.args.kind.now) c.args.table.now w now c.begin.ensures.copied c.begin.ensures.values refl c.grow-end.ensures.sound.rows
          c.give.new.self c.arrange.new.self p c.grow-end.result c.args.value c.requires.left.declared grown c.give.ensures.given c.arrange.ensures.arranged c.arrange.ensures.work;
    }
