use Rattle.std.proofs.Common.{ℕ, refl, subst}
use Rattle.growth.specs.Changes.{Grown}
use Rattle.tables.specs.Views.{graph, values}
use Rattle.joining.specs.declared.workspace.Workspace.{Workspace}
use Rattle.terms.specs.Terms.{term_of}
use Rattle.closing.proofs.Composing.{equation_closed}
use Rattle.closing.proofs.closer.Closer.close_equation.Goals as goal

pub returns : goal.returns
returns g c =
    let m = g.K.Kind.meaning c.args.kind.now in
    let w = c.begin.new.self in
    let p = term_of c.args.p in
    let q = term_of c.args.q in
    let u = c.grow-left.new.table in
    let k = c.grow-right.new.table in
    let first = subst (λ (z : ℕ). Grown z (graph w.table) (values w.table) ((graph w.table).root p.var) p.path (graph u) (values u) c.grow-left.result) c.top-top.ensures c.grow-left.ensures.grown in
    let second = subst (λ (z : ℕ). Grown z (graph u) (values u) ((graph u).root q.var) q.path (graph k) (values k) c.grow-right.result) c.top-top.ensures c.grow-right.ensures.grown in
    let now : Workspace = record { table = k; class = w.class; void = w.void; joins = w.joins; sound = ∣ c.grow-right.ensures.sound ∣₁; classes = w.classes; voids = w.voids } in
    record {
      arranged = c.arrange.ensures.arranged;
      stands = equation_closed m (g.met.K.Kind.lawful c.args.kind.now) c.args.table.now w now c.begin.ensures.copied c.begin.ensures.values refl c.grow-right.ensures.sound.rows
          u c.settle.new.self c.arrange.new.self p q c.grow-left.result c.grow-right.result c.requires.left.declared c.requires.right.declared first second
          c.settle.ensures.joined c.arrange.ensures.arranged c.arrange.ensures.work;
    }
