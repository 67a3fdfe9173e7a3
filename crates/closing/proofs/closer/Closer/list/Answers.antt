use Rattle.std.proofs.Common.{sym, subst, vec_len, arith}
use Rattle.growth.specs.Standing.{Stands}
use Rattle.tables.specs.Views.{graph, values}
use Rattle.joining.specs.declared.workspace.Workspace.{Workspace}
use Rattle.joining.specs.Workspaces.{state}
use Rattle.closing.proofs.Composing.{copied_stands, states_stand, arranged_stands}
use Rattle.closing.proofs.closer.Closer.list.Goals as goal

pub returns : goal.returns
returns c = λ m.
    record {
      arranged = c.arrange.ensures.arranged;
      stands = λ said stands.
          let t = c.args.table.now in
          let u = c.begin.new.self in
          let few = c.begin.ensures.copied.sound.rows in
          let n = vec_len t.roots in
          let copied = copied_stands m t u.table n said c.begin.ensures.copied stands in
          let stood = states_stand m (graph u.table) (values u.table) (state u) n said (λ x lt. c.begin.ensures.values x (omega (arith, few, lt))) copied in
          arranged_stands m c.arrange.new.self n said c.arrange.ensures.arranged
          (subst (λ (w : Workspace). Stands m (graph w.table) (state w) n said) (sym c.arrange.ensures.work) stood);
    }
