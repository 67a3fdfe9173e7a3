use Rattle.std.proofs.Common.{ℕ, refl, subst, arith}
use Rattle.growth.specs.Changes.{NewVariable}
use Rattle.tables.specs.Views as tables
use Rattle.tables.proofs.Known.{sound_known}
use Rattle.session.specs.Sessions.{graph, kept}
use Rattle.session.proofs.Variables.{no_variable_left, no_node_left, variable_declared}
use Rattle.session.proofs.session.Session.declare.Goals as goal

pub returns-then-len-ge-VARIABLES : goal.returns-then-len-ge-VARIABLES
returns-then-len-ge-VARIABLES g c =
    record { step = no_variable_left graph kept (g.K.Kind.meaning c.args.self.now.kind) (g.met.K.Kind.lawful c.args.self.now.kind) c.args.self.now (rw c.len.ensures at c.if-len-ge-VARIABLES.true); kind = refl }

pub returns-then-len-ge-NODES : goal.returns-then-len-ge-NODES
returns-then-len-ge-NODES g c =
    record { step = no_node_left graph kept (g.K.Kind.meaning c.args.self.now.kind) (g.met.K.Kind.lawful c.args.self.now.kind) c.args.self.now (rw c.len.ensures at c.if-len-ge-VARIABLES.false) (rw c.len-2.ensures at c.if-len-ge-NODES.true); kind = refl }

pub add_variable-requires : goal.add_variable-requires
add_variable-requires g c = record { sound = sound_known c.args.self.now.sound; row_left = omega (arith, c.if-len-ge-NODES.false, c.len-2.ensures); root_left = omega (arith, c.if-len-ge-VARIABLES.false, c.len.ensures) }

pub invariant_of-self : goal.invariant_of-self
invariant_of-self g c =
    let s = c.args.self.now in
    record {
      sound = ∣ c.add_variable.ensures.sound ∣₁;
      nodes = omega (arith, c.add_variable.ensures.new.nodes, c.if-len-ge-NODES.false, c.len-2.ensures);
      few = s.few;
      room = s.room;
    }

pub returns : goal.returns
returns g c =
    let t = c.add_variable.new.self in
    let before = c.args.self.now.table in
    let new = subst (λ (v : ℕ). NewVariable v (tables.graph before) (tables.values before) (tables.graph t) (tables.values t)) c.top-top.ensures c.add_variable.ensures.new in
    record { step = rw c.add_variable.ensures.variable (variable_declared graph kept (g.K.Kind.meaning c.args.self.now.kind) (g.met.K.Kind.lawful c.args.self.now.kind) c.args.self.now (rw c.len.ensures at c.if-len-ge-VARIABLES.false) _ (rw c.len-2.ensures at c.if-len-ge-NODES.false) new refl); kind = refl }
