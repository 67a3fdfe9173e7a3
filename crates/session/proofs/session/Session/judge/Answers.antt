use Rattle.std.proofs.Common.{arith}
use Rattle.tables.specs.Views as tables
use Rattle.tables.proofs.Known.{sound_known}
use Rattle.session.specs.Sessions.{kept}
use Rattle.session.proofs.Judgement.{void_clash, leaf_clash, apart_clash, nodes_full, taken}
use Rattle.session.proofs.session.Session.judge.Goals as goal

pub returns-in-Some : goal.returns-in-Some
returns-in-Some g c =
    let s = c.args.self.now in
    let found = c.in-Some.ensures in
    record {
      closed = λ vars said ready.
          void_clash (g.K.Kind.meaning s.kind) (g.met.K.Kind.lawful s.kind) s.closer c.requires.arranged (kept s) vars said ready c.args.trail.now c.in-Some.k found.1 found.2 _ _ _
          (c.trail-variable.ensures (tables.graph s.closer.work.table) c.requires.arranged.numbered);
      fits = tt;
    }

pub returns-in-Some-first_leaf : goal.returns-in-Some-first_leaf
returns-in-Some-first_leaf g c =
    let s = c.args.self.now in
    let found = c.in-Some-first_leaf.ensures in
    record {
      closed = λ vars said ready.
          leaf_clash (g.K.Kind.meaning s.kind) (g.met.K.Kind.lawful s.kind) s.closer c.requires.arranged (kept s) vars said ready c.args.trail.now c.in_default.ensures c.in-Some-first_leaf.k found.1 found.2 _ _ _
          (c.trail-variable-in-Some-first_leaf.ensures (tables.graph s.closer.work.table) c.requires.arranged.numbered);
      fits = tt;
    }

pub first_broken-requires : goal.first_broken-requires
first_broken-requires g c = sound_known c.args.self.now.closer.sound

pub returns-in-Some-first_broken : goal.returns-in-Some-first_broken
returns-in-Some-first_broken g c =
    let s = c.args.self.now in
    let found = c.in-Some-first_broken.ensures in
    record {
      closed = λ vars said ready.
          apart_clash (g.K.Kind.meaning s.kind) (g.met.K.Kind.lawful s.kind) s.closer c.requires.arranged (kept s) vars said ready c.args.trail.now c.in_default.ensures c.in_default-first_leaf.ensures c.in-Some-first_broken.place found.0 found.1;
      fits = tt;
    }

pub returns-then-len-gt-NODES : goal.returns-then-len-gt-NODES
returns-then-len-gt-NODES g c =
    let s = c.args.self.now in
    record {
      closed = λ vars said ready.
          nodes_full (g.K.Kind.meaning s.kind) (g.met.K.Kind.lawful s.kind) s.closer c.requires.arranged (kept s) vars said ready c.args.trail.now c.in_default.ensures c.in_default-first_leaf.ensures c.in_default-first_broken.ensures
          (omega (arith, c.requires.arranged.same.nodes, c.if-len-gt-NODES.true));
      fits = tt;
    }

pub returns : goal.returns
returns g c =
    let s = c.args.self.now in
    record {
      closed = λ vars said ready.
          taken (g.K.Kind.meaning s.kind) (g.met.K.Kind.lawful s.kind) s.closer c.requires.arranged (kept s) vars said ready c.args.trail.now c.in_default.ensures c.in_default-first_leaf.ensures c.in_default-first_broken.ensures
          (omega (arith, c.requires.arranged.same.nodes, c.if-len-gt-NODES.false));
      fits = (omega (arith, c.if-len-gt-NODES.false, c.len.ensures), c.in_default.ensures);
    }
