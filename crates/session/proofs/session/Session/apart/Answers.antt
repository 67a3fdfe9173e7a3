use Rattle.std.proofs.Common.{vec_items, sym, refl, ◌∙◌, arith}
use Rattle.std.proofs.lemmas.Result.{err_from_is_err_and}
use Rattle.tables.proofs.Known.{sound_known}
use Rattle.terms.specs.Terms.{term_of}
use Rattle.session.specs.Sessions.{graph, kept}
use Rattle.session.proofs.Aparts.{apart_refused, trail_refused, one_too_many, on_one_refused, apart_taken}
use Rattle.session.proofs.Keeping.{kept_count, kept_more}
use Rattle.session.proofs.session.Session.apart.Goals as goal

pub returns-in_err-check_pair : goal.returns-in_err-check_pair
returns-in_err-check_pair g c =
    let p = err_from_is_err_and c.from_residual.result c.from_residual.ensures.1 in
    record {
      step = rw (p.1, p.2) (apart_refused graph kept (g.K.Kind.meaning c.args.self.now.kind) (g.met.K.Kind.lawful c.args.self.now.kind) c.args.self.now (term_of c.args.p) (term_of c.args.q) c.args.trail.now _ c.in_err-check_pair.ensures);
      kind = refl;
    }

pub returns-then-trail-lt-CAPACITY : goal.returns-then-trail-lt-CAPACITY
returns-then-trail-lt-CAPACITY g c = record {
  step = trail_refused graph kept (g.K.Kind.meaning c.args.self.now.kind) (g.met.K.Kind.lawful c.args.self.now.kind) c.args.self.now (term_of c.args.p) (term_of c.args.q) c.args.trail.now c.in_ok-check_pair.ensures c.if-trail-lt-CAPACITY.true;
  kind = refl;
}

pub returns-then-len-ge-APARTS : goal.returns-then-len-ge-APARTS
returns-then-len-ge-APARTS g c = record {
  step = one_too_many graph kept (g.K.Kind.meaning c.args.self.now.kind) (g.met.K.Kind.lawful c.args.self.now.kind) c.args.self.now (term_of c.args.p) (term_of c.args.q) c.args.trail.now c.in_ok-check_pair.ensures c.if-trail-lt-CAPACITY.false
      (omega (arith, kept_count c.args.self.now, c.len.ensures, c.if-len-ge-APARTS.true));
  kind = refl;
}

pub on_one_node-requires : goal.on_one_node-requires
on_one_node-requires g c = sound_known c.args.self.now.sound

pub returns-then-on_one_node : goal.returns-then-on_one_node
returns-then-on_one_node g c =
    let s = c.args.self.now in
    record {
      step = rw (c.len-then-on_one_node.ensures ∙ sym (kept_count s)) (on_one_refused graph kept (g.K.Kind.meaning s.kind) (g.met.K.Kind.lawful s.kind) s (term_of c.args.p) (term_of c.args.q) c.args.trail.now c.in_ok-check_pair.ensures c.if-trail-lt-CAPACITY.false
          (omega (arith, kept_count s, c.len.ensures, c.if-len-ge-APARTS.false)) c.if-on_one_node.ensures);
      kind = refl;
    }

pub returns : goal.returns
returns g c =
    let s = c.args.self.now in
    record {
      step = apart_taken graph kept (g.K.Kind.meaning s.kind) (g.met.K.Kind.lawful s.kind) s (term_of c.args.p) (term_of c.args.q) c.args.trail.now c.in_ok-check_pair.ensures c.if-trail-lt-CAPACITY.false
          (omega (arith, kept_count s, c.len.ensures, c.if-len-ge-APARTS.false)) _ c.if-on_one_node.ensures s.nodes refl
          (kept_more (vec_items s.aparts) (vec_items c.push_reserved.new.self) (record { left = c.of.result; right = c.of-2.result }) (term_of c.args.p) (term_of c.args.q) c.push_reserved.ensures.items c.of.ensures c.of-2.ensures);
      kind = refl;
    }
