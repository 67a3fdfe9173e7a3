use Rattle.std.proofs.Common.{ap}
use Rattle.std.proofs.lemmas.Result.{err_from_is_err_and}
use Rattle.tables.specs.declared.node.Node.{Node}
use Rattle.tables.proofs.Extended.{read_row}
use Rattle.tables.proofs.Known.{sound_known}
use Rattle.terms.specs.Terms.{term_of}
use Rattle.session.specs.Sessions.{graph, kept}
use Rattle.session.proofs.Questions.{value_refused, value_found, value_absent}
use Rattle.session.proofs.session.Session.value.Goals as goal

pub returns-in_err-check : goal.returns-in_err-check
returns-in_err-check g c =
    let p = err_from_is_err_and c.from_residual.result c.from_residual.ensures.1 in
    rw (p.1, p.2) (value_refused graph kept (g.K.Kind.meaning c.args.self.now.kind) c.args.self.now (term_of c.args.p) _ c.in_err-check.ensures)

pub node_of-requires : goal.node_of-requires
node_of-requires g c = sound_known c.args.self.now.sound

pub index-requires : goal.index-requires
index-requires g c =
    c.in-Some.ensures.1

pub returns-in-Some : goal.returns-in-Some
returns-in-Some g c =
    let s = c.args.self.now in
    let d = c.in-Some.ensures in
    let read = read_row s.table c.in-Some.n d.1 c.index.result.now c.index.ensures in
    rw (ap (λ (r : Node). r.value) read) (value_found graph kept (g.K.Kind.meaning s.kind) s (term_of c.args.p) c.in_ok-check.ensures c.in-Some.n d.0)

pub returns-in-None : goal.returns-in-None
returns-in-None g c = value_absent graph kept (g.K.Kind.meaning c.args.self.now.kind) c.args.self.now (term_of c.args.p) c.in_ok-check.ensures c.in-None.ensures
