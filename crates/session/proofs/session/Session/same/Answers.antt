use Rattle.std.proofs.lemmas.Result.{err_from_is_err_and}
use Rattle.tables.proofs.Known.{sound_known}
use Rattle.terms.specs.Terms.{term_of}
use Rattle.session.specs.Sessions.{graph, kept}
use Rattle.session.proofs.Questions.{same_refused, same_told}
use Rattle.session.proofs.session.Session.same.Goals as goal

pub returns-in_err-check_pair : goal.returns-in_err-check_pair
returns-in_err-check_pair g c =
    let p = err_from_is_err_and c.from_residual.result c.from_residual.ensures.1 in
    rw (p.1, p.2) (same_refused graph kept (g.K.Kind.meaning c.args.self.now.kind) c.args.self.now (term_of c.args.p) (term_of c.args.q) _ c.in_err-check_pair.ensures)

pub on_one_node-requires : goal.on_one_node-requires
on_one_node-requires g c = sound_known c.args.self.now.sound

pub returns : goal.returns
returns g c =
    same_told graph kept (g.K.Kind.meaning c.args.self.now.kind) c.args.self.now (term_of c.args.p) (term_of c.args.q) _ c.in_ok-check_pair.ensures c.on_one_node.ensures
