use Rattle.std.proofs.Common.{◌<◌, length, take, sym, subst, arith, length-take}
use Rattle.features.specs.Terms.{Term}
use Rattle.terms.proofs.Keeping.{kept_more}
use Rattle.terms.proofs.kept.KeptTerm.push.Goals as goal

pub invariant_of-self : goal.invariant_of-self
invariant_of-self g c =
    let own = c.self.inside in
    let few : length (take own.count own.path) < g.row.MOST = subst (λ (t : Term). length t.path < g.row.MOST) (sym c.self.view_is) c.requires in
    kept_more own.count g.row.MOST _ own.path
    (omega (arith, few, length-take own.count own.path, c.self.invariant.few, c.self.invariant.whole))
    c.self.invariant
