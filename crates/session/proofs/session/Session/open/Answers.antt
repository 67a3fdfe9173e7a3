use Rattle.std.proofs.Common.{map, refl, ap, arith}
use Rattle.answers.proofs.Keeping.{fresh}
use Rattle.answers.proofs.Promising.{promise}
use Rattle.tables.specs.Views as tables
use Rattle.session.specs.Parts.{kept_apart}
use Rattle.session.specs.Sessions.{graph, kept}
use Rattle.session.proofs.Statements.{empty_held}
use Rattle.session.proofs.session.Session.open.Goals as goal

pub invariant_of-result : goal.invariant_of-result
invariant_of-result g c =
    let t = c.in_ok-table.ensures in
    let a = c.in_ok-aparts.ensures in
    record {
      sound = ∣ t.0 ∣₁;
      nodes = omega (arith, t.1);
      few = omega (arith, a.len);
      room = a.capacity;
    }

pub returns : goal.returns
returns g c =
    let m = g.K.Kind.meaning c.args.kind in
    let t = c.in_ok-table.ensures in
    let a = c.in_ok-aparts.ensures in
    let holds = empty_held m (tables.graph c.in_ok-table.table) _ t.1 t.2 (ap (map kept_apart) a.items) in
    (promise graph kept m (g.met.K.Kind.lawful c.args.kind) _ (fresh graph kept m _ holds), refl)
