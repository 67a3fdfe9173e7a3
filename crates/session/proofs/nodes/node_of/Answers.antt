use Rattle.std.proofs.Common.{ℕ, ◌<◌, List, get_or, vec_items, vec_len, ap, ◌∙◌, arith}
use Rattle.terms.specs.Terms.{term_of}
use Rattle.session.proofs.Denoting.{found_from_root}
use Rattle.session.proofs.nodes.node_of.Goals as goal

pub find-requires : goal.find-requires
find-requires c =
    let t = c.args.table.now in
    let look = c.in_ok-root.ensures.lookup.3 in
    let read = look.1 0 ∙ ap (λ (xs : List ℕ). get_or xs c.from.result 0) c.deref.ensures.value ∙ ap (λ (z : ℕ). get_or (vec_items t.roots) z 0) c.from.ensures in
    record { sound = c.requires; inside = omega (arith, read, c.requires.roots_inside c.args.p.var (omega (arith, look.0, c.from.ensures, c.deref.ensures.len))) }

pub returns : goal.returns
returns c =
    let t = c.args.table.now in
    let look = c.in_ok-root.ensures.lookup.3 in
    let read = look.1 0 ∙ ap (λ (xs : List ℕ). get_or xs c.from.result 0) c.deref.ensures.value ∙ ap (λ (z : ℕ). get_or (vec_items t.roots) z 0) c.from.ensures in
    let declared : c.args.p.var < vec_len t.roots = omega (arith, look.0, c.from.ensures, c.deref.ensures.len) in
    found_from_root t (term_of c.args.p) c.in_ok-root.root.now declared read c.find.result c.find.ensures
