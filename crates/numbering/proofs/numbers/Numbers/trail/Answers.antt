use Rattle.std.proofs.Common.{ℕ, ◌<◌, List, ◌∷◌, ◌++◌, length, drop, set, sym, ap, ◌∙◌, subst, arith}
use Rattle.features.specs.Order.{Trail}
use Rattle.numbering.specs.Given.{meaning}
use Rattle.numbering.specs.Frontier.{in_numbers}
use Rattle.numbering.proofs.Tracing.{given_is, giver_before, pass, passed_all, traced, traced_trail, written_more, written_all}
use Rattle.numbering.proofs.numbers.Numbers.trail.Goals as goal

pub loop-variable-smaller : goal.loop-variable-smaller
loop-variable-smaller c =
    let n = c.args.self.now in
    let inv = c.loop-variable.invariant in
    let e = given_is n c.loop-variable.at c.index.result.now inv.0 c.index.ensures ∙ ap meaning c.in-Attribute.is in
    giver_before n c.requires.numbered.0 c.requires.numbered.1 c.loop-variable.at c.in-Attribute.giver c.in-Attribute.attribute inv.0 e

pub loop-variable-preserved : goal.loop-variable-preserved
loop-variable-preserved c =
    let n = c.args.self.now in
    let inv = c.loop-variable.invariant in
    let at = c.loop-variable.at in
    let a = c.in-Attribute.attribute in
    let e = given_is n at c.index.result.now inv.0 c.index.ensures ∙ ap meaning c.in-Attribute.is in
    let less = giver_before n c.requires.numbered.0 c.requires.numbered.1 at c.in-Attribute.giver a inv.0 e in
    let fits : c.loop-variable.count < length c.args.out.now = omega (arith, inv.1, c.requires.inside, n.few, c.requires.space) in (
      omega (arith, less, inv.0),
      omega (arith, less, inv.1),
      λ t r.
          let p = inv.2 t r in (
            a ∷ p.0,
            pass n t at p.0 p.1 c.in-Attribute.giver a e,
            omega (arith, p.2),
            ap (λ z. set z c.loop-variable.count a) p.3 ∙ written_more c.args.out.now p.0 c.loop-variable.count a p.2 fits,
          ),
    )

pub returns-in-Variable : goal.returns-in-Variable
returns-in-Variable c g of =
    let n = c.args.self.now in
    let inv = c.loop-variable.invariant in
    let t = traced n g of c.args.k c.requires.inside in
    let p = inv.2 t.0 t.1 in
    let e = given_is n c.loop-variable.at c.index.result.now inv.0 c.index.ensures ∙ ap meaning c.in-Variable.is in
    let q = passed_all n t.0 c.loop-variable.at p.0 p.1 c.in-Variable.variable e in
    let count = sym p.2 ∙ ap length q.1 in
    record {
      path = t.0.path;
      trail = subst (λ (z : ℕ). Trail (in_numbers g n) c.args.k (record { var = z; path = t.0.path })) (sym q.0) (traced_trail n g of c.requires.inside t.1);
      attributes = count;
      written = ap (λ (z : List ℕ). z ++ drop c.loop-variable.count c.loop-variable.out) c.reverse.ensures.after
          ∙ written_all c.args.out.now p.0 c.loop-variable.out c.loop-variable.count p.2 p.3
          ∙ ap (λ (z : List ℕ). z ++ drop c.loop-variable.count c.args.out.now) q.1 ∙ ap (λ (z : ℕ). t.0.path ++ drop z c.args.out.now) count;
    }
