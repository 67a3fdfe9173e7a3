use Rattle.std.proofs.Common.{◌≡◌, sym, subst, inl, inr, arith}
use Rattle.std.proofs.lemmas.Bool.{cases_lt}
use Rattle.kinds.specs.Hierarchy.{UnderLowest}
use Rattle.kinds.proofs.types.order.Order.first_parted.Goals as goal

pub loop-a-preserved : goal.loop-a-preserved
loop-a-preserved c = λ x y h k l.
    elim (cases_lt x c.loop-a.a) [
      | inl m ↦ c.loop-a.invariant x y m k l
      | inr m ↦ let e : x ≡ c.loop-a.a = omega arith in
          subst (λ z. UnderLowest c.args.self.now.below.items z y) (sym e) (c.in_default.ensures y (omega arith) l)
    ]
