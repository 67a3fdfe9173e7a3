use Rattle.std.proofs.Common.{◌≡◌, Bool, true, false, ◌&&◌, ltb, sym, ap, ◌∙◌, le-ltb}
use Rattle.kinds.specs.Masks.{has}
use Rattle.tables.proofs.Leading.{absent, shown_edge, and_false}
use Rattle.tables.proofs.node.Node.target.Goals as goal
use Rattle.tables.proofs.node.Node.target.Goals.{else-attribute-lt32-via-then-attribute-lt32+else-has_bit, else-attribute-lt32-via-else-attribute-lt32}

pub returns-then-has_bit : goal.returns-then-has_bit
returns-then-has_bit c =
    let shown : has c.args.self.now.present c.args.attribute ≡ true = rw (c.from-then-attribute-lt32.ensures, c.from.ensures) at (sym c.has_bit.ensures ∙ c.if-has_bit.true) in
    shown_edge c.args.self.now c.args.attribute c.if-attribute-lt32.true shown

pub returns-else-attribute-lt32 : goal.returns-else-attribute-lt32
returns-else-attribute-lt32 c =
    elim c.else-attribute-lt32.branch [
      | else-attribute-lt32-via-then-attribute-lt32+else-has_bit w ↦
          let lacks : has c.args.self.now.present c.args.attribute ≡ false = rw (w.from-then-attribute-lt32.ensures, w.from.ensures) at (sym w.has_bit.ensures ∙ w.if-has_bit.false) in
          absent c.args.self.now c.args.attribute (ap (λ (x : Bool). ltb c.args.attribute 32 && x) lacks ∙ and_false _)
      | else-attribute-lt32-via-else-attribute-lt32 w ↦ absent c.args.self.now c.args.attribute (ap (λ (x : Bool). x && has c.args.self.now.present c.args.attribute) (le-ltb c.args.attribute 32 w.if-attribute-lt32.false))
    ]
