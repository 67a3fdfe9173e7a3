use Rattle.std.proofs.Common.{sym, subst, IfSome, ◌<◌, length}
use Rattle.notation.proofs.Stating.{stem_room}
use Rattle.notation.proofs.state.Operand.take.Goals as goal

pub closed-requires : goal.closed-requires
closed-requires c =
    let o = c.args.self.now in
    subst (λ stem. IfSome stem (λ t. length t.path < 60)) (sym c.take-2.ensures.value) (stem_room o.place o.stem o.number o.ranged.1 o.short)
