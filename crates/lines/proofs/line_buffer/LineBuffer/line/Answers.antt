use Rattle.std.proofs.Common.{take, ap, ◌∙◌, arith}
use Rattle.std.proofs.lemmas.List.{take_min}
use Rattle.lines.proofs.line_buffer.LineBuffer.line.Goals as goal

pub returns : goal.returns
returns c =
    let bytes = c.args.self.now.bytes in
    let count = c.args.self.now.count in
    ap (λ n. take n bytes) (omega (arith, c.min.ensures)) ∙ take_min count bytes
