use Rattle.std.proofs.Common.{ℕ, List, [], ◌∷◌, ◌++◌, take, sym, ap, ◌∙◌, arith, length-append, length-take}
use Rattle.std.proofs.lemmas.List.{take_all, take_at, take_more_set}
use Rattle.lines.proofs.line_buffer.LineBuffer.add.Goals as goal

pub returns-then-self-lt-CAPACITY : goal.returns-then-self-lt-CAPACITY
returns-then-self-lt-CAPACITY c =
    let bytes = c.args.self.now.bytes in
    let n = c.args.self.now.count in
    let whole : List ℕ = take n bytes ++ (c.args.byte ∷ []) in
    take_more_set bytes n c.args.byte (omega arith)
    ∙ sym (take_all 121 whole (omega (arith, length-append (take n bytes) (c.args.byte ∷ []), length-take n bytes)))

pub returns-else-self-lt-CAPACITY : goal.returns-else-self-lt-CAPACITY
returns-else-self-lt-CAPACITY c =
    let bytes = c.args.self.now.bytes in
    let all = take_all c.args.self.now.count bytes (omega arith) in
    all ∙ sym (ap (λ (t : List ℕ). take 121 (t ++ (c.args.byte ∷ []))) all ∙ take_at bytes (c.args.byte ∷ []) 121 (omega arith))
