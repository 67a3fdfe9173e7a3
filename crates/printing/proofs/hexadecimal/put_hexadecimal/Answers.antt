use Rattle.std.proofs.Common.{ℕ, List, ◌++◌, length, ap, ◌∙◌, append_assoc, append-nil, arith, length-append, rules}
use Rattle.std.proofs.lemmas.List.{nil_from_length}
use Rattle.std.specs.Slice.Iter.{chunks_rest}
use mathlib.Core.List.{flat_map}
use Rattle.buffers.proofs.Runs.{wrote_append, wrote_same}
use Rattle.printing.specs.Texts.{line_end, hex_byte, hexadecimal}
use Rattle.printing.proofs.Hex.{hexadecimal_none, hexadecimal_first}
use Rattle.printing.proofs.hexadecimal.put_hexadecimal.Goals as goal

pub put_line-requires : goal.put_line-requires
put_line-requires c =
    let inv = c.loop-line.invariant in
    let steps = c.in-Some.ensures.steps in
    let line = c.in-Some.line.now in
    let rest = chunks_rest c.next.new.self in
    let lines = hexadecimal_first _ line rest steps.1.0 (rw inv.2 at steps.1.1) steps.1.2 in
    let text : List ℕ = flat_map hex_byte line ++ line_end in
    omega (
      arith,
      inv.4.room,
      ap length inv.5,
      length-append inv.3 (hexadecimal (chunks_rest c.loop-line.line-iterator)),
      ap length lines,
      length-append text (hexadecimal rest),
    )

pub loop-line-preserved : goal.loop-line-preserved
loop-line-preserved c =
    let inv = c.loop-line.invariant in
    let steps = c.in-Some.ensures.steps in
    let line = c.in-Some.line.now in
    let rest = chunks_rest c.next.new.self in
    let lines = hexadecimal_first _ line rest steps.1.0 (rw inv.2 at steps.1.1) steps.1.2 in
    let text : List ℕ = flat_map hex_byte line ++ line_end in (
      search rules,
      tt,
      steps.0 ∙ inv.2,
      inv.3 ++ text,
      wrote_append inv.4 c.put_line.ensures,
      append_assoc inv.3 text (hexadecimal rest) ∙ ap (λ (t : List ℕ). inv.3 ++ t) lines ∙ inv.5,
    )

pub returns : goal.returns
returns c =
    let inv = c.loop-line.invariant in
    let none = nil_from_length _ c.in-None.ensures.steps.1.0 in
    wrote_same (rw (none, hexadecimal_none, append-nil) at inv.5) inv.4
