use Rattle.std.proofs.Common.{refl, ap, arith}
use mathlib.Core.Option.{some}
use Rattle.notation.specs.Views.{command_of}
use Rattle.printing.specs.Outcomes.{size}
use Rattle.printing.specs.Texts.{answer_text, malformed_text}
use Rattle.printing.specs.declared.outcome.Ground.{Ground}
use Rattle.lines.specs.Responses.{short, unread, answered}
use Rattle.lines.proofs.Lines.{fits}
use Rattle.printing.proofs.Bounds.{malformed_fits}
use Rattle.lines.proofs.responder.Responder.respond.Goals as goal

pub returns-then-out-lt-ROOM : goal.returns-then-out-lt-ROOM
returns-then-out-lt-ROOM c = record { responds = short c.if-out-lt-ROOM.true refl refl; within = omega arith }

pub returns-in-Ok : goal.returns-in-Ok
returns-in-Ok c =
    let e = c.in-Ok.ensures in
    let called = c.call.ensures in
    record {
      responds = answered (command_of c.in-Ok.command) (omega (arith, c.if-out-lt-ROOM.false)) e.0 e.1 called;
      within = fits (answer_text called.answer) c.args.out.now c.call.new.out (size c.call.result) called.printed.bytes;
    }

pub returns-in-Err : goal.returns-in-Err
returns-in-Err c =
    let why = c.in-Err.why in
    let bytes = c.refuse.ensures.bytes in
    record {
      responds =
          unread why (omega (arith, c.if-out-lt-ROOM.false)) c.in-Err.ensures refl
          (record { bytes = bytes; why = ap (λ (g : Ground). some g) c.refuse.ensures.cause });
      within = fits (malformed_text why) c.args.out.now c.refuse.new.out c.refuse.result.printed bytes;
    }

pub refuse-requires : goal.refuse-requires
refuse-requires c = omega (arith, malformed_fits c.in-Err.why)
