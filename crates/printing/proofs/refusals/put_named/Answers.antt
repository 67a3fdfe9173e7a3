use Rattle.std.proofs.Common.{ℕ, decimal, sym, ap}
use Rattle.buffers.proofs.Runs.{wrote_append, wrote_same}
use Rattle.printing.specs.Texts.{spaced, named}
use Rattle.printing.proofs.refusals.put_named.Goals as goal

pub returns-in-NoAttribute : goal.returns-in-NoAttribute
returns-in-NoAttribute c =
    let side = wrote_same (ap (λ (k : ℕ). spaced (decimal k)) c.number.ensures) c.put_spaced.ensures in
    wrote_same (sym (ap (named c.args.trail.now) c.in-NoAttribute.is)) (wrote_append side c.put_spaced-in-NoAttribute.ensures)
