use Rattle.std.proofs.Common.{inl, inr, arith}
use Rattle.kinds.specs.Types.Refused.{no_count, no_link}
use Rattle.kinds.proofs.types.upward.UpwardLinks.new.Goals as goal

pub returns-then-count-eq0 : goal.returns-then-count-eq0
returns-then-count-eq0 c = λ marks. no_count (λ h. elim c.then-count-eq0.either [ inl e ↦ omega arith | inr e ↦ omega arith ])

pub returns-in-Some : goal.returns-in-Some
returns-in-Some c = λ marks. no_link (omega arith, omega arith) c.in-Some.ensures
