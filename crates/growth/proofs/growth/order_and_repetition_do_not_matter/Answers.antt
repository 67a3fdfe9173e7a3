use Rattle.growth.proofs.Redundant.{said_follows, stands_same}
use Rattle.growth.proofs.growth.order_and_repetition_do_not_matter.Goals as goal

pub returns : goal.returns
returns c = λ m g state vars said said' same. stands_same m g state vars said said' (λ s i. said_follows m vars s (same.from s i)) (λ s i. said_follows m vars s (same.to s i))
