-- One entry more of a list that is kept in an array.
use Rattle.std.proofs.Common.{ℕ, ◌+◌, ◌-◌, ◌<◌, List, drop, replicate, slice_set, sym, ap, ◌∙◌, arith}
use Rattle.std.proofs.lemmas.List.{length-set, drop-drop, drop-set-lt, drop-replicate}
use Rattle.terms.specs.Kept.{Kept}

pub kept_more : (n most a : ℕ) (xs : List ℕ) → n < most → Kept n most xs → Kept (n + 1) most (slice_set xs n a)
kept_more n most a xs h k = record {
  whole = length-set xs n a ∙ k.whole;
  few = omega (arith, k.few, k.whole, length-set xs n a);
  blank =
      drop-set-lt (n + 1) xs n a (omega arith)
      ∙ sym (drop-drop 1 n xs)
      ∙ ap (drop 1) k.blank
      ∙ drop-replicate 1 (most - n) 0
      ∙ ap (λ i. replicate i 0) (omega arith);
}
