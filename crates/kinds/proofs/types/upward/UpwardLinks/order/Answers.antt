use Rattle.std.proofs.Common.{◌≡◌, ◌-◌, suc, length, sym, ap, ◌∙◌, subst, arith}
use Rattle.std.proofs.lemmas.List.FromFn.{length-map-range_with_len}
use Rattle.arrayvec.proofs.ArrayVecLemmas.{items-with_items}
use Rattle.kinds.proofs.Climbing.{Raised, Whole, whole_singles, whole_more, whole_set, all_types}
use Rattle.kinds.proofs.types.upward.UpwardLinks.order.Goals as goal

pub loop-t-init : goal.loop-t-init
loop-t-init c =
    let k = c.args.self.now in
    (ap length c.singles-below.ensures ∙ length-map-range_with_len _ 0 k.count, whole_singles k.upward c.singles-below.result.items c.singles-below.ensures)

pub loop-t-preserved : goal.loop-t-preserved
loop-t-preserved c =
    let k = c.args.self.now in let links = k.links.now in let t = c.loop-t.t - 1 in
    let old = c.loop-t.below.items in let new = c.raise.new.below in
    let shown : c.as_mut_slice.result.now ≡ old = c.as_mut_slice.ensures.value in
    let kept : length new ≡ length old = c.raise.auto.below ∙ ap length shown in
    let same = items-with_items c.loop-t.below new kept in
    let up : suc t ≡ c.loop-t.t = omega arith in
    let raised : Raised links t old new =
    subst (λ x. Raised links t x new) shown (c.raise.ensures.only, c.raise.ensures.kept, c.raise.ensures.raised) in (
      ap length same ∙ kept ∙ c.loop-t.invariant.0,
      subst (λ x. Whole k.count links t x) (sym same)
          (whole_more links old new k.upward t (omega arith) (subst (λ x. Whole k.count links x old) (sym up) c.loop-t.invariant.1) raised),
    )

pub invariant_of-result : goal.invariant_of-result
invariant_of-result c =
    let k = c.args.self.now in let some = k.counted.0 in let long = c.loop-t.invariant.0 in
    record { some = omega arith; types = all_types k.upward c.loop-t.below.items long c.loop-t.invariant.1.0 }

pub returns : goal.returns
returns c =
    let k = c.args.self.now in
    record {
      count = c.loop-t.invariant.0;
      only = c.loop-t.invariant.1.0;
      all = λ v t h u. whole_set k.count k.links.now c.loop-t.t c.loop-t.below.items c.loop-t.invariant.1 v t h (λ x m. omega arith) u;
    }
