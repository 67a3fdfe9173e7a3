use Rattle.std.proofs.Common.{◌≡◌, suc, ◌+◌, ◌-◌, ◌<◌, vec_items, vec_len, sym, subst, arith}
use Rattle.std.proofs.lemmas.Nat.{one_shl}
use Rattle.hierarchy_text.specs.Sheets.{Supertypes}
use Rattle.hierarchy_text.proofs.Rising.{Rising, rising_start, rising_more, rising_whole, none_above}
use Rattle.hierarchy_text.proofs.sheet.Sheet.at_or_above.Goals as goal

pub loop-u-init : goal.loop-u-init
loop-u-init c =
    let sheet = c.args.self.now in let t = c.args.t in let few = sheet.few in
    let small : t < 64 = omega (arith, few.1) in
    subst (λ x. Rising (vec_items sheet.links) t (t + 1) x) (sym (one_shl t 64 small)) (rising_start (vec_items sheet.links) sheet.upward t)

pub returns : goal.returns
returns c =
    let sheet = c.args.self.now in let t = c.args.t in
    let e : c.loop-u.u ≡ 0 = omega arith in
    rising_whole (vec_items sheet.links) sheet.upward t c.loop-u.set (omega arith)
    (subst (λ x. Rising (vec_items sheet.links) t x c.loop-u.set) e c.loop-u.invariant)

pub returns-then-t-len : goal.returns-then-t-len
returns-then-t-len c =
    let sheet = c.args.self.now in none_above (vec_len sheet.entries.list) c.args.t (vec_items sheet.links) (omega arith)

pub loop-u-preserved-then-has_bit : goal.loop-u-preserved-then-has_bit
loop-u-preserved-then-has_bit c =
    let sheet = c.args.self.now in let t = c.args.t in let k = c.loop-u.u - 1 in
    let e : suc k ≡ c.loop-u.u = omega arith in
    rising_more (vec_items sheet.links) sheet.upward t k c.loop-u.set c.supertypes-set.result (sym c.if-has_bit.ensures)
    (subst (λ x. Supertypes x k c.supertypes-set.result) c.as_slice.ensures.value c.supertypes-set.ensures)
    (subst (λ x. Rising (vec_items sheet.links) t x c.loop-u.set) (sym e) c.loop-u.invariant)
